use Rattle.std.proofs.Common.{ℕ, List, Bor, map, ap, ◌∙◌}
use Rattle.command_words.specs.Asked.{request_in}
use Rattle.command_words.proofs.Requests.{request_is}
use Rattle.command_words.proofs.command.read_words.Goals as goal

pub returns-clause-request : goal.returns-clause-request
returns-clause-request c = ap request_in c.read_command.ensures.exact ∙ request_is (map (λ (word : Bor (List ℕ)). word.now) c.args.words.now)
