use Rattle.std.proofs.Common.{ℕ, List, Bor, map, sym, ◌∙◌}
use Rattle.command_words.specs.Asked.{Run}
use Rattle.command_words.specs.Command.{word_list}
use Rattle.command_words.specs.Words.{is_trace}
use Rattle.command_words.proofs.WordLists.{some_word}
use Rattle.command_words.proofs.RunWords.{traced_run}
use Rattle.command_words.proofs.command.read_run.Goals as goal

pub returns-clause-exact : goal.returns-clause-exact
returns-clause-exact c =
    traced_run (map (λ (word : Bor (List ℕ)). word.now) c.args.words.now) (word_list c.without_trace-kept.result) (word_list c.from.result) c.has_trace.result _ _
    c.without_trace-kept.ensures (sym c.are_plain.ensures ∙ c.if-not-are_plain.false) (c.has_trace.ensures ∙ sym (some_word is_trace c.args.words.now))
    c.from.ensures (c.in_ok-head.ensures.exact (Run c.has_trace.result))
