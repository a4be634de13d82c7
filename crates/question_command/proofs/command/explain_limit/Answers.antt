use Rattle.std.proofs.Common.{List, ℕ, Bor, map, subst}
use Rattle.command_edge.specs.Ending.{ending_of}
use Rattle.command_edge.specs.Command.{Faults, Made}
use Rattle.reference_commands.specs.declared.question.Question.TheVariants.{WasCut}
use Rattle.reference_commands.specs.Reading.{read_told}
use Rattle.reference_commands.specs.Asking.{Subject}
use Rattle.reference_commands.specs.Ends.{EndsQuestion}
use Rattle.question_command.proofs.Limits.{explained}
use Rattle.question_command.proofs.command.explain_limit.Goals as goal

pub returns-in-Ok-clause-explains : goal.returns-in-Ok-clause-explains
returns-in-Ok-clause-explains g c =
    let subject : Subject = record { numbers = c.args.numbers; schedule = c.args.schedule.now; words = map (λ (word : Bor (List ℕ)). word.now) c.args.words.now } in
    let f : Faults = record {
      open_before = g.F.Files.open_faults c.args.files.now;
      open_after = g.F.Files.open_faults c.answer_from.new.files;
      page_before = g.F.Files.page_faults c.args.files.now;
      page_after = g.F.Files.page_faults c.answer_from.new.files;
    } in
    explained subject (g.F.Files.holds c.args.files.now) f c.in-Ok.text.items _
    (subst (λ r. Made (EndsQuestion WasCut subject) (read_told subject.schedule subject.words) (g.F.Files.holds c.args.files.now) f (ending_of r)) c.in-Ok.is c.answer_from.ensures.made)
    c.text_if.ensures
