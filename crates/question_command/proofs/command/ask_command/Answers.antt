use Rattle.std.proofs.Common.{ℕ, List, Bor, map}
use Rattle.command_edge.specs.Ending.{ending_of}
use Rattle.command_edge.specs.Command.{Faults}
use Rattle.command_edge.proofs.Makings.{completed}
use Rattle.reference_commands.specs.Reading.{read_told}
use Rattle.reference_commands.specs.Asking.{Subject}
use Rattle.reference_commands.specs.Ends.{EndsQuestion}
use Rattle.question_command.proofs.command.ask_command.Goals as goal

pub returns-clause-answers : goal.returns-clause-answers
returns-clause-answers g c =
    let subject : Subject = record { numbers = c.args.numbers; schedule = c.args.schedule.now; words = map (λ (word : Bor (List ℕ)). word.now) c.args.words.now } in
    let f : Faults = record {
      open_before = g.F.Files.open_faults c.args.files.now;
      open_after = g.F.Files.open_faults c.answer_from-made.new.files;
      page_before = g.F.Files.page_faults c.args.files.now;
      page_after = g.F.Files.page_faults c.answer_from-made.new.files;
    } in
    completed (EndsQuestion c.args.question subject) (read_told subject.schedule subject.words) (g.F.Files.holds c.args.files.now) f
    (g.S.Sink.written c.args.sink.now) (g.S.Sink.written c.write_ending.new.sink) (g.S.Sink.faults c.args.sink.now) (g.S.Sink.faults c.write_ending.new.sink) c.write_ending.result
    (ending_of c.answer_from-made.result) (λ read. tt) c.answer_from-made.ensures.made c.answer_from-made.ensures.counted c.write_ending.ensures.writes
