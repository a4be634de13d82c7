use Rattle.std.proofs.Common.{ℕ, List, Bor, map}
use Rattle.command_edge.specs.Ending.{ending_of}
use Rattle.command_edge.specs.Command.{Faults}
use Rattle.command_edge.proofs.Makings.{completed}
use Rattle.question_command.specs.Asking.{Subject}
use Rattle.grade_command.specs.Reading.{trace_told}
use Rattle.grade_command.specs.Command.{EndsGrade}
use Rattle.grade_command.proofs.command.grade_file.Goals as goal

pub returns-clause-grades : goal.returns-clause-grades
returns-clause-grades g c =
    let subject : Subject = record { numbers = c.args.numbers; schedule = c.args.schedule.now; words = map (λ (word : Bor (List ℕ)). word.now) c.args.words.now } in
    let f : Faults = record {
      open_before = g.F.Files.open_faults c.args.files.now;
      open_after = g.F.Files.open_faults c.verdict_from-made.new.files;
      page_before = g.F.Files.page_faults c.args.files.now;
      page_after = g.F.Files.page_faults c.verdict_from-made.new.files;
    } in
    completed (EndsGrade subject c.args.trace.now) (trace_told subject c.args.trace.now) (g.F.Files.holds c.args.files.now) f
    (g.S.Sink.written c.args.sink.now) (g.S.Sink.written c.write_ending.new.sink) (g.S.Sink.faults c.args.sink.now) (g.S.Sink.faults c.write_ending.new.sink) c.write_ending.result
    (ending_of c.verdict_from-made.result) (λ read. tt) c.verdict_from-made.ensures.made c.verdict_from-made.ensures.counted c.write_ending.ensures.writes
