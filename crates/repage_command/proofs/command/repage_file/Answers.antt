use Rattle.std.proofs.Common.{ℕ, List, Bor, map}
use Rattle.command_edge.specs.Ending.{ending_of}
use Rattle.command_edge.specs.Command.{Faults}
use Rattle.command_edge.proofs.Makings.{completed}
use Rattle.replay_command.specs.Reading.{read_of_transcript}
use Rattle.repage_command.specs.Command.{EndsRepage}
use Rattle.repage_command.proofs.command.repage_file.Goals as goal

pub returns-clause-repages : goal.returns-clause-repages
returns-clause-repages g c =
    let words = map (λ (word : Bor (List ℕ)). word.now) c.args.words.now in
    let f : Faults = record {
      open_before = g.F.Files.open_faults c.args.files.now;
      open_after = g.F.Files.open_faults c.verdict_from-made.new.files;
      page_before = g.F.Files.page_faults c.args.files.now;
      page_after = g.F.Files.page_faults c.verdict_from-made.new.files;
    } in
    completed (EndsRepage c.args.numbers c.args.trace.now words) (read_of_transcript c.args.trace.now words) (g.F.Files.holds c.args.files.now) f
    (g.S.Sink.written c.args.sink.now) (g.S.Sink.written c.write_ending.new.sink) (g.S.Sink.faults c.args.sink.now) (g.S.Sink.faults c.write_ending.new.sink) c.write_ending.result
    (ending_of c.verdict_from-made.result) (λ read. tt) c.verdict_from-made.ensures.made c.verdict_from-made.ensures.counted c.write_ending.ensures.writes
