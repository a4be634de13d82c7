use Rattle.std.proofs.Common.{ℕ, List, Bor, map}
use Rattle.command_edge.specs.Ending.{ending_of}
use Rattle.command_edge.specs.Command.{Faults}
use Rattle.command_edge.proofs.Makings.{completed}
use Rattle.replay_command.specs.Reading.{read_of_transcript}
use Rattle.repage_command.specs.Command.{EndsOwners}
use Rattle.repage_command.proofs.command.repage_owners.Goals as goal

pub returns-clause-tells : goal.returns-clause-tells
returns-clause-tells g c =
    let words = map (λ (word : Bor (List ℕ)). word.now) c.args.words.now in
    let f : Faults = record {
      open_before = g.F.Files.open_faults c.args.files.now;
      open_after = g.F.Files.open_faults c.owners_from-made.new.files;
      page_before = g.F.Files.page_faults c.args.files.now;
      page_after = g.F.Files.page_faults c.owners_from-made.new.files;
    } in
    completed (EndsOwners c.args.wanted c.args.numbers c.args.trace.now words) (read_of_transcript c.args.trace.now words) (g.F.Files.holds c.args.files.now) f
    (g.S.Sink.written c.args.sink.now) (g.S.Sink.written c.write_ending.new.sink) (g.S.Sink.faults c.args.sink.now) (g.S.Sink.faults c.write_ending.new.sink) c.write_ending.result
    (ending_of c.owners_from-made.result) (λ read. tt) c.owners_from-made.ensures.made c.owners_from-made.ensures.counted c.write_ending.ensures.writes
