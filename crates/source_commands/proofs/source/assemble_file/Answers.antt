use Rattle.std.proofs.Common.{List}
use Rattle.io_edge.specs.FileHolding.{NamedFile}
use Rattle.command_edge.specs.Told.{bytes_told}
use Rattle.command_edge.specs.Ending.{ending_of}
use Rattle.command_edge.specs.Command.{Faults}
use Rattle.source_commands.specs.Command.{EndsAssembly, source_bytes}
use Rattle.command_edge.proofs.Makings.{completed}
use Rattle.source_commands.proofs.source.assemble_file.Goals as goal

pub returns-clause-assembles : goal.returns-clause-assembles
returns-clause-assembles g c =
    let f : Faults = record {
      open_before = g.F.Files.open_faults c.args.files.now;
      open_after = g.F.Files.open_faults c.file_from-made.new.files;
      page_before = g.F.Files.page_faults c.args.files.now;
      page_after = g.F.Files.page_faults c.file_from-made.new.files;
    } in
    completed (EndsAssembly c.args.name.now) (λ (files : List NamedFile). bytes_told files c.args.name.now source_bytes) (g.F.Files.holds c.args.files.now) f
    (g.S.Sink.written c.args.sink.now) (g.S.Sink.written c.write_ending.new.sink) (g.S.Sink.faults c.args.sink.now) (g.S.Sink.faults c.write_ending.new.sink) c.write_ending.result
    (ending_of c.file_from-made.result) (λ read. tt) c.file_from-made.ensures.made c.file_from-made.ensures.counted c.write_ending.ensures.writes
