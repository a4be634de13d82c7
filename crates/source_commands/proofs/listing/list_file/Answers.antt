use Rattle.std.proofs.Common.{List}
use Rattle.io_edge.specs.FileHolding.{NamedFile}
use Rattle.command_edge.specs.Told.{image_told}
use Rattle.command_edge.specs.Ending.{ending_of}
use Rattle.command_edge.specs.Command.{Faults}
use Rattle.source_commands.specs.Command.{EndsListing}
use Rattle.command_edge.proofs.Makings.{completed}
use Rattle.source_commands.proofs.listing.list_file.Goals as goal

pub returns-clause-lists : goal.returns-clause-lists
returns-clause-lists g c =
    let f : Faults = record {
      open_before = g.F.Files.open_faults c.args.files.now;
      open_after = g.F.Files.open_faults c.listing_from-made.new.files;
      page_before = g.F.Files.page_faults c.args.files.now;
      page_after = g.F.Files.page_faults c.listing_from-made.new.files;
    } in
    completed (EndsListing c.args.name.now) (λ (files : List NamedFile). image_told files c.args.name.now) (g.F.Files.holds c.args.files.now) f
    (g.S.Sink.written c.args.sink.now) (g.S.Sink.written c.write_ending.new.sink) (g.S.Sink.faults c.args.sink.now) (g.S.Sink.faults c.write_ending.new.sink) c.write_ending.result
    (ending_of c.listing_from-made.result) (λ read. tt) c.listing_from-made.ensures.made c.listing_from-made.ensures.counted c.write_ending.ensures.writes
