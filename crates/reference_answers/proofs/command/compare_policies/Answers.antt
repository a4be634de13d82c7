use Rattle.command_edge.specs.Ending.{ending_of}
use Rattle.command_edge.specs.Command.{Faults}
use Rattle.command_edge.proofs.Makings.{completed}
use Rattle.reference_answers.specs.Command.{references_told, EndsPolicies}
use Rattle.reference_answers.proofs.command.compare_policies.Goals as goal

pub returns-clause-compares : goal.returns-clause-compares
returns-clause-compares g c =
    let f : Faults = record {
      open_before = g.F.Files.open_faults c.args.files.now;
      open_after = g.F.Files.open_faults c.text_from-made.new.files;
      page_before = g.F.Files.page_faults c.args.files.now;
      page_after = g.F.Files.page_faults c.text_from-made.new.files;
    } in
    completed (EndsPolicies c.args.comparison c.args.name.now) (references_told c.args.name.now) (g.F.Files.holds c.args.files.now) f
    (g.S.Sink.written c.args.sink.now) (g.S.Sink.written c.write_ending.new.sink) (g.S.Sink.faults c.args.sink.now) (g.S.Sink.faults c.write_ending.new.sink) c.write_ending.result
    (ending_of c.text_from-made.result) (λ read. tt) c.text_from-made.ensures.made c.text_from-made.ensures.counted c.write_ending.ensures.writes
