use Rattle.std.proofs.Common.{Result, subst}
use Rattle.run_command.specs.Unfinished.{Unfinished}
use Rattle.run_command.specs.RunEnds.{RunEnds}
use Rattle.reference_commands.specs.Answering.{blank_stores}
use Rattle.reference_commands.proofs.Runs.{finished}
use Rattle.reference_commands.proofs.running.references_at_end.Goals as goal

pub returns-in-Ok-references : goal.returns-in-Ok-references
returns-in-Ok-references c = record {
  ends = λ A after images first limit run bound.
      finished A c.args.journal.now after c.in-Ok-references.pages.items limit
      (subst (λ (r : Result (Unit {0}) Unfinished). RunEnds A c.args.journal.now (blank_stores A.swap_blocks) r after) c.in-Ok.is run)
      (λ good. c.in-Ok-references.ensures A images first good);
}
