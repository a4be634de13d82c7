use Rattle.std.proofs.Common.{arith, refl, le_refl}
use Rattle.std.proofs.lemmas.Grind.{common_steps}
use Rattle.io_edge.proofs.mem_sink.MemSinkSink.put.Goals as goal

pub returns-clause-puts : goal.returns-clause-puts
returns-clause-puts c = record {
  leads = (
    (c.args.bytes.now, grind (arith, common_steps)),
    le_refl c.args.self.now.faults,
    c.next_fails.ensures.later,
    grind (arith, common_steps),
  );
  done = grind (arith, common_steps);
  failed = tt;
  faults = refl;
}
