use Rattle.std.proofs.Common.{arith}
use Rattle.std.proofs.lemmas.List.{length-drop}
use Rattle.system_edge.proofs.Outputs.{took_more}
use Rattle.system_edge.proofs.out_sink.write_whole.Goals as goal

pub loop-preserved : goal.loop-preserved
loop-preserved g c =
    let more = c.in_ok-done.ensures.within in record {
      within = omega (arith, c.loop.invariant.within, more, length-drop c.loop.done c.args.bytes.now);
      taken = took_more (g.O.SystemOutput.taken c.args.output.now) (g.O.SystemOutput.taken c.loop.output) (g.O.SystemOutput.taken c.write_more.new.output)
          c.args.bytes.now c.loop.done c.in_ok-done.field-0 c.loop.invariant.taken c.in_ok-done.ensures.taken;
    }
