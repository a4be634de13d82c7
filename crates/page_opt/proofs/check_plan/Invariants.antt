use Rattle.page_opt.specs.Replayed.{Replays}
use Rattle.page_opt.proofs.check_plan.Given as goal

abbrev pub invariant-loop-i : goal.invariant-loop-i
invariant-loop-i l = record {
  replays : Replays l.refs l.frames l.i l.fn.victims l.replay;
}
