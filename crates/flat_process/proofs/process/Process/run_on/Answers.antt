use Rattle.std.proofs.Common.{refl}
use Rattle.flat_process.proofs.Going.{more_on}
use Rattle.flat_process.proofs.process.Process.run_on.Goals as goal

pub loop-count-init : goal.loop-count-init
loop-count-init c = record { ran = refl; holds = c.requires }

pub loop-count-preserved : goal.loop-count-preserved
loop-count-preserved c = record {
  ran = more_on c.args.self.now c.loop-count.self c.go_on.new.self c.loop-count.count c.loop-count.invariant.ran (c.go_on.ensures.goes c.if-not-go_on.false);
  holds = c.go_on.ensures.holds;
}

pub returns-then-not-go_on-clause-stops : goal.returns-then-not-go_on-clause-stops
returns-then-not-go_on-clause-stops c = λ less. (c.loop-count.self, c.loop-count.invariant.ran, c.go_on.ensures.stops c.if-not-go_on.true)
