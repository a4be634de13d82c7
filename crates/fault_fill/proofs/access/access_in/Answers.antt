use Rattle.std.proofs.Common.{◌<◌, arith}
use Rattle.flat_state.specs.Space.{stack_top}
use Rattle.fault_fill.proofs.Accesses.{below_spot}
use Rattle.fault_fill.proofs.access.access_in.Goals as goal

pub overflow_sub-result-in-Below : goal.overflow_sub-result-in-Below
overflow_sub-result-in-Below c =
    let l : c.args.address < stack_top = below_spot _ _ _ c.args.address c.in-Below.ensures in omega (arith, l)
