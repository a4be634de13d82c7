use Rattle.std.proofs.Common.{sym, subst}
use Rattle.kernel_model.specs.Kernel.{Kernel}
use Rattle.machine_state.specs.Calls.{life_in}
use Rattle.machine_state.specs.Machine.{Standing}
use Rattle.vfork_pass.specs.Passed.{HasLent}
use Rattle.vfork_pass.proofs.Lives.{may_lend, has_lent}
use Rattle.vfork_pass.proofs.lend.Goals as goal

pub pass-requires-clause-may : goal.pass-requires-clause-may
pass-requires-clause-may c = let k : Kernel = c.args.m.now.kernel in may_lend (life_in k c.args.parent) (life_in k c.args.child) c.args.parent c.requires.holds c.requires.fresh

pub returns-clause-lent : goal.returns-clause-lent
returns-clause-lent c =
    let k : Kernel = c.args.m.now.kernel in
    subst (λ (s : Standing). HasLent k s.kernel c.args.parent c.args.child) (sym c.pass.ensures.step) (has_lent k c.args.parent c.args.child c.requires.holds c.requires.there c.requires.fresh)
