use Rattle.std.proofs.Common.{◌≡◌, ℕ, true, Some, None, sym, ap, ◌∙◌, subst}
use Rattle.std.proofs.lemmas.Option.{same_Some}
use Rattle.kernel_model.specs.Kernel.{Kernel}
use Rattle.kernel_model.specs.ChangeStep.{pass_step}
use Rattle.kernel_model.specs.Sound.{lives}
use Rattle.kernel_model.specs.Unit.{lender_among}
use Rattle.machine_state.specs.Applying.{MayPass}
use Rattle.machine_state.specs.Calls.{life_in}
use Rattle.machine_state.specs.Machine.{Standing}
use Rattle.vfork_pass.specs.Passed.{HasGivenBack}
use Rattle.vfork_pass.proofs.Returned.{walked_to, may_return, lender_alive, has_returned}
use Rattle.vfork_pass.proofs.give_back.Goals as goal

pub pass-requires-clause-may : goal.pass-requires-clause-may
pass-requires-clause-may c =
    let k : Kernel = c.args.m.now.kernel in
    let i = walked_to k c.processes.result.now k.next_pid c.args.child (Some c.in-Some.lender) c.processes.ensures.processes c.requires.borrowed c.in-Some.ensures in
    subst (λ (n : ℕ). MayPass (life_in k c.args.child) (life_in k n) c.args.child) (sym (same_Some c.in-Some.lender (lender_among k.processes c.args.child) i))
    (may_return k c.processes.result.now k.next_pid c.args.child c.processes.ensures.processes (c.processes.ensures.records c.requires.running.runs) c.requires.holds c.requires.borrowed)

pub pass-requires-clause-there : goal.pass-requires-clause-there
pass-requires-clause-there c =
    let k : Kernel = c.args.m.now.kernel in
    let i = walked_to k c.processes.result.now k.next_pid c.args.child (Some c.in-Some.lender) c.processes.ensures.processes c.requires.borrowed c.in-Some.ensures in
    subst (λ (n : ℕ). lives k.processes n ≡ true) (sym (same_Some c.in-Some.lender (lender_among k.processes c.args.child) i))
    (lender_alive k c.processes.result.now k.next_pid c.args.child c.processes.ensures.processes (c.processes.ensures.records c.requires.running.runs) c.requires.holds c.requires.borrowed)

pub returns-clause-step : goal.returns-clause-step
returns-clause-step c =
    let k : Kernel = c.args.m.now.kernel in
    let i = walked_to k c.processes.result.now k.next_pid c.args.child (Some c.in-Some.lender) c.processes.ensures.processes c.requires.borrowed c.in-Some.ensures in
    c.pass.ensures.step ∙ ap (λ (n : ℕ). let s : Standing = record c.args.m.now { kernel = pass_step k c.args.child n } in s) (same_Some c.in-Some.lender (lender_among k.processes c.args.child) i)

pub returns-clause-given : goal.returns-clause-given
returns-clause-given c =
    let k : Kernel = c.args.m.now.kernel in
    subst (λ (s : Standing). HasGivenBack k s.kernel c.args.child (lender_among k.processes c.args.child)) (sym (returns-clause-step c))
    (has_returned k c.processes.result.now k.next_pid c.args.child c.processes.ensures.processes (c.processes.ensures.records c.requires.running.runs) c.requires.holds c.requires.borrowed)

pub unreachable-requires : goal.unreachable-requires
unreachable-requires c =
    let k : Kernel = c.args.m.now.kernel in
    let i = walked_to k c.processes.result.now k.next_pid c.args.child None c.processes.ensures.processes c.requires.borrowed c.in-None.ensures in
    absurd cc
