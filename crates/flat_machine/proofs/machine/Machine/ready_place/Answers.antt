use Rattle.std.proofs.Common.{◌≡◌, ◌==◌, Some, position, sym, ap, ◌∙◌, rules}
use Rattle.flat_state.specs.Flat.{Process, is_ready}
use Rattle.flat_machine.proofs.Lists.{ready_place, pid_at}
use Rattle.flat_machine.proofs.machine.Machine.ready_place.Goals as goal

pub returns-then-is_ready-clause-place : goal.returns-then-is_ready-clause-place
returns-then-is_ready-clause-place c =
    let h : position (λ (q : Process). q.pid == c.args.pid) c.args.self.now.processes ≡ Some c.in_ok-place.place = search rules in
    ready_place c.args.self.now c.args.pid c.in_ok-place.place h (ap is_ready (sym c.at.ensures) ∙ sym c.is_ready.ensures ∙ c.if-is_ready.true)

pub returns-then-is_ready-clause-of : goal.returns-then-is_ready-clause-of
returns-then-is_ready-clause-of c =
    let h : position (λ (q : Process). q.pid == c.args.pid) c.args.self.now.processes ≡ Some c.in_ok-place.place = search rules in
    pid_at c.args.self.now c.args.pid c.in_ok-place.place h
