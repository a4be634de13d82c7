use Rattle.std.proofs.Common.{◌≡◌, ◌-◌, ℕ, length, refl, sym, ap, ◌∙◌, subst, arith}
use Rattle.flat_state.specs.Space.{Space}
use Rattle.flat_process.specs.Sizes.{IsSized}
use Rattle.flat_process.proofs.Ahead.{data_writable, stack_writable}
use Rattle.flat_process.proofs.space.FlatSpaceMemory.writable_ahead.Goals as goal

pub returns-in-Data : goal.returns-in-Data
returns-in-Data c =
    let i : ℕ = c.in-Data.index in
    let own : c.len.result ≡ length c.self.inside.data.items = omega (arith, c.len.ensures) in
    let long : c.len.result ≡ length c.args.self.now.data_bytes = own ∙ ap (λ (s : Space). length s.data_bytes) c.self.view_is in
    data_writable c.args.self.now (subst IsSized c.self.view_is c.self.invariant) c.args.address i _
    (sym c.spot.ensures.spot ∙ c.in-Data.is) (ap (λ (n : ℕ). n - i) long)

pub returns-in-Stack : goal.returns-in-Stack
returns-in-Stack c =
    stack_writable c.args.self.now (subst IsSized c.self.view_is c.self.invariant) c.args.address c.in-Stack.index _
    (sym c.spot.ensures.spot ∙ c.in-Stack.is) refl
