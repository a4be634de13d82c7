use Rattle.std.proofs.Common.{ℕ, Option, Some, None, sym, ◌∙◌, subst}
use Rattle.vm_facts.specs.declared.page.Page.{Page}
use Rattle.kluster_io.specs.Front.{Expires}
use Rattle.clock_hands.specs.Seen.{IsUnlocked}
use Rattle.clock_hands.proofs.Fronts.{front_none, front_still, front_expires}
use Rattle.clock_hands.proofs.looking.expiring.Goals as goal

pub returns-in_err-page : goal.returns-in_err-page
returns-in_err-page c =
    let p = c.args.m.now.kernel.place in
    subst (λ (o : Option Page). Expires p c.args.locked.now o) (sym c.from_residual.ensures)
    (front_none p c.args.locked.now c.requires.sound.owner.frames (subst (λ (f : ℕ). IsUnlocked p c.args.locked.now f None) c.hands.ensures.front c.in_err-page.ensures))

pub returns-then-is_valid : goal.returns-then-is_valid
returns-then-is_valid c =
    let p = c.args.m.now.kernel.place in
    front_expires p c.args.locked.now c.in_ok-page.page c.requires.sound.owner.frames
    (subst (λ (f : ℕ). IsUnlocked p c.args.locked.now f (Some c.in_ok-page.page)) c.hands.ensures.front c.in_ok-page.ensures) (sym c.is_valid.ensures ∙ c.if-is_valid.true)

pub returns-else-is_valid : goal.returns-else-is_valid
returns-else-is_valid c =
    let p = c.args.m.now.kernel.place in
    front_still p c.args.locked.now c.in_ok-page.page c.requires.sound.owner.frames
    (subst (λ (f : ℕ). IsUnlocked p c.args.locked.now f (Some c.in_ok-page.page)) c.hands.ensures.front c.in_ok-page.ensures) (sym c.is_valid.ensures ∙ c.if-is_valid.false)
