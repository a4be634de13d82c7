use Rattle.std.proofs.Common.{ℕ, Option, Some, None, sym, ◌∙◌, subst}
use Rattle.vm_facts.specs.declared.page.Page.{Page}
use Rattle.clock_hands.specs.Seen.{IsUnlocked, IsToWrite}
use Rattle.clock_hands.proofs.Seats.{seat_token, token_resident, token_mark}
use Rattle.clock_hands.proofs.Backs.{back_none, back_valid, back_unmarked, back_writes}
use Rattle.clock_hands.proofs.looking.to_write.Goals as goal

pub returns-in_err-page : goal.returns-in_err-page
returns-in_err-page c =
    let p = c.args.m.now.kernel.place in
    let locked = c.args.locked.now in
    let s = c.requires.running.sound in
    subst (λ (o : Option Page). IsToWrite p locked o) (sym c.from_residual.ensures)
    (back_none p locked s.owner.frames s.hands c.requires.quarter (subst (λ (f : ℕ). IsUnlocked p locked f None) c.hands-back.ensures.back c.in_err-page.ensures))

pub is_dirty-requires : goal.is_dirty-requires
is_dirty-requires c =
    let p = c.args.m.now.kernel.place in
    let core = c.core.result.now in
    let page = c.in_ok-page.page in
    token_resident core _ page (seat_token p core page _ c.requires.running.sound.owner.frames c.core.ensures c.in_ok-page.ensures.0)

pub returns-then-not-is_dirty : goal.returns-then-not-is_dirty
returns-then-not-is_dirty c =
    let p = c.args.m.now.kernel.place in
    let locked = c.args.locked.now in
    let s = c.requires.running.sound in
    let page = c.in_ok-page.page in
    let core = c.core.result.now in
    let t = seat_token p core page _ s.owner.frames c.core.ensures c.in_ok-page.ensures.0 in
    back_unmarked p locked s.owner.frames s.hands c.requires.quarter page
    (subst (λ (f : ℕ). IsUnlocked p locked f (Some page)) c.hands-back.ensures.back c.in_ok-page.ensures)
    (sym (token_mark p core page _ c.core.ensures t) ∙ sym c.is_dirty.ensures ∙ c.if-not-is_dirty.true)

pub returns-then-is_valid : goal.returns-then-is_valid
returns-then-is_valid c =
    let p = c.args.m.now.kernel.place in
    let locked = c.args.locked.now in
    let s = c.requires.running.sound in
    let page = c.in_ok-page.page in
    back_valid p locked s.owner.frames s.hands c.requires.quarter page
    (subst (λ (f : ℕ). IsUnlocked p locked f (Some page)) c.hands-back.ensures.back c.in_ok-page.ensures) (sym c.is_valid.ensures ∙ c.if-is_valid.true)

pub returns-else-is_valid : goal.returns-else-is_valid
returns-else-is_valid c =
    let p = c.args.m.now.kernel.place in
    let locked = c.args.locked.now in
    let s = c.requires.running.sound in
    let page = c.in_ok-page.page in
    let core = c.core.result.now in
    let t = seat_token p core page _ s.owner.frames c.core.ensures c.in_ok-page.ensures.0 in
    back_writes p locked s.owner.frames s.hands c.requires.quarter page
    (subst (λ (f : ℕ). IsUnlocked p locked f (Some page)) c.hands-back.ensures.back c.in_ok-page.ensures) (sym c.is_valid.ensures ∙ c.if-is_valid.false)
    (sym (token_mark p core page _ c.core.ensures t) ∙ sym c.is_dirty.ensures ∙ c.if-not-is_dirty.false)
