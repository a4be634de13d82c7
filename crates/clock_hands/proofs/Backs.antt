-- The write that the back hand begins.
use Rattle.std.proofs.Common.{◌≡◌, ◌≢◌, inl, inr, ℕ, ◌/◌, ◌<◌, Bool, true, false, List, length, Option, Some, None, refl, sym, ap, ◌∙◌, arith}
use Rattle.std.proofs.lemmas.Option.{same_Some}
use Rattle.vm_facts.specs.declared.page.Page.{Page}
use Rattle.vm_facts.specs.Lists.{times}
use Rattle.page_model.specs.Pages.{Slot, is_valid, is_dirty_by}
use Rattle.page_model.specs.Frames.{at_frame}
use Rattle.page_model.specs.Placement.{Placement, slot_of, state_of, page_of, is_dirty}
use Rattle.page_model.specs.Hands.{expire, write_by, write_taken, hand_run}
use Rattle.page_model.specs.Rank.{HandsStand}
use Rattle.page_model.specs.Conditions.{IsSeated}
use Rattle.page_model.specs.Ownership.{OwnsFrames}
use Rattle.page_laws.proofs.Moves.Hands.{walk_apart}
use Rattle.page_laws.proofs.Moves.Stays.{expire_steady, expire_free}
use Rattle.page_laws.proofs.Moves.Taken.{IsTaken, taken_is, taken_none, taken_state}
use Rattle.page_laws.proofs.Ownership.Pages.{seated_frame}
use Rattle.clock_hands.specs.Seen.{IsUnlocked, IsToWrite}
use Rattle.clock_hands.proofs.Fronts.{expire_other}

-- the hands stand at two frames
pub hands_apart : (p : Placement) → HandsStand p → 0 < length p.holds / 4 → p.back ≢ p.front
hands_apart p h q e =
    let low = h.low in
    let high = h.high in
    walk_apart (length p.holds) 0 (length p.holds / 4) p.back h.low h.high q (omega arith) (e ∙ h.ahead)

module _ (p : Placement) (locked : List Page) (o : OwnsFrames p) (h : HandsStand p) (quarter : 0 < length p.holds / 4) where
  slot_same : (q : Page) → page_of p p.back ≡ Some q → slot_of (expire p locked) q ≡ slot_of p q
  slot_same q e = expire_other p locked q (λ x. hands_apart p h quarter (same_Some p.back p.front (sym (o.named p.back q e) ∙ o.named p.front q x)))

  page_same : page_of (expire p locked) (expire p locked).back ≡ page_of p p.back
  page_same =
      ap (page_of (expire p locked)) (expire_steady p locked).back ∙ ap (λ (hs : List (Option Page)). at_frame hs p.back None) (expire_steady p locked).holds

  off_same : times (expire p locked).back (expire p locked).free ≡ times p.back p.free
  off_same = ap (λ (f : ℕ). times f (expire p locked).free) (expire_steady p locked).back ∙ ap (times p.back) (expire_free p locked)

  -- the back hand takes a page as it was before the front hand's change
  taken_before : (q : Page) → IsTaken (expire p locked) locked q → IsTaken p locked q
  taken_before q t =
      let e : page_of p p.back ≡ Some q = sym page_same ∙ t.held in
      record { held = e; frame = t.frame; state = sym (ap (λ (s : Slot). s.state) (slot_same q e)) ∙ t.state; off = sym off_same ∙ t.off; unlocked = t.unlocked }

  taken_after : (q : Page) → IsTaken p locked q → IsTaken (expire p locked) locked q
  taken_after q t = record {
    held = page_same ∙ t.held;
    frame = t.frame;
    state = ap (λ (s : Slot). s.state) (slot_same q t.held) ∙ t.state;
    off = off_same ∙ t.off;
    unlocked = t.unlocked;
  }

  run_none : ((q : Page) → IsTaken p locked q → ⊥) → hand_run p locked ≡ None
  run_none never = ap (write_taken (expire p locked) locked) (taken_none (expire p locked) locked (λ q t. never q (taken_before q t)))

  pub back_none : IsUnlocked p locked p.back None → IsToWrite p locked None
  back_none u = run_none (λ q t.
      let seat : IsSeated p q p.back = record { state = inr (taken_state p locked q o t, t.off) } in
      let x : true ≡ false = sym (u q seat) ∙ t.unlocked in
      absurd cc)

  pub back_valid : (q : Page) → IsUnlocked p locked p.back (Some q) → is_valid (state_of p q) ≡ true → IsToWrite p locked None
  back_valid q u v = run_none (λ w t.
      let same : w ≡ q = same_Some w q (sym t.held ∙ o.names q p.back (seated_frame p q p.back u.0)) in
      let x : true ≡ false = sym v ∙ ap (λ (y : Page). is_valid (state_of p y)) (sym same) ∙ ap is_valid t.state in
      absurd cc)

  -- not valid, and so invalid off the free list
  run_seated : (q : Page) → IsUnlocked p locked p.back (Some q) → is_valid (state_of p q) ≡ false → hand_run p locked ≡ write_by (expire p locked) locked q (is_dirty p q)
  run_seated q u v =
      let e : page_of p p.back ≡ Some q = o.names q p.back (seated_frame p q p.back u.0) in
      elim u.0.state [
        | inl s ↦ absurd (let x : true ≡ false = sym (ap is_valid s) ∙ v in cc)
        | inr s ↦
            let t : IsTaken p locked q = record { held = e; frame = p.back; state = s.0; off = s.1; unlocked = u.1 } in
            ap (write_taken (expire p locked) locked) (taken_is (expire p locked) locked q (taken_after q t))
            ∙ ap (λ (s : Slot). write_by (expire p locked) locked q (is_dirty_by q s.mark)) (slot_same q e)
      ]

  pub back_clean : (q : Page) → IsUnlocked p locked p.back (Some q) → is_valid (state_of p q) ≡ false → is_dirty p q ≡ false → IsToWrite p locked None
  back_clean q u v d = run_seated q u v ∙ ap (write_by (expire p locked) locked q) d

  -- a page that isn't dirty, valid or not
  pub back_unmarked : (q : Page) → IsUnlocked p locked p.back (Some q) → is_dirty p q ≡ false → IsToWrite p locked None
  back_unmarked q u d = go (is_valid (state_of p q)) refl
    where
      go : (b : Bool) → is_valid (state_of p q) ≡ b → IsToWrite p locked None
      go true v = back_valid q u v
      go false v = back_clean q u v d

  pub back_writes : (q : Page) → IsUnlocked p locked p.back (Some q) → is_valid (state_of p q) ≡ false → is_dirty p q ≡ true → IsToWrite p locked (Some q)
  back_writes q u v d = (run_seated q u v ∙ ap (write_by (expire p locked) locked q) d, u.0)
