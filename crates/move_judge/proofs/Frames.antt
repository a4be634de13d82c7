-- The frame of a page that is invalid off the free list, as the core map shows it.
use Rattle.std.proofs.Common.{◌≡◌, inr, ℕ, nat_lt, true, false, IsTrue, Some, refl, sym, ap, ◌∙◌, subst}
use Rattle.std.proofs.lemmas.Bool.{eqb-true}
use Rattle.std.proofs.lemmas.Option.{same_Some}
use Rattle.vm_facts.specs.Lists.{times}
use Rattle.vm_facts.specs.declared.page.Page.{Page}
use Rattle.vm_facts.specs.declared.page.PageState.TheVariants.{Invalid}
use Rattle.core_map.specs.declared.slot.Slot.{Slot}
use Rattle.core_map.specs.declared.slot.Slot.TheVariants.{Free, Resident, Away}
use Rattle.core_map.specs.Slots.{slot_at, listings, is_resident, is_slot_dirty}
use Rattle.core_map.specs.Frames.{Frames}
use Rattle.page_model.specs.Pages.{frame_of}
use Rattle.page_model.specs.Placement.{Placement, state_of, is_dirty, page_of, IsFrame}
use Rattle.page_model.specs.Runs.{is_idle_by, is_idle}
use Rattle.page_model.specs.Ownership.{OwnsFrames}
use Rattle.page_laws.proofs.Moves.Steps.{frame_there}
use Rattle.page_laws.proofs.Ownership.Pages.{seated_alone}
use Rattle.machine_state.specs.Showing.{ShowsCore}
use Rattle.table_view.specs.Shown.{is_away}

-- the frame is resident, with the page's mark
pub record HasMark (p : Placement) (core : Frames) (q : Page) (f : ℕ) : Type 0 where
  pub resident : IsTrue (is_resident (slot_at core.slots f))
  pub mark : is_slot_dirty (slot_at core.slots f) ≡ is_dirty p q

pub idle_mark : (p : Placement) (core : Frames) (q : Page) (f : ℕ) → OwnsFrames p → ShowsCore p core → is_idle p q ≡ true → state_of p q ≡ Invalid f
    → HasMark p core q f
idle_mark p core q f o h i e =
    let off : times f p.free ≡ 0 = eqb-true (times f p.free) 0 (sym (ap (is_idle_by p) e) ∙ i) in
    let alone = seated_alone p q f o (record { state = inr (e, off) }) in
    let page : page_of p f ≡ Some q = o.names q f (ap frame_of e) in
    let there : IsFrame p f = frame_there p.holds f q page in
    go (slot_at core.slots f) refl page (sym (h.listed f) ∙ ap (times f) (sym h.free) ∙ off) (h.away f there ∙ ap (nat_lt 0) alone.1)
  where
    go : (s : Slot) → slot_at core.slots f ≡ s → page_of p f ≡ Some q → listings s ≡ 0 → is_away s ≡ false → HasMark p core q f
    go (Free token page) j a l z = absurd cc
    go Away j a l z = absurd cc
    go (Resident token w m) j a l z =
        let k = h.kept f token w m j in
        record {
          resident = subst (λ (s : Slot). IsTrue (is_resident s)) (sym j) refl;
          mark = ap is_slot_dirty j ∙ k.1 ∙ ap (is_dirty p) (same_Some w q (sym k.0 ∙ a));
        }
