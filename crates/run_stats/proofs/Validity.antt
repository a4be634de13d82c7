-- Whether a frame's page is valid, by what the core map has for the frame.
use Rattle.std.proofs.Common.{◌≡◌, ℕ, ◌<◌, true, Option, Some, None, refl, sym, ap, ◌∙◌, subst, arith}
use Rattle.std.specs.Prelude.{nat_lt}
use Rattle.std.proofs.lemmas.Bool.Decides.{nat_tests}
use Rattle.vm_facts.specs.declared.page.Page.{Page}
use Rattle.vm_facts.specs.Lists.{times}
use Rattle.core_map.specs.declared.slot.Slot.{Slot}
use Rattle.core_map.specs.declared.slot.Slot.TheVariants as slots
use Rattle.core_map.specs.declared.slot.Whose.{Whose}
use Rattle.core_map.specs.Slots.{slot_at, listings, slot_owner}
use Rattle.core_map.specs.Frames.{Frames}
use Rattle.page_model.specs.Pages.{frame_of}
use Rattle.page_model.specs.Placement.{Errand, Writes, Reads, Placement, IsFrame, page_of, parts_of, flying, moving_state}
use Rattle.page_model.specs.Ownership.{OwnsFrames}
use Rattle.table_view.specs.Shown.{is_away}
use Rattle.machine_state.specs.Showing.{ShowsCore}
use Rattle.owner_lines.proofs.Owning.{IsCarried, is_carried}
use Rattle.run_stats.specs.Looks.{valid_one, valid_of, valid_frame}
use Rattle.run_stats.specs.Seen.{valid_by}

still_moving : (e : Errand) (f : ℕ) → valid_one (moving_state e f) ≡ 0
still_moving Writes f = refl
still_moving (Reads source demanded) f = refl

in_flight : (e : Errand) (f : ℕ) → frame_of (moving_state e f) ≡ Some f
in_flight Writes f = refl
in_flight (Reads source demanded) f = refl

module _ (p : Placement) (core : Frames) (owns : OwnsFrames p) (shows : ShowsCore p core) (f : ℕ) where
  still_invalid : (o : Option Page) → page_of p f ≡ o → 0 < times f p.free → valid_of p o ≡ 0
  still_invalid None e there = refl
  still_invalid (Some q) e there = ap valid_one (owns.listed f q there e).state

  pub frame_valid : (w : Whose) → slot_owner (slot_at core.slots f) ≡ w → IsFrame p f → valid_frame p f ≡ valid_by p w
  frame_valid w e frame = subst (λ (x : Whose). valid_frame p f ≡ valid_by p x) e (go (slot_at core.slots f) refl)
    where
      some_fly : (n : ℕ) → true ≡ nat_lt 0 n → 0 < n
      some_fly n h = grind (arith, nat_tests)

      go : (s : Slot) → slot_at core.slots f ≡ s → valid_frame p f ≡ valid_by p (slot_owner (slot_at core.slots f))
      go (slots.Free token held) is =
          let list = ap (times f) shows.free in
          let there : 0 < times f p.free = let l = shows.listed f ∙ ap listings is in omega (arith, l, list) in
          still_invalid (page_of p f) refl there ∙ sym (ap (λ (x : Slot). valid_by p (slot_owner x)) is)
      go (slots.Resident token held mark) is =
          ap (valid_of p) (shows.kept f token held mark is).0 ∙ sym (ap (λ (x : Slot). valid_by p (slot_owner x)) is)
      go slots.Away is =
          let some : 0 < times f (flying (parts_of p.transfers)) = some_fly (times f (flying (parts_of p.transfers))) (sym (ap is_away is) ∙ shows.away f frame) in
          let c : IsCarried p 1 f p.transfers = is_carried p 1 f p.transfers owns.moves some in
          let page : page_of p f ≡ Some c.page = owns.names c.page f (ap frame_of c.state ∙ in_flight c.errand f) in
          ap (valid_of p) page ∙ ap valid_one c.state ∙ still_moving c.errand f ∙ sym (ap (λ (x : Slot). valid_by p (slot_owner x)) is)
