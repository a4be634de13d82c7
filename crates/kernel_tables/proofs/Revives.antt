-- The frame that holds a page leaves the free list.
use Rattle.std.proofs.Common.{◌≡◌, ◌≢◌, ℕ, ◌<◌, Bool, false, IsTrue, List, length, set, Option, Some, refl, sym, ap, ◌∙◌, set-set}
use Rattle.std.proofs.lemmas.List.{get_or-set_same, set-get_or}
use Rattle.vm_facts.specs.declared.page.Page.{Page}
use Rattle.frame_state.specs.Frame.{Frame}
use Rattle.core_map.specs.declared.slot.Slot.{Slot as Token}
use Rattle.core_map.specs.declared.slot.Slot.TheVariants as tokens
use Rattle.core_map.specs.declared.slot.Whose.TheVariants as owners
use Rattle.core_map.specs.Slots.{slot_at, slot_page, is_free, token_of, with_dirty, slot_owner, listings}
use Rattle.vm_facts.specs.Lists.{times, without}
use Rattle.core_map.specs.Frames.{IsSoundMap}
use Rattle.kernel_laws.proofs.Local.{none_some}
use Rattle.vm_facts.proofs.Lists.{without_absent}
use Rattle.kernel_tables.specs.Steps.{revived}
use Rattle.kernel_tables.proofs.Held.{below_length}

free_is : (s : Token) (q : Page) (c : Bool) → IsTrue (is_free s) → tokens.Resident (token_of s) q c ≡ revived s q c
free_is (tokens.Free token page) q c h = refl
free_is _ q c h = absurd cc

pub below_held : (slots : List Token) (f : ℕ) (q : Page) → slot_page (slot_at slots f) ≡ Some q → f < length slots
below_held slots f q e = below_length slots f (λ n. none_some q (sym (ap slot_page n) ∙ e))

pub revive_slots : (old one two three : List Token) (f : ℕ) (token : Frame) (q : Page) (c : Bool) → f < length old → IsTrue (is_free (slot_at old f))
    → token ≡ token_of (slot_at old f) → token.number ≡ f → one ≡ set old f tokens.Away
    → two ≡ set one token.number (tokens.Resident token q false) → three ≡ set two f (with_dirty (slot_at two f) c)
    → three ≡ set old f (revived (slot_at old f) q c)
revive_slots old one two three f token q c l h t n e1 e2 e3 =
    let r : Token = tokens.Resident token q false in
    let second : two ≡ set old f r = e2 ∙ ap (λ (m : ℕ). set one m r) n ∙ ap (λ (xs : List Token). set xs f r) e1 ∙ set-set old f tokens.Away r in
    e3 ∙ ap (λ (xs : List Token). set xs f (with_dirty (slot_at xs f) c)) second
    ∙ ap (λ (s : Token). set (set old f r) f (with_dirty s c)) (get_or-set_same old f r tokens.Away l)
    ∙ set-set old f r (tokens.Resident token q c)
    ∙ ap (set old f) (ap (λ (x : Frame). tokens.Resident x q c) t ∙ free_is (slot_at old f) q c h)

pub record Stays (free : List ℕ) (slots : List Token) (f : ℕ) (q : Page) (c : Bool) : Type 0 where
  pub free_stays : free ≡ without f free
  pub slots_stay : slots ≡ set slots f (revived (slot_at slots f) q c)

pub revive_stays : (free : List ℕ) (slots : List Token) (f : ℕ) (q : Page) (c : Bool) → IsSoundMap free slots → slot_page (slot_at slots f) ≡ Some q
    → ((p : Option Page) → slot_owner (slot_at slots f) ≢ owners.Free p) → Stays free slots f q c
revive_stays free slots f q c so e n = go (slot_at slots f) refl
  where
    go : (s : Token) → slot_at slots f ≡ s → Stays free slots f q c
    go (tokens.Free token page) h = absurd (n page (ap slot_owner h))
    go tokens.Away h = none_some q (sym (ap slot_page h) ∙ e)
    go (tokens.Resident token page dirty) h =
        let z : times f free ≡ 0 = so.listed f ∙ ap listings h in
        record {
          free_stays = sym (without_absent f free z);
          slots_stay = sym (ap (λ (s : Token). set slots f (revived s q c)) h ∙ ap (set slots f) (sym h) ∙ set-get_or slots f tokens.Away);
        }
