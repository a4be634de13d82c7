-- The page that an access asks for is there.
use Rattle.std.proofs.Common.{◌≡◌, ℕ, ◌+◌, ◌*◌, ◌/◌, ◌<◌, Bool, true, false, ltb, length, Some, refl, sym, ◌∙◌, subst, arith}
use Rattle.std.proofs.lemmas.Bool.{ltb-true, and_parts}
use Rattle.vm_facts.specs.declared.page.Page.{Page}
use Rattle.vm_facts.specs.declared.page.Page.TheVariants as pages
use Rattle.vax_pte.specs.declared.Place.{Place}
use Rattle.core_map.specs.Frames.{Frames}
use Rattle.space_map.specs.Space.{Places, place_in}
use Rattle.flat_state.specs.Space.{spot_by, spot_at, stack_top}
use Rattle.flat_state.specs.declared.spot.Spot.{Spot}
use Rattle.flat_state.specs.declared.spot.Spot.TheVariants as spots
use Rattle.flat_state.proofs.Spots.{text_spot, data_spot, OfStack, stack_spot, stack_index_within}
use Rattle.page_model.specs.Placement.{Placement, IsThere}
use Rattle.clock_hands.specs.Views.{IsNamedBy, ShowsPage, ShowsSpace}
use Rattle.clock_hands.proofs.Entries.{data_hit, stack_hit, text_hit}
use Rattle.clock_hands.proofs.UserFrames.{get_within}
use Rattle.fault_fill.specs.declared.access.Access.TheVariants as accesses
use Rattle.fault_fill.specs.Access.{access_at, access_of}

-- An address below the stack's lowest page is below the stack's top.

by_below : (b c d e : Bool) (t a : ℕ) → spot_by b c d e t a ≡ spots.Below → e ≡ true
by_below true c d e t a h = absurd cc
by_below false true d e t a h = absurd cc
by_below false false true e t a h = absurd cc
by_below false false false true t a h = refl
by_below false false false false t a h = absurd cc

pub below_spot : (t d s a : ℕ) → spots.Below ≡ spot_at t d s a → a < stack_top
unfolding spot_at
below_spot t d s a h =
    let found = by_below (ltb a t) (ltb a (t + d)) _ _ t a (sym h) in
    ltb-true a stack_top (and_parts _ (ltb a stack_top) found).1

-- a page of the space that has an entry
pub record IsOf (p : Placement) (s : Places) (q : Page) : Type 0 where
  pub named : IsNamedBy s q
  pub there : IsThere p q

pub of_space : (p : Placement) (core : Frames) (s : Places) (q : Page) (x : Place) → ShowsSpace p core s → IsNamedBy s q → place_in s q ≡ Some x → IsOf p s q
of_space p core s q x shows named e = record { named = named; there = (subst (ShowsPage p core.slots q) e (shows.pages q named)).0 }

pub same_page : (q r : Page) → accesses.Page q ≡ accesses.Page r → q ≡ r
same_page q r e = cc

module _ (p : Placement) (core : Frames) (s : Places) (shows : ShowsSpace p core s) (address : ℕ) (q : Page) where
  text_of : (at : ℕ) → at < 1024 * length s.text → accesses.Page (pages.Text s.image (at / 1024)) ≡ accesses.Page q → IsOf p s q
  text_of at l e =
      let x = get_within s.text (at / 1024) (omega arith) in
      subst (IsOf p s) (same_page (pages.Text s.image (at / 1024)) q e)
      (of_space p core s (pages.Text s.image (at / 1024)) x.0 shows refl (text_hit s s.image (at / 1024) refl ∙ x.1))

  data_of : (at : ℕ) → at < 1024 * length s.«data» → accesses.Page (pages.Data s.sid (at / 1024)) ≡ accesses.Page q → IsOf p s q
  data_of at l e =
      let x = get_within s.«data» (at / 1024) (omega arith) in
      subst (IsOf p s) (same_page (pages.Data s.sid (at / 1024)) q e)
      (of_space p core s (pages.Data s.sid (at / 1024)) x.0 shows refl (data_hit s s.sid (at / 1024) refl ∙ x.1))

  stack_of : (at : ℕ) → at < 1024 * length s.stack → accesses.Page (pages.Stack s.sid (at / 1024)) ≡ accesses.Page q → IsOf p s q
  stack_of at l e =
      let x = get_within s.stack (at / 1024) (omega arith) in
      subst (IsOf p s) (same_page (pages.Stack s.sid (at / 1024)) q e)
      (of_space p core s (pages.Stack s.sid (at / 1024)) x.0 shows refl (stack_hit s s.sid (at / 1024) refl ∙ x.1))

  pub access_there : (write : Bool) → access_of s address write ≡ accesses.Page q → IsOf p s q
  access_there write e = go (spot_at (1024 * length s.text) (1024 * length s.«data») (1024 * length s.stack) address) refl write e
    where
      go : (x : Spot) → spot_at (1024 * length s.text) (1024 * length s.«data») (1024 * length s.stack) address ≡ x → (b : Bool)
          → access_at s.sid s.image address x b ≡ accesses.Page q → IsOf p s q
      go (spots.Text at) k true h = absurd cc
      go (spots.Text at) k false h = text_of at (text_spot (1024 * length s.text) (1024 * length s.«data») (1024 * length s.stack) address at k).1 h
      go (spots.Data at) k b h = data_of at (data_spot (1024 * length s.text) (1024 * length s.«data») (1024 * length s.stack) address at k).1 h
      go (spots.Stack at) k b h =
          let o : OfStack (1024 * length s.stack) address at = stack_spot (1024 * length s.text) (1024 * length s.«data») (1024 * length s.stack) address at k in
          stack_of at (subst (λ (n : ℕ). n < 1024 * length s.stack) (sym o.index) (stack_index_within (length s.stack) address o.above o.below)) h
      go spots.Below k b h = absurd cc
      go spots.Outside k b h = absurd cc
