-- The space of a page, or one that shares its text.
use Rattle.std.proofs.Common.{◌≡◌, ◌≢◌, inl, inr, ℕ, ◌<◌, IsSome, List, [], ◌∷◌, map, Option, Some, None, refl, sym, ◌∙◌, arith}
use Rattle.std.proofs.lemmas.Bool.{cases_eq}
use Rattle.vm_facts.specs.declared.page.Page.{Page}
use Rattle.vm_facts.specs.declared.page.Page.TheVariants.{Text}
use Rattle.vax_pte.specs.declared.Place.{Place}
use Rattle.core_map.specs.Frames.{Frames}
use Rattle.space_map.specs.Space.{Places, place_in}
use Rattle.flat_state.specs.Numbers.{IsAbsent, AllDistinct}
use Rattle.page_model.specs.Pages.{SpacePages, numbered}
use Rattle.page_model.specs.Placement.{Placement, space_number, IsThere, sharers_in}
use Rattle.page_model.specs.Conditions.{IsShared}
use Rattle.page_laws.proofs.Lists.Pages.{numbered_hit, numbered_miss}
use Rattle.clock_hands.specs.Views.{IsNamedBy, ShowsPage, ShowsSpace}
use Rattle.clock_hands.specs.Sharing.{IsSharer}
use Rattle.clock_hands.proofs.Homes.{skips}

absent_there : (n : ℕ) (ss : List SpacePages) (m : ℕ) (x : SpacePages) → IsAbsent n (map space_number ss) → numbered space_number m ss ≡ Some x → n ≢ m
absent_there n [] m x a e h = absurd cc
absent_there n (s ∷ ss) m x a e h = elim (cases_eq s.sid m) [
  | inl i ↦ a.0 (i ∙ sym h)
  | inr d ↦ absent_there n ss m x a.1 (sym (numbered_miss space_number m s ss d) ∙ e) h
]

record Sharer (image : ℕ) (ss : List SpacePages) : Type 0 where
  sid : ℕ
  space : SpacePages
  there : numbered space_number sid ss ≡ Some space
  shares : space.image ≡ image

shared_by : (image : ℕ) (ss : List SpacePages) → AllDistinct (map space_number ss) → 0 < sharers_in image ss → Sharer image ss
shared_by image [] d l = absurd (omega arith)
shared_by image (s ∷ ss) d l = elim (cases_eq s.image image) [
  | inl e ↦ record { sid = s.sid; space = s; there = numbered_hit space_number s.sid s ss refl; shares = e }
  | inr n ↦
      let h : Sharer image ss = shared_by image ss d.1 (let a = skips image s ss n in omega arith) in
      record {
        sid = h.sid;
        space = h.space;
        there = numbered_miss space_number h.sid s ss (absent_there s.sid ss h.sid h.space d.0 h.there) ∙ h.there;
        shares = h.shares;
      }
]

-- text that is shared has a sharer
pub no_sharer : (p : Placement) (image v : ℕ) → AllDistinct (map space_number p.spaces) → IsShared p (Text image v) → ((sid : ℕ) → IsSharer p image sid → ⊥) → ⊥
no_sharer p image v d l none =
    let h : Sharer image p.spaces = shared_by image p.spaces d l in
    none h.sid (record { space = h.space; there = h.there; shares = h.shares })

-- and has an entry for it
pub home_place : (p : Placement) (core : Frames) (s : Places) (q : Page) → ShowsSpace p core s → IsNamedBy s q → IsThere p q → IsSome (place_in s q)
home_place p core s q shows named there = go (place_in s q) (shows.pages q named)
  where
    go : (o : Option Place) → ShowsPage p core.slots q o → IsSome o
    go None h = absurd (h there)
    go (Some x) h = refl

pub some_place : (o : Option Place) → IsSome o → (x : Place) × (o ≡ Some x)
some_place None e = absurd cc
some_place (Some x) e = (x, refl)
