-- The space of a page, or one that shares its text.
use Rattle.std.proofs.Common.{◌≡◌, ◌≢◌, inl, inr, ℕ, ◌<◌, List, [], ◌∷◌, map, Option, Some, None, IsSome, refl, sym, ap, ◌∙◌, subst, arith}
use Rattle.std.proofs.lemmas.Bool.{cases_eq}
use Rattle.std.proofs.lemmas.Bool.Decides.{nat_tests}
use Rattle.std.proofs.lemmas.Option.{same_Some}
use Rattle.vm_facts.specs.declared.page.Page.{Page}
use Rattle.vm_facts.specs.declared.page.Page.TheVariants.{Data, Stack, Text}
use Rattle.vm_facts.specs.Lists.{times}
use Rattle.vax_pte.specs.declared.Place.{Place}
use Rattle.flat_state.specs.Numbers.{IsAbsent, AllDistinct}
use Rattle.core_map.specs.Frames.{Frames}
use Rattle.space_map.specs.Space.{Places, place_in}
use Rattle.page_model.specs.Pages.{SpacePages, numbered, frame_of}
use Rattle.page_model.specs.Placement.{Placement, IsThere, space_number, sharers, sharers_in}
use Rattle.page_model.specs.Conditions.{IsShared, IsSeated}
use Rattle.page_model.specs.Ownership.{OwnsFrames, TextAside, IsAside}
use Rattle.page_laws.proofs.Lists.Local.{none_some}
use Rattle.page_laws.proofs.Lists.Pages.{numbered_hit, numbered_miss}
use Rattle.page_laws.proofs.Moves.Steps.{page_in}
use Rattle.page_laws.proofs.Ownership.Pages.{seated_alone, seated_frame}
use Rattle.kluster_io.specs.Views.{ShowsPage}
use Rattle.paging_units.specs.Showing.{ShowsCore}
use Rattle.paging_units.specs.Sharing.{IsSharer}
use Rattle.clock_hands.specs.Seen.{IsHome}

absent_none : (n : ℕ) (ss : List SpacePages) → IsAbsent n (map space_number ss) → numbered space_number n ss ≡ None
absent_none n [] a = refl
absent_none n (s ∷ ss) a = numbered_miss space_number n s ss a.0 ∙ absent_none n ss a.1

record Shares (ss : List SpacePages) (image : ℕ) : Type 0 where
  sid : ℕ
  space : SpacePages
  there : numbered space_number sid ss ≡ Some space
  shares : space.image ≡ image

pub skips : (image : ℕ) (s : SpacePages) (ss : List SpacePages) → s.image ≢ image → sharers_in image (s ∷ ss) ≡ sharers_in image ss
skips image s ss n = grind (arith, nat_tests)

shared_in : (image : ℕ) (ss : List SpacePages) → AllDistinct (map space_number ss) → 0 < sharers_in image ss → Shares ss image
shared_in image [] d l = absurd (omega arith)
shared_in image (s ∷ ss) d l = elim (cases_eq s.image image) [
  | inl e ↦ record { sid = s.sid; space = s; there = numbered_hit space_number s.sid s ss refl; shares = e }
  | inr n ↦
      let x : Shares ss image = shared_in image ss d.1 (let e = skips image s ss n in omega arith) in
      elim (cases_eq s.sid x.sid) [
        | inl e ↦ none_some x.space (sym (absent_none x.sid ss (subst (λ (m : ℕ). IsAbsent m (map space_number ss)) e d.0)) ∙ x.there)
        | inr m ↦ record { sid = x.sid; space = x.space; there = numbered_miss space_number x.sid s ss m ∙ x.there; shares = x.shares }
      ]
]

pub shared_by : (p : Placement) (image : ℕ) → AllDistinct (map space_number p.spaces) → 0 < sharers p image → ((sid : ℕ) → IsSharer p image sid → ⊥) → ⊥
shared_by p image d l none =
    let x : Shares p.spaces image = shared_in image p.spaces d l in
    none x.sid (record { space = x.space; there = x.there; shares = x.shares })

-- a page in a frame off the free list is there, and its text is shared
pub seat_there : (p : Placement) (q : Page) (f : ℕ) → IsSeated p q f → IsThere p q
seat_there p q f s = page_in p q f (seated_frame p q f s)

pub seat_shared : (p : Placement) (q : Page) (f : ℕ) → OwnsFrames p → TextAside p → IsSeated p q f → IsShared p q
seat_shared p (Data sid v) f o a s = tt
seat_shared p (Stack sid v) f o a s = tt
seat_shared p (Text image v) f o a s = elim (cases_eq (sharers p image) 0) [
  | inl h ↦
      let x : IsAside p (Text image v) = a image v h in
      let e = seated_frame p (Text image v) f s in
      let z = (seated_alone p (Text image v) f o s).0 in
      elim x.rests [
        | inl u ↦ none_some f (sym (ap frame_of u) ∙ e)
        | inr u ↦
            let same : u.0 ≡ f = same_Some u.0 f (sym (ap frame_of u.1) ∙ e) in
            absurd (let l : 0 < times f p.free = subst (λ (g : ℕ). 0 < times g p.free) same u.2 in omega arith)
      ]
  | inr n ↦ omega arith
]

-- the page has an entry in its space
pub home_entry : (p : Placement) (q : Page) (s : Places) (core : Frames) → IsHome p q s → ShowsCore p core → IsThere p q → IsSome (place_in s q)
home_entry p q s core h shows t = go (place_in s q) ((h.shows core shows).pages q h.named)
  where
    go : (o : Option Place) → ShowsPage p core.slots q o → IsSome o
    go None x = absurd (x t)
    go (Some place) x = refl
