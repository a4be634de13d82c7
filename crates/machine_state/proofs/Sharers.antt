-- The first space that shares an image's text has the lowest number of all that do.
use Rattle.std.proofs.Common.{◌≡◌, ◌≢◌, inl, inr, ℕ, ◌<◌, ◌≤◌, List, [], ◌∷◌, map, Option, Some, None, refl, sym, ap, ◌∙◌, subst, arith}
use Rattle.std.proofs.lemmas.Bool.{cases_eq}
use Rattle.std.proofs.lemmas.Bool.Decides.{nat_tests}
use Rattle.std.proofs.lemmas.Option.{same_Some}
use Rattle.core_map.specs.declared.slot.Slot.{Slot as Token}
use Rattle.proc_table.specs.Records.{Lowest}
use Rattle.table_steps.specs.Space.{Places}
use Rattle.page_model.specs.Pages.{SpacePages, numbered}
use Rattle.page_model.specs.Placement.{Placement, space_number}
use Rattle.table_steps.specs.KernelTablesShown.{space_shown}
use Rattle.table_steps.specs.Rising.{sids_of, IsBelowAll, AreRising}
use Rattle.table_steps.specs.Sharing.{IsSharer, first_sharer}
use Rattle.table_steps.proofs.Shows.{hit, miss}

-- The loop over the spaces.

sharer_hit : (s : Places) (ss : List Places) (image : ℕ) → s.image ≡ image → first_sharer (s ∷ ss) image ≡ Some s.sid
sharer_hit s ss image e = grind (arith, nat_tests)

sharer_miss : (s : Places) (ss : List Places) (image : ℕ) → s.image ≢ image → first_sharer (s ∷ ss) image ≡ first_sharer ss image
sharer_miss s ss image e = grind (arith, nat_tests)

-- a space among these that shares the image's text
record Shares (slots : List Token) (ss : List Places) (image sid : ℕ) : Type 0 where
  space : SpacePages
  there : numbered space_number sid (map (space_shown slots) ss) ≡ Some space
  shares : space.image ≡ image

above : (slots : List Token) (ss : List Places) (n sid : ℕ) (x : SpacePages) → IsBelowAll n (sids_of ss)
    → numbered space_number sid (map (space_shown slots) ss) ≡ Some x → n < sid
above slots [] n sid x b e = absurd cc
above slots (s ∷ ss) n sid x b e = elim (cases_eq s.sid sid) [
  | inl i ↦ let l = b.0 in omega arith
  | inr d ↦ above slots ss n sid x b.1 (sym (miss sid (space_shown slots s) (map (space_shown slots) ss) d) ∙ e)
]

behind : (slots : List Token) (s : Places) (ss : List Places) (image sid : ℕ) → s.image ≢ image → Shares slots (s ∷ ss) image sid → Shares slots ss image sid
behind slots s ss image sid n h = elim (cases_eq s.sid sid) [
  | inl i ↦
      let same : space_shown slots s ≡ h.space = same_Some (space_shown slots s) h.space (sym (hit sid (space_shown slots s) (map (space_shown slots) ss) i) ∙ h.there) in
      absurd (n (ap (λ (x : SpacePages). x.image) same ∙ h.shares))
  | inr d ↦ record { space = h.space; there = sym (miss sid (space_shown slots s) (map (space_shown slots) ss) d) ∙ h.there; shares = h.shares }
]

before : (slots : List Token) (s : Places) (ss : List Places) (image sid : ℕ) → IsBelowAll s.sid (sids_of ss) → Shares slots ss image sid
    → Shares slots (s ∷ ss) image sid
before slots s ss image sid b h =
    let l : s.sid < sid = above slots ss s.sid sid h.space b h.there in
    record { space = h.space; there = miss sid (space_shown slots s) (map (space_shown slots) ss) (λ i. absurd (omega arith)) ∙ h.there; shares = h.shares }

lowest_among : (slots : List Token) (ss : List Places) (image : ℕ) → AreRising (sids_of ss) → Lowest (Shares slots ss image) (first_sharer ss image)
lowest_among slots [] image r = λ sid h. absurd (let e = h.there in cc)
lowest_among slots (s ∷ ss) image r = elim (cases_eq s.image image) [
  | inl e ↦ subst (Lowest (Shares slots (s ∷ ss) image)) (sym (sharer_hit s ss image e)) (
    record { space = space_shown slots s; there = hit s.sid (space_shown slots s) (map (space_shown slots) ss) refl; shares = e },
    λ sid h. least sid h,
  )
  | inr n ↦ subst (Lowest (Shares slots (s ∷ ss) image)) (sym (sharer_miss s ss image n)) (more n (first_sharer ss image) (lowest_among slots ss image r.1))
]
  where
    least : (sid : ℕ) → Shares slots (s ∷ ss) image sid → s.sid ≤ sid
    least sid h = elim (cases_eq s.sid sid) [
      | inl i ↦ omega arith
      | inr d ↦ let l = above slots ss s.sid sid h.space r.0 (sym (miss sid (space_shown slots s) (map (space_shown slots) ss) d) ∙ h.there) in omega arith
    ]

    more : s.image ≢ image → (o : Option ℕ) → Lowest (Shares slots ss image) o → Lowest (Shares slots (s ∷ ss) image) o
    more n None h = λ sid x. h sid (behind slots s ss image sid n x)
    more n (Some m) h = (before slots s ss image m r.0 h.0, λ sid x. h.1 sid (behind slots s ss image sid n x))

pub lowest_sharer : (p : Placement) (slots : List Token) (ss : List Places) (image : ℕ) → p.spaces ≡ map (space_shown slots) ss
    → AreRising (sids_of ss) → Lowest (IsSharer p image) (first_sharer ss image)
lowest_sharer p slots ss image e r = go (first_sharer ss image) (lowest_among slots ss image r)
  where
    to : (sid : ℕ) → Shares slots ss image sid → IsSharer p image sid
    to sid h = record { space = h.space; there = ap (numbered space_number sid) e ∙ h.there; shares = h.shares }

    from : (sid : ℕ) → IsSharer p image sid → Shares slots ss image sid
    from sid h = record { space = h.space; there = sym (ap (numbered space_number sid) e) ∙ h.there; shares = h.shares }

    go : (o : Option ℕ) → Lowest (Shares slots ss image) o → Lowest (IsSharer p image) o
    go None h = λ sid x. h sid (from sid x)
    go (Some m) h = (to m h.0, λ sid x. h.1 sid (from sid x))
