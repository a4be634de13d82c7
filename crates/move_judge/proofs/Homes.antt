-- The space of a page, or one that shares its text.
use Rattle.std.proofs.Common.{◌≡◌, ◌≢◌, inl, inr, ℕ, ◌+◌, ◌<◌, ◌==◌, nat_lt, Bool, true, false, cond, List, [], ◌∷◌, map, Option, Some, None, is_some, refl, sym, ap, ◌∙◌, arith}
use Rattle.std.proofs.lemmas.Bool.{cases_eq}
use Rattle.std.proofs.lemmas.Bool.Decides.{nat_tests}
use Rattle.std.proofs.lemmas.Option.{same_Some}
use Rattle.vm_facts.specs.declared.page.Page.TheVariants.{Text}
use Rattle.proc_table.specs.Records.{Lowest}
use Rattle.flat_state.specs.Numbers.{IsAbsent, AllDistinct}
use Rattle.page_model.specs.Pages.{SpacePages, numbered}
use Rattle.page_model.specs.Placement.{Placement, space_number, sharers, sharers_in}
use Rattle.page_model.specs.Conditions.{IsShared}
use Rattle.page_laws.proofs.Lists.Pages.{numbered_hit, numbered_miss}
use Rattle.machine_state.specs.Sharing.{IsSharer}
use Rattle.clock_hands.proofs.Homes.{skips}

absent_there : (n : ℕ) (ss : List SpacePages) (m : ℕ) (x : SpacePages) → IsAbsent n (map space_number ss) → numbered space_number m ss ≡ Some x → n ≢ m
absent_there n [] m x a e h = absurd cc
absent_there n (s ∷ ss) m x a e h = elim (cases_eq s.sid m) [
  | inl i ↦ a.0 (i ∙ sym h)
  | inr d ↦ absent_there n ss m x a.1 (sym (numbered_miss space_number m s ss d) ∙ e) h
]

record Sharer (image : ℕ) (ss : List SpacePages) : Type 0 where
  sid : ℕ
  space : SpacePages
  there : numbered space_number sid ss ≡ Some space
  shares : space.image ≡ image

shared_by : (image : ℕ) (ss : List SpacePages) → AllDistinct (map space_number ss) → 0 < sharers_in image ss → Sharer image ss
shared_by image [] d l = absurd (omega arith)
shared_by image (s ∷ ss) d l = elim (cases_eq s.image image) [
  | inl e ↦ record { sid = s.sid; space = s; there = numbered_hit space_number s.sid s ss refl; shares = e }
  | inr n ↦
      let h : Sharer image ss = shared_by image ss d.1 (let a = skips image s ss n in omega arith) in
      record {
        sid = h.sid;
        space = h.space;
        there = numbered_miss space_number h.sid s ss (absent_there s.sid ss h.sid h.space d.0 h.there) ∙ h.there;
        shares = h.shares;
      }
]

-- text that is shared has a sharer
pub no_sharer : (p : Placement) (image v : ℕ) → AllDistinct (map space_number p.spaces) → IsShared p (Text image v) → ((sid : ℕ) → IsSharer p image sid → ⊥) → ⊥
no_sharer p image v d l none =
    let h : Sharer image p.spaces = shared_by image p.spaces d l in
    none h.sid (record { space = h.space; there = h.there; shares = h.shares })

-- and text with a sharer is shared
shared_in : (ss : List SpacePages) (sid image : ℕ) (s : SpacePages) → numbered space_number sid ss ≡ Some s → s.image ≡ image → 0 < sharers_in image ss
shared_in [] sid image s e h = absurd cc
shared_in (x ∷ ss) sid image s e h = go (space_number x == sid) e (shared_in ss sid image s)
  where
    go : (b : Bool) → cond b (Some x) (numbered space_number sid ss) ≡ Some s → (numbered space_number sid ss ≡ Some s → s.image ≡ image → 0 < sharers_in image ss)
        → 0 < cond (x.image == image) 1 0 + sharers_in image ss
    go true f more = let i : x.image ≡ image = ap (λ (y : SpacePages). y.image) (same_Some x s f) ∙ h in grind (arith, nat_tests, i)
    go false f more = let l = more f h in omega arith

-- so whether there is a sharer says whether it is shared
pub sharer_says : (p : Placement) (image : ℕ) (o : Option ℕ) → AllDistinct (map space_number p.spaces) → Lowest (IsSharer p image) o
    → is_some o ≡ nat_lt 0 (sharers p image)
sharer_says p image (Some sid) d l =
    let s : IsSharer p image sid = l.0 in let k : 0 < sharers p image = shared_in p.spaces sid image s.space s.there s.shares in grind (arith, nat_tests)
sharer_says p image None d l = elim (cases_eq (sharers p image) 0) [
  | inl e ↦ grind (arith, nat_tests, e)
  | inr n ↦ absurd (no_sharer p image 0 d (let k : 0 < sharers p image = omega (arith, n) in k) l)
]
