-- The oldest transfer is lost with its frames.
use Rattle.std.proofs.Common.{◌≡◌, inl, inr, ℕ, ◌+◌, ◌<◌, ◌≤◌, Bool, true, List, [], ◌∷◌, ◌++◌, length, map, drop, Option, None, refl, sym, ap, ◌∙◌, subst, arith}
use Rattle.std.proofs.lemmas.Bool.{cases_eq}
use Rattle.std.proofs.lemmas.Bool.Decides.{nat_tests}
use Rattle.std.proofs.lemmas.List.{map-append}
use Rattle.vm_facts.specs.declared.entry.Entry.{Entry}
use Rattle.vm_facts.specs.Lists.{times}
use Rattle.vm_facts.proofs.Lists.{times-append, times_other}
use Rattle.core_map.specs.declared.slot.Slot.{Slot as Token}
use Rattle.core_map.specs.declared.slot.Slot.TheVariants as tokens
use Rattle.core_map.specs.Slots.{slot_at}
use Rattle.transfer_ring.specs.declared.transfer.Transfer.{Transfer as Flight}
use Rattle.page_model.specs.Placement.{IsFrame, page_of}
use Rattle.table_steps.specs.Tables.{Tables}
use Rattle.table_steps.specs.View.{Lists, Flown, flown_number, flown_at, flown_in, flown, transfer_shown, page_by, placement_of}
use Rattle.table_steps.specs.Known.{Known}
use Rattle.table_steps.specs.Machine.{Standing, lists_of, kernel_by, images_of, before_of}
use Rattle.table_steps.specs.Moves.{ending}
use Rattle.table_steps.specs.Failing.{frames_in, LosesOldest, HasLostOldest}
use Rattle.table_steps.proofs.Held.{held_at, holds_length, one_numbers, not_flown}
use Rattle.machine_state.specs.declared.machine.Machine.TheInside.{Inside}
use Rattle.machine_state.specs.Fields.{standing_of}
use Rattle.machine_state.proofs.Dones.{was_lists}
use Rattle.machine_state.proofs.Ends.{Flies, AllFly, first_fly, flown_once}

-- what isn't among the first is sought among the others
not_among : (xs ys : List Flown) (f : ℕ) → times f (map flown_number xs) ≡ 0 → flown_at (xs ++ ys) f ≡ flown_at ys f
not_among [] ys f z = refl
not_among (x ∷ xs) ys f z = elim (cases_eq (flown_number x) f) [
  | inl e ↦ absurd (let h : times f (map flown_number (x ∷ xs)) ≡ 1 + times f (map flown_number xs) = grind (arith, nat_tests) in omega arith)
  | inr d ↦
      (let miss : flown_at (x ∷ (xs ++ ys)) f ≡ flown_at (xs ++ ys) f = grind (arith, nat_tests) in miss)
      ∙ not_among xs ys f (sym (times_other f (flown_number x) (map flown_number xs) d) ∙ z)
]

one_flies : (t : Lists) (fs : List ℕ) (f : ℕ) → AllFly t fs → 0 < times f fs → Flies t f
one_flies t [] f a some = absurd (omega arith)
one_flies t (g ∷ fs) f a some = elim (cases_eq g f) [
  | inl e ↦ subst (Flies t) e a.0
  | inr d ↦ one_flies t fs f a.1 (subst (λ (n : ℕ). 0 < n) (times_other f g fs d) some)
]

module _ (t : Tables) (left rest : List Flight) (o : Flight) (ring : t.ring ≡ o ∷ rest) (dropped : left ≡ drop 1 t.ring) (k : Known (lists_of t)) where
  abbrev without : Tables
  without = record t { ring = left }

  left_is : rest ≡ left
  left_is = sym (dropped ∙ ap (drop 1) ring)

  flown_is : flown t.ring ≡ flown_in o ++ flown left
  flown_is = ap flown ring ∙ ap (λ (ts : List Flight). flown_in o ++ flown ts) left_is

  below : (f : ℕ) → IsFrame (placement_of (lists_of t)) f → f < length t.core.slots
  below f is = let a = is.0 in let b = is.1 in let h = holds_length (lists_of t) in omega (arith, a, b, h)

  others : (f : ℕ) → IsFrame (placement_of (lists_of t)) f → times f (frames_in (transfer_shown o)) ≡ 0
      → page_of (placement_of (lists_of without)) f ≡ page_of (placement_of (lists_of t)) f
  others f is none =
      held_at (lists_of without) f is.0 (below f is)
      ∙ ap (λ (x : Option Flown). page_by (slot_at t.core.slots f) x)
      (sym (not_among (flown_in o) (flown left) f (ap (times f) (sym (one_numbers o)) ∙ none)) ∙ ap (λ (xs : List Flown). flown_at xs f) (sym flown_is))
      ∙ sym (held_at (lists_of t) f is.0 (below f is))

  gone : (f : ℕ) → IsFrame (placement_of (lists_of t)) f → 0 < times f (frames_in (transfer_shown o)) → page_of (placement_of (lists_of without)) f ≡ None
  gone f is some =
      let was : lists_of t ≡ ending without o = was_lists t left rest o ring dropped in
      let away : slot_at t.core.slots f ≡ tokens.Away = (one_flies (ending without o) (frames_in (transfer_shown o)) f (first_fly without o (subst Known was k)) some).away in
      let once : times f (map flown_number (flown t.ring)) ≤ 1 = flown_once (lists_of t) k f is.0 (below f is) in
      let parts : times f (map flown_number (flown t.ring)) ≡ times f (map flown_number (flown_in o)) + times f (map flown_number (flown left)) =
      ap (λ (xs : List Flown). times f (map flown_number xs)) flown_is ∙ ap (times f) (map-append flown_number (flown_in o) (flown left))
      ∙ times-append f (map flown_number (flown_in o)) (map flown_number (flown left)) in
      let here : times f (frames_in (transfer_shown o)) ≡ times f (map flown_number (flown_in o)) = ap (times f) (one_numbers o) in
      let none : times f (map flown_number (flown left)) ≡ 0 = omega (arith, once, parts, here, some) in
      held_at (lists_of without) f is.0 (below f is)
      ∙ ap (λ (x : Token). page_by x (flown_at (flown left) f)) away
      ∙ ap (λ (x : Option Flown). page_by tokens.Away x) (not_flown (flown left) f none)

  loses : LosesOldest (placement_of (lists_of t)) (placement_of (lists_of without))
  loses = record {
    transfer = transfer_shown o;
    oldest = ap (map transfer_shown) ring ∙ ap (λ (ts : List Flight). transfer_shown o ∷ map transfer_shown ts) left_is;
    gone = gone;
    others = others;
    rest = refl;
  }

pub lost : (m : Inside) (left rest : List Flight) (o : Flight) (s : Standing) (j : List Entry) (b : Bool) (room : Option ℕ) → m.tables.ring ≡ o ∷ rest
    → left ≡ drop 1 m.tables.ring → Known (lists_of m.tables)
    → standing_of m ≡ s → j ≡ m.journal.items → b ≡ true
    → HasLostOldest s (let n : Standing = record {
      kernel = kernel_by (record m.tables { ring = left }) j b;
      params = m.tables.params;
      images = images_of m.tables;
      before = before_of m.tables;
      room = room;
    } in n)
lost m left rest o s j b room ring dropped k view same stops =
    let u : Tables = record m.tables { ring = left } in
    let n : Standing = record { kernel = kernel_by u j b; params = m.tables.params; images = images_of m.tables; before = before_of m.tables; room = room } in
    subst (λ (x : Standing). HasLostOldest x n) view (record {
      place = loses m.tables left rest o ring dropped k;
      kernel = ap (λ (x : List Entry). kernel_by u x b) same ∙ ap (λ (x : Bool). kernel_by u m.journal.items x) stops;
      before = refl;
    })
