-- A child's pages, planned one after another by its parent's entries, and what is due of them.
use Rattle.std.proofs.Common.{◌≡◌, ℕ, zero, suc, ◌+◌, ◌<◌, ◌≤◌, Bool, true, false, List, [], ◌∷◌, ◌++◌, length, map, take, drop, Some, None}
use Rattle.std.proofs.Common.{slice_get, refl, sym, ap, ◌∙◌, subst, arith}
use Rattle.std.specs.Prelude.{slice_set}
use Rattle.std.proofs.lemmas.List.{append_assoc, append-nil, map-append}
use Rattle.std.proofs.lemmas.Option.{same_Some}
use Rattle.vm_facts.specs.declared.page.Page.{Page}
use Rattle.vm_facts.specs.declared.page.Page.TheVariants.{Data, Stack}
use Rattle.vax_pte.specs.declared.Place.{Place}
use Rattle.vax_pte.specs.declared.Place.TheVariants as places
use Rattle.core_map.specs.declared.slot.Slot.{Slot as Token}
use Rattle.core_map.specs.Slots.{slot_at}
use Rattle.space_map.specs.Space.{Places}
use Rattle.page_model.specs.Pages.{Slot, Zeros}
use Rattle.page_model.specs.Placement.{Due, CopyOf, due_page, unfilled}
use Rattle.page_model.specs.Place.{child_slot_by, child_slot, copy_due, copies_from}
use Rattle.page_model.specs.Conditions.{EachPage, AllApart}
use Rattle.table_view.specs.Shown.{is_away, idle_state, state_shown}
use Rattle.kernel_tables.specs.declared.fill.DueFill.{DueFill}
use Rattle.kernel_tables.specs.Shown.{slot_shown}
use Rattle.kernel_tables.specs.View.{due_shown, starts_of}
use Rattle.kernel_tables.specs.Due.{AreWhole, DueOnce}
use Rattle.kernel_tables.specs.Forking.{forked, copy_fill, copy_fills, space_fills}

-- a list has what stands below its length
pub never_none : {A : Type 0} (xs : List A) (v : ℕ) → v < length xs → slice_get xs v ≡ None → ⊥
never_none [] v l e = omega arith
never_none (x ∷ xs) zero l e = cc
never_none (x ∷ xs) (suc v) l e = never_none xs v (omega arith) e

-- so many items of one list, changed, before the rest of another: one more
set_suc : {A B : Type 0} (f : A → B) (xs : List A) (ys : List B) (v : ℕ) (x : A) → slice_get xs v ≡ Some x → length ys ≡ length xs
    → slice_set (map f (take v xs) ++ drop v ys) v (f x) ≡ map f (take (suc v) xs) ++ drop (suc v) ys
set_suc f [] ys v x at e = absurd cc
set_suc f (z ∷ xs) [] v x at e = absurd (omega arith)
set_suc f (z ∷ xs) (y ∷ ys) zero x at e = ap (λ k. f k ∷ ys) (sym (same_Some z x at))
set_suc f (z ∷ xs) (y ∷ ys) (suc v) x at e = ap (λ ks. f z ∷ ks) (set_suc f xs ys v x at (omega arith))

pub set_taken : {A B : Type 0} (f : A → B) (xs : List A) (ys : List B) (v : ℕ) (x : A) → slice_get xs v ≡ Some x → length ys ≡ length xs
    → slice_set (map f (take v xs) ++ drop v ys) v (f x) ≡ map f (take (v + 1) xs) ++ drop (v + 1) ys
set_taken f xs ys v x at e =
    set_suc f xs ys v x at e ∙ ap (λ (k : ℕ). map f (take k xs) ++ drop k ys) (let z : suc v ≡ v + 1 = omega arith in z)

module _ (child parent : ℕ → Page) where
  -- what is due of one page more
  fills_suc : (n : ℕ) (xs : List Place) (v : ℕ) (x : Place) → slice_get xs v ≡ Some x
      → copy_fills child parent n (take v xs) ++ copy_fill (child (n + v)) (parent (n + v)) x ≡ copy_fills child parent n (take (suc v) xs)
  fills_suc n [] v x at = absurd cc
  fills_suc n (z ∷ xs) zero x at =
      ap (λ (k : ℕ). copy_fill (child k) (parent k) x) (let z : n + 0 ≡ n = omega arith in z)
      ∙ ap (copy_fill (child n) (parent n)) (sym (same_Some z x at))
      ∙ sym (append-nil (copy_fill (child n) (parent n) z))
  fills_suc n (z ∷ xs) (suc v) x at =
      append_assoc (copy_fill (child n) (parent n) z) (copy_fills child parent (n + 1) (take v xs)) (copy_fill (child (n + suc v)) (parent (n + suc v)) x)
      ∙ ap (λ (ds : List DueFill). copy_fill (child n) (parent n) z ++ ds)
      (ap (λ (k : ℕ). copy_fills child parent (n + 1) (take v xs) ++ copy_fill (child k) (parent k) x) (let z : n + suc v ≡ (n + 1) + v = omega arith in z)
      ∙ fills_suc (n + 1) xs v x at)

  pub fills_taken : (xs : List Place) (v : ℕ) (x : Place) (before : List DueFill) → slice_get xs v ≡ Some x
      → (before ++ copy_fills child parent 0 (take v xs)) ++ copy_fill (child v) (parent v) x ≡ before ++ copy_fills child parent 0 (take (v + 1) xs)
  fills_taken xs v x before at =
      append_assoc before (copy_fills child parent 0 (take v xs)) (copy_fill (child v) (parent v) x)
      ∙ ap (λ (ds : List DueFill). before ++ ds)
      (ap (λ (k : ℕ). copy_fills child parent 0 (take v xs) ++ copy_fill (child k) (parent k) x) (let z : v ≡ 0 + v = omega arith in z)
      ∙ fills_suc 0 xs v x at
      ∙ ap (λ (k : ℕ). copy_fills child parent 0 (take k xs)) (let z : suc v ≡ v + 1 = omega arith in z))

  -- What is due are copies.

  pub copies_start_nothing : (v : ℕ) (xs : List Place) (more : List DueFill) → starts_of (copy_fills child parent v xs ++ more) ≡ starts_of more
  copies_start_nothing v [] more = refl
  copies_start_nothing v (places.Zero ∷ xs) more = copies_start_nothing (v + 1) xs more
  copies_start_nothing v (places.Image w ∷ xs) more = copies_start_nothing (v + 1) xs more
  copies_start_nothing v (places.Swap ∷ xs) more = copies_start_nothing (v + 1) xs more
  copies_start_nothing v (places.Frame f valid changed ∷ xs) more = copies_start_nothing (v + 1) xs more

  copies_whole : (v : ℕ) (xs : List Place) (more : List DueFill) → AreWhole more → AreWhole (copy_fills child parent v xs ++ more)
  copies_whole v [] more h = h
  copies_whole v (places.Zero ∷ xs) more h = copies_whole (v + 1) xs more h
  copies_whole v (places.Image w ∷ xs) more h = copies_whole (v + 1) xs more h
  copies_whole v (places.Swap ∷ xs) more h = (tt, copies_whole (v + 1) xs more h)
  copies_whole v (places.Frame f valid changed ∷ xs) more h = (tt, copies_whole (v + 1) xs more h)

abbrev pub pages_due : List DueFill → List Page
pages_due ds = map due_page (map due_shown ds)

-- they are of the child's pages, from one on
copies_each : (P : Page → Type 0) (child parent : ℕ → Page) (v : ℕ) (xs : List Place) (more : List DueFill)
    → ((w : ℕ) → v ≤ w → P (child w)) → EachPage P (pages_due more) → EachPage P (pages_due (copy_fills child parent v xs ++ more))
copies_each P child parent v [] more h m = m
copies_each P child parent v (places.Zero ∷ xs) more h m = copies_each P child parent (v + 1) xs more (λ w l. h w (omega arith)) m
copies_each P child parent v (places.Image w ∷ xs) more h m = copies_each P child parent (v + 1) xs more (λ w l. h w (omega arith)) m
copies_each P child parent v (places.Swap ∷ xs) more h m =
    (h v (omega arith), copies_each P child parent (v + 1) xs more (λ w l. h w (omega arith)) m)
copies_each P child parent v (places.Frame f valid changed ∷ xs) more h m =
    (h v (omega arith), copies_each P child parent (v + 1) xs more (λ w l. h w (omega arith)) m)

-- and no two of them are one page
module _ (child parent : ℕ → Page) (one : (v w : ℕ) → child v ≡ child w → v ≡ w) where
  copy_apart : (v : ℕ) (xs : List Place) (more : List DueFill) → EachPage (λ r. r ≡ child v → ⊥) (pages_due more)
      → EachPage (λ r. r ≡ child v → ⊥) (pages_due (copy_fills child parent (v + 1) xs ++ more))
  copy_apart v xs more h = copies_each (λ r. r ≡ child v → ⊥) child parent (v + 1) xs more (λ w l e. let same = one w v e in omega arith) h

  copies_apart : (v : ℕ) (xs : List Place) (more : List DueFill) → ((w : ℕ) → EachPage (λ r. r ≡ child w → ⊥) (pages_due more))
      → AllApart (pages_due more) → AllApart (pages_due (copy_fills child parent v xs ++ more))
  copies_apart v [] more h m = m
  copies_apart v (places.Zero ∷ xs) more h m = copies_apart (v + 1) xs more h m
  copies_apart v (places.Image w ∷ xs) more h m = copies_apart (v + 1) xs more h m
  copies_apart v (places.Swap ∷ xs) more h m = (copy_apart v xs more (h v), copies_apart (v + 1) xs more h m)
  copies_apart v (places.Frame f valid changed ∷ xs) more h m = (copy_apart v xs more (h v), copies_apart (v + 1) xs more h m)

data_one : (sid v w : ℕ) → Data sid v ≡ Data sid w → v ≡ w
data_one sid v w e = cc

stack_one : (sid v w : ℕ) → Stack sid v ≡ Stack sid w → v ≡ w
stack_one sid v w e = cc

module _ (child : ℕ) (s : Places) where
  abbrev of_stack : List DueFill
  of_stack = copy_fills (Stack child) (Stack s.sid) 0 s.stack

  ended : of_stack ++ [] ≡ of_stack
  ended = append-nil (copy_fills (Stack child) (Stack s.sid) 0 s.stack)

  pub fork_starts_nothing : starts_of (space_fills child s) ≡ []
  fork_starts_nothing =
      copies_start_nothing (Data child) (Data s.sid) 0 s.data of_stack
      ∙ sym (ap starts_of ended)
      ∙ copies_start_nothing (Stack child) (Stack s.sid) 0 s.stack []

  pub fork_whole : AreWhole (space_fills child s)
  fork_whole =
      copies_whole (Data child) (Data s.sid) 0 s.data of_stack
      (subst AreWhole ended (copies_whole (Stack child) (Stack s.sid) 0 s.stack [] tt))

  pub fork_once : DueOnce (space_fills child s)
  fork_once =
      copies_apart (Data child) (Data s.sid) (data_one child) 0 s.data of_stack
      (λ w. subst (λ (ds : List DueFill). EachPage (λ r. r ≡ Data child w → ⊥) (pages_due ds)) ended
      (copies_each (λ r. r ≡ Data child w → ⊥) (Stack child) (Stack s.sid) 0 s.stack [] (λ v l e. absurd cc) tt))
      (subst (λ (ds : List DueFill). AllApart (pages_due ds)) ended
      (copies_apart (Stack child) (Stack s.sid) (stack_one child) 0 s.stack [] (λ w. tt) tt))

-- What the child's entries and the fills show.

idle_child : (f : ℕ) (away changed : Bool) (x : Slot) → child_slot_by x (idle_state f away changed) ≡ unfilled Zeros
idle_child f false changed x = refl
idle_child f true false x = refl
idle_child f true true x = refl

entry_forked : (slots : List Token) (x : Place) → child_slot (slot_shown slots x) ≡ slot_shown slots (forked x)
entry_forked slots (places.Frame f false changed) =
    idle_child f (is_away (slot_at slots f)) changed (slot_shown slots (places.Frame f false changed))
entry_forked slots _ = refl

pub entries_forked : (slots : List Token) (xs : List Place) → map (slot_shown slots) (map forked xs) ≡ map child_slot (map (slot_shown slots) xs)
entries_forked slots [] = refl
entries_forked slots (x ∷ xs) =
    ap (λ (y : Slot). y ∷ map (slot_shown slots) (map forked xs)) (sym (entry_forked slots x))
    ∙ ap (λ (ys : List Slot). child_slot (slot_shown slots x) ∷ ys) (entries_forked slots xs)

idle_due : (f : ℕ) (away changed : Bool) (child parent : Page) → copy_due child parent (idle_state f away changed) ≡ CopyOf child parent ∷ []
idle_due f false changed child parent = refl
idle_due f true false child parent = refl
idle_due f true true child parent = refl

fill_shown : (slots : List Token) (child parent : Page) (x : Place) → map due_shown (copy_fill child parent x) ≡ copy_due child parent (state_shown slots x)
fill_shown slots child parent (places.Frame f false changed) = sym (idle_due f (is_away (slot_at slots f)) changed child parent)
fill_shown slots child parent _ = refl

fills_shown : (slots : List Token) (child parent : ℕ → Page) (v : ℕ) (xs : List Place)
    → map due_shown (copy_fills child parent v xs) ≡ copies_from child parent v (map (slot_shown slots) xs)
fills_shown slots child parent v [] = refl
fills_shown slots child parent v (x ∷ xs) =
    map-append due_shown (copy_fill (child v) (parent v) x) (copy_fills child parent (v + 1) xs)
    ∙ ap (λ (ds : List Due). ds ++ map due_shown (copy_fills child parent (v + 1) xs)) (fill_shown slots (child v) (parent v) x)
    ∙ ap (λ (ds : List Due). copy_due (child v) (parent v) (state_shown slots x) ++ ds) (fills_shown slots child parent (v + 1) xs)

pub fork_due : (slots : List Token) (child : ℕ) (s : Places) → map due_shown (space_fills child s)
    ≡ copies_from (Data child) (Data s.sid) 0 (map (slot_shown slots) s.data) ++ copies_from (Stack child) (Stack s.sid) 0 (map (slot_shown slots) s.stack)
fork_due slots child s =
    map-append due_shown (copy_fills (Data child) (Data s.sid) 0 s.data) (copy_fills (Stack child) (Stack s.sid) 0 s.stack)
    ∙ ap (λ (ds : List Due). ds ++ map due_shown (copy_fills (Stack child) (Stack s.sid) 0 s.stack)) (fills_shown slots (Data child) (Data s.sid) 0 s.data)
    ∙ ap (λ (ds : List Due). copies_from (Data child) (Data s.sid) 0 (map (slot_shown slots) s.data) ++ ds)
    (fills_shown slots (Stack child) (Stack s.sid) 0 s.stack)
