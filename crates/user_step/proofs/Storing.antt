-- A byte goes to its slot.
use Rattle.std.proofs.Common.{◌≡◌, ℕ, zero, suc, ◌<◌, ◌==◌, ◌||◌, Bool, true, false, cond, List, [], ◌∷◌, ◌++◌, length, map, take, drop, set, get_or, Option, Some, refl, sym, ap, ◌∙◌, arith}
use Rattle.std.proofs.lemmas.Bool.Decides.{nat_tests}
use Rattle.vm_facts.specs.Answers.{Answers, ByteWrite, read_by, put_byte}
use Rattle.vm_facts.specs.declared.memory.MayWrite.{MayWrite}
use Rattle.vm_facts.specs.declared.memory.MayWrite.TheVariants as tests
use Rattle.user_step.specs.declared.slots.Slot.{Slot}
use Rattle.user_step.specs.Slots.{has_slot, byte_in, stored_by, stored, read_over, may_where, over, WroteSlots}

-- A loop that changes each item in turn.

pub changed_at : {A : Type 0} (f : A → A) (xs : List A) (i : ℕ) (d : A) → i < length xs
    → set (map f (take i xs) ++ drop i xs) i (f (get_or xs i d)) ≡ map f (take (suc i) xs) ++ drop (suc i) xs
changed_at f [] i d l = absurd (omega arith)
changed_at f (x ∷ xs) zero d l = refl
changed_at f (x ∷ xs) (suc i) d l = ap (λ zs. f x ∷ zs) (changed_at f xs i d (omega arith))

pub still_at : {A : Type 0} (f : A → A) (xs : List A) (i : ℕ) (d : A) → get_or (map f (take i xs) ++ drop i xs) i d ≡ get_or xs i d
still_at f [] zero d = refl
still_at f [] (suc i) d = refl
still_at f (x ∷ xs) zero d = refl
still_at f (x ∷ xs) (suc i) d = still_at f xs i d

-- What is read then.

same_byte : (slots : List Slot) (w : ByteWrite) → has_slot slots w.address ≡ true → byte_in (map (stored w) slots) w.address ≡ Some w.byte
same_byte [] w h = absurd cc
same_byte (slot ∷ slots) w h = go (λ k. same_byte slots w k) (slot.address == w.address) refl h
  where
    go : (has_slot slots w.address ≡ true → byte_in (map (stored w) slots) w.address ≡ Some w.byte) → (b : Bool) → (slot.address == w.address) ≡ b → (b || has_slot slots w.address) ≡ true
        → cond ((stored_by b w slot).address == w.address) (stored_by b w slot).byte (byte_in (map (stored w) slots) w.address) ≡ Some w.byte
    go later true e k = ap (λ (c : Bool). cond c (Some w.byte) (byte_in (map (stored w) slots) w.address)) e
    go later false e k = ap (λ (c : Bool). cond c slot.byte (byte_in (map (stored w) slots) w.address)) e ∙ later k

other_byte : (slots : List Slot) (w : ByteWrite) (x : ℕ) → (x == w.address) ≡ false → byte_in (map (stored w) slots) x ≡ byte_in slots x
other_byte [] w x h = refl
other_byte (slot ∷ slots) w x h = go (other_byte slots w x h) (slot.address == w.address) refl
  where
    go : byte_in (map (stored w) slots) x ≡ byte_in slots x → (b : Bool) → (slot.address == w.address) ≡ b
        → cond ((stored_by b w slot).address == x) (stored_by b w slot).byte (byte_in (map (stored w) slots) x) ≡ cond (slot.address == x) slot.byte (byte_in slots x)
    go later true e =
        let off : (slot.address == x) ≡ false = grind (arith, nat_tests) in
        ap (λ (c : Bool). cond c (Some w.byte) (byte_in (map (stored w) slots) x)) off ∙ later ∙ sym (ap (λ (c : Bool). cond c slot.byte (byte_in slots x)) off)
    go later false e = ap (λ (o : Option ℕ). cond (slot.address == x) slot.byte o) later

kept_slot : (slots : List Slot) (w : ByteWrite) (x : ℕ) → has_slot (map (stored w) slots) x ≡ has_slot slots x
kept_slot [] w x = refl
kept_slot (slot ∷ slots) w x = go (slot.address == w.address) (kept_slot slots w x)
  where
    go : (b : Bool) → has_slot (map (stored w) slots) x ≡ has_slot slots x → ((stored_by b w slot).address == x || has_slot (map (stored w) slots) x) ≡ (slot.address == x || has_slot slots x)
    go true later = ap (λ (c : Bool). slot.address == x || c) later
    go false later = ap (λ (c : Bool). slot.address == x || c) later

pub may_slot : (b : Bool) (answer : MayWrite) → may_where b answer ≡ tests.May → b ≡ true
may_slot true answer e = refl
may_slot false tests.May e = absurd cc
may_slot false tests.Miss e = absurd cc
may_slot false tests.Below e = absurd cc
may_slot false tests.Text e = absurd cc
may_slot false tests.Outside e = absurd cc

over_put : (memory : Answers) (slots : List Slot) (w : ByteWrite) → has_slot slots w.address ≡ true
    → over memory (map (stored w) slots) ≡ put_byte (over memory slots) w
over_put memory slots w there = λ i. record {
  read = λ x. read_put x (x == w.address) refl i;
  may_write = λ x. may_where (kept_slot slots w x i) (memory.may_write x);
}
  where
    read_put : (x : ℕ) (b : Bool) → (x == w.address) ≡ b → read_over (byte_in (map (stored w) slots) x) (memory.read x) ≡ read_by b w.byte (read_over (byte_in slots x) (memory.read x))
    read_put x true e =
        let same : x ≡ w.address = grind (arith, nat_tests) in
        ap (λ (y : ℕ). read_over (byte_in (map (stored w) slots) y) (memory.read x)) same ∙ ap (λ (o : Option ℕ). read_over o (memory.read x)) (same_byte slots w there)
    read_put x false e = ap (λ (o : Option ℕ). read_over o (memory.read x)) (other_byte slots w x e)

pub wrote_slot : (memory : Answers) (slots after : List Slot) (w : ByteWrite) → after ≡ map (stored w) slots
    → (over memory slots).may_write w.address ≡ tests.May
    → WroteSlots memory slots (w ∷ []) memory after
wrote_slot memory slots after w e may = record {
  same = refl;
  kept = e;
  answers = ap (over memory) e ∙ over_put memory slots w (may_slot (has_slot slots w.address) (memory.may_write w.address) may);
}
