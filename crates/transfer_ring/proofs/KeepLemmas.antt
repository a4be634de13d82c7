-- Lemmas on the slots of the ring.
use Rattle.std.proofs.Common.{zero, suc, Bool, true, false, ◌||◌, ◌≡◌, ℕ, ◌+◌, ◌<◌, ◌≤◌, List, [], ◌∷◌, ◌++◌, Option, Some, None, length, refl, ap, ap₂, ◌∙◌, sym, subst, inl, inr, arith, set, drop, ◌-◌, slice_get, get_or-set_same, get_or-set_other, length-set}
use Rattle.std.proofs.lemmas.Bool.{cases_eq, cases_lt, false≢true, or_left}
use Rattle.std.proofs.lemmas.List.Folds.{list_any-append}
use Rattle.std.specs.List.{list_any}
use Rattle.std.proofs.lemmas.Option.{none-some, same_Some}
use Rattle.circular_buffer.specs.Buffer.{Buffer, buffer, keep_last}
use Rattle.std.proofs.lemmas.Bool.Decides.{nat_tests}
use Rattle.std.proofs.lemmas.List.{get_or_past, get_or_push, get_or_append_left, length_push}
use Rattle.transfer_ring.specs.declared.transfer.Transfer.{Transfer}
use Rattle.transfer_ring.specs.Counting.{IsFlight}
use Rattle.transfer_ring.specs.Slots.{slot_at, put_first, in_flight, listings, IsSoundSlot, IsKept}
use Rattle.vm_facts.proofs.Lists.{times-append, times_head, times_other}
use Rattle.vm_facts.specs.Lists.{times}

pub times_push_same : (n : ℕ) (xs : List ℕ) → times n (xs ++ n ∷ []) ≡ times n xs + 1
times_push_same n xs = omega (arith, times-append n xs (n ∷ []), times_head n [])

pub times_push_other : (n x : ℕ) (xs : List ℕ) → (x ≡ n → ⊥) → times n (xs ++ x ∷ []) ≡ times n xs
times_push_other n x xs ne = omega (arith, times-append n xs (x ∷ []), times_other n x [] ne)

-- a slot that isn't in the order may change
pub unlisted : (slots : List (Option Transfer)) (slot : ℕ) (held : Option Transfer) (order : List ℕ) → times slot order ≡ 0
    → in_flight (set slots slot held) order ≡ in_flight slots order
unlisted slots slot held [] h = refl
unlisted slots slot held (x ∷ rest) h = elim (cases_eq x slot) [
  | inl e ↦ absurd (grind (arith, nat_tests))
  | inr ne ↦
      let rest_none : times slot rest ≡ 0 = omega (arith, times_other slot x rest ne) in
      ap₂ put_first (get_or-set_other slots slot x held None ne) (unlisted slots slot held rest rest_none)
]

put_first-append : (held : Option Transfer) (xs ys : List Transfer) → put_first held (xs ++ ys) ≡ put_first held xs ++ ys
put_first-append None xs ys = refl
put_first-append (Some transfer) xs ys = refl

pub in_flight-append : (slots : List (Option Transfer)) (xs ys : List ℕ) → in_flight slots (xs ++ ys) ≡ in_flight slots xs ++ in_flight slots ys
in_flight-append slots [] ys = refl
in_flight-append slots (x ∷ xs) ys = ap (put_first (slot_at slots x)) (in_flight-append slots xs ys) ∙ put_first-append (slot_at slots x) (in_flight slots xs) (in_flight slots ys)

-- a transfer that is put into a slot outside the order, behind the others
pub put_behind : (slots : List (Option Transfer)) (slot : ℕ) (t : Transfer) (order : List ℕ) → slot < length slots → times slot order ≡ 0
    → in_flight (set slots slot (Some t)) (order ++ slot ∷ []) ≡ in_flight slots order ++ t ∷ []
put_behind slots slot t order low none =
    in_flight-append (set slots slot (Some t)) order (slot ∷ [])
    ∙ ap₂ ◌++◌ (unlisted slots slot (Some t) order none) (ap (λ (held : Option Transfer). put_first held []) (get_or-set_same slots slot (Some t) None low))

length-put_first : (held : Option Transfer) (xs : List Transfer) → 0 < listings held → length (put_first held xs) ≡ length xs + 1
length-put_first None xs h = absurd (omega arith)
length-put_first (Some t) xs h = omega arith

pub length-in_flight : (slots : List (Option Transfer)) (order : List ℕ) → ((slot : ℕ) → 0 < times slot order → 0 < listings (slot_at slots slot))
    → length (in_flight slots order) ≡ length order
length-in_flight slots [] used = refl
length-in_flight slots (x ∷ rest) used =
    let first = length-put_first (slot_at slots x) (in_flight slots rest) (used x (omega (arith, times_head x rest))) in
    let more = length-in_flight slots rest (λ slot h. used slot (grind (arith, nat_tests))) in
    omega (arith, first, more)

pub kept_used : (slots : List (Option Transfer)) (order spare : List ℕ) → IsKept slots order spare → (slot : ℕ) → 0 < times slot order
    → 0 < listings (slot_at slots slot)
kept_used slots order spare k slot h = omega (arith, k.listed slot)

pub kept_length : (slots : List (Option Transfer)) (order spare : List ℕ) → IsKept slots order spare → length (in_flight slots order) ≡ length order
kept_length slots order spare k = length-in_flight slots order (kept_used slots order spare k)

pub is_none : (held : Option Transfer) → listings held ≡ 0 → held ≡ None
is_none None h = refl
is_none (Some t) h = absurd (omega arith)

-- what is known of a slot that is about to be used
pub record IsSpare (slots : List (Option Transfer)) (order : List ℕ) (slot : ℕ) : Type 0 where
  pub below : slot < length slots
  pub unlisted : times slot order ≡ 0
  pub empty : slot_at slots slot ≡ None

pub is_spare : (slots : List (Option Transfer)) (order spare : List ℕ) (slot : ℕ) → IsKept slots order (spare ++ slot ∷ []) → IsSpare slots order slot
is_spare slots order spare slot k =
    let more = times_push_same slot spare in
    let low : slot < 16 = elim (cases_lt slot 16) [
      | inl h ↦ h
      | inr h ↦ absurd (omega (arith, more, k.beyond slot (omega arith)))
    ] in
    let none : times slot order ≡ 0 = omega (arith, more, k.once slot low) in
    record {
      below = omega (arith, k.all);
      unlisted = none;
      empty = is_none (slot_at slots slot) (omega (arith, k.listed slot));
    }

pub kept_begin : (slots : List (Option Transfer)) (order spare : List ℕ) (slot : ℕ) (t : Transfer) → IsFlight t
    → IsKept slots order (spare ++ slot ∷ []) → IsKept (set slots slot (Some t)) (order ++ slot ∷ []) spare
kept_begin slots order spare slot t flight k =
    let free = is_spare slots order spare slot k in
    let there = get_or-set_same slots slot (Some t) None free.below in
    record {
      all = length-set slots slot (Some t) ∙ k.all;
      count = omega (arith, k.count, length_push order slot, length_push spare slot);
      listed = λ s. elim (cases_eq s slot) [
        | inl e ↦ subst (λ (n : ℕ). times n (order ++ slot ∷ []) ≡ listings (slot_at (set slots slot (Some t)) n)) (sym e)
            (times_push_same slot order ∙ ap (λ (n : ℕ). n + 1) free.unlisted ∙ sym (ap listings there))
        | inr ne ↦ times_push_other s slot order (λ e. ne (sym e)) ∙ k.listed s ∙ sym (ap listings (get_or-set_other slots slot s (Some t) None ne))
      ];
      once = λ s low. elim (cases_eq s slot) [
        | inl e ↦ subst (λ (n : ℕ). times n (order ++ slot ∷ []) + times n spare ≡ 1) (sym e)
            (omega (arith, times_push_same slot order, times_push_same slot spare, k.once slot (subst (λ (n : ℕ). n < 16) e low)))
        | inr ne ↦ omega (arith, times_push_other s slot order (λ e. ne (sym e)), times_push_other s slot spare (λ e. ne (sym e)), k.once s low)
      ];
      beyond = λ s high. omega (arith, times-append s spare (slot ∷ []), k.beyond s high);
      sound = λ s. elim (cases_eq s slot) [
        | inl e ↦ subst (λ (n : ℕ). IsSoundSlot (slot_at (set slots slot (Some t)) n)) (sym e) (subst IsSoundSlot (sym there) flight)
        | inr ne ↦ subst IsSoundSlot (sym (get_or-set_other slots slot s (Some t) None ne)) (k.sound s)
      ];
    }

-- what is known of the slot of the oldest transfer
pub record IsOldest (slots : List (Option Transfer)) (rest : List ℕ) (slot : ℕ) : Type 0 where
  pub below : slot < length slots
  pub low : slot < 16
  pub unlisted : times slot rest ≡ 0
  pub used : 0 < listings (slot_at slots slot)

listings_one : (held : Option Transfer) → listings held ≤ 1
listings_one None = omega arith
listings_one (Some t) = omega arith

pub is_oldest : (slots : List (Option Transfer)) (rest spare : List ℕ) (slot : ℕ) → IsKept slots (slot ∷ rest) spare → IsOldest slots rest slot
is_oldest slots rest spare slot k =
    let head = times_head slot rest in
    let used : 0 < listings (slot_at slots slot) = omega (arith, head, k.listed slot) in
    let low : slot < length slots = elim (cases_lt slot (length slots)) [
      | inl h ↦ h
      | inr h ↦ absurd (omega (arith, used, ap listings (get_or_past slots slot None (omega arith))))
    ] in
    record {
      below = low;
      low = omega (arith, k.all);
      unlisted = omega (arith, head, k.listed slot, listings_one (slot_at slots slot));
      used = used;
    }

pub kept_abandon : (slots : List (Option Transfer)) (rest spare : List ℕ) (slot : ℕ) → IsKept slots (slot ∷ rest) spare
    → IsKept (set slots slot None) rest (spare ++ slot ∷ [])
kept_abandon slots rest spare slot k =
    let old = is_oldest slots rest spare slot k in
    let there = get_or-set_same slots slot None None old.below in
    record {
      all = length-set slots slot None ∙ k.all;
      count = omega (arith, k.count, length_push spare slot);
      listed = λ s. elim (cases_eq s slot) [
        | inl e ↦ subst (λ (n : ℕ). times n rest ≡ listings (slot_at (set slots slot None) n)) (sym e) (old.unlisted ∙ sym (ap listings there))
        | inr ne ↦ sym (times_other s slot rest (λ e. ne (sym e))) ∙ k.listed s ∙ sym (ap listings (get_or-set_other slots slot s None None ne))
      ];
      once = λ s low. elim (cases_eq s slot) [
        | inl e ↦ subst (λ (n : ℕ). times n rest + times n (spare ++ slot ∷ []) ≡ 1) (sym e)
            (omega (arith, old.unlisted, times_push_same slot spare, times_head slot rest, k.once slot old.low))
        | inr ne ↦ omega (arith, times_other s slot rest (λ e. ne (sym e)), times_push_other s slot spare (λ e. ne (sym e)), k.once s low)
      ];
      beyond = λ s high. omega (arith, times_push_other s slot spare (λ e. absurd (omega (arith, e, old.low))), k.beyond s high);
      sound = λ s. elim (cases_eq s slot) [
        | inl e ↦ subst (λ (n : ℕ). IsSoundSlot (slot_at (set slots slot None) n)) (sym e) (subst IsSoundSlot (sym there) tt)
        | inr ne ↦ subst IsSoundSlot (sym (get_or-set_other slots slot s None None ne)) (k.sound s)
      ];
    }

-- the transfers in some slots and then in others
pub list_any-in_flight : (test : Transfer → Bool) (slots : List (Option Transfer)) (xs ys order : List ℕ) → xs ++ ys ≡ order
    → list_any test (in_flight slots order) ≡ (list_any test (in_flight slots xs) || list_any test (in_flight slots ys))
list_any-in_flight test slots xs ys order e =
    ap (λ (all : List ℕ). list_any test (in_flight slots all)) (sym e)
    ∙ ap (list_any test) (in_flight-append slots xs ys)
    ∙ list_any-append test (in_flight slots xs) (in_flight slots ys)

-- so many empty slots, all spare
pub record IsFresh (n : ℕ) (slots : List (Option Transfer)) (spare : List ℕ) : Type 0 where
  pub slots_count : length slots ≡ n
  pub spare_count : length spare ≡ n
  pub empty : (slot : ℕ) → slot_at slots slot ≡ None
  pub once : (slot : ℕ) → slot < n → times slot spare ≡ 1
  pub beyond : (slot : ℕ) → n ≤ slot → times slot spare ≡ 0

empty_push : (slots : List (Option Transfer)) (slot : ℕ) → slot_at slots slot ≡ None → slot_at (slots ++ None ∷ []) slot ≡ None
empty_push slots slot e = elim (cases_lt slot (length slots)) [
  | inl low ↦ get_or_append_left slots (None ∷ []) None slot low ∙ e
  | inr high ↦ elim (cases_eq slot (length slots)) [
    | inl same ↦ get_or_push slots None None slot (sym same)
    | inr ne ↦ let none : Option Transfer = None in get_or_past (slots ++ none ∷ []) slot None (omega (arith, length_push slots none, high, ne))
  ]
]

pub fresh_more : (n : ℕ) (slots slots' : List (Option Transfer)) (spare spare' : List ℕ) → IsFresh n slots spare → slots' ≡ slots ++ None ∷ []
    → spare' ≡ spare ++ n ∷ [] → IsFresh (n + 1) slots' spare'
fresh_more n slots slots' spare spare' f more_slots more_spare = record {
  slots_count = ap (λ (l : List (Option Transfer)). length l) more_slots ∙ length_push slots None ∙ ap (λ (k : ℕ). k + 1) f.slots_count;
  spare_count = ap (λ (l : List ℕ). length l) more_spare ∙ length_push spare n ∙ ap (λ (k : ℕ). k + 1) f.spare_count;
  empty = λ slot. subst (λ (l : List (Option Transfer)). slot_at l slot ≡ None) (sym more_slots) (empty_push slots slot (f.empty slot));
  once = λ slot low. subst (λ (l : List ℕ). times slot l ≡ 1) (sym more_spare) (elim (cases_eq slot n) [
    | inl e ↦ subst (λ (k : ℕ). times k (spare ++ n ∷ []) ≡ 1) (sym e) (omega (arith, times_push_same n spare, f.beyond n (omega arith)))
    | inr ne ↦ omega (arith, times_push_other slot n spare (λ e. ne (sym e)), f.once slot (omega (arith, ne, low)))
  ]);
  beyond = λ slot high. subst (λ (l : List ℕ). times slot l ≡ 0) (sym more_spare)
      (omega (arith, times_push_other slot n spare (λ e. absurd (omega (arith, e, high))), f.beyond slot (omega (arith, high))));
}

pub no_items : (xs : List ℕ) → length xs ≡ 0 → xs ≡ []
no_items [] h = refl
no_items (x ∷ xs) h = absurd (omega (arith, h))

-- a ring that shows no transfer has empty slots alone
pub closed_order : (slots : List (Option Transfer)) (order spare : List ℕ) → IsKept slots order spare → in_flight slots order ≡ [] → order ≡ []
closed_order slots order spare k none = no_items order (sym (kept_length slots order spare k) ∙ ap (λ (l : List Transfer). length l) none)

pub closed_slots : (slots : List (Option Transfer)) (order spare : List ℕ) → IsKept slots order spare → in_flight slots order ≡ [] → (slot : ℕ)
    → slot_at slots slot ≡ None
closed_slots slots order spare k none slot =
    is_none (slot_at slots slot) (sym (k.listed slot) ∙ ap (λ (l : List ℕ). times slot l) (closed_order slots order spare k none))

drop_none : (xs : List ℕ) (n : ℕ) → n ≡ 0 → drop n xs ≡ xs
drop_none xs n e = ap (λ (k : ℕ). drop k xs) e

-- the order after one more slot, where there is room
pub pushed_items : (old new : Buffer ℕ) (slot : ℕ) → old.capacity ≡ 16 → length old.items < 16
    → new ≡ buffer (keep_last old.capacity (old.items ++ slot ∷ [])) old.capacity → new.items ≡ old.items ++ slot ∷ []
pushed_items old new slot room low e =
    ap (λ (b : Buffer ℕ). b.items) e ∙ drop_none (old.items ++ slot ∷ []) (length (old.items ++ slot ∷ []) - old.capacity) (omega (arith, length_push old.items slot, room, low))

pub order_room : (slots : List (Option Transfer)) (order spare rest : List ℕ) (slot : ℕ) → IsKept slots order spare → spare ≡ rest ++ slot ∷ []
    → length order < 16
order_room slots order spare rest slot k e = omega (arith, k.count, ap (λ (l : List ℕ). length l) e, length_push rest slot)

pub begin_spare : (slots : List (Option Transfer)) (order spare rest : List ℕ) (slot : ℕ) → IsKept slots order spare → spare ≡ rest ++ slot ∷ []
    → IsSpare slots order slot
begin_spare slots order spare rest slot k e = is_spare slots order rest slot (subst (λ (l : List ℕ). IsKept slots order l) e k)

pub begin_kept : (slots slots' : List (Option Transfer)) (order order' spare rest : List ℕ) (slot : ℕ) (t : Transfer) → IsFlight t
    → IsKept slots order spare → spare ≡ rest ++ slot ∷ []
    → slots' ≡ set slots slot (Some t) → order' ≡ order ++ slot ∷ [] → IsKept slots' order' rest
begin_kept slots slots' order order' spare rest slot t flight k e now now_order =
    subst (λ (l : List (Option Transfer)). IsKept l order' rest) (sym now)
    (subst (λ (l : List ℕ). IsKept (set slots slot (Some t)) l rest) (sym now_order) (kept_begin slots order rest slot t flight (subst (λ (l : List ℕ). IsKept slots order l) e k)))

pub begin_view : (slots slots' : List (Option Transfer)) (order order' spare rest : List ℕ) (slot : ℕ) (t : Transfer) → IsKept slots order spare
    → spare ≡ rest ++ slot ∷ []
    → slots' ≡ set slots slot (Some t) → order' ≡ order ++ slot ∷ [] → in_flight slots' order' ≡ in_flight slots order ++ t ∷ []
begin_view slots slots' order order' spare rest slot t k e now now_order =
    let free = begin_spare slots order spare rest slot k e in
    ap₂ in_flight now now_order ∙ put_behind slots slot t order free.below free.unlisted

-- a list by its first item
pub head_of : (xs : List ℕ) (x : ℕ) → Some x ≡ slice_get xs 0 → xs ≡ x ∷ drop 1 xs
head_of [] x e = absurd (none-some x (sym e))
head_of (y ∷ ys) x e = ap (λ (n : ℕ). n ∷ ys) (sym (same_Some x y e))

pub abandon_kept : (slots slots' : List (Option Transfer)) (order order' spare spare' : List ℕ) (slot : ℕ) → IsKept slots order spare
    → order ≡ slot ∷ order' → slots' ≡ set slots slot None
    → spare' ≡ spare ++ slot ∷ [] → IsKept slots' order' spare'
abandon_kept slots slots' order order' spare spare' slot k e now now_spare =
    subst (λ (l : List (Option Transfer)). IsKept l order' spare') (sym now)
    (subst (λ (l : List ℕ). IsKept (set slots slot None) order' l) (sym now_spare) (kept_abandon slots order' spare slot (subst (λ (l : List ℕ). IsKept slots l spare) e k)))

pub abandon_view : (slots slots' : List (Option Transfer)) (order order' spare : List ℕ) (slot : ℕ) (t : Transfer) → IsKept slots order spare
    → order ≡ slot ∷ order' → slots' ≡ set slots slot None
    → slot_at slots slot ≡ Some t → in_flight slots' order' ≡ drop 1 (in_flight slots order)
abandon_view slots slots' order order' spare slot t k e now was =
    let old = is_oldest slots order' spare slot (subst (λ (l : List ℕ). IsKept slots l spare) e k) in
    ap (λ (l : List (Option Transfer)). in_flight l order') now
    ∙ unlisted slots slot None order' old.unlisted
    ∙ sym (ap (λ (l : List ℕ). drop 1 (in_flight slots l)) e ∙ ap (λ (held : Option Transfer). drop 1 (put_first held (in_flight slots order'))) was)

either_false : (a b : Bool) → a ≡ false → (a || b) ≡ b
either_false true b e = absurd (false≢true (sym e))
either_false false b e = refl

-- what the first of two parts settles, and what the second does where the first doesn't
pub first_part : (test : Transfer → Bool) (slots : List (Option Transfer)) (xs ys order : List ℕ) → xs ++ ys ≡ order
    → list_any test (in_flight slots xs) ≡ true → list_any test (in_flight slots order) ≡ true
first_part test slots xs ys order e hit = list_any-in_flight test slots xs ys order e ∙ or_left (list_any test (in_flight slots xs)) (list_any test (in_flight slots ys)) hit

pub second_part : (test : Transfer → Bool) (slots : List (Option Transfer)) (xs ys order : List ℕ) → xs ++ ys ≡ order
    → list_any test (in_flight slots xs) ≡ false → list_any test (in_flight slots order) ≡ list_any test (in_flight slots ys)
second_part test slots xs ys order e miss = list_any-in_flight test slots xs ys order e ∙ either_false (list_any test (in_flight slots xs)) (list_any test (in_flight slots ys)) miss

get-put_first_zero : (held : Option Transfer) (xs : List Transfer) → 0 < listings held → slice_get (put_first held xs) 0 ≡ held
get-put_first_zero None xs h = absurd (omega arith)
get-put_first_zero (Some t) xs h = refl

get-put_first_suc : (held : Option Transfer) (xs : List Transfer) (n : ℕ) → 0 < listings held → slice_get (put_first held xs) (suc n) ≡ slice_get xs n
get-put_first_suc None xs n h = absurd (omega arith)
get-put_first_suc (Some t) xs n h = refl

-- where each slot of the order is used, the transfer at a place stands in the slot at that place
pub get-in_flight : (slots : List (Option Transfer)) (order : List ℕ) (place slot : ℕ)
    → ((slot : ℕ) → 0 < times slot order → 0 < listings (slot_at slots slot)) → slice_get order place ≡ Some slot
    → slice_get (in_flight slots order) place ≡ slot_at slots slot
get-in_flight slots [] place slot used is = absurd (none-some slot is)
get-in_flight slots (x ∷ rest) zero slot used is =
    get-put_first_zero (slot_at slots x) (in_flight slots rest) (used x (omega (arith, times_head x rest)))
    ∙ ap (slot_at slots) (same_Some x slot is)
get-in_flight slots (x ∷ rest) (suc n) slot used is =
    get-put_first_suc (slot_at slots x) (in_flight slots rest) n (used x (omega (arith, times_head x rest)))
    ∙ get-in_flight slots rest n slot (λ s h. used s (grind (arith, nat_tests))) is

-- and past the order's end there is none
pub get-in_flight_past : (slots : List (Option Transfer)) (order : List ℕ) (place : ℕ)
    → ((slot : ℕ) → 0 < times slot order → 0 < listings (slot_at slots slot)) → slice_get order place ≡ None
    → slice_get (in_flight slots order) place ≡ None
get-in_flight_past slots [] place used is = refl
get-in_flight_past slots (x ∷ rest) zero used is = absurd (none-some x (sym is))
get-in_flight_past slots (x ∷ rest) (suc n) used is =
    get-put_first_suc (slot_at slots x) (in_flight slots rest) n (used x (omega (arith, times_head x rest)))
    ∙ get-in_flight_past slots rest n (λ s h. used s (grind (arith, nat_tests))) is
