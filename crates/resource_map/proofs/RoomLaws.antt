-- The lowest place for a number of blocks: what is found, and when nothing is.
use Rattle.std.proofs.Common.{◌≡◌, ℕ, zero, suc, ◌+◌, ◌-◌, ◌/◌, ◌<◌, ◌≤◌, Bool, true, false, ◌&&◌, nat_le, Option, Some, None, refl, sym, ap, ap₂, ◌∙◌, arith, inl, inr}
use Rattle.std.specs.Prelude.{◌==◌}
use Rattle.std.proofs.lemmas.Bool.{cases_eq, cases_lt, le-leb, leb-true, eq-eqb, eqb-true, and_from, and_parts, false≢true, false_from_ne_true}
use Rattle.resource_map.specs.Room.{all_pass, has_room, or_this, lowest, lowest_room}

-- ---- the lowest number that passes

pub lowest_none : (passes : ℕ → Bool) (n : ℕ) → ((t : ℕ) → t < n → passes t ≡ false) → lowest passes n ≡ None
unfolding lowest
lowest_none passes zero none = refl
lowest_none passes (suc n) none =
    ap₂ (λ (o : Option ℕ) (b : Bool). or_this o n b) (lowest_none passes n (λ t h. none t (omega arith))) (none n (omega arith))

pub lowest_is : (passes : ℕ → Bool) (n s : ℕ) → s < n → passes s ≡ true → ((t : ℕ) → t < s → passes t ≡ false) → lowest passes n ≡ Some s
unfolding lowest
lowest_is passes zero s lt holds none = absurd (omega arith)
lowest_is passes (suc n) s lt holds none = elim (cases_eq s n) [
  | inl last ↦
      ap₂ (λ (o : Option ℕ) (b : Bool). or_this o n b)
      (lowest_none passes n (λ t h. none t (omega arith)))
      (ap passes (sym last) ∙ holds) ∙
      ap (λ (k : ℕ). Some k) (sym last)
  | inr before ↦ ap (λ (o : Option ℕ). or_this o n (passes n)) (lowest_is passes n s (omega arith) holds none)
]

-- what the answer says of the numbers below the bound
abbrev pub IsLowest : (ℕ → Bool) → ℕ → Option ℕ → Type 0
IsLowest passes n None = (t : ℕ) → t < n → passes t ≡ false
IsLowest passes n (Some s) = (s < n) × (passes s ≡ true) × ((t : ℕ) → t < s → passes t ≡ false)

lowest_step : (passes : ℕ → Bool) (n : ℕ) (o : Option ℕ) (b : Bool) → passes n ≡ b → IsLowest passes n o → IsLowest passes (suc n) (or_this o n b)
lowest_step passes n (Some s) b e found = (omega arith, found.1, found.2)
lowest_step passes n None true e none = (omega arith, e, none)
lowest_step passes n None false e none =
    λ t h. elim (cases_eq t n) [ inl last ↦ ap passes last ∙ e | inr before ↦ none t (omega arith) ]

pub lowest_gives : (passes : ℕ → Bool) (n : ℕ) → IsLowest passes n (lowest passes n)
unfolding lowest
lowest_gives passes zero = λ t h. absurd (omega arith)
lowest_gives passes (suc n) = lowest_step passes n (lowest passes n) (passes n) refl (lowest_gives passes n)

pub lowest_same : (p q : ℕ → Bool) (n : ℕ) → ((t : ℕ) → t < n → p t ≡ q t) → lowest p n ≡ lowest q n
unfolding lowest
lowest_same p q zero same = refl
lowest_same p q (suc n) same =
    ap₂ (λ (o : Option ℕ) (b : Bool). or_this o n b) (lowest_same p q n (λ t h. same t (omega arith))) (same n (omega arith))

-- ---- room

pub all_pass_from : (passes : ℕ → Bool) (start n : ℕ) → ((b : ℕ) → start ≤ b → b < start + n → passes b ≡ true) → all_pass passes start n ≡ true
unfolding all_pass
all_pass_from passes start zero each = refl
all_pass_from passes start (suc n) each =
    and_from (passes start) (all_pass passes (suc start) n) (each start (omega arith) (omega arith))
    (all_pass_from passes (suc start) n (λ b low high. each b (omega arith) (omega arith)))

pub all_pass_at : (passes : ℕ → Bool) (start n b : ℕ) → all_pass passes start n ≡ true → start ≤ b → b < start + n → passes b ≡ true
unfolding all_pass
all_pass_at passes start zero b all low high = absurd (omega arith)
all_pass_at passes start (suc n) b all low high =
    let parts = and_parts (passes start) (all_pass passes (suc start) n) all in
    elim (cases_eq b start) [
      | inl first ↦ ap passes first ∙ parts.0
      | inr later ↦ all_pass_at passes (suc start) n b parts.1 (omega arith) (omega arith)
    ]

-- there is room for n blocks at a start
pub record HasRoom (passes : ℕ → Bool) (size n start : ℕ) : Type 0 where
  pub within : start + n ≤ size
  pub one_unit : start / 1024 ≡ (start + n - 1) / 1024
  pub free : (b : ℕ) → start ≤ b → b < start + n → passes b ≡ true

pub has_room_from : (free : ℕ → Bool) (size n start : ℕ) → HasRoom free size n start → has_room free size n start ≡ true
unfolding has_room
has_room_from free size n start room =
    and_from (nat_le (start + n) size) ((start / 1024 == (start + n - 1) / 1024) && all_pass free start n)
    (le-leb (start + n) size room.within)
    (and_from (start / 1024 == (start + n - 1) / 1024) (all_pass free start n)
    (eq-eqb (start / 1024) ((start + n - 1) / 1024) room.one_unit)
    (all_pass_from free start n room.free))

pub has_room_gives : (free : ℕ → Bool) (size n start : ℕ) → has_room free size n start ≡ true → HasRoom free size n start
unfolding has_room
has_room_gives free size n start e =
    let parts = and_parts (nat_le (start + n) size) ((start / 1024 == (start + n - 1) / 1024) && all_pass free start n) e in
    let rest = and_parts (start / 1024 == (start + n - 1) / 1024) (all_pass free start n) parts.1 in
    record {
      within = leb-true (start + n) size parts.0;
      one_unit = eqb-true (start / 1024) ((start + n - 1) / 1024) rest.0;
      free = λ b low high. all_pass_at free start n b rest.1 low high;
    }

pub lowest_room_is : (free : ℕ → Bool) (size n s : ℕ) → 0 < n → HasRoom free size n s → ((t : ℕ) → HasRoom free size n t → s ≤ t)
    → lowest_room free size n ≡ Some s
unfolding lowest_room
lowest_room_is free size n s some room least =
    lowest_is (has_room free size n) size s (let w = room.within in omega arith) (has_room_from free size n s room)
    (λ t below. false_from_ne_true (has_room free size n t)
    (λ e. let l = least t (has_room_gives free size n t e) in omega arith))

pub lowest_room_none : (free : ℕ → Bool) (size n : ℕ) → ((t : ℕ) → HasRoom free size n t → ⊥) → lowest_room free size n ≡ None
unfolding lowest_room
lowest_room_none free size n none =
    lowest_none (has_room free size n) size
    (λ t below. false_from_ne_true (has_room free size n t) (λ e. none t (has_room_gives free size n t e)))

-- what the answer says of the starts
abbrev pub IsLowestRoom : (ℕ → Bool) → ℕ → ℕ → Option ℕ → Type 0
IsLowestRoom free size n None = (t : ℕ) → HasRoom free size n t → 0 < n → ⊥
IsLowestRoom free size n (Some s) = HasRoom free size n s × ((t : ℕ) → t < s → HasRoom free size n t → ⊥)

room_gives : (free : ℕ → Bool) (size n : ℕ) (o : Option ℕ) → IsLowest (has_room free size n) size o → IsLowestRoom free size n o
room_gives free size n None none =
    λ t room some. false≢true (sym (none t (let w = room.within in omega arith)) ∙ has_room_from free size n t room)
room_gives free size n (Some s) found = (
  has_room_gives free size n s found.1,
  λ t below room. false≢true (sym (found.2 t below) ∙ has_room_from free size n t room),
)

pub lowest_room_gives : (free : ℕ → Bool) (size n : ℕ) → IsLowestRoom free size n (lowest_room free size n)
unfolding lowest_room
lowest_room_gives free size n = room_gives free size n (lowest (has_room free size n) size) (lowest_gives (has_room free size n) size)

-- two tests that agree below the size find the same
pub lowest_room_same : (p q : ℕ → Bool) (size n : ℕ) → ((b : ℕ) → b < size → p b ≡ q b) → 0 < n → lowest_room p size n ≡ lowest_room q size n
lowest_room_same p q size n same some = go (lowest_room q size n) (lowest_room_gives q size n)
  where
    over : (start : ℕ) → HasRoom p size n start → HasRoom q size n start
    over start room = record { within = room.within; one_unit = room.one_unit; free = λ b low high. sym (same b (let w = room.within in omega arith)) ∙ room.free b low high }

    back : (start : ℕ) → HasRoom q size n start → HasRoom p size n start
    back start room = record { within = room.within; one_unit = room.one_unit; free = λ b low high. same b (let w = room.within in omega arith) ∙ room.free b low high }

    go : (o : Option ℕ) → IsLowestRoom q size n o → lowest_room p size n ≡ o
    go None none = lowest_room_none p size n (λ t room. none t (over t room) some)
    go (Some s) found =
        lowest_room_is p size n s some (back s found.0)
        (λ t room. elim (cases_lt t s) [ inl below ↦ absurd (found.1 t below (over t room)) | inr above ↦ above ])
