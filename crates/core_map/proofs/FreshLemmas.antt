-- A new core map is sound.
use Rattle.std.proofs.Common.{◌≡◌, ◌≢◌, ℕ, ◌+◌, ◌<◌, ◌≤◌, ◌^◌, List, [], ◌∷◌, ◌++◌, zero, suc, length, refl, sym, ap, subst, ◌∙◌, inl, inr, arith, Option, None, map, replicate}
use Rattle.std.proofs.lemmas.Bool.{cases_order, cases_eq}
use Rattle.std.proofs.lemmas.List.{get_or_past, get_or_append_left, get_or_push, length_push, replicate_more, map_push, length-replicate}
use Rattle.std.proofs.lemmas.Option.{none-some}
use Rattle.core_map.specs.declared.text_index.TextKey.{TextKey}
use Rattle.core_map.specs.declared.slot.Slot.{Slot}
use Rattle.core_map.specs.declared.slot.Slot.TheVariants.{Free, Away}
use Rattle.frame_state.specs.Frame.{zero_frame}
use Rattle.vm_facts.specs.Lists.{times}
use Rattle.core_map.specs.Slots.{slot_at, listings, slot_number, slot_page, text_of, IsWhole}
use Rattle.core_map.specs.Frames.{IsSoundMap}
use Rattle.core_map.specs.Fresh.{first_frames, fresh_slots}
use Rattle.vm_facts.proofs.Lists.{times-append, times_head, times_other}

pub length-fresh : (n : ℕ) → length (fresh_slots n) ≡ n + 1
length-fresh zero = refl
length-fresh (suc n) = length_push (fresh_slots n) (Free (zero_frame (suc n)) None) ∙ omega (arith, length-fresh n)

-- what holds of the slots so far holds of one more
pub slots_more : (P : Slot → ℕ → Type 0) (slots : List Slot) (n : ℕ) (s : Slot) → length slots ≡ n → ((g : ℕ) → P (slot_at slots g) g) → P s n
    → (g : ℕ) → P (slot_at (slots ++ s ∷ []) g) g
slots_more P slots n s long all here g = elim (cases_order g n) [
  | inl e ↦ subst (λ (k : ℕ). P (slot_at (slots ++ s ∷ []) k) k) (sym e) (subst (λ (t : Slot). P t n) (sym (get_or_push slots s Away n long)) here)
  | inr other ↦ elim other [
    | inl low ↦ subst (λ (t : Slot). P t g) (sym (get_or_append_left slots (s ∷ []) Away g (omega arith))) (all g)
    | inr high ↦
        let past : length (slots ++ s ∷ []) ≤ g = omega (arith, length_push slots s) in
        let old : slot_at slots g ≡ Away = get_or_past slots g Away (omega arith) in
        subst (λ (t : Slot). P t g) (old ∙ sym (get_or_past (slots ++ s ∷ []) g Away past)) (all g)
  ]
]

pub numbered_fresh : (n : ℕ) (g : ℕ) → slot_number (slot_at (fresh_slots n) g) g ≡ g
numbered_fresh zero zero = refl
numbered_fresh zero (suc g) = refl
numbered_fresh (suc n) g = slots_more (λ s k. slot_number s k ≡ k) (fresh_slots n) (suc n) (Free (zero_frame (suc n)) None) (omega (arith, length-fresh n)) (numbered_fresh n) refl g

pub whole_fresh : (n : ℕ) (g : ℕ) → IsWhole (slot_at (fresh_slots n) g)
whole_fresh zero zero = tt
whole_fresh zero (suc g) = tt
whole_fresh (suc n) g = slots_more (λ s k. IsWhole s) (fresh_slots n) (suc n) (Free (zero_frame (suc n)) None) (omega (arith, length-fresh n)) (whole_fresh n) (length-replicate {A = ℕ} 1024 0) g

-- the frames from n + 1 on do not stand in the list of the first n
pub times-first_past : (n g : ℕ) → n < g → times g (first_frames n) ≡ 0
times-first_past zero g h = refl
times-first_past (suc n) g h =
    let ne : suc n ≢ g = omega arith in
    times-append g (first_frames n) (suc n ∷ []) ∙ omega (arith, times-first_past n g (omega arith), times_other g (suc n) [] ne)

pub listed_fresh : (n g : ℕ) → times g (first_frames n) ≡ listings (slot_at (fresh_slots n) g)
listed_fresh zero zero = refl
listed_fresh zero (suc g) = refl
listed_fresh (suc n) g =
    let s = Free (zero_frame (suc n)) None in
    let long : length (fresh_slots n) ≡ suc n = omega (arith, length-fresh n) in
    elim (cases_eq g (suc n)) [
      | inl e ↦ subst (λ (k : ℕ). times k (first_frames (suc n)) ≡ listings (slot_at (fresh_slots n ++ s ∷ []) k)) (sym e)
          (omega (arith, times-append (suc n) (first_frames n) (suc n ∷ []), times-first_past n (suc n) (omega arith), times_head (suc n) [])
          ∙ sym (ap listings (get_or_push (fresh_slots n) s Away (suc n) long)))
      | inr ne ↦ times-append g (first_frames n) (suc n ∷ []) ∙ omega (arith, times_other g (suc n) [] (λ e. ne (sym e))) ∙ listed_fresh n g ∙ same_slot n g s long ne
    ] where
      same_slot : (n g : ℕ) (s : Slot) → length (fresh_slots n) ≡ suc n → g ≢ suc n → listings (slot_at (fresh_slots n) g) ≡ listings (slot_at (fresh_slots n ++ s ∷ []) g)
      same_slot n g s long ne = ap listings (elim (cases_order g (suc n)) [
        | inl e ↦ absurd (ne e)
        | inr other ↦ elim other [
          | inl low ↦ sym (get_or_append_left (fresh_slots n) (s ∷ []) Away g (omega arith))
          | inr high ↦
              let past : length (fresh_slots n ++ s ∷ []) ≤ g = omega (arith, length_push (fresh_slots n) s) in
              get_or_past (fresh_slots n) g Away (omega arith) ∙ sym (get_or_past (fresh_slots n ++ s ∷ []) g Away past)
        ]
      ])

pub none_fresh : (n : ℕ) → slot_at (fresh_slots n) 0 ≡ Away
none_fresh zero = refl
none_fresh (suc n) = get_or_append_left (fresh_slots n) (Free (zero_frame (suc n)) None ∷ []) Away 0 (omega (arith, length-fresh n)) ∙ none_fresh n

-- each of the first n frames stands in the list
times-first : (n g : ℕ) → 0 < g → g ≤ n → times g (first_frames n) ≡ 1
times-first zero g positive low = absurd (omega arith)
times-first (suc n) g positive low = elim (cases_eq g (suc n)) [
  | inl e ↦ times-append g (first_frames n) (suc n ∷ [])
      ∙ subst (λ (k : ℕ). times k (first_frames n) + times k (suc n ∷ []) ≡ 1) (sym e) (omega (arith, times-first_past n (suc n) (omega arith), times_head (suc n) []))
  | inr ne ↦ times-append g (first_frames n) (suc n ∷ []) ∙ omega (arith, times-first n g positive (omega arith), times_other g (suc n) [] (λ e. ne (sym e)))
]

-- so none of them is away
pub none_away : (n g : ℕ) → 0 < g → g < length (fresh_slots n) → slot_at (fresh_slots n) g ≡ Away → ⊥
none_away n g positive low away =
    omega (arith, times-first n g positive (omega (arith, length-fresh n)), listed_fresh n g, ap listings away)

-- a new map holds no page
pub no_page_fresh : (n g : ℕ) → slot_page (slot_at (fresh_slots n) g) ≡ None
no_page_fresh zero zero = refl
no_page_fresh zero (suc g) = refl
no_page_fresh (suc n) g = slots_more (λ s k. slot_page s ≡ None) (fresh_slots n) (suc n) (Free (zero_frame (suc n)) None) (omega (arith, length-fresh n)) (no_page_fresh n) refl g

pub text_fresh : (n : ℕ) → replicate (n + 1) None ≡ map text_of (fresh_slots n)
text_fresh zero = refl
text_fresh (suc n) = let one : suc n + 1 ≡ n + 1 + 1 = omega arith in ap (λ (k : ℕ). replicate {A = Option TextKey} k None) one ∙ sym (replicate_more (n + 1) None)
    ∙ ap (λ (k : List (Option TextKey)). k ++ None ∷ []) (text_fresh n) ∙ sym (map_push text_of (fresh_slots n) (Free (zero_frame (suc n)) None))

pub fresh_sound : (n : ℕ) → n < 2 ^ 32 → IsSoundMap (first_frames n) (fresh_slots n)
fresh_sound n small = record {
  has_none = omega (arith, length-fresh n);
  small = omega (arith, length-fresh n);
  none = none_fresh n;
  numbered = numbered_fresh n;
  whole = whole_fresh n;
  unique = λ f g p ef eg. absurd (none-some p (sym (no_page_fresh n f) ∙ ef));
  listed = listed_fresh n;
}
