-- The first page of a segment whose place is of a kind, by the words of its entries.
use Rattle.std.proofs.Common.{◌≡◌, ℕ, ◌+◌, ◌<◌, ◌≤◌, Bool, false, List, length, map, get_or, Option, Some, None, slice_get, ap, ◌∙◌, subst, inl, inr, arith}
use Rattle.std.specs.Prelude.{option_map}
use Rattle.std.proofs.lemmas.Bool.{cases_lt}
use Rattle.std.proofs.lemmas.Option.{slice_get-map, slice_get-get_or, slice_get_past}
use Rattle.vax_pte.specs.declared.Place.{Place}
use Rattle.vax_pte.specs.Words.{place_named}
use Rattle.space_map.specs.Space.{is_of_kind, IsNextOfKind}

module _ (kind : Place → Bool) where
  pub word_kind : (words : List ℕ) (v : ℕ) → v < length words → is_of_kind kind (slice_get (map place_named words) v) ≡ kind (place_named (get_or words v 0))
  word_kind words v l = ap (is_of_kind kind) (slice_get-map place_named words v ∙ ap (option_map place_named) (slice_get-get_or words v 0 l))

  -- one more page was passed over
  pub passed_more : (entries : ℕ → Option Place) (from v : ℕ) → ((k : ℕ) → from ≤ k → k < v → is_of_kind kind (entries k) ≡ false)
      → is_of_kind kind (entries v) ≡ false
      → (k : ℕ) → from ≤ k → k < v + 1 → is_of_kind kind (entries k) ≡ false
  passed_more entries from v before here k l m = elim (cases_lt k v) [
    | inl less ↦ before k l less
    | inr past ↦ (let same : v ≡ k = omega arith in subst (λ (n : ℕ). is_of_kind kind (entries n) ≡ false) same here)
  ]

  -- beyond the last page there is none
  pub next_past : (places : List Place) (from end to : ℕ) (next : Option ℕ) → end ≤ to → (end < to → end ≡ length places)
      → IsNextOfKind kind (slice_get places) from end next → IsNextOfKind kind (slice_get places) from to next
  next_past places from end to None most all h = record {
    none_before = λ v l m. elim (cases_lt v end) [
      | inl less ↦ h.none_before v l less
      | inr past ↦ (let short : end ≡ length places = all (omega arith) in ap (is_of_kind kind) (slice_get_past places v (omega arith)))
    ];
    found = tt;
  }
  next_past places from end to (Some w) most all h = record {
    none_before = h.none_before;
    found = (h.found.0, (let below = h.found.1 in omega arith), h.found.2);
  }

  -- the first of other entries that are alike
  pub next_alike : (entries others : ℕ → Option Place) (from to : ℕ) (next : Option ℕ) → ((v : ℕ) → others v ≡ entries v)
      → IsNextOfKind kind entries from to next → IsNextOfKind kind others from to next
  next_alike entries others from to None same h = record { none_before = λ v l m. ap (is_of_kind kind) (same v) ∙ h.none_before v l m; found = tt }
  next_alike entries others from to (Some w) same h = record {
    none_before = λ v l m. ap (is_of_kind kind) (same v) ∙ h.none_before v l m;
    found = (h.found.0, h.found.1, ap (is_of_kind kind) (same w) ∙ h.found.2);
  }
