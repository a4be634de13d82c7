-- The faults at each size, one by one, are the curve.
use Rattle.std.proofs.Common.{◌≡◌, ℕ, ◌+◌, ◌-◌, ◌<◌, ◌≤◌, length, get_or, List, refl, sym, ap, ◌∙◌, arith}
use Rattle.std.proofs.lemmas.List.FromFn.{length-map-range_with_len, get_or-map-range_with_len}
use Rattle.std.proofs.lemmas.List.{ext_get_or}
use Rattle.vm_facts.specs.declared.page.Page.{Page}
use Rattle.flat_model.specs.Touched.{distinct}
use Rattle.stack_dist.specs.Lru.{lru_faults, distinct_pages}
use Rattle.reference_answers.specs.Numbers.{numbers_of}
use Rattle.reference_answers.proofs.Counting.{as_many}
use Rattle.reference_answers.specs.Texts.{lru_curve}

is_curve : (refs faults : List ℕ) (pages : ℕ) → length faults ≡ pages
    → ((n : ℕ) → 0 < n → n ≤ pages → get_or faults (n - 1) 0 ≡ lru_faults refs n) → faults ≡ lru_curve refs pages
is_curve refs faults pages e at = ext_get_or 0 faults (lru_curve refs pages) (e ∙ sym (length-map-range_with_len (lru_faults refs) 1 pages)) each
  where
    each : (i : ℕ) → i < length faults → get_or faults i 0 ≡ get_or (lru_curve refs pages) i 0
    each i lt =
        let back : i ≡ (1 + i) - 1 = omega arith in
        ap (λ k. get_or faults k 0) back ∙ at (1 + i) (omega arith) (omega arith) ∙ sym (get_or-map-range_with_len (lru_faults refs) 1 pages i (1 + i) 0 (omega arith) refl)

-- so many faults, one at each size, are the curve of references
pub is_curve_of : (refs : List Page) (numbers faults : List ℕ) → numbers ≡ numbers_of refs → length faults ≡ distinct_pages numbers
    → ((n : ℕ) → 0 < n → n ≤ distinct_pages numbers → get_or faults (n - 1) 0 ≡ lru_faults numbers n)
    → faults ≡ lru_curve (numbers_of refs) (length (distinct refs))
is_curve_of refs numbers faults e size at =
    is_curve numbers faults (distinct_pages numbers) size at
    ∙ ap (λ ns. lru_curve ns (distinct_pages ns)) e
    ∙ ap (lru_curve (numbers_of refs)) (as_many refs)
