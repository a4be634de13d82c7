-- The lines of several numbers of frames, one after another.
use Rattle.std.proofs.Common.{◌≡◌, ℕ, ◌+◌, ◌-◌, ◌*◌, ◌/◌, ◌<◌, ◌≤◌, Bool, true, false, min, List, [], ◌∷◌, ◌++◌, length, get_or, refl, sym, ap, ◌∙◌, subst, arith, inl, inr}
use Rattle.std.specs.Prelude.{All, unwrap_or, if◌then◌else◌, Option}
use Rattle.std.specs.List.{flat_map}
use Rattle.std.proofs.Math.Nat.{min-eq_left, min-eq_right}
use Rattle.std.proofs.lemmas.Bool.{cases_lt}
use Rattle.std.proofs.lemmas.List.Elements.{All-nil, All-push}
use Rattle.std.proofs.lemmas.List.FromFn.{map-range_with_len_more}
use Rattle.std.proofs.lemmas.Grind.{flat_map-append}
use Rattle.std.proofs.lemmas.List.{append-nil, get_or_past}
use Rattle.page_opt.specs.declared.Victim.{Victim}
use Rattle.page_opt.specs.Plans.{plan_faults}
use Rattle.stack_dist.specs.Lru.{holds, faults_from, lru_faults, distinct_pages}
use Rattle.reference_answers.specs.Texts.{first_numbers, policies_line, sweep_line}
use Rattle.policy_faults.specs.Policies.{fifo_faults, clock_faults, hands_faults}
use Rattle.reference_answers.specs.Answers.{IsOptimum, IsLeast, AreSweepLines}
use Rattle.reference_answers.specs.Sweeps.{belady_faults, HasNextLine}

-- ---- line by line

-- the text has the lines of these numbers, with the faults of Belady's rule as the least
pub record Swept (refs sizes text : List ℕ) : Type 0 where
  pub fewest : All (λ frames. IsLeast refs frames (belady_faults refs frames)) sizes
  pub are : text ≡ flat_map (λ frames. sweep_line refs frames (belady_faults refs frames)) sizes

pub swept_start : (refs : List ℕ) (from every : ℕ) (text : List ℕ) → text ≡ [] → Swept refs (first_numbers from every 0) text
swept_start refs from every text none = record { fewest = All-nil (λ frames. IsLeast refs frames (belady_faults refs frames)); are = none }

pub swept_more : (refs : List ℕ) (from every k n : ℕ) (old new : List ℕ) → n ≡ from + k * every → Swept refs (first_numbers from every k) old
    → HasNextLine refs n old new
    → Swept refs (first_numbers from every (k + 1)) new
swept_more refs from every k n old new is so_far adds =
    subst (λ (sizes : List ℕ). Swept refs sizes new) (sym (map-range_with_len_more (λ i. from + i * every) 0 k k (omega arith)))
    (subst (λ (m : ℕ). Swept refs (first_numbers from every k ++ m ∷ []) new) is
    (record {
      fewest = All-push (λ frames. IsLeast refs frames (belady_faults refs frames)) (first_numbers from every k) n so_far.fewest adds.fewest;
      are =
          adds.line ∙ ap (λ (t : List ℕ). t ++ sweep_line refs n (belady_faults refs n)) so_far.are
          ∙ sym (flat_map-append (λ frames. sweep_line refs frames (belady_faults refs frames)) (first_numbers from every k) (n ∷ [])
          ∙ ap (λ (t : List ℕ). flat_map (λ frames. sweep_line refs frames (belady_faults refs frames)) (first_numbers from every k) ++ t)
          (append-nil (sweep_line refs n (belady_faults refs n))));
    }))

pub swept_end : (refs sizes text : List ℕ) → Swept refs sizes text → AreSweepLines refs sizes text
swept_end refs sizes text all = record { least = belady_faults refs; fewest = all.fewest; are = all.are }

-- ---- one line

-- a plan by Belady's rule has its faults
belady_is : (refs : List ℕ) (frames faults : ℕ) (victims : List Victim) → IsOptimum refs frames faults victims → faults ≡ belady_faults refs frames
belady_is refs frames faults victims optimum =
    sym (ap (λ (o : Option ℕ). unwrap_or o 0) (sym (ap (plan_faults refs frames) optimum.furthest) ∙ optimum.plan))

pub line_added : (refs : List ℕ) (frames faults : ℕ) (victims : List Victim) (old new : List ℕ)
    → IsOptimum refs frames faults victims
    → new ≡ old ++ sweep_line refs frames faults → HasNextLine refs frames old new
line_added refs frames faults victims old new optimum line =
    let is = belady_is refs frames faults victims optimum in
    record {
      fewest = record { victims = victims; optimum = subst (λ (k : ℕ). IsOptimum refs frames k victims) is optimum };
      line = line ∙ ap (λ (k : ℕ). old ++ sweep_line refs frames k) is;
    }

-- the counts are those of the definitions
pub is_sweep_line : (refs : List ℕ) (frames fifo clock hands lru least : ℕ) → fifo ≡ fifo_faults refs frames → clock ≡ clock_faults refs frames
    → hands ≡ hands_faults refs frames (frames / 4) → lru ≡ lru_faults refs frames
    → policies_line frames fifo clock hands lru least ≡ sweep_line refs frames least
is_sweep_line refs frames fifo clock hands lru least f c h l =
    ap (λ k. policies_line frames k clock hands lru least) f
    ∙ ap (λ k. policies_line frames (fifo_faults refs frames) k hands lru least) c
    ∙ ap (λ k. policies_line frames (fifo_faults refs frames) (clock_faults refs frames) k lru least) h
    ∙ ap (λ k. policies_line frames (fifo_faults refs frames) (clock_faults refs frames) (hands_faults refs frames (frames / 4)) k least) l

-- ---- the faults of LRU by its curve

some_pages : (p : ℕ) (qs : List ℕ) → distinct_pages (p ∷ qs) ≡ 0 → ⊥
unfolding distinct_pages holds
some_pages p [] none = omega arith
some_pages p (q ∷ qs) none = some_pages q qs (rest (holds (q ∷ qs) p) (distinct_pages (q ∷ qs)) none)
  where
    rest : (b : Bool) (k : ℕ) → (if b then 0 else 1) + k ≡ 0 → k ≡ 0
    rest true k e = omega arith
    rest false k e = omega arith

none_at_all : (refs : List ℕ) → distinct_pages refs ≡ 0 → lru_faults refs (distinct_pages refs) ≡ 0
unfolding faults_from
none_at_all [] none = refl
none_at_all (page ∷ refs) none = absurd (some_pages page refs none)

-- at the last entry, where there is one
at_last : (refs curve : List ℕ) → length curve ≡ distinct_pages refs
    → ((n : ℕ) → 0 < n → n ≤ distinct_pages refs → get_or curve (n - 1) 0 ≡ lru_faults refs n)
    → get_or curve (length curve - 1) 0 ≡ lru_faults refs (distinct_pages refs)
at_last refs curve size entries = elim (cases_lt 0 (distinct_pages refs)) [
  | inl some ↦ ap (λ (k : ℕ). get_or curve (k - 1) 0) size ∙ entries (distinct_pages refs) some (omega arith)
  | inr none ↦ get_or_past curve (length curve - 1) 0 (omega (arith, size, none)) ∙ sym (none_at_all refs (omega (arith, none)))
]

pub is_lru : (refs curve : List ℕ) (frames : ℕ) → 1 ≤ frames → length curve ≡ distinct_pages refs
    → ((n : ℕ) → 0 < n → n ≤ distinct_pages refs → get_or curve (n - 1) 0 ≡ lru_faults refs n)
    → ((n : ℕ) → distinct_pages refs ≤ n → lru_faults refs n ≡ lru_faults refs (distinct_pages refs))
    → get_or curve (min frames (length curve) - 1) 0 ≡ lru_faults refs frames
is_lru refs curve frames some size entries past = elim (cases_lt (length curve) frames) [
  | inl over ↦
      ap (λ (k : ℕ). get_or curve (k - 1) 0) (min-eq_right (omega (arith, over))) ∙ at_last refs curve size entries
      ∙ sym (past frames (omega (arith, size, over)))
  | inr within ↦ ap (λ (k : ℕ). get_or curve (k - 1) 0) (min-eq_left within) ∙ entries frames some (omega (arith, size, within))
]
