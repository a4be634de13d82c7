-- Which entries are no run: those that the judge takes one by one are one.
use Rattle.std.proofs.Common.{◌≡◌, ℕ, cond, zero, suc, ◌+◌, ◌<◌, ◌≤◌, leb, Bool, true, false, not, ◌&&◌, List, [], ◌∷◌, ◌++◌, length, take, get_or, Option, Some, None, is_some, refl, sym, ap, ◌∙◌, subst, inl, inr, arith}
use Rattle.std.specs.Prelude.{find}
use Rattle.std.specs.List.{range_with_len}
use Rattle.std.proofs.lemmas.List.{take_more, length-take}
use Rattle.std.proofs.lemmas.Bool.{cases_lt, le-leb, lt-leb}
use Rattle.flat_state.specs.Flat.{FlatState, Inputs, start_state}
use Rattle.vm_facts.specs.declared.entry.Entry.{Entry}
use Rattle.flat_state.specs.Journal.{units_with, counted, instructions_of}
use Rattle.flat_state.proofs.Joins.{count-append}
use Rattle.flat_model.specs.Run.{Point, flat_run, flat_units, start_point}
use Rattle.flat_model.proofs.Folds.{run_more}
use Rattle.replay_check.specs.declared.replaying.Last.{Last}
use Rattle.replay_check.specs.declared.replaying.Last.TheVariants as lasts
use Rattle.replay_check.specs.Judging.{IsVerdict, HasTaken, HasJudged}
use Rattle.replay_check.specs.Verdicts.{instruction_limit, is_run, first_bad}

-- entries that were taken are a run
pub taken_run : (A : Inputs) (F : FlatState) (last : Last) (count : ℕ) (journal : List Entry) → HasTaken A F last count journal → is_run A journal ≡ true
taken_run A F last count journal h =
    ap (λ (o : Option Point). is_some o && leb (instructions_of journal) instruction_limit) h.run
    ∙ ap (λ (n : ℕ). leb n instruction_limit) (sym h.counts) ∙ le-leb count instruction_limit h.few

-- no entries are taken at the start
pub taken_none : (A : Inputs) (F : FlatState) → F ≡ start_state A → HasTaken A F lasts.Other 0 []
unfolding flat_units
taken_none A F is = record { point = start_point A; run = refl; at = (sym is, tt); counts = refl; few = omega arith }

-- with an entry by which the run has too many instructions, the entries are none
pub too_many : (A : Inputs) (F : FlatState) (last : Last) (count : ℕ) (journal : List Entry) (e : Entry) → HasTaken A F last count journal
    → instruction_limit < count + counted e → is_run A (journal ++ e ∷ []) ≡ false
too_many A F last count journal e h many =
    ap (λ (b : Bool). is_some (flat_run A (journal ++ e ∷ [])) && b)
    (lt-leb (instructions_of (journal ++ e ∷ [])) instruction_limit (let all = count-append journal (e ∷ []) in let so = h.counts in omega arith))
    ∙ go (is_some (flat_run A (journal ++ e ∷ [])))
  where
    go : (b : Bool) → b && false ≡ false
    go true = refl
    go false = refl

-- with an entry that is judged, the entries are
pub judged_more : (A : Inputs) (F G : FlatState) (last new : Last) (count more : ℕ) (journal : List Entry) (e : Entry) (b : Bool)
    (h : HasTaken A F last count journal)
    → more ≡ count + counted e → more ≤ instruction_limit → IsVerdict A b G new (flat_units A (Some h.point) (units_with e []))
    → HasJudged A b G new more (journal ++ e ∷ [])
judged_more A F G last new count more journal e b h is few verdict =
    go b (flat_units A (Some h.point) (units_with e [])) (run_more A journal e ∙ ap (λ (o : Option Point). flat_units A o (units_with e [])) h.run) verdict
  where
    go : (b : Bool) (o : Option Point) → flat_run A (journal ++ e ∷ []) ≡ o → IsVerdict A b G new o → HasJudged A b G new more (journal ++ e ∷ [])
    go true (Some point) k v = record {
      point = point;
      run = k;
      at = v;
      counts = let all = count-append journal (e ∷ []) in let so = h.counts in omega arith;
      few = few;
    }
    go true None k v = absurd v
    go false (Some point) k v = absurd v
    go false None k v = ap (λ (o : Option Point). is_some o && leb (instructions_of (journal ++ e ∷ [])) instruction_limit) k

-- The first number that passes a test.

find_none : (test : ℕ → Bool) (from n : ℕ) → ((k : ℕ) → from ≤ k → k < from + n → test k ≡ false) → find test (range_with_len from n) ≡ None
find_none test from zero h = refl
find_none test from (suc n) h =
    ap (λ (b : Bool). cond b (Some from) (find test (range_with_len (from + 1) n))) (h from (omega arith) (omega arith))
    ∙ find_none test (from + 1) n (λ k low high. h k (omega arith) (omega arith))

find_first : (test : ℕ → Bool) (from n i : ℕ) → i < n → test (from + i) ≡ true → ((k : ℕ) → from ≤ k → k < from + i → test k ≡ false)
    → find test (range_with_len from n) ≡ Some (from + i)
find_first test from zero i below this earlier = absurd (omega arith)
find_first test from (suc n) zero below this earlier =
    let e : from + zero ≡ from = omega arith in
    ap (λ (b : Bool). cond b (Some from) (find test (range_with_len (from + 1) n))) (ap test (sym e) ∙ this) ∙ ap Some (sym e)
find_first test from (suc n) (suc i) below this earlier =
    let e : from + 1 + i ≡ from + suc i = omega arith in
    ap (λ (b : Bool). cond b (Some from) (find test (range_with_len (from + 1) n))) (earlier from (omega arith) (omega arith))
    ∙ find_first test (from + 1) n i (omega arith) (ap test e ∙ this) (λ k low high. earlier k (omega arith) (omega arith)) ∙ ap Some e

-- each number of first entries up to this one is a run
abbrev pub AreRuns : Inputs → List Entry → ℕ → Type 0
AreRuns A entries n = (k : ℕ) → k ≤ n → is_run A (take k entries) ≡ true

module _ (A : Inputs) (entries : List Entry) where
  pub none_bad : (n : ℕ) → length entries ≤ n → AreRuns A entries n → first_bad A entries ≡ None
  none_bad n all runs =
      find_none (λ (k : ℕ). not (is_run A (take k entries))) 0 (length entries + 1) (λ k low high. ap not (runs k (omega arith)))

  pub first_one_bad : (n : ℕ) → n < length entries → AreRuns A entries n → is_run A (take (n + 1) entries) ≡ false → first_bad A entries ≡ Some (n + 1)
  first_one_bad n below runs bad =
      let e : 0 + (n + 1) ≡ n + 1 = omega arith in
      find_first (λ (k : ℕ). not (is_run A (take k entries))) 0 (length entries + 1) (n + 1) (omega arith)
      (ap (λ (k : ℕ). not (is_run A (take k entries))) e ∙ ap not bad) (λ k low high. ap not (runs k (omega arith)))
      ∙ ap Some e

  pub runs_none : is_run A [] ≡ true → AreRuns A entries 0
  runs_none h zero few = h
  runs_none h (suc k) few = absurd (omega arith)

-- the next of the first entries
pub next_front : (entries : List Entry) (n : ℕ) (e : Entry) → n < length entries → e ≡ get_or entries n e → take n entries ++ e ∷ [] ≡ take (n + 1) entries
next_front entries n e below is = ap (λ (x : Entry). take n entries ++ x ∷ []) is ∙ sym (take_more entries n e below)

-- one more entry is taken
pub runs_more : (A : Inputs) (entries : List Entry) (n : ℕ) → AreRuns A entries n → is_run A (take (n + 1) entries) ≡ true → AreRuns A entries (n + 1)
runs_more A entries n runs more k few = elim (cases_lt n k) [
  | inl last ↦ subst (λ (j : ℕ). is_run A (take j entries) ≡ true) (let e : n + 1 ≡ k = omega arith in e) more
  | inr before ↦ runs k (omega arith)
]

-- What the first number that passes a test says.

pub record IsFirstFrom (test : ℕ → Bool) (from n i : ℕ) : Type 0 where
  pub low : from ≤ i
  pub high : i < from + n
  pub this : test i ≡ true
  pub earlier : (k : ℕ) → from ≤ k → k < i → test k ≡ false

pub found_first : (test : ℕ → Bool) (from n i : ℕ) → find test (range_with_len from n) ≡ Some i → IsFirstFrom test from n i
found_first test from zero i h = absurd cc
found_first test from (suc n) i h = go (test from) refl h (found_first test (from + 1) n i)
  where
    go : (b : Bool) → test from ≡ b → cond b (Some from) (find test (range_with_len (from + 1) n)) ≡ Some i
        → (find test (range_with_len (from + 1) n) ≡ Some i → IsFirstFrom test (from + 1) n i) → IsFirstFrom test from (suc n) i
    go true t k next =
        let is : from ≡ i = cc in
        record { low = omega arith; high = omega arith; this = subst (λ (j : ℕ). test j ≡ true) is t; earlier = λ j low high. absurd (omega arith) }
    go false t k next =
        let more = next k in
        record {
          low = let l = more.low in omega arith;
          high = let l = more.high in omega arith;
          this = more.this;
          earlier = λ j low high. elim (cases_lt from j) [
            | inl later ↦ more.earlier j (omega arith) high
            | inr same ↦ subst (λ (x : ℕ). test x ≡ false) (let e : from ≡ j = omega arith in e) t
          ];
        }

-- fewer entries than the first bad number are a run, and the number is one of an entry
pub record IsBadAt (A : Inputs) (entries : List Entry) (n : ℕ) : Type 0 where
  pub some : 0 < n
  pub within : n ≤ length entries
  pub bad : is_run A (take n entries) ≡ false
  pub earlier : (k : ℕ) → k < n → is_run A (take k entries) ≡ true

not_false : (b : Bool) → not b ≡ true → b ≡ false
not_false true h = absurd cc
not_false false h = refl

not_true : (b : Bool) → not b ≡ false → b ≡ true
not_true true h = refl
not_true false h = absurd cc

pub bad_at : (A : Inputs) (entries : List Entry) (n : ℕ) → is_run A [] ≡ true → first_bad A entries ≡ Some n → IsBadAt A entries n
bad_at A entries n none h =
    let first = found_first (λ (k : ℕ). not (is_run A (take k entries))) 0 (length entries + 1) n h in
    let bad : is_run A (take n entries) ≡ false = not_false (is_run A (take n entries)) first.this in
    let below = first.high in
    record {
      some = go n bad;
      within = omega arith;
      bad = bad;
      earlier = λ k few. not_true (is_run A (take k entries)) (first.earlier k (omega arith) few);
    }
  where
    go : (m : ℕ) → is_run A (take m entries) ≡ false → 0 < m
    go zero bad = let e : true ≡ false = sym none ∙ bad in absurd cc
    go (suc m) bad = omega arith

none_from : (test : ℕ → Bool) (from n : ℕ) → find test (range_with_len from n) ≡ None → (k : ℕ) → from ≤ k → k < from + n → test k ≡ false
none_from test from zero h k low high = absurd (omega arith)
none_from test from (suc n) h k low high = go (test from) refl h (none_from test (from + 1) n)
  where
    go : (b : Bool) → test from ≡ b → cond b (Some from) (find test (range_with_len (from + 1) n)) ≡ None
        → (find test (range_with_len (from + 1) n) ≡ None → (j : ℕ) → from + 1 ≤ j → j < from + 1 + n → test j ≡ false) → test k ≡ false
    go true t e next = absurd cc
    go false t e next = elim (cases_lt from k) [
      | inl later ↦ next e k (omega arith) (omega arith)
      | inr same ↦ subst (λ (x : ℕ). test x ≡ false) (let e : from ≡ k = omega arith in e) t
    ]

-- where no number is bad, so many first entries are a run
pub good_runs : (A : Inputs) (entries : List Entry) (k : ℕ) → first_bad A entries ≡ None → k ≤ length entries → is_run A (take k entries) ≡ true
good_runs A entries k h few =
    not_true (is_run A (take k entries)) (none_from (λ (j : ℕ). not (is_run A (take j entries))) 0 (length entries + 1) h k (omega arith) (omega arith))

take_less : (xs : List Entry) (k n : ℕ) → k ≤ n → take k (take n xs) ≡ take k xs
take_less [] zero n few = refl
take_less [] (suc k) zero few = refl
take_less [] (suc k) (suc n) few = refl
take_less (x ∷ xs) zero n few = refl
take_less (x ∷ xs) (suc k) zero few = absurd (omega arith)
take_less (x ∷ xs) (suc k) (suc n) few = ap (λ (ys : List Entry). x ∷ ys) (take_less xs k n (omega arith))

-- the entries before the first bad one are good
pub good_before : (A : Inputs) (entries : List Entry) (n i : ℕ) → IsBadAt A entries n → i < n → first_bad A (take i entries) ≡ None
good_before A entries n i bad below =
    none_bad A (take i entries) i (let l = length-take i entries in omega arith)
    (λ k few. subst (λ (es : List Entry). is_run A es ≡ true) (sym (take_less entries k i few)) (bad.earlier k (omega arith)))

-- entries that are a run and were judged are taken
pub taken_as_run : (A : Inputs) (F : FlatState) (last : Last) (count : ℕ) (journal : List Entry) (b : Bool) → is_run A journal ≡ true
    → HasJudged A b F last count journal → HasTaken A F last count journal
taken_as_run A F last count journal true run h = h
taken_as_run A F last count journal false run h = let e : true ≡ false = sym run ∙ h in absurd cc
