-- What a journal counts, its units count.
use Rattle.std.proofs.Common.{◌≡◌, ℕ, ◌+◌, ◌==◌, Bool, true, false, List, [], ◌∷◌, ◌++◌, refl, arith}
use Rattle.std.specs.List.{sum_by}
use Rattle.std.proofs.lemmas.List.Sums.{sum_by-cons}
use Rattle.vm_facts.specs.declared.entry.Entry.{Entry}
use Rattle.vm_facts.specs.declared.entry.Entry.TheVariants as entries
use Rattle.flat_state.specs.Journal.{join_by, join, append_after, append_joined, append, appended, counted, instructions_of}
use Rattle.flat_state.proofs.Joins.{append_counted}

-- by each unit
abbrev pub counted_in : (Entry → ℕ) → List Entry → ℕ
counted_in f [] = 0
counted_in f (u ∷ us) = f u + counted_in f us

-- instructions and moves of the hands, which are joined, count nothing
pub record Ignores (f : Entry → ℕ) : Type 0 where
  pub ran : (p n : ℕ) → f (entries.Ran p n) ≡ 0
  pub hands : (n : ℕ) → f (entries.Hands n) ≡ 0

joined : (f : Entry → ℕ) → Ignores f → (e u : Entry) → counted_in f (join e u) ≡ f e + f u
joined f i (entries.Ran p m) (entries.Ran q n) = go (p == q)
  where
    go : (b : Bool) → counted_in f (join_by b p m q n) ≡ f (entries.Ran p m) + f (entries.Ran q n)
    go true = let a = i.ran p (m + n) in let b = i.ran p m in let c = i.ran q n in omega (arith, a, b, c)
    go false = omega arith
joined f i (entries.Hands m) (entries.Hands n) = let a = i.hands (m + n) in let b = i.hands m in let c = i.hands n in omega (arith, a, b, c)
joined f i e u = omega arith

after_counts : (f : Entry → ℕ) → Ignores f → (e : Entry) (journal : List Entry) (u : Entry)
    → counted_in f (append_after e journal u) ≡ f e + counted_in f journal + f u
after_counts f i e [] u = let a = joined f i e u in omega (arith, a)
after_counts f i e (x ∷ journal) u = let a = after_counts f i x journal u in omega (arith, a)

joined_counts : (f : Entry → ℕ) → Ignores f → (journal : List Entry) (u : Entry) → counted_in f (append_joined journal u) ≡ counted_in f journal + f u
joined_counts f i [] u = omega arith
joined_counts f i (e ∷ journal) u = let a = after_counts f i e journal u in omega (arith, a)

pushed : (f : Entry → ℕ) (journal : List Entry) (u : Entry) → counted_in f (journal ++ u ∷ []) ≡ counted_in f journal + f u
pushed f [] u = omega arith
pushed f (e ∷ journal) u = let a = pushed f journal u in omega (arith, a)

append_counts : (f : Entry → ℕ) → Ignores f → (journal : List Entry) (u : Entry) → counted_in f (append journal u) ≡ counted_in f journal + f u
append_counts f i journal (entries.Ran q n) = joined_counts f i journal (entries.Ran q n)
append_counts f i journal (entries.Hands n) = joined_counts f i journal (entries.Hands n)
append_counts f i journal u = pushed f journal u

pub appended_counts : (f : Entry → ℕ) → Ignores f → (us journal : List Entry) → counted_in f (appended journal us) ≡ counted_in f journal + counted_in f us
appended_counts f i [] journal = omega arith
appended_counts f i (u ∷ us) journal = let a = append_counts f i journal u in let b = appended_counts f i us (append journal u) in omega (arith, a, b)

pub appended_instructions : (us journal : List Entry) → instructions_of (appended journal us) ≡ instructions_of journal + counted_in counted us
appended_instructions [] journal = omega arith
appended_instructions (u ∷ us) journal = let a = append_counted journal u in let b = appended_instructions us (append journal u) in omega (arith, a, b)

pub sums : (f : Entry → ℕ) (us : List Entry) → sum_by f us ≡ counted_in f us
sums f [] = refl
sums f (u ∷ us) = let a = sum_by-cons f u us in let b = sums f us in omega (arith, a, b)
