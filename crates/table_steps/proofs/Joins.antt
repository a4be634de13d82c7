-- A unit that joins the last entry of the journal.
use Rattle.std.proofs.Common.{◌≡◌, ◌==◌, Bool, true, false, cond, is_some, ◌⊎◌, inl, inr, ◌≤◌, ℕ, suc, ◌+◌, ◌-◌, ◌<◌, List, [], ◌∷◌, ◌++◌, length, set, Option, Some, None, slice_get, refl, sym, ap, ◌∙◌, arith}
use Rattle.std.proofs.lemmas.List.{length-append}
use Rattle.std.proofs.lemmas.Bool.{eqb-true}
use Rattle.std.proofs.lemmas.Option.{same_Some}
use Rattle.vm_facts.specs.declared.entry.Entry.{Entry}
use Rattle.vm_facts.specs.declared.entry.Entry.TheVariants as entries
use Rattle.flat_state.specs.Journal.{append, append_joined, append_after, join, join_by}
use Rattle.table_steps.specs.Joined.{moves_in, instructions_in, last_says}

-- Moves of the hands.
join_alone : (e : Entry) → moves_in e ≡ None → join e (entries.Hands 1) ≡ e ∷ entries.Hands 1 ∷ []
join_alone (entries.Hands count) h = absurd cc
join_alone _ h = refl

joins_last : (e : Entry) (count : ℕ) → moves_in e ≡ Some count → join e (entries.Hands 1) ≡ entries.Hands (count + 1) ∷ []
joins_last (entries.Hands m) count h = let same : m ≡ count = cc in ap (λ (k : ℕ). entries.Hands (k + 1) ∷ []) same
joins_last _ count h = absurd cc

moves_are : (e : Entry) (count : ℕ) → moves_in e ≡ Some count → e ≡ entries.Hands count
moves_are (entries.Hands m) count h = let same : m ≡ count = cc in ap (λ (k : ℕ). entries.Hands k) same
moves_are _ count h = absurd cc

-- Instructions of a process.
run_alone : (q : ℕ) (e : Entry) → instructions_in q e ≡ None → join e (entries.Ran q 1) ≡ e ∷ entries.Ran q 1 ∷ []
run_alone q (entries.Ran pid count) h = go (pid == q) h
  where
    go : (b : Bool) → cond b (Some count) None ≡ None → join_by b pid count q 1 ≡ entries.Ran pid count ∷ entries.Ran q 1 ∷ []
    go true k = absurd cc
    go false k = refl
run_alone q _ h = refl

run_joins : (q : ℕ) (e : Entry) (count : ℕ) → instructions_in q e ≡ Some count → join e (entries.Ran q 1) ≡ entries.Ran q (count + 1) ∷ []
run_joins q (entries.Ran pid n) count h = go (pid == q) refl h
  where
    go : (b : Bool) → (pid == q) ≡ b → cond b (Some n) None ≡ Some count → join_by b pid n q 1 ≡ entries.Ran q (count + 1) ∷ []
    go true e k = ap (λ (i : ℕ). entries.Ran i (n + 1) ∷ []) (eqb-true pid q e) ∙ ap (λ (m : ℕ). entries.Ran q (m + 1) ∷ []) (same_Some n count k)
    go false e k = absurd cc
run_joins q _ count h = absurd cc

runs_are : (q : ℕ) (e : Entry) (count : ℕ) → instructions_in q e ≡ Some count → e ≡ entries.Ran q count
runs_are q (entries.Ran pid n) count h = go (pid == q) refl h
  where
    go : (b : Bool) → (pid == q) ≡ b → cond b (Some n) None ≡ Some count → entries.Ran pid n ≡ entries.Ran q count
    go true e k = ap (λ (i : ℕ). entries.Ran i n) (eqb-true pid q e) ∙ ap (λ (m : ℕ). entries.Ran q m) (same_Some n count k)
    go false e k = absurd cc
runs_are q _ count h = absurd cc

-- A kind of units: what an entry says that counts such, and the entry that counts so many.
pub record IsKind (says : Entry → Option ℕ) (counted : ℕ → Entry) : Type 0 where
  pub alone : (e : Entry) → says e ≡ None → join e (counted 1) ≡ e ∷ counted 1 ∷ []
  pub joins : (e : Entry) (count : ℕ) → says e ≡ Some count → join e (counted 1) ≡ counted (count + 1) ∷ []
  pub is : (e : Entry) (count : ℕ) → says e ≡ Some count → e ≡ counted count
  pub unit : (journal : List Entry) → append journal (counted 1) ≡ append_joined journal (counted 1)

pub moves_kind : IsKind moves_in (λ (count : ℕ). entries.Hands count)
moves_kind = record { alone = join_alone; joins = joins_last; is = moves_are; unit = λ journal. refl }

pub runs_kind : (pid : ℕ) → IsKind (instructions_in pid) (λ (count : ℕ). entries.Ran pid count)
runs_kind pid = record { alone = run_alone pid; joins = run_joins pid; is = runs_are pid; unit = λ journal. refl }

says_or : (o : Option ℕ) → (o ≡ None) ⊎ ((count : ℕ) × (o ≡ Some count))
says_or None = inl refl
says_or (Some count) = inr (count, refl)

-- where the last entry counts no such units, the unit is an entry of its own

module _ (says : Entry → Option ℕ) (counted : ℕ → Entry) (kind : IsKind says counted) where
  alone_after : (e : Entry) (journal : List Entry) → last_says says (e ∷ journal) ≡ None → append_after e journal (counted 1) ≡ (e ∷ journal) ++ counted 1 ∷ []
  alone_after e [] h = kind.alone e h
  alone_after e (f ∷ journal) h = ap (λ (es : List Entry). e ∷ es) (alone_after f journal h)

  alone_joined : (journal : List Entry) → last_says says journal ≡ None → append_joined journal (counted 1) ≡ journal ++ counted 1 ∷ []
  alone_joined [] h = refl
  alone_joined (e ∷ journal) h = alone_after e journal h

  pub counts_alone : (journal : List Entry) → last_says says journal ≡ None → append journal (counted 1) ≡ journal ++ counted 1 ∷ []
  counts_alone journal h = kind.unit journal ∙ alone_joined journal h

  -- and else the last entry counts one more
  joined_after : (e : Entry) (journal : List Entry) (count : ℕ) → last_says says (e ∷ journal) ≡ Some count
      → append_after e journal (counted 1) ≡ set (e ∷ journal) (length journal) (counted (count + 1))
  joined_after e [] count h = kind.joins e count h
  joined_after e (f ∷ journal) count h = ap (λ (es : List Entry). e ∷ es) (joined_after f journal count h)

  joined_joined : (journal : List Entry) (count : ℕ) → last_says says journal ≡ Some count → append_joined journal (counted 1) ≡ set journal (length journal - 1) (counted (count + 1))
  joined_joined [] count h = absurd cc
  joined_joined (e ∷ journal) count h = joined_after e journal count h ∙ ap (λ (k : ℕ). set (e ∷ journal) k (counted (count + 1))) (omega arith)

  pub counts_joined : (journal : List Entry) (count : ℕ) → last_says says journal ≡ Some count
      → append journal (counted 1) ≡ set journal (length journal - 1) (counted (count + 1))
  counts_joined journal count h = kind.unit journal ∙ joined_joined journal count h

  pub last_is : (journal : List Entry) (count : ℕ) → last_says says journal ≡ Some count → (before : List Entry) × (journal ≡ before ++ counted count ∷ [])
  last_is [] count h = absurd cc
  last_is (e ∷ []) count h = ([], ap (λ (x : Entry). x ∷ []) (kind.is e count h))
  last_is (e ∷ f ∷ journal) count h = let r = last_is (f ∷ journal) count h in (e ∷ r.0, ap (λ (es : List Entry). e ∷ es) r.1)

  -- how long the journal is then
  length_alone : (journal : List Entry) → last_says says journal ≡ None → length (append journal (counted 1)) ≡ length journal + 1
  length_alone journal h = ap length (counts_alone journal h) ∙ length-append journal (counted 1 ∷ [])

  length_joined : (journal : List Entry) (count : ℕ) → last_says says journal ≡ Some count → length (append journal (counted 1)) ≡ length journal
  length_joined journal count h = ap length (counts_joined journal count h) ∙ Rattle.std.proofs.lemmas.List.length-set journal (length journal - 1) (counted (count + 1))

  -- the journal stays within its limit
  pub joined_within : (old new : List Entry) (limit : ℕ) → new ≡ append old (counted 1) → length old ≤ limit
      → (last_says says old ≡ None → length old < limit) → length new ≤ limit
  joined_within old new limit e l h = elim (says_or (last_says says old)) [
    | inl z ↦ let a = ap length e ∙ length_alone old z in let b = h z in omega arith
    | inr s ↦ let a = ap length e ∙ length_joined old s.0 s.1 in omega arith
  ]

  -- a last entry that counts such units makes the journal no longer
  pub joined_not : (journal : List Entry) (o : Option ℕ) → o ≡ last_says says journal → is_some o ≡ true
      → length journal < length (append journal (counted 1)) → ⊥
  joined_not journal o e h l = elim (says_or (last_says says journal)) [
    | inl z ↦ absurd (let x : false ≡ true = sym (ap is_some (e ∙ z)) ∙ h in cc)
    | inr s ↦ absurd (let a = length_joined journal s.0 s.1 in omega arith)
  ]

  pub alone_grows : (journal : List Entry) (o : Option ℕ) → o ≡ last_says says journal → is_some o ≡ false
      → length journal < length (append journal (counted 1))
  alone_grows journal o e h = elim (says_or (last_says says journal)) [
    | inl z ↦ let a = length_alone journal z in omega arith
    | inr s ↦ absurd (let x : true ≡ false = sym (ap is_some (e ∙ s.1)) ∙ h in cc)
  ]

pub last_get : (says : Entry → Option ℕ) (journal : List Entry) (e : Entry) → slice_get journal (length journal - 1) ≡ Some e → last_says says journal ≡ says e
last_get says [] e h = absurd cc
last_get says (x ∷ []) e h = ap says (same_Some x e h)
last_get says (x ∷ f ∷ journal) e h =
    let before : (n : ℕ) → suc (suc n) - 1 ≡ suc (suc n - 1) = λ n. omega arith in
    last_get says (f ∷ journal) e (sym (ap (slice_get (x ∷ f ∷ journal)) (before (length journal))) ∙ h)
