-- Further instructions of a process, which the last entry counts.
use Rattle.std.proofs.Common.{◌≡◌, ◌≤◌, Bool, true, is_some, ℕ, ◌+◌, ◌-◌, List, [], ◌∷◌, ◌++◌, length, set, Option, Some, None, eq-eqb, refl, sym, ap, ◌∙◌, subst, arith}
use Rattle.std.proofs.lemmas.List.{length-append, length-set}
use Rattle.vm_facts.specs.declared.entry.Entry.{Entry}
use Rattle.vm_facts.specs.declared.entry.Entry.TheVariants as entries
use Rattle.flat_state.specs.Journal.{append, append_after, join_by}
use Rattle.table_steps.specs.Joined.{instructions_in, last_says}
use Rattle.table_steps.proofs.Joins.{runs_kind, last_is}

after_last : (e : Entry) (front : List Entry) (pid count more : ℕ)
    → append_after e (front ++ entries.Ran pid count ∷ []) (entries.Ran pid more) ≡ e ∷ (front ++ entries.Ran pid (count + more) ∷ [])
after_last e [] pid count more = ap (λ (b : Bool). e ∷ join_by b pid count pid more) (eq-eqb pid pid refl)
after_last e (f ∷ front) pid count more = ap (λ (es : List Entry). e ∷ es) (after_last f front pid count more)

pub more_at_last : (front : List Entry) (pid count more : ℕ)
    → append (front ++ entries.Ran pid count ∷ []) (entries.Ran pid more) ≡ front ++ entries.Ran pid (count + more) ∷ []
more_at_last [] pid count more = ap (λ (b : Bool). join_by b pid count pid more) (eq-eqb pid pid refl)
more_at_last (e ∷ front) pid count more = after_last e front pid count more

set_at_last : (front : List Entry) (e f : Entry) → set (front ++ e ∷ []) (length front) f ≡ front ++ f ∷ []
set_at_last [] e f = refl
set_at_last (g ∷ front) e f = ap (λ (es : List Entry). g ∷ es) (set_at_last front e f)

pub more_joined : (journal : List Entry) (pid count more : ℕ) → last_says (instructions_in pid) journal ≡ Some count
    → append journal (entries.Ran pid more) ≡ set journal (length journal - 1) (entries.Ran pid (count + more))
more_joined journal pid count more h =
    let l = last_is (instructions_in pid) (λ (n : ℕ). entries.Ran pid n) (runs_kind pid) journal count h in
    let front : List Entry = l.0 in
    let all : List Entry = front ++ entries.Ran pid count ∷ [] in
    let long : length all ≡ length front + 1 = length-append front (entries.Ran pid count ∷ []) in
    let place : length all - 1 ≡ length front = omega (arith, long) in
    subst (λ (es : List Entry). append es (entries.Ran pid more) ≡ set es (length es - 1) (entries.Ran pid (count + more))) (sym l.1)
    (more_at_last front pid count more
    ∙ sym (ap (λ (k : ℕ). set all k (entries.Ran pid (count + more))) place ∙ set_at_last front (entries.Ran pid count) (entries.Ran pid (count + more))))

-- the journal is no longer then
pub more_within : (old new : List Entry) (pid count more limit : ℕ) → last_says (instructions_in pid) old ≡ Some count → new ≡ append old (entries.Ran pid more)
    → length old ≤ limit → length new ≤ limit
more_within old new pid count more limit h e l =
    let same : length new ≡ length old = ap length e ∙ ap length (more_joined old pid count more h) ∙ length-set old (length old - 1) (entries.Ran pid (count + more)) in
    omega (arith, same, l)

pub some_last : (o : Option ℕ) → is_some o ≡ true → (count : ℕ) × (o ≡ Some count)
some_last None h = absurd cc
some_last (Some count) h = (count, refl)
