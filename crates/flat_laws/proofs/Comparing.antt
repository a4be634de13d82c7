-- Two lists of acts of one process, beside one another.
use Rattle.std.proofs.Common.{◌≡◌, ℕ, ◌==◌, true, false, List, [], ◌∷◌, ◌++◌, Option, Some, None, refl, sym, ap, ◌∙◌, subst}
use Rattle.std.proofs.lemmas.Option.{same_Some}
use Rattle.vm_facts.specs.declared.entry.Entry.{Entry}
use Rattle.flat_state.specs.Flat.{Process, FlatState, Inputs, process_of, ready_if, can_step}
use Rattle.flat_model.specs.Run.{Point, process_of_entry, flat_entry, flat_units}
use Rattle.flat_laws.proofs.Entries.{one_entry}
use Rattle.flat_laws.proofs.Others.{number_of_found}
use Rattle.flat_laws.proofs.Sole.{Only, only_found}
use Rattle.flat_laws.proofs.Steps.{only_entry, entry_steps}
use Rattle.flat_laws.proofs.Acts.{IsPlainAct, ArePlainActs}

-- the process that can step has the one number
steps_alone : (n : ℕ) (F : FlatState) (pid : ℕ) → Only n F.processes → can_step F pid ≡ true → pid ≡ n
steps_alone n F pid only h = go (process_of F pid) refl h
  where
    go : (o : Option Process) → process_of F pid ≡ o → ready_if o ≡ true → pid ≡ n
    go None e k = absurd cc
    go (Some p) e k = sym (number_of_found F.processes pid p e) ∙ (only_found n (λ q. q.pid == pid) F.processes p e only).0

-- where each process has the one number, an act is its
act_alone : (n : ℕ) (A : Inputs) (point q : Point) (e : Entry) → Only n point.flat.processes → (plain : IsPlainAct e) → flat_entry A point e ≡ Some q
    → process_of_entry e ≡ Some n
act_alone n A point q e only plain h =
    plain.of ∙ ap (λ (pid : ℕ). Some pid) (steps_alone n point.flat plain.pid only (entry_steps A point q plain.pid e plain.of h))

-- Which of two lists of acts goes on behind the other; where the process can't step, neither does.
pub data Compared (xs ys : List Entry) (p q : Point) : Type 0 where
  First : (rest : List Entry) → xs ++ rest ≡ ys → (can_step p.flat 1 ≡ false → rest ≡ []) → Compared xs ys p q
  Second : (rest : List Entry) → ys ++ rest ≡ xs → (can_step q.flat 1 ≡ false → rest ≡ []) → Compared xs ys p q

-- where the process can't step there is no act
pub none_follows : (A : Inputs) (xs : List Entry) (point p : Point) → Only 1 point.flat.processes → ArePlainActs xs → flat_units A (Some point) xs ≡ Some p
    → can_step point.flat 1 ≡ false → xs ≡ []
unfolding flat_units
none_follows A [] point p only plain h stays = refl
none_follows A (x ∷ xs) point p only plain h stays = go (flat_entry A point x) refl h
  where
    go : (o : Option Point) → flat_entry A point x ≡ o → flat_units A o xs ≡ Some p → x ∷ xs ≡ []
    go None e k = absurd cc
    go (Some next) e k =
        let steps : can_step point.flat 1 ≡ true = entry_steps A point next 1 x (act_alone 1 A point next x only plain.0 e) e in
        let never : true ≡ false = sym steps ∙ stays in absurd cc

compared_more : (x y : Entry) (xs ys : List Entry) (p q : Point) → x ≡ y → Compared xs ys p q → Compared (x ∷ xs) (y ∷ ys) p q
compared_more x y xs ys p q same (First rest h k) = First rest (ap (λ (e : Entry). e ∷ xs ++ rest) same ∙ ap (λ (es : List Entry). y ∷ es) h) k
compared_more x y xs ys p q same (Second rest h k) = Second rest (ap (λ (e : Entry). e ∷ ys ++ rest) (sym same) ∙ ap (λ (es : List Entry). x ∷ es) h) k

pub compare : (A : Inputs) (xs ys : List Entry) (point p q : Point) → Only 1 point.flat.processes → ArePlainActs xs → ArePlainActs ys
    → flat_units A (Some point) xs ≡ Some p → flat_units A (Some point) ys ≡ Some q → Compared xs ys p q
unfolding flat_units
compare A [] ys point p q only plain also h k =
    First ys refl (λ stays. none_follows A ys point q only also k (subst (λ (x : Point). can_step x.flat 1 ≡ false) (sym (same_Some point p h)) stays))
compare A (x ∷ xs) [] point p q only plain also h k =
    Second (x ∷ xs) refl (λ stays. none_follows A (x ∷ xs) point p only plain h (subst (λ (z : Point). can_step z.flat 1 ≡ false) (sym (same_Some point q k)) stays))
compare A (x ∷ xs) (y ∷ ys) point p q only plain also h k =
    go (λ next. compare A xs ys next p q) (flat_entry A point x) refl h (flat_entry A point y) refl k
  where
    go : ((next : Point) → Only 1 next.flat.processes → ArePlainActs xs → ArePlainActs ys → flat_units A (Some next) xs ≡ Some p → flat_units A (Some next) ys ≡ Some q → Compared xs ys p q)
        → (o : Option Point) → flat_entry A point x ≡ o → flat_units A o xs ≡ Some p → (r : Option Point) → flat_entry A point y ≡ r → flat_units A r ys ≡ Some q
        → Compared (x ∷ xs) (y ∷ ys) p q
    go later None e m r f n = absurd cc
    go later (Some next) e m None f n = absurd cc
    go later (Some next) e m (Some beside) f n =
        let same : x ≡ y =
        one_entry A point next beside 1 x y (act_alone 1 A point next x only plain.0 e) (act_alone 1 A point beside y only also.0 f) plain.0.served also.0.served e f in
        let there : Some next ≡ Some beside = sym e ∙ ap (λ (u : Entry). flat_entry A point u) same ∙ f in
        let along : flat_units A (Some next) ys ≡ Some q = ap (λ (o : Option Point). flat_units A o ys) there ∙ n in
        compared_more x y xs ys p q same (later next (only_entry 1 A point next x e plain.0.childless only) plain.1 also.1 m along)
