-- The processes by rising pid, once a record was put in the place of the one with its pid.
use Rattle.std.proofs.Common.{◌≡◌, ◌≢◌, ◌⊎◌, inl, inr, ℕ, ◌==◌, Bool, true, false, cond, ◌||◌, List, [], ◌∷◌, map, Option, Some, None, refl, sym, ap, ◌∙◌, subst, arith}
use Rattle.std.specs.Prelude.{filter_map, ◌-◌}
use Rattle.std.specs.List.{range_with_len, list_any}
use Rattle.std.proofs.lemmas.Bool.{cases_eq, ne_eqb, or_right}
use Rattle.std.proofs.lemmas.Bool.Decides.{nat_tests}
use Rattle.std.proofs.lemmas.Option.{same_Some}
use Rattle.vm_facts.specs.declared.regs.Regs.{Regs}
use Rattle.proc_table.specs.declared.process.Proc.{Proc as Record}
use Rattle.proc_table.specs.declared.process.Life.{Life}
use Rattle.proc_table.specs.declared.process.Life.TheVariants as lives
use Rattle.proc_table.specs.Records.{find, Changes, ArePidsApart}
use Rattle.kernel_model.specs.Kernel.{Proc}
use Rattle.kernel_model.specs.ChangeStep.{with_proc}
use Rattle.vm_facts.proofs.Tests.{eq_self}
use Rattle.kernel_tables.specs.Machine.{proc_shown, proc_of_record, processes_of, residence_by, residence_shown, residents_of}

pub keeps_none : {A B : Type 0} (h : A → Option B) (x : A) (xs : List A) → h x ≡ None → filter_map h (x ∷ xs) ≡ filter_map h xs
keeps_none h x xs e = rw e refl

pub keeps_some : {A B : Type 0} (h : A → Option B) (x : A) (xs : List A) (y : B) → h x ≡ Some y → filter_map h (x ∷ xs) ≡ y ∷ filter_map h xs
keeps_some h x xs y e = rw e refl

pub find_hit : (n : ℕ) (p : Record) (ps : List Record) → p.pid ≡ n → find n (p ∷ ps) ≡ Some p
find_hit n p ps e = grind (arith, nat_tests)

pub find_miss : (n : ℕ) (p : Record) (ps : List Record) → p.pid ≢ n → find n (p ∷ ps) ≡ find n ps
find_miss n p ps e = grind (arith, nat_tests)

pub some_is : {A : Type 0} (a b : A) → Some a ≡ Some b → a ≡ b
some_is a b e = cc

pub found_pid : (n : ℕ) (ps : List Record) (p : Record) → find n ps ≡ Some p → p.pid ≡ n
found_pid n [] p e = absurd cc
found_pid n (q ∷ qs) p e = elim (cases_eq q.pid n) [
  | inl h ↦ subst (λ (x : Record). x.pid ≡ n) (some_is q p (sym (find_hit n q qs h) ∙ e)) h
  | inr d ↦ found_pid n qs p (sym (find_miss n q qs d) ∙ e)
]

pub shown_pid : (n : ℕ) (ps : List Record) (p : Proc) → proc_of_record (find n ps) ≡ Some p → p.pid ≡ n
shown_pid n ps p h = go (find n ps) refl h
  where
    go : (o : Option Record) → find n ps ≡ o → proc_of_record o ≡ Some p → p.pid ≡ n
    go None e k = absurd cc
    go (Some x) e k = ap (λ (q : Proc). q.pid) (sym (same_Some (proc_shown x) p k)) ∙ found_pid n ps x e

pub map_same : {A : Type 0} (xs : List A) → map (λ x. x) xs ≡ xs
map_same [] = refl
map_same (x ∷ xs) = ap (λ ys. x ∷ ys) (map_same xs)

-- Over any pids: what a change of one record makes of all that are shown, where `step` makes it of each.
module _ {A : Type 0} (show : Option Record → Option A) (none : show None ≡ None) (step : A → A) (pid : ℕ) (old new : List Record) (others : (n : ℕ) → n ≢ pid → find n new ≡ find n old)
    (changed : (was : A) → show (find pid old) ≡ Some was → show (find pid new) ≡ Some (step was)) (gone : show (find pid old) ≡ None → show (find pid new) ≡ None)
    (still : (n : ℕ) (was : A) → n ≢ pid → show (find n old) ≡ Some was → step was ≡ was) where
  pub changed_over : (ns : List ℕ) → filter_map (λ n. show (find n new)) ns ≡ map step (filter_map (λ n. show (find n old)) ns)
  changed_over [] = refl
  changed_over (n ∷ ns) = go (show (find n old)) refl (cases_eq n pid) (changed_over ns)
    where
      go : (o : Option A) → show (find n old) ≡ o → (n ≡ pid) ⊎ (n ≢ pid) → filter_map (λ m. show (find m new)) ns ≡ map step (filter_map (λ m. show (find m old)) ns)
          → filter_map (λ m. show (find m new)) (n ∷ ns) ≡ map step (filter_map (λ m. show (find m old)) (n ∷ ns))
      go None f (inl h) more =
          keeps_none (λ m. show (find m new)) n ns (ap (λ (m : ℕ). show (find m new)) h ∙ gone (sym (ap (λ (m : ℕ). show (find m old)) h) ∙ f))
          ∙ more ∙ sym (ap (map step) (keeps_none (λ m. show (find m old)) n ns f))
      go None f (inr d) more = keeps_none (λ m. show (find m new)) n ns (ap show (others n d) ∙ f) ∙ more ∙ sym (ap (map step) (keeps_none (λ m. show (find m old)) n ns f))
      go (Some x) f (inl h) more =
          keeps_some (λ m. show (find m new)) n ns (step x) (ap (λ (m : ℕ). show (find m new)) h ∙ changed x (sym (ap (λ (m : ℕ). show (find m old)) h) ∙ f))
          ∙ ap (λ (xs : List A). step x ∷ xs) more ∙ sym (ap (map step) (keeps_some (λ m. show (find m old)) n ns x f))
      go (Some x) f (inr d) more =
          keeps_some (λ m. show (find m new)) n ns x (ap show (others n d) ∙ f)
          ∙ ap (λ (y : A). y ∷ filter_map (λ m. show (find m new)) ns) (sym (still n x d f))
          ∙ ap (λ (xs : List A). step x ∷ xs) more ∙ sym (ap (map step) (keeps_some (λ m. show (find m old)) n ns x f))

-- `set` of the table is `with_proc` of the kernel
pub set_is : (old new : List Record) (p was : Record) (next : ℕ) → Changes old new p.pid (Some p) → find p.pid old ≡ Some was
    → processes_of new next ≡ with_proc (processes_of old next) (proc_shown p)
set_is old new p was next c e =
    let step : Proc → Proc = λ q. cond (q.pid == p.pid) (proc_shown p) q in
    let changed : (q : Proc) → proc_of_record (find p.pid old) ≡ Some q → proc_of_record (find p.pid new) ≡ Some (step q) = λ q h.
    ap proc_of_record c.changed ∙ ap (λ (b : Bool). Some (let z : Proc = cond b (proc_shown p) q in z)) (sym (ap (λ (n : ℕ). n == p.pid) (shown_pid p.pid old q h) ∙ eq_self p.pid)) in
    let gone : proc_of_record (find p.pid old) ≡ None → proc_of_record (find p.pid new) ≡ None = λ h. absurd (let x : Some (proc_shown was) ≡ None = sym (ap proc_of_record e) ∙ h in cc) in
    let still : (n : ℕ) (q : Proc) → n ≢ p.pid → proc_of_record (find n old) ≡ Some q → step q ≡ q = λ n q d h.
    ap (λ (b : Bool). let z : Proc = cond b (proc_shown p) q in z) (ne_eqb q.pid p.pid (λ i. d (sym (shown_pid n old q h) ∙ i))) in
    changed_over proc_of_record refl step p.pid old new c.others changed gone still (range_with_len 1 (next - 1))

-- Other registers of a process.

pub regs_are : (old new : List Record) (pid : ℕ) (regs : Regs) (was : Record) (next : ℕ) → find pid old ≡ Some was
    → Changes old new pid (Some (record was { regs = regs }))
    → processes_of new next ≡ map (λ (q : Proc). cond (q.pid == pid) (record q { regs = regs }) q) (processes_of old next)
regs_are old new pid regs was next e c =
    let changed : (p : Proc) → proc_of_record (find pid old) ≡ Some p → proc_of_record (find pid new) ≡ Some (cond (p.pid == pid) (record p { regs = regs }) p) = λ p h.
    let is : proc_shown was ≡ p = same_Some (proc_shown was) p (sym (ap proc_of_record e) ∙ h) in
    ap proc_of_record c.changed
    ∙ ap (λ (b : Bool). Some (let z : Proc = cond b (record (proc_shown was) { regs = regs }) (proc_shown was) in z)) (sym (ap (λ (n : ℕ). n == pid) (found_pid pid old was e) ∙ eq_self pid))
    ∙ ap (λ (q : Proc). Some (let z : Proc = cond (q.pid == pid) (record q { regs = regs }) q in z)) is in
    let gone : proc_of_record (find pid old) ≡ None → proc_of_record (find pid new) ≡ None = λ h. absurd (let x : Some (proc_shown was) ≡ None = sym (ap proc_of_record e) ∙ h in cc) in
    let still : (n : ℕ) (p : Proc) → n ≢ pid → proc_of_record (find n old) ≡ Some p → (let z : Proc = cond (p.pid == pid) (record p { regs = regs }) p in z) ≡ p = λ n p d h.
    ap (λ (b : Bool). let z : Proc = cond b (record p { regs = regs }) p in z) (ne_eqb p.pid pid (λ i. d (sym (shown_pid n old p h) ∙ i))) in
    changed_over proc_of_record refl (λ q. cond (q.pid == pid) (record q { regs = regs }) q) pid old new c.others changed gone still (range_with_len 1 (next - 1))

residence_regs : (p : Record) (regs : Regs) (l : Life) → residence_by (record p { regs = regs }) l ≡ residence_by p l
residence_regs p regs lives.New = refl
residence_regs p regs _ = refl

-- and the residents stay
pub residents_are : (old new : List Record) (pid : ℕ) (regs : Regs) (was : Record) (next : ℕ) → find pid old ≡ Some was
    → Changes old new pid (Some (record was { regs = regs })) → residents_of new next ≡ residents_of old next
residents_are old new pid regs was next e c =
    let same : residence_shown (find pid new) ≡ residence_shown (find pid old) = ap residence_shown c.changed ∙ residence_regs was regs was.state ∙ sym (ap residence_shown e) in
    changed_over residence_shown refl (λ r. r) pid old new c.others (λ r h. same ∙ h) (λ h. same ∙ h) (λ n r d h. refl) (range_with_len 1 (next - 1)) ∙ map_same (residents_of old next)

-- Who lends.

-- a record among all is found by its pid
pub any_found : (f : Record → Bool) (ps : List Record) → ArePidsApart ps → list_any f ps ≡ true → (p : Record) × (find p.pid ps ≡ Some p) × (f p ≡ true)
any_found f [] apart h = absurd cc
any_found f (q ∷ qs) apart h = go (f q) refl h (any_found f qs apart.1)
  where
    go : (b : Bool) → f q ≡ b → (b || list_any f qs) ≡ true → (list_any f qs ≡ true → (p : Record) × (find p.pid qs ≡ Some p) × (f p ≡ true))
        → (p : Record) × (find p.pid (q ∷ qs) ≡ Some p) × (f p ≡ true)
    go true e k more = (q, find_hit q.pid q qs refl, e)
    go false e k more =
        let r = more k in
        (r.0, find_miss r.0.pid q qs (λ i. let x : Some r.0 ≡ None = sym r.1 ∙ sym (ap (λ (n : ℕ). find n qs) i) ∙ apart.0 in cc) ∙ r.1, r.2)

pub found_any : (f : Record → Bool) (ps : List Record) (n : ℕ) (p : Record) → find n ps ≡ Some p → f p ≡ true → list_any f ps ≡ true
found_any f [] n p e h = absurd cc
found_any f (q ∷ qs) n p e h = elim (cases_eq q.pid n) [
  | inl i ↦ let same : q ≡ p = some_is q p (sym (find_hit n q qs i) ∙ e) in ap (λ (b : Bool). b || list_any f qs) (ap f same ∙ h)
  | inr d ↦ or_right (f q) (list_any f qs) (found_any f qs n p (sym (find_miss n q qs d) ∙ e) h)
]

pub both_or_neither : (a b : Bool) → (a ≡ true → b ≡ true) → (b ≡ true → a ≡ true) → a ≡ b
both_or_neither true b f g = sym (f refl)
both_or_neither false true f g = g refl
both_or_neither false false f g = refl
