-- The processes and the residents by rising pid, where records change: each by its number.
use Rattle.std.proofs.Common.{◌≡◌, ◌≢◌, inl, inr, ℕ, zero, suc, ◌+◌, ◌-◌, ◌<◌, ◌≤◌, ◌==◌, Bool, true, false, not, ◌||◌, List, [], ◌∷◌, length, map, filter, Option, Some, None, refl, sym, ap, ◌∙◌, arith}
use Rattle.std.specs.Prelude.{filter_map}
use Rattle.std.specs.List.{range_with_len, list_any}
use Rattle.std.proofs.lemmas.Bool.{cases_eq, ne_eqb, or_right}
use Rattle.std.proofs.lemmas.Option.{same_Some}
use Rattle.vm_facts.proofs.Tests.{eq_self}
use Rattle.proc_table.specs.declared.process.Proc.{Proc as Record}
use Rattle.proc_table.specs.declared.process.Life.{Life as RecordLife}
use Rattle.proc_table.specs.declared.process.Life.TheVariants as lives
use Rattle.proc_table.specs.Records.{find, Changes, ArePidsApart}
use Rattle.page_model.specs.Pages.{numbered}
use Rattle.page_model.specs.Placement.{Residence}
use Rattle.kernel_laws.proofs.Local.{none_some}
use Rattle.kernel_model.specs.Kernel.{Proc}
use Rattle.kernel_model.specs.ChangeStep.{without_proc}
use Rattle.kernel_model.specs.Unit.{lends_life, has_lender}
use Rattle.kernel_tables.specs.Alike.{lends_to_by, lends_to, is_borrower_in, AreRecords}
use Rattle.kernel_tables.specs.Lives.{AreMarked}
use Rattle.kernel_tables.specs.Machine.{life_shown, proc_shown, proc_of_record, processes_of, residence_shown, residents_of}
use Rattle.kernel_tables.proofs.Records.{keeps_none, keeps_some, found_pid, shown_pid, find_hit, find_miss, any_found, found_any, map_same}
use Rattle.kernel_tables.proofs.MovedRecords.{same_first, found_residence}
use Rattle.kernel_tables.proofs.Lives.{pid_of, hit, miss, HasRecord, record_of}

-- Over any numbers.

pub over_same : {A : Type 0} (g h : ℕ → Option A) (ns : List ℕ) → ((n : ℕ) → g n ≡ h n) → filter_map g ns ≡ filter_map h ns
over_same g h [] e = refl
over_same g h (n ∷ ns) e = same_first g h n ns (e n) (over_same g h ns e)

-- what is left of one of all
abbrev pub kept_by : {A : Type 0} → Bool → A → Option A
kept_by true x = Some x
kept_by false x = None

abbrev pub kept_in : {A : Type 0} → (A → Bool) → (A → A) → Option A → Option A
kept_in c f None = None
kept_in c f (Some x) = kept_by (c x) (f x)

filter_out : {A : Type 0} (c : A → Bool) (x : A) (xs : List A) → c x ≡ false → filter c (x ∷ xs) ≡ filter c xs
filter_out c x xs e = rw e refl

filter_in : {A : Type 0} (c : A → Bool) (x : A) (xs : List A) → c x ≡ true → filter c (x ∷ xs) ≡ x ∷ filter c xs
filter_in c x xs e = rw e refl

pub over_left : {A : Type 0} (g h : ℕ → Option A) (c : A → Bool) (f : A → A) (ns : List ℕ) → ((n : ℕ) → g n ≡ kept_in c f (h n))
    → filter_map g ns ≡ map f (filter c (filter_map h ns))
over_left g h c f [] e = refl
over_left {A = A} g h c f (n ∷ ns) e = go (h n) refl (over_left g h c f ns e)
  where
    by : (b : Bool) (x : A) → h n ≡ Some x → c x ≡ b → filter_map g ns ≡ map f (filter c (filter_map h ns))
        → filter_map g (n ∷ ns) ≡ map f (filter c (filter_map h (n ∷ ns)))
    by true x k d more =
        keeps_some g n ns (f x) (e n ∙ ap (kept_in c f) k ∙ ap (λ (b : Bool). kept_by b (f x)) d) ∙ ap (λ (xs : List A). f x ∷ xs) more
        ∙ sym (ap (λ (xs : List A). map f (filter c xs)) (keeps_some h n ns x k) ∙ ap (map f) (filter_in c x (filter_map h ns) d))
    by false x k d more =
        keeps_none g n ns (e n ∙ ap (kept_in c f) k ∙ ap (λ (b : Bool). kept_by b (f x)) d) ∙ more
        ∙ sym (ap (λ (xs : List A). map f (filter c xs)) (keeps_some h n ns x k) ∙ ap (map f) (filter_out c x (filter_map h ns) d))

    go : (o : Option A) → h n ≡ o → filter_map g ns ≡ map f (filter c (filter_map h ns)) → filter_map g (n ∷ ns) ≡ map f (filter c (filter_map h (n ∷ ns)))
    go None k more = keeps_none g n ns (e n ∙ ap (kept_in c f) k) ∙ more ∙ sym (ap (λ (xs : List A). map f (filter c xs)) (keeps_none h n ns k))
    go (Some x) k more = by (c x) x k refl more

abbrev pub step_in : {A : Type 0} → (A → A) → Option A → Option A
step_in f None = None
step_in f (Some x) = Some (f x)

pub over_map : {A : Type 0} (g h : ℕ → Option A) (f : A → A) (ns : List ℕ) → ((n : ℕ) → g n ≡ step_in f (h n)) → filter_map g ns ≡ map f (filter_map h ns)
over_map g h f [] e = refl
over_map {A = A} g h f (n ∷ ns) e = go (h n) refl (over_map g h f ns e)
  where
    go : (o : Option A) → h n ≡ o → filter_map g ns ≡ map f (filter_map h ns) → filter_map g (n ∷ ns) ≡ map f (filter_map h (n ∷ ns))
    go None k more = keeps_none g n ns (e n ∙ ap (step_in f) k) ∙ more ∙ sym (ap (map f) (keeps_none h n ns k))
    go (Some x) k more = keeps_some g n ns (f x) (e n ∙ ap (step_in f) k) ∙ ap (λ (xs : List A). f x ∷ xs) more ∙ sym (ap (map f) (keeps_some h n ns x k))

-- One is gone.

module _ {A : Type 0} (show : Option Record → Option A) (key : A → ℕ) (pid : ℕ) (old new : List Record) (gone : show (find pid new) ≡ None)
    (others : (n : ℕ) → n ≢ pid → find n new ≡ find n old) (keyed : (n : ℕ) (x : A) → show (find n old) ≡ Some x → key x ≡ n) where
  others_kept : (n : ℕ) → show (find n new) ≡ kept_in (λ (x : A). not (key x == pid)) (λ (x : A). x) (show (find n old))
  others_kept n = go (show (find n old)) refl
    where
      go : (o : Option A) → show (find n old) ≡ o → show (find n new) ≡ kept_in (λ (x : A). not (key x == pid)) (λ (x : A). x) o
      go None k = elim (cases_eq n pid) [
        | inl i ↦ ap (λ (m : ℕ). show (find m new)) i ∙ gone
        | inr d ↦ ap show (others n d) ∙ k
      ]
      go (Some x) k = elim (cases_eq n pid) [
        | inl i ↦ ap (λ (m : ℕ). show (find m new)) i ∙ gone ∙ sym (ap (λ (b : Bool). kept_by (not b) x) (ap (λ (m : ℕ). m == pid) (keyed n x k ∙ i) ∙ eq_self pid))
        | inr d ↦ ap show (others n d) ∙ k ∙ sym (ap (λ (b : Bool). kept_by (not b) x) (ne_eqb (key x) pid (λ i. d (sym (keyed n x k) ∙ i))))
      ]

  pub gone_over : (ns : List ℕ) → filter_map (λ n. show (find n new)) ns ≡ filter (λ (x : A). not (key x == pid)) (filter_map (λ n. show (find n old)) ns)
  gone_over ns =
      over_left (λ n. show (find n new)) (λ n. show (find n old)) (λ (x : A). not (key x == pid)) (λ (x : A). x) ns others_kept
      ∙ map_same (filter (λ (x : A). not (key x == pid)) (filter_map (λ n. show (find n old)) ns))

pub gone_processes : (old new : List Record) (next pid : ℕ) → Changes old new pid None → processes_of new next ≡ without_proc (processes_of old next) pid
gone_processes old new next pid c = gone_over proc_of_record (λ (p : Proc). p.pid) pid old new (ap proc_of_record c.changed) c.others (λ n x k. shown_pid n old x k) (range_with_len 1 (next - 1))

pub gone_residents : (old new : List Record) (next pid : ℕ) (found : Option Record) → Changes old new pid found → residence_shown found ≡ None
    → residents_of new next ≡ filter (λ (r : Residence). not (r.pid == pid)) (residents_of old next)
gone_residents old new next pid found c e =
    gone_over residence_shown (λ (r : Residence). r.pid) pid old new (ap residence_shown c.changed ∙ e) c.others (λ n x k. found_residence n old x k) (range_with_len 1 (next - 1))

-- the residents stay where the residence of the one that changed does
pub still_residents : (old new : List Record) (next pid : ℕ) (found : Option Record) → Changes old new pid found
    → residence_shown found ≡ residence_shown (find pid old) → residents_of new next ≡ residents_of old next
still_residents old new next pid found c e =
    let each : (n : ℕ) → residence_shown (find n new) ≡ residence_shown (find n old) = λ n. elim (cases_eq n pid) [
      | inl i ↦ ap (λ (m : ℕ). residence_shown (find m new)) i ∙ ap residence_shown c.changed ∙ e ∙ sym (ap (λ (m : ℕ). residence_shown (find m old)) i)
      | inr d ↦ ap residence_shown (c.others n d)
    ] in
    over_same (λ n. residence_shown (find n new)) (λ n. residence_shown (find n old)) (range_with_len 1 (next - 1)) each

-- A process by its number is its record's.

there_over : (k a pid : ℕ) (ps : List Record) (p : Record) → find pid ps ≡ Some p → a ≤ pid → pid < a + k
    → numbered pid_of pid (filter_map (λ n. proc_of_record (find n ps)) (range_with_len a k)) ≡ Some (proc_shown p)
there_over zero a pid ps p f l u = absurd (omega arith)
there_over (suc k) a pid ps p f l u =
    let g : ℕ → Option Proc = λ n. proc_of_record (find n ps) in
    go (find a ps) refl (λ z w. there_over k (a + 1) pid ps p f z w)
  where
    go : (o : Option Record) → find a ps ≡ o
        → (a + 1 ≤ pid → pid < a + 1 + k → numbered pid_of pid (filter_map (λ n. proc_of_record (find n ps)) (range_with_len (a + 1) k)) ≡ Some (proc_shown p))
        → numbered pid_of pid (filter_map (λ n. proc_of_record (find n ps)) (range_with_len a (suc k))) ≡ Some (proc_shown p)
    go None e more = elim (cases_eq a pid) [
      | inl i ↦ none_some p (sym e ∙ ap (λ (n : ℕ). find n ps) i ∙ f)
      | inr d ↦ ap (numbered pid_of pid) (keeps_none (λ n. proc_of_record (find n ps)) a (range_with_len (a + 1) k) (ap proc_of_record e)) ∙ more (omega arith) (omega arith)
    ]
    go (Some x) e more = elim (cases_eq a pid) [
      | inl i ↦
          ap (numbered pid_of pid) (keeps_some (λ n. proc_of_record (find n ps)) a (range_with_len (a + 1) k) (proc_shown x) (ap proc_of_record e))
          ∙ hit pid (proc_shown x) (filter_map (λ n. proc_of_record (find n ps)) (range_with_len (a + 1) k)) (found_pid a ps x e ∙ i)
          ∙ ap (λ (q : Record). Some (proc_shown q)) (same_Some x p (sym e ∙ ap (λ (n : ℕ). find n ps) i ∙ f))
      | inr d ↦
          ap (numbered pid_of pid) (keeps_some (λ n. proc_of_record (find n ps)) a (range_with_len (a + 1) k) (proc_shown x) (ap proc_of_record e))
          ∙ miss pid (proc_shown x) (filter_map (λ n. proc_of_record (find n ps)) (range_with_len (a + 1) k)) (λ i. d (sym (found_pid a ps x e) ∙ i))
          ∙ more (omega arith) (omega arith)
    ]

pub shown_there : (ps : List Record) (next pid : ℕ) (p : Record) → AreRecords ps next → find pid ps ≡ Some p
    → numbered pid_of pid (processes_of ps next) ≡ Some (proc_shown p)
shown_there ps next pid p h f = let b = h.known pid p f in let l = h.first in there_over (next - 1) 1 pid ps p f b.0 (omega (arith, b.1, l))

pub process_is : (ps : List Record) (next pid : ℕ) → AreRecords ps next → numbered pid_of pid (processes_of ps next) ≡ proc_of_record (find pid ps)
process_is ps next pid h = go (find pid ps) (numbered pid_of pid (processes_of ps next)) refl refl
  where
    go : (o : Option Record) (m : Option Proc) → find pid ps ≡ o → numbered pid_of pid (processes_of ps next) ≡ m → m ≡ proc_of_record o
    go (Some p) m e k = sym k ∙ shown_there ps next pid p h e
    go None None e k = refl
    go None (Some q) e k = let r : HasRecord ps pid q = record_of ps next pid q k in none_some r.found (sym e ∙ r.there)

-- Who lends.

pub lends_shown : (pid : ℕ) (l : RecordLife) → lends_life pid (life_shown l) ≡ lends_to_by pid l
lends_shown pid lives.New = refl
lends_shown pid _ = refl

lender_there : (ps : List Proc) (pid k : ℕ) (q : Proc) → numbered pid_of k ps ≡ Some q → lends_life pid q.life ≡ true → has_lender ps pid ≡ true
lender_there [] pid k q e l = none_some q e
lender_there (p ∷ ps) pid k q e l = elim (cases_eq p.pid k) [
  | inl i ↦
      let is : p ≡ q = same_Some p q (sym (hit k p ps i) ∙ e) in
      ap (λ (b : Bool). b || has_lender ps pid) (ap (λ (x : Proc). lends_life pid x.life) is ∙ l)
  | inr d ↦ or_right (lends_life pid p.life) (has_lender ps pid) (lender_there ps pid k q (sym (miss k p ps d) ∙ e) l)
]

false_not : (b : Bool) → (b ≡ true → false ≡ true) → b ≡ false
false_not false h = refl
false_not true h = sym (h refl)

-- no record lends to whom no process does
pub none_lends : (ps : List Record) (next pid : ℕ) → AreRecords ps next → has_lender (processes_of ps next) pid ≡ false → list_any (lends_to pid) ps ≡ false
none_lends ps next pid h e = false_not (list_any (lends_to pid) ps) (λ t.
    let x = any_found (lends_to pid) ps h.table.apart t in
    sym e ∙ lender_there (processes_of ps next) pid x.0.pid (proc_shown x.0) (shown_there ps next x.0.pid x.0 h x.1) (lends_shown pid x.0.state ∙ x.2))

-- and that one is no borrower
pub not_borrowed : (ps : List Record) (next pid : ℕ) (p : Record) → AreRecords ps next → find pid ps ≡ Some p
    → has_lender (processes_of ps next) pid ≡ false → p.borrowed ≡ false
not_borrowed ps next pid p h f e = sym (ap is_borrower_in f) ∙ h.marked pid ∙ none_lends ps next pid h e

-- who lends in the list has a record that lends
lender_over : (ns : List ℕ) (ps : List Record) (pid : ℕ) → has_lender (filter_map (λ n. proc_of_record (find n ps)) ns) pid ≡ true
    → list_any (lends_to pid) ps ≡ true
lender_over [] ps pid e = absurd cc
lender_over (n ∷ ns) ps pid e = go (find n ps) refl (lender_over ns ps pid)
  where
    g : ℕ → Option Proc
    g m = proc_of_record (find m ps)

    by : (x : Record) (b : Bool) → find n ps ≡ Some x → lends_life pid (life_shown x.state) ≡ b → (b || has_lender (filter_map g ns) pid) ≡ true
        → (has_lender (filter_map g ns) pid ≡ true → list_any (lends_to pid) ps ≡ true) → list_any (lends_to pid) ps ≡ true
    by x true f l k more = found_any (lends_to pid) ps n x f (sym (lends_shown pid x.state) ∙ l)
    by x false f l k more = more k

    go : (o : Option Record) → find n ps ≡ o → (has_lender (filter_map g ns) pid ≡ true → list_any (lends_to pid) ps ≡ true) → list_any (lends_to pid) ps ≡ true
    go None f more = more (sym (ap (λ (qs : List Proc). has_lender qs pid) (keeps_none g n ns (ap proc_of_record f))) ∙ e)
    go (Some x) f more =
        let shown : filter_map g (n ∷ ns) ≡ proc_shown x ∷ filter_map g ns = keeps_some g n ns (proc_shown x) (ap proc_of_record f) in
        by x (lends_life pid (life_shown x.state)) f refl (sym (ap (λ (qs : List Proc). has_lender qs pid) shown) ∙ e) more

-- the marks are those of the list
pub are_marked : (ps : List Record) (next : ℕ) → AreRecords ps next → AreMarked (processes_of ps next) ps
are_marked ps next h pid p f = go (has_lender (processes_of ps next) pid) refl
  where
    go : (b : Bool) → has_lender (processes_of ps next) pid ≡ b → p.borrowed ≡ b
    go false e = not_borrowed ps next pid p h f e
    go true e = sym (ap is_borrower_in f) ∙ h.marked pid ∙ lender_over (range_with_len 1 (next - 1)) ps pid e

-- How many there are.

module _ {A : Type 0} (g h : ℕ → Option A) (pid : ℕ) (x : A) (fewer : h pid ≡ None) (here : g pid ≡ Some x) (others : (n : ℕ) → n ≢ pid → g n ≡ h n) where
  above : (k a : ℕ) → pid < a → filter_map g (range_with_len a k) ≡ filter_map h (range_with_len a k)
  above zero a l = refl
  above (suc k) a l = same_first g h a (range_with_len (a + 1) k) (others a (λ e. absurd (omega arith))) (above k (a + 1) (omega arith))

  one_over : (k a : ℕ) → a ≤ pid → pid < a + k → length (filter_map g (range_with_len a k)) ≡ length (filter_map h (range_with_len a k)) + 1
  one_over zero a l u = absurd (omega arith)
  one_over (suc k) a l u = elim (cases_eq a pid) [
    | inl i ↦
        let ns : List ℕ = range_with_len (a + 1) k in
        let p : length (filter_map g (a ∷ ns)) ≡ suc (length (filter_map g ns)) = ap length (keeps_some g a ns x (ap g i ∙ here)) in
        let q : length (filter_map h (a ∷ ns)) ≡ length (filter_map h ns) = ap length (keeps_none h a ns (ap h i ∙ fewer)) in
        let r : length (filter_map g ns) ≡ length (filter_map h ns) = ap length (above k (a + 1) (omega arith)) in
        omega (arith, p, q, r)
    | inr d ↦ other (h a) refl (others a d) (one_over k (a + 1) (omega arith) (omega arith))
  ]
    where
      other : (o : Option A) → h a ≡ o → g a ≡ h a → length (filter_map g (range_with_len (a + 1) k)) ≡ length (filter_map h (range_with_len (a + 1) k)) + 1
          → length (filter_map g (range_with_len a (suc k))) ≡ length (filter_map h (range_with_len a (suc k))) + 1
      other None e s more =
          let p : length (filter_map g (range_with_len a (suc k))) ≡ length (filter_map g (range_with_len (a + 1) k)) = ap length (keeps_none g a (range_with_len (a + 1) k) (s ∙ e)) in
          let q : length (filter_map h (range_with_len a (suc k))) ≡ length (filter_map h (range_with_len (a + 1) k)) = ap length (keeps_none h a (range_with_len (a + 1) k) e) in
          omega (arith, p, q, more)
      other (Some y) e s more =
          let p : length (filter_map g (range_with_len a (suc k))) ≡ suc (length (filter_map g (range_with_len (a + 1) k))) = ap length (keeps_some g a (range_with_len (a + 1) k) y (s ∙ e)) in
          let q : length (filter_map h (range_with_len a (suc k))) ≡ suc (length (filter_map h (range_with_len (a + 1) k))) = ap length (keeps_some h a (range_with_len (a + 1) k) y e) in
          omega (arith, p, q, more)

counted_over : (ps : List Record) (a k : ℕ) → ArePidsApart ps → ((pid : ℕ) (p : Record) → find pid ps ≡ Some p → (a ≤ pid) × (pid < a + k))
    → length ps ≤ length (filter_map (λ n. proc_of_record (find n ps)) (range_with_len a k))
counted_over [] a k apart known = omega arith
counted_over (q ∷ qs) a k apart known =
    let hits : find q.pid (q ∷ qs) ≡ Some q = find_hit q.pid q qs refl in
    let w = known q.pid q hits in
    let one = one_over (λ n. proc_of_record (find n (q ∷ qs))) (λ n. proc_of_record (find n qs)) q.pid (proc_shown q) (ap proc_of_record apart.0) (ap proc_of_record hits)
    (λ n d. ap proc_of_record (find_miss n q qs (λ i. d (sym i)))) k a w.0 w.1 in
    let more = counted_over qs a k apart.1 (λ pid p f. known pid p (find_miss pid q qs (λ i. none_some p (sym apart.0 ∙ ap (λ (n : ℕ). find n qs) i ∙ f)) ∙ f)) in
    omega (arith, one, more)

-- the table has no more records than there are processes
pub records_count : (ps : List Record) (next : ℕ) → AreRecords ps next → length ps ≤ length (processes_of ps next)
records_count ps next h = counted_over ps 1 (next - 1) h.table.apart (λ pid p f. let b = h.known pid p f in (b.0, (let l = h.first in omega (arith, b.1, l))))
