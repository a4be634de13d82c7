-- A process goes out or comes in: the processes and the residents by rising pid, once its record has changed.
use Rattle.std.proofs.Common.{◌≡◌, ◌≢◌, inl, inr, ℕ, zero, suc, ◌+◌, ◌-◌, ◌<◌, ◌==◌, Bool, true, cond, List, [], ◌∷◌, map, Option, Some, None, refl, sym, ap, ◌∙◌, subst, arith}
use Rattle.std.specs.Prelude.{filter_map}
use Rattle.std.specs.List.{range_with_len}
use Rattle.std.proofs.lemmas.Bool.{cases_eq, ne_eqb}
use Rattle.vm_facts.proofs.Tests.{eq_self}
use Rattle.std.proofs.lemmas.Bool.Decides.{nat_tests}
use Rattle.std.proofs.lemmas.Option.{same_Some}
use Rattle.vm_facts.specs.declared.regs.Regs.{Regs}
use Rattle.proc_table.specs.declared.process.Proc.{Proc as Record}
use Rattle.proc_table.specs.declared.process.Life.{Life as RecordLife}
use Rattle.proc_table.specs.declared.process.Life.TheVariants as lives
use Rattle.proc_table.specs.Records.{find, Changes}
use Rattle.page_model.specs.Pages.{changed, numbered}
use Rattle.page_model.specs.Placement.{Residence}
use Rattle.page_model.specs.Swapper as swapper
use Rattle.kernel_laws.proofs.Local.{none_some}
use Rattle.kernel_model.specs.Kernel.{Proc, with_regs}
use Rattle.kernel_tables.specs.Machine.{proc_shown, proc_of_record, processes_of, residence_by, residence_shown, residents_of}
use Rattle.kernel_tables.specs.Alike.{AreRecords}
use Rattle.kernel_tables.specs.Swapping.{Lasts, MovedRecord}
use Rattle.kernel_tables.proofs.Records.{keeps_none, keeps_some, found_pid, shown_pid, changed_over}
use Rattle.kernel_tables.proofs.Recorded.{changed_records, same_life}
use Rattle.kernel_tables.proofs.Lives.{pid_of, hit, miss}

-- the same first, and the same after it
pub same_first : {B : Type 0} (g h : ℕ → Option B) (x : ℕ) (xs : List ℕ) → g x ≡ h x → filter_map g xs ≡ filter_map h xs
    → filter_map g (x ∷ xs) ≡ filter_map h (x ∷ xs)
same_first {B = B} g h x xs e rest = go (h x) refl
  where
    go : (o : Option B) → h x ≡ o → filter_map g (x ∷ xs) ≡ filter_map h (x ∷ xs)
    go None k = keeps_none g x xs (e ∙ k) ∙ rest ∙ sym (keeps_none h x xs k)
    go (Some y) k = keeps_some g x xs y (e ∙ k) ∙ ap (λ (l : List B). y ∷ l) rest ∙ sym (keeps_some h x xs y k)

-- the record as it is then
abbrev now_of : Record → Regs → Bool → ℕ → Record
now_of was regs out since = record was { regs = regs; out = out; since = since }

-- Processes.

pub moved_processes : (old new : List Record) (next pid : ℕ) (regs : Regs) (out : Bool) (since : ℕ) → MovedRecord old new pid regs out since
    → processes_of new next ≡ map (with_regs pid regs) (processes_of old next)
moved_processes old new next pid regs out since m =
    let changed_is : (p : Proc) → proc_of_record (find pid old) ≡ Some p → proc_of_record (find pid new) ≡ Some (with_regs pid regs p) = λ p h.
    let is : proc_shown m.was ≡ p = same_Some (proc_shown m.was) p (sym (ap proc_of_record m.found) ∙ h) in
    ap proc_of_record m.changes.changed
    ∙ ap (λ (b : Bool). Some (let z : Proc = cond b (record (proc_shown m.was) { regs = regs }) (proc_shown m.was) in z))
    (sym (ap (λ (n : ℕ). n == pid) (found_pid pid old m.was m.found) ∙ eq_self pid))
    ∙ ap (λ (q : Proc). Some (with_regs pid regs q)) is in
    let gone : proc_of_record (find pid old) ≡ None → proc_of_record (find pid new) ≡ None = λ h. none_some (proc_shown m.was) (sym h ∙ ap proc_of_record m.found) in
    let still : (n : ℕ) (p : Proc) → n ≢ pid → proc_of_record (find n old) ≡ Some p → with_regs pid regs p ≡ p = λ n p d h.
    ap (λ (b : Bool). let z : Proc = cond b (record p { regs = regs }) p in z) (ne_eqb p.pid pid (λ i. d (sym (shown_pid n old p h) ∙ i))) in
    changed_over proc_of_record refl (with_regs pid regs) pid old new m.changes.others changed_is gone still (range_with_len 1 (next - 1))

-- Residents.

abbrev pid_in : Residence → ℕ
pid_in r = r.pid

abbrev moves_to : Bool → ℕ → Residence → Residence
moves_to out since r = record r { out = out; since = since }

changed_hit : (pid : ℕ) (f : Residence → Residence) (r : Residence) (rs : List Residence) → r.pid ≡ pid → changed pid_in pid f (r ∷ rs) ≡ f r ∷ rs
changed_hit pid f r rs e = grind (arith, nat_tests)

changed_miss : (pid : ℕ) (f : Residence → Residence) (r : Residence) (rs : List Residence) → r.pid ≢ pid
    → changed pid_in pid f (r ∷ rs) ≡ r ∷ changed pid_in pid f rs
changed_miss pid f r rs e = grind (arith, nat_tests)

residence_is : (p : Record) (life : RecordLife) → Lasts life
    → residence_by p life ≡ Some (let r : Residence = record { pid = p.pid; out = p.out; since = p.since } in r)
residence_is p (lives.Zombie status) l = absurd l
residence_is p _ l = refl

residence_pid : (p : Record) (life : RecordLife) (r : Residence) → residence_by p life ≡ Some r → r.pid ≡ p.pid
residence_pid p (lives.Zombie status) r e = none_some r e
residence_pid p _ r e = ap pid_in (sym (same_Some (let x : Residence = record { pid = p.pid; out = p.out; since = p.since } in x) r e))

-- a residence is that of the pid under which it was found
pub found_residence : (n : ℕ) (ps : List Record) (r : Residence) → residence_shown (find n ps) ≡ Some r → r.pid ≡ n
found_residence n ps r e = go (find n ps) refl e
  where
    go : (o : Option Record) → find n ps ≡ o → residence_shown o ≡ Some r → r.pid ≡ n
    go None f k = none_some r k
    go (Some x) f k = residence_pid x x.state r k ∙ found_pid n ps x f

same_above : (k a : ℕ) (old new : List Record) (pid : ℕ) (found : Option Record) → Changes old new pid found → pid < a
    → filter_map (λ n. residence_shown (find n new)) (range_with_len a k) ≡ filter_map (λ n. residence_shown (find n old)) (range_with_len a k)
same_above zero a old new pid found c l = refl
same_above (suc k) a old new pid found c l =
    same_first (λ n. residence_shown (find n new)) (λ n. residence_shown (find n old)) a (range_with_len (a + 1) k) (ap residence_shown (c.others a (λ e. absurd (omega arith))))
    (same_above k (a + 1) old new pid found c (omega arith))

residents_over : (k a : ℕ) (old new : List Record) (pid : ℕ) (regs : Regs) (out : Bool) (since : ℕ) (m : MovedRecord old new pid regs out since)
    → Lasts m.was.state
    → filter_map (λ n. residence_shown (find n new)) (range_with_len a k)
    ≡ changed pid_in pid (moves_to out since) (filter_map (λ n. residence_shown (find n old)) (range_with_len a k))
residents_over zero a old new pid regs out since m l = refl
residents_over (suc k) a old new pid regs out since m l = elim (cases_eq a pid) [
  | inl h ↦
      let was : Record = m.was in
      let r : Residence = record { pid = was.pid; out = was.out; since = was.since } in
      let now : residence_shown (find a new) ≡ Some (moves_to out since r) =
      ap (λ (n : ℕ). residence_shown (find n new)) h ∙ ap residence_shown m.changes.changed ∙ residence_is (now_of was regs out since) was.state l in
      let before : residence_shown (find a old) ≡ Some r = ap (λ (n : ℕ). residence_shown (find n old)) h ∙ ap residence_shown m.found ∙ residence_is was was.state l in
      keeps_some (λ n. residence_shown (find n new)) a (range_with_len (a + 1) k) (moves_to out since r) now
      ∙ ap (λ (rs : List Residence). moves_to out since r ∷ rs) (same_above k (a + 1) old new pid _ m.changes (omega arith))
      ∙ sym (changed_hit pid (moves_to out since) r (filter_map (λ n. residence_shown (find n old)) (range_with_len (a + 1) k)) (found_pid pid old was m.found))
      ∙ sym (ap (changed pid_in pid (moves_to out since)) (keeps_some (λ n. residence_shown (find n old)) a (range_with_len (a + 1) k) r before))
  | inr d ↦ other (residence_shown (find a old)) refl (ap residence_shown (m.changes.others a d)) d (residents_over k (a + 1) old new pid regs out since m l)
]
  where
    ns : List ℕ
    ns = range_with_len (a + 1) k

    other : (o : Option Residence) → residence_shown (find a old) ≡ o → residence_shown (find a new) ≡ residence_shown (find a old) → a ≢ pid
        → filter_map (λ n. residence_shown (find n new)) ns ≡ changed pid_in pid (moves_to out since) (filter_map (λ n. residence_shown (find n old)) ns)
        → filter_map (λ n. residence_shown (find n new)) (a ∷ ns) ≡ changed pid_in pid (moves_to out since) (filter_map (λ n. residence_shown (find n old)) (a ∷ ns))
    other None f s d rest =
        keeps_none (λ n. residence_shown (find n new)) a ns (s ∙ f) ∙ rest
        ∙ sym (ap (changed pid_in pid (moves_to out since)) (keeps_none (λ n. residence_shown (find n old)) a ns f))
    other (Some r) f s d rest =
        keeps_some (λ n. residence_shown (find n new)) a ns r (s ∙ f) ∙ ap (λ (rs : List Residence). r ∷ rs) rest
        ∙ sym (changed_miss pid (moves_to out since) r (filter_map (λ n. residence_shown (find n old)) ns) (λ h. d (sym (found_residence a old r f) ∙ h)))
        ∙ sym (ap (changed pid_in pid (moves_to out since)) (keeps_some (λ n. residence_shown (find n old)) a ns r f))

pub moved_residents : (old new : List Record) (next pid : ℕ) (regs : Regs) (out : Bool) (since : ℕ) (m : MovedRecord old new pid regs out since)
    → Lasts m.was.state
    → residents_of new next ≡ changed (λ (r : Residence). r.pid) pid (λ (r : Residence). record r { out = out; since = since }) (residents_of old next)
moved_residents old new next pid regs out since m l = residents_over (next - 1) 1 old new pid regs out since m l

-- What the records hold.

pub moved_records : (old new : List Record) (next pid : ℕ) (regs : Regs) (out : Bool) (since : ℕ) → MovedRecord old new pid regs out since
    → AreRecords old next → AreRecords new next
moved_records old new next pid regs out since m h =
    changed_records old new next pid m.was (Some (now_of m.was regs out since)) m.after m.found m.changes (same_life old next pid m.was (now_of m.was regs out since) h m.found refl refl) h

-- Who is out has a record that lasts.

pub record IsOutThere (ps : List Record) (pid : ℕ) (procs : List Proc) : Type 0 where
  pub was : Record
  pub found : find pid ps ≡ Some was
  pub lasts : Lasts was.state
  pub kept : numbered (λ (p : Proc). p.pid) pid procs ≡ Some (proc_shown was)

out_miss : (n : ℕ) (r : Residence) (rs : List Residence) → r.pid ≢ n → swapper.residence_of (r ∷ rs) n ≡ swapper.residence_of rs n
out_miss n r rs e = grind (arith, nat_tests)

lasting : (p : Record) (life : RecordLife) (r : Residence) → residence_by p life ≡ Some r → Lasts life
lasting p (lives.Zombie status) r e = none_some r e
lasting p _ r e = tt

out_over : (ns : List ℕ) (ps : List Record) (pid : ℕ) → (swapper.residence_of (filter_map (λ n. residence_shown (find n ps)) ns) pid).out ≡ true
    → IsOutThere ps pid (filter_map (λ n. proc_of_record (find n ps)) ns)
out_over [] ps pid e = absurd cc
out_over (n ∷ ns) ps pid e = go (find n ps) refl (λ k. out_over ns ps pid k)
  where
    procs : List Proc
    procs = filter_map (λ k. proc_of_record (find k ps)) ns

    rs : List Residence
    rs = filter_map (λ k. residence_shown (find k ps)) ns

    -- the next of another pid
    later : (x : Record) → find n ps ≡ Some x → x.pid ≢ pid → IsOutThere ps pid procs → IsOutThere ps pid (filter_map (λ k. proc_of_record (find k ps)) (n ∷ ns))
    later x f d o = record {
      was = o.was;
      found = o.found;
      lasts = o.lasts;
      kept = ap (numbered pid_of pid) (keeps_some (λ k. proc_of_record (find k ps)) n ns (proc_shown x) (ap proc_of_record f)) ∙ miss pid (proc_shown x) procs d ∙ o.kept;
    }

    found : (x : Record) → find n ps ≡ Some x → x.pid ≡ pid → Lasts x.state → IsOutThere ps pid (filter_map (λ k. proc_of_record (find k ps)) (n ∷ ns))
    found x f h l = record {
      was = x;
      found = ap (λ (k : ℕ). find k ps) (sym h ∙ found_pid n ps x f) ∙ f;
      lasts = l;
      kept = ap (numbered pid_of pid) (keeps_some (λ k. proc_of_record (find k ps)) n ns (proc_shown x) (ap proc_of_record f)) ∙ hit pid (proc_shown x) procs h;
    }

    -- a record of the pid, after all
    same : (x : Record) → find n ps ≡ Some x → x.pid ≡ pid → IsOutThere ps pid procs → IsOutThere ps pid (filter_map (λ k. proc_of_record (find k ps)) (n ∷ ns))
    same x f h o = found x f h (subst (λ (y : Record). Lasts y.state) (same_Some o.was x (sym o.found ∙ ap (λ (k : ℕ). find k ps) (sym h ∙ found_pid n ps x f) ∙ f)) o.lasts)

    behind : (x : Record) → find n ps ≡ Some x → (swapper.residence_of rs pid).out ≡ true → ((swapper.residence_of rs pid).out ≡ true → IsOutThere ps pid procs)
        → IsOutThere ps pid (filter_map (λ k. proc_of_record (find k ps)) (n ∷ ns))
    behind x f k more = elim (cases_eq x.pid pid) [
      | inl h ↦ same x f h (more k)
      | inr d ↦ later x f d (more k)
    ]

    by : (x : Record) → find n ps ≡ Some x → (o : Option Residence) → residence_by x x.state ≡ o → ((swapper.residence_of rs pid).out ≡ true → IsOutThere ps pid procs)
        → IsOutThere ps pid (filter_map (λ k. proc_of_record (find k ps)) (n ∷ ns))
    by x f None z more = behind x f (sym (ap (λ (l : List Residence). (swapper.residence_of l pid).out) (keeps_none (λ k. residence_shown (find k ps)) n ns (ap residence_shown f ∙ z))) ∙ e) more
    by x f (Some r) z more = elim (cases_eq r.pid pid) [
      | inl h ↦ found x f (sym (residence_pid x x.state r z) ∙ h) (lasting x x.state r z)
      | inr d ↦ behind x f (sym (ap (λ (y : Residence). y.out) (out_miss pid r rs d))
          ∙ sym (ap (λ (l : List Residence). (swapper.residence_of l pid).out) (keeps_some (λ k. residence_shown (find k ps)) n ns r (ap residence_shown f ∙ z))) ∙ e) more
    ]

    go : (o : Option Record) → find n ps ≡ o → ((swapper.residence_of rs pid).out ≡ true → IsOutThere ps pid procs) → IsOutThere ps pid (filter_map (λ k. proc_of_record (find k ps)) (n ∷ ns))
    go None f more =
        let o : IsOutThere ps pid procs = more (sym (ap (λ (l : List Residence). (swapper.residence_of l pid).out) (keeps_none (λ k. residence_shown (find k ps)) n ns (ap residence_shown f))) ∙ e) in
        record { was = o.was; found = o.found; lasts = o.lasts; kept = ap (numbered pid_of pid) (keeps_none (λ k. proc_of_record (find k ps)) n ns (ap proc_of_record f)) ∙ o.kept }
    go (Some x) f more = by x f (residence_by x x.state) refl more

pub out_there : (ps : List Record) (next pid : ℕ) → (swapper.residence_of (residents_of ps next) pid).out ≡ true → IsOutThere ps pid (processes_of ps next)
out_there ps next pid e = out_over (range_with_len 1 (next - 1)) ps pid e
