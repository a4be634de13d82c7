-- What the tables are left with where a process comes, changes what it has, ends or goes.
use Rattle.std.proofs.Common.{◌≡◌, ◌≢◌, inl, inr, ℕ, ◌+◌, ◌-◌, ◌==◌, Bool, true, false, cond, not, ◌&&◌, List, filter, Option, Some, None, IsSome, refl, sym, ap, ◌∙◌, subst}
use Rattle.std.specs.List.{range_with_len}
use Rattle.std.proofs.lemmas.Bool.{cases_eq, ne_eqb}
use Rattle.std.proofs.lemmas.Option.{same_Some}
use Rattle.vm_facts.proofs.Tests.{eq_self}
use Rattle.proc_table.specs.declared.process.Proc.{Proc as Record}
use Rattle.proc_table.specs.declared.process.Life.{Life as RecordLife}
use Rattle.proc_table.specs.declared.process.Life.TheVariants as lives
use Rattle.proc_table.specs.Records.{find, Changes, IsProcTable}
use Rattle.page_model.specs.Placement.{Residence}
use Rattle.kernel_model.specs.Kernel.{Life, Ended, Proc}
use Rattle.vm_facts.specs.declared.regs.Regs.{Regs}
use Rattle.flat_state.specs.Change.{with_results}
use Rattle.kernel_model.specs.ChangeStep.{with_proc, without_proc, child_proc, is_ended, orphaned_procs, woken_procs, left_procs, life_of_proc}
use Rattle.kernel_model.specs.Sound.{has_life, lives_in, lives as are_alive}
use Rattle.kernel_model.specs.Unit.{has_lender}
use Rattle.kernel_laws.proofs.Machine.Ends.{orphan, stays}
use Rattle.kernel_tables.specs.declared.tables.Tables.{Tables}
use Rattle.kernel_tables.specs.Alike.{lends_to_by, AreRecords}
use Rattle.kernel_tables.specs.Machine.{life_shown, proc_shown, proc_of_record, processes_of, residence_by, residence_shown, residents_of}
use Rattle.kernel_tables.specs.Changing.{HasProcesses, HasOneMore, HasChanged, HasEnded, HoldsOrNew, processes_in, residents_in, process_in, life_at}
use Rattle.kernel_tables.specs.Families.{left_life, left_by, left_in, LeftChildren, IsAlone, IsBuried}
use Rattle.kernel_tables.proofs.Records.{found_pid, set_is}
use Rattle.kernel_tables.proofs.Recorded.{StandsFor, Comes, changed_records, stand_records}
use Rattle.kernel_tables.proofs.Listed.{over_same, over_left, over_map, kept_in, kept_by, step_in, gone_processes, gone_residents, still_residents, process_is, not_borrowed}
use Rattle.kernel_tables.proofs.AddedRecords.{added_processes, added_residents}
use Rattle.kernel_tables.proofs.Kin.{alone_stands, zombie_alone, added_records, left_records}

pub has_processes : (t u : Tables) (ps : List Proc) (rs : List Residence) → u ≡ record t { processes = u.processes }
    → processes_of u.processes t.next_pid ≡ ps → residents_of u.processes t.next_pid ≡ rs
    → AreRecords u.processes t.next_pid → HasProcesses t u t.next_pid ps rs
has_processes t u ps rs e p r h =
    let n : u.next_pid ≡ t.next_pid = ap (λ (x : Tables). x.next_pid) e in
    record {
      number = n;
      processes = ap (processes_of u.processes) n ∙ p;
      residents = ap (residents_of u.processes) n ∙ r;
      records = subst (AreRecords u.processes) (sym n) h;
      rest = e ∙ ap (λ (k : ℕ). record t { processes = u.processes; next_pid = k }) (sym n);
    }

-- The record of a process, by what the kernel knows of it.

pub found_there : (t : Tables) (pid : ℕ) → AreRecords t.processes t.next_pid → IsSome (process_in t pid) → IsSome (find pid t.processes)
found_there t pid h s = go (find pid t.processes) (subst (λ (o : Option Proc). IsSome o) (process_is t.processes t.next_pid pid h) s)
  where
    go : (o : Option Record) → IsSome (proc_of_record o) → IsSome o
    go None k = k
    go (Some p) k = k

pub shown_is : (t : Tables) (pid : ℕ) (was : Record) (p : Proc) → AreRecords t.processes t.next_pid → find pid t.processes ≡ Some was
    → process_in t pid ≡ Some p → proc_shown was ≡ p
shown_is t pid was p h f e = same_Some (proc_shown was) p (sym (process_is t.processes t.next_pid pid h ∙ ap proc_of_record f) ∙ e)

pub life_shown_at : (t : Tables) (pid : ℕ) (was : Record) → AreRecords t.processes t.next_pid → find pid t.processes ≡ Some was
    → life_at t pid ≡ life_shown was.state
life_shown_at t pid was h f = ap life_of_proc (process_is t.processes t.next_pid pid h ∙ ap proc_of_record f)

lends_none : (n : ℕ) (l : RecordLife) → HoldsOrNew (life_shown l) → lends_to_by n l ≡ false
lends_none n (lives.Lends sid child) h = absurd h
lends_none n (lives.Zombie status) h = absurd h
lends_none n _ h = refl

pub fresh_alone : (p : Record) → HoldsOrNew (life_shown p.state) → p.borrowed ≡ false → IsAlone p
fresh_alone p h b = record { lends = λ n. lends_none n p.state h; borrows = b }

pub alone_of : (t : Tables) (pid : ℕ) (was : Record) → AreRecords t.processes t.next_pid → find pid t.processes ≡ Some was
    → HoldsOrNew (life_at t pid) → has_lender (processes_in t) pid ≡ false → IsAlone was
alone_of t pid was h f l e = fresh_alone was (subst HoldsOrNew (life_shown_at t pid was h f) l) (not_borrowed t.processes t.next_pid pid was h f e)

pub fresh_residence : (p : Record) (l : RecordLife) → HoldsOrNew (life_shown l)
    → residence_by p l ≡ Some (let r : Residence = record { pid = p.pid; out = p.out; since = p.since } in r)
fresh_residence p (lives.Lends sid child) h = absurd h
fresh_residence p (lives.Zombie status) h = absurd h
fresh_residence p _ h = refl

pub residence_asleep : (p : Record) (b : Bool) (l : RecordLife) → residence_by (record p { asleep = b }) l ≡ residence_by p l
residence_asleep p b lives.New = refl
residence_asleep p b _ = refl

residence_orphan : (p : Record) (l : RecordLife) → residence_by (record p { parent = 0 }) l ≡ residence_by p l
residence_orphan p lives.New = refl
residence_orphan p _ = refl

-- One more.

pub one_more : (t u : Tables) (p : Record) → AreRecords t.processes t.next_pid → p.pid ≡ t.next_pid → HoldsOrNew (life_shown p.state)
    → p.borrowed ≡ false → p.out ≡ false
    → Changes t.processes u.processes t.next_pid (Some p) → IsProcTable u.processes
    → u ≡ record t { processes = u.processes; next_pid = u.next_pid } → u.next_pid ≡ t.next_pid + 1
    → HasOneMore t u (proc_shown p) p.since
one_more t u p h i f b o c s e n =
    let r : residence_by p p.state ≡ Some (let x : Residence = record { pid = t.next_pid; out = false; since = p.since } in x) =
    fresh_residence p p.state f
    ∙ ap (λ (k : ℕ). Some (let x : Residence = record { pid = k; out = p.out; since = p.since } in x)) i
    ∙ ap (λ (k : Bool). Some (let x : Residence = record { pid = t.next_pid; out = k; since = p.since } in x)) o in
    record {
      number = n;
      processes = ap (processes_of u.processes) n ∙ added_processes t.processes u.processes t.next_pid p h.first c;
      residents = ap (residents_of u.processes) n ∙ added_residents t.processes u.processes t.next_pid p (record { pid = t.next_pid; out = false; since = p.since }) h.first c r;
      records = subst (AreRecords u.processes) (sym n) (added_records t.processes u.processes t.next_pid p h s c (fresh_alone p f b));
      rest = e;
    }

-- Another record.

pub has_changed : (t u : Tables) (was now : Record) → AreRecords t.processes t.next_pid → find now.pid t.processes ≡ Some was
    → Changes t.processes u.processes now.pid (Some now) → IsProcTable u.processes
    → u ≡ record t { processes = u.processes } → StandsFor now was → residence_by now now.state ≡ residence_by was was.state → HasChanged t u (proc_shown now)
has_changed t u was now h f c s e x r = has_processes t u _ _ e
    (set_is t.processes u.processes now was t.next_pid c f)
    (still_residents t.processes u.processes t.next_pid now.pid (Some now) c (r ∙ sym (ap residence_shown f)))
    (changed_records t.processes u.processes t.next_pid now.pid was (Some now) s f c x h)

-- Gone.

pub has_gone : (t u : Tables) (pid : ℕ) (was : Record) → AreRecords t.processes t.next_pid → find pid t.processes ≡ Some was
    → Changes t.processes u.processes pid None → IsProcTable u.processes
    → u ≡ record t { processes = u.processes } → IsAlone was
    → HasProcesses t u t.next_pid (without_proc (processes_in t) pid) (filter (λ (r : Residence). not (r.pid == pid)) (residents_in t))
has_gone t u pid was h f c s e a = has_processes t u _ _ e
    (gone_processes t.processes u.processes t.next_pid pid c)
    (gone_residents t.processes u.processes t.next_pid pid None c refl)
    (changed_records t.processes u.processes t.next_pid pid was None s f c a h)

ended_state : (l : RecordLife) → has_life (life_shown l) ≡ false → (status : ℕ) × (l ≡ lives.Zombie status)
ended_state (lives.Zombie status) e = (status, refl)
ended_state _ e = absurd cc

-- who isn't there, or has ended
pub has_reaped : (t u : Tables) (pid : ℕ) → AreRecords t.processes t.next_pid → are_alive (processes_in t) pid ≡ false
    → Changes t.processes u.processes pid None → IsProcTable u.processes
    → u ≡ record t { processes = u.processes } → HasProcesses t u t.next_pid (without_proc (processes_in t) pid) (residents_in t)
has_reaped t u pid h d c s e = has_processes t u _ _ e
    (gone_processes t.processes u.processes t.next_pid pid c)
    (still_residents t.processes u.processes t.next_pid pid None c (sym (none (find pid t.processes) dead)))
    (by (find pid t.processes) refl)
  where
    dead : lives_in (proc_of_record (find pid t.processes)) ≡ false
    dead = ap lives_in (sym (process_is t.processes t.next_pid pid h)) ∙ d

    none_at : (p : Record) (l : RecordLife) → has_life (life_shown l) ≡ false → residence_by p l ≡ None
    none_at p l k = let z = ended_state l k in ap (residence_by p) z.1

    none : (o : Option Record) → lives_in (proc_of_record o) ≡ false → residence_shown o ≡ None
    none None k = refl
    none (Some p) k = none_at p p.state k

    itself : (k : ℕ) (q : Record) → find k t.processes ≡ Some q → StandsFor q q
    itself k q g = record { lends = λ n. refl; borrowed = refl; holds = h.holds k q g }

    same : find pid t.processes ≡ None → (k : ℕ) → find k u.processes ≡ find k t.processes
    same g k = elim (cases_eq k pid) [
      | inl i ↦ ap (λ (l : ℕ). find l u.processes) i ∙ c.changed ∙ sym (ap (λ (l : ℕ). find l t.processes) i ∙ g)
      | inr n ↦ c.others k n
    ]

    by : (o : Option Record) → find pid t.processes ≡ o → AreRecords u.processes t.next_pid
    by None g = stand_records t.processes u.processes t.next_pid h s
        (λ k p f. let m : find k t.processes ≡ Some p = sym (same g k) ∙ f in (p, m, itself k p m))
        (λ k q f. subst (λ (o : Option Record). Comes o q) (sym (same g k ∙ f)) (itself k q f))
    by (Some p) g =
        let z = ended_state p.state (sym (ap (λ (o : Option Record). lives_in (proc_of_record o)) g) ∙ dead) in
        changed_records t.processes u.processes t.next_pid pid p None s g c (zombie_alone t.processes t.next_pid pid p z.0 h g z.1) h

-- Awake.

abbrev wakes : ℕ → Proc → Proc
wakes pid q = record q { asleep = cond (q.pid == pid) false q.asleep }

woken_other : (pid : ℕ) (q : Record) → q.pid ≢ pid → Some (proc_shown q) ≡ Some (wakes pid (proc_shown q))
woken_other pid q d = ap (λ (b : Bool). Some (let z : Proc = record (proc_shown q) { asleep = cond b false q.asleep } in z)) (sym (ne_eqb q.pid pid d))

woken_over : (old new : List Record) (next pid : ℕ) → ((n : ℕ) → n ≢ pid → find n new ≡ find n old)
    → proc_of_record (find pid new) ≡ step_in (wakes pid) (proc_of_record (find pid old))
    → processes_of new next ≡ woken_procs (processes_of old next) pid
woken_over old new next pid others here =
    let each : (n : ℕ) → proc_of_record (find n new) ≡ step_in (wakes pid) (proc_of_record (find n old)) = λ n. elim (cases_eq n pid) [
      | inl i ↦ subst (λ (m : ℕ). proc_of_record (find m new) ≡ step_in (wakes pid) (proc_of_record (find m old))) (sym i) here
      | inr d ↦ ap proc_of_record (others n d) ∙ other n (find n old) refl d
    ] in
    over_map (λ n. proc_of_record (find n new)) (λ n. proc_of_record (find n old)) (wakes pid) (range_with_len 1 (next - 1)) each
  where
    other : (n : ℕ) (o : Option Record) → find n old ≡ o → n ≢ pid → proc_of_record o ≡ step_in (wakes pid) (proc_of_record o)
    other n None f d = refl
    other n (Some q) f d = woken_other pid q (λ i. d (sym (found_pid n old q f) ∙ i))

pub has_woken : (t u : Tables) (was : Record) → AreRecords t.processes t.next_pid → find was.pid t.processes ≡ Some was
    → Changes t.processes u.processes was.pid (Some (record was { asleep = false })) → IsProcTable u.processes
    → u ≡ record t { processes = u.processes } → HasProcesses t u t.next_pid (woken_procs (processes_in t) was.pid) (residents_in t)
has_woken t u was h f c s e =
    let here : proc_of_record (find was.pid u.processes) ≡ step_in (wakes was.pid) (proc_of_record (find was.pid t.processes)) =
    ap proc_of_record c.changed
    ∙ ap (λ (b : Bool). Some (let z : Proc = record (proc_shown was) { asleep = cond b false was.asleep } in z)) (sym (eq_self was.pid))
    ∙ sym (ap (λ (o : Option Record). step_in (wakes was.pid) (proc_of_record o)) f) in
    has_processes t u _ _ e
    (woken_over t.processes u.processes t.next_pid was.pid c.others here)
    (still_residents t.processes u.processes t.next_pid was.pid (Some (record was { asleep = false })) c (residence_asleep was false was.state ∙ sym (ap residence_shown f)))
    (changed_records t.processes u.processes t.next_pid was.pid was (Some (record was { asleep = false })) s f c (record { lends = λ n. refl; borrowed = refl; holds = h.holds was.pid was f }) h)

pub none_woken : (t : Tables) (pid : ℕ) → AreRecords t.processes t.next_pid → find pid t.processes ≡ None
    → HasProcesses t t t.next_pid (woken_procs (processes_in t) pid) (residents_in t)
none_woken t pid h f = has_processes t t _ _ refl
    (woken_over t.processes t.processes t.next_pid pid (λ n d. refl) (ap proc_of_record f ∙ sym (ap (λ (o : Option Record). step_in (wakes pid) (proc_of_record o)) f)))
    refl h

-- Orphans.

orphan_life : (q : Record) (l : RecordLife)
    → proc_of_record (left_life q l) ≡ kept_by (not (true && is_ended (life_shown l))) (record (proc_shown q) { parent = 0 })
orphan_life q lives.New = refl
orphan_life q _ = refl

orphan_by : (q : Record) (b : Bool)
    → proc_of_record (left_by b q) ≡ kept_by (not (b && is_ended (life_shown q.state))) (record (proc_shown q) { parent = cond b 0 q.parent })
orphan_by q true = orphan_life q q.state
orphan_by q false = refl

orphan_in : (pid : ℕ) (o : Option Record) → proc_of_record (left_in pid o) ≡ kept_in (stays pid) (orphan pid) (proc_of_record o)
orphan_in pid None = refl
orphan_in pid (Some q) = orphan_by q (q.parent == pid)

orphan_stays : (q : Record) (l : RecordLife) → q.state ≡ l → residence_shown (left_life q l) ≡ residence_by q q.state
orphan_stays q (lives.Zombie status) e = sym (ap (residence_by q) e)
orphan_stays q _ e = residence_orphan q q.state

orphan_resides : (q : Record) (b : Bool) → residence_shown (left_by b q) ≡ residence_by q q.state
orphan_resides q true = orphan_stays q q.state refl
orphan_resides q false = refl

orphan_residence : (pid : ℕ) (o : Option Record) → residence_shown (left_in pid o) ≡ residence_shown o
orphan_residence pid None = refl
orphan_residence pid (Some q) = orphan_resides q (q.parent == pid)

pub has_left : (t u : Tables) (pid : ℕ) → AreRecords t.processes t.next_pid → LeftChildren t u pid
    → HasProcesses t u t.next_pid (orphaned_procs (processes_in t) pid) (residents_in t)
has_left t u pid h l = has_processes t u _ _ l.rest
    (over_left (λ n. proc_of_record (find n u.processes)) (λ n. proc_of_record (find n t.processes)) (stays pid) (orphan pid) (range_with_len 1 (t.next_pid - 1))
    (λ n. ap proc_of_record (l.left n) ∙ orphan_in pid (find n t.processes)))
    (over_same (λ n. residence_shown (find n u.processes)) (λ n. residence_shown (find n t.processes)) (range_with_len 1 (t.next_pid - 1))
    (λ n. ap residence_shown (l.left n) ∙ orphan_residence pid (find n t.processes)))
    (left_records t.processes u.processes t.next_pid pid h l.sound l.left)

-- Zombies.

abbrev pub IsZombie : Tables → Tables → Record → ℕ → Type 0
IsZombie t u p status =
    HasProcesses t u t.next_pid (with_proc (processes_in t) (record (proc_shown p) { life = Ended status })) (filter (λ (r : Residence). not (r.pid == p.pid)) (residents_in t))

pub has_died : (t u : Tables) (was now : Record) (status : ℕ) → AreRecords t.processes t.next_pid → find now.pid t.processes ≡ Some was
    → IsAlone was → now.borrowed ≡ false
    → Changes t.processes u.processes now.pid (Some (record now { state = lives.Zombie status })) → IsProcTable u.processes
    → u ≡ record t { processes = u.processes }
    → IsZombie t u now status
has_died t u was now status h f a b c s e =
    let z : Record = record now { state = lives.Zombie status } in
    has_processes t u _ _ e
    (set_is t.processes u.processes z was t.next_pid c f)
    (gone_residents t.processes u.processes t.next_pid now.pid (Some z) c refl)
    (changed_records t.processes u.processes t.next_pid now.pid was (Some z) s f c (alone_stands z was (record { lends = λ n. refl; borrows = b }) a) h)

-- one after another
pub then_has : (t u w : Tables) (ps qs : List Proc) (rs ss : List Residence) → HasProcesses t u t.next_pid ps rs
    → HasProcesses u w u.next_pid qs ss → HasProcesses t w t.next_pid qs ss
then_has t u w ps qs rs ss a b = record {
  number = b.number ∙ a.number;
  processes = b.processes;
  residents = b.residents;
  records = b.records;
  rest = b.rest ∙ ap (λ (x : Tables). record x { processes = w.processes; next_pid = w.next_pid }) a.rest;
}

-- The end of a process whose children have left.

some_there : (o : Option Record) → IsSome o → (p : Record) × (o ≡ Some p)
some_there None h = absurd cc
some_there (Some p) h = (p, refl)

abbrev others_of : ℕ → List Residence → List Residence
others_of pid rs = filter (λ (r : Residence). not (r.pid == pid)) rs

-- a zombie of no parent is gone
pub buried : (t u : Tables) (p : Record) (status : ℕ) → AreRecords t.processes t.next_pid → IsSome (find p.pid t.processes)
    → ((was : Record) → find p.pid t.processes ≡ Some was → IsAlone was)
    → p.parent ≡ 0 → Changes t.processes u.processes p.pid None → IsProcTable u.processes → u ≡ record t { processes = u.processes }
    → IsBuried t u p status
buried t u p status h there alone none c s e =
    let w = some_there (find p.pid t.processes) there in
    subst (λ (n : ℕ). HasProcesses t u t.next_pid (left_procs (n == 0) (processes_in t) (proc_shown p) status) (others_of p.pid (residents_in t))) (sym none)
    (has_gone t u p.pid w.0 h w.1 c s e (alone w.0 w.1))

-- a zombie that its parent may wait for
pub zombie_stands : (t u : Tables) (p : Record) (status : ℕ) → AreRecords t.processes t.next_pid → IsSome (find p.pid t.processes)
    → ((was : Record) → find p.pid t.processes ≡ Some was → IsAlone was)
    → p.borrowed ≡ false → Changes t.processes u.processes p.pid (Some (record p { state = lives.Zombie status })) → IsProcTable u.processes
    → u ≡ record t { processes = u.processes }
    → IsZombie t u p status
zombie_stands t u p status h there alone b c s e =
    let w = some_there (find p.pid t.processes) there in
    has_died t u w.0 p status h w.1 (alone w.0 w.1) b c s e

pub zombie_left : (t u w : Tables) (p : Record) (status : ℕ) → p.parent ≢ 0
    → IsZombie t u p status → HasProcesses u w u.next_pid (woken_procs (processes_in u) p.parent) (residents_in u)
    → IsBuried t w p status
zombie_left t u w p status some a b =
    let ps : List Proc = with_proc (processes_in t) (record (proc_shown p) { life = Ended status }) in
    let rs : List Residence = others_of p.pid (residents_in t) in
    subst (λ (x : Bool). HasProcesses t w t.next_pid (left_procs x (processes_in t) (proc_shown p) status) rs) (sym (ne_eqb p.parent 0 some))
    (then_has t u w ps (woken_procs ps p.parent) rs rs a
    (subst (λ (xs : List Proc). HasProcesses u w u.next_pid (woken_procs xs p.parent) rs) a.processes
    (subst (λ (xs : List Residence). HasProcesses u w u.next_pid (woken_procs (processes_in u) p.parent) xs) a.residents b)))

-- and with its children
pub has_ended : (t u w : Tables) (was : Record) (p : Proc) (status : ℕ) → proc_shown was ≡ p
    → HasProcesses t u t.next_pid (orphaned_procs (processes_in t) was.pid) (residents_in t)
    → IsBuried u w was status → HasEnded t w p status
has_ended t u w was p status is a b =
    subst (λ (q : Proc). HasEnded t w q status) is
    (then_has t u w (orphaned_procs (processes_in t) was.pid) _ (residents_in t) _ a
    (subst (λ (xs : List Proc). HasProcesses u w u.next_pid (left_procs (was.parent == 0) xs (proc_shown was) status) (others_of was.pid (residents_in t))) a.processes
    (subst (λ (xs : List Residence). HasProcesses u w u.next_pid (left_procs (was.parent == 0) (processes_in u) (proc_shown was) status) (others_of was.pid xs)) a.residents b)))

-- a process that leaves no child is there still
pub still_there : (t u : Tables) (pid : ℕ) (was now : Record) → LeftChildren t u pid → find was.pid t.processes ≡ Some was → IsAlone was
    → HoldsOrNew (life_shown was.state) → find was.pid u.processes ≡ Some now → IsAlone now
still_there t u pid was now l f a s e = go (was.parent == pid) (sym e ∙ l.left was.pid ∙ ap (left_in pid) f)
  where
    by : (x : RecordLife) → HoldsOrNew (life_shown x) → left_life was x ≡ Some now → IsAlone now
    by lives.New h k = subst IsAlone (same_Some (record was { parent = 0 }) now k) (record { lends = a.lends; borrows = a.borrows })
    by (lives.Holds sid) h k = subst IsAlone (same_Some (record was { parent = 0 }) now k) (record { lends = a.lends; borrows = a.borrows })
    by (lives.Lends sid child) h k = absurd h
    by (lives.Zombie status) h k = absurd h

    go : (b : Bool) → Some now ≡ left_by b was → IsAlone now
    go true k = by was.state s (sym k)
    go false k = subst IsAlone (same_Some was now (sym k)) a

pub still_some : (t u : Tables) (pid : ℕ) (was : Record) → LeftChildren t u pid → find was.pid t.processes ≡ Some was
    → HoldsOrNew (life_shown was.state) → IsSome (find was.pid u.processes)
still_some t u pid was l f s = subst (λ (o : Option Record). IsSome o) (sym (l.left was.pid ∙ ap (left_in pid) f)) (go (was.parent == pid))
  where
    by : (x : RecordLife) → HoldsOrNew (life_shown x) → IsSome (left_life was x)
    by lives.New h = refl
    by (lives.Holds sid) h = refl
    by (lives.Lends sid child) h = absurd h
    by (lives.Zombie status) h = absurd h

    go : (b : Bool) → IsSome (left_by b was)
    go true = by was.state s
    go false = refl

-- A record by its own pid.

pub found_own : (pid : ℕ) (ps : List Record) (p : Record) → find pid ps ≡ Some p → find p.pid ps ≡ Some p
found_own pid ps p f = ap (λ (k : ℕ). find k ps) (found_pid pid ps p f) ∙ f

pub some_own : (pid : ℕ) (ps : List Record) (p : Record) → find pid ps ≡ Some p → IsSome (find p.pid ps)
some_own pid ps p f = subst (λ (o : Option Record). IsSome o) (sym (found_own pid ps p f)) refl

-- A child of a process.

abbrev pub child_shown : Tables → ℕ → Regs → Life → Proc
child_shown t parent regs life = record { pid = t.next_pid; parent = parent; regs = with_results regs parent 1; life = life; asleep = false }

pub has_child : (t u : Tables) (parent since : ℕ) (was : Record) (p : Proc) (life : Life) → AreRecords t.processes t.next_pid
    → find parent t.processes ≡ Some was → process_in t parent ≡ Some p
    → HasOneMore t u (child_shown t parent was.regs life) since → HasOneMore t u (child_proc p t.next_pid life) since
has_child t u parent since was p life h f e m =
    subst (λ (q : Proc). HasOneMore t u (child_proc q t.next_pid life) since) (shown_is t parent was p h f e)
    (subst (λ (n : ℕ). HasOneMore t u (child_shown t n was.regs life) since) (sym (found_pid parent t.processes was f)) m)
