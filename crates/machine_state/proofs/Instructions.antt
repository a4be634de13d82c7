-- An instruction of a process was counted, and its record has the registers that it left.
use Rattle.std.proofs.Common.{◌≡◌, ℕ, ◌≤◌, ◌==◌, Bool, cond, List, length, map, Option, Some, None, refl, sym, ap, ◌∙◌, subst}
use Rattle.vm_facts.specs.declared.regs.Regs.{Regs}
use Rattle.vm_facts.specs.declared.entry.Entry.{Entry}
use Rattle.vm_facts.specs.declared.entry.Entry.TheVariants.{Ran}
use Rattle.proc_table.specs.declared.process.Proc.{Proc as Record}
use Rattle.proc_table.specs.Records.{find}
use Rattle.flat_state.specs.Space.{Space}
use Rattle.flat_state.specs.Flat.{Holding, Holds, Lends, Zombie, Process, FlatState, NamedImage, process_of}
use Rattle.flat_state.specs.Journal.{append}
use Rattle.flat_state.specs.declared.change.Change.TheVariants.{Keep}
use Rattle.page_model.specs.Pages.{numbered}
use Rattle.page_model.specs.Placement.{Residence, image_of}
use Rattle.kernel_model.specs.Kernel.{HoldsSpace, Proc, Kernel, life_of}
use Rattle.kernel_model.specs.ChangeStep.{ran_by}
use Rattle.kernel_model.specs.Coupled.{Outline, outline_kept, outline_of, Coupled}
use Rattle.table_steps.proofs.Numbered.{image_by}
use Rattle.table_steps.proofs.Lists.{pid_of, found_is}
use Rattle.table_steps.proofs.KernelLawsMachineTables.{kept_pid, outlines_at}
use Rattle.table_steps.proofs.Swaps.{ran_coupled}
use Rattle.table_steps.proofs.NumbersApart.{ran_numbered}
use Rattle.table_steps.proofs.KernelLawsSoundSteps.{ran_sound}
use Rattle.std.proofs.lemmas.Option.{same_Some}
use Rattle.table_steps.specs.Tables.{Tables}
use Rattle.table_steps.specs.Calls.{life_in}
use Rattle.table_steps.specs.Conditions.{ChangesFlat}
use Rattle.table_steps.specs.UserMemory.{CanLend}
use Rattle.table_steps.specs.Moves.{LeftRegs}
use Rattle.table_steps.specs.View.{Lists, placement_of}
use Rattle.table_steps.specs.Tied.{Tied}
use Rattle.table_steps.specs.Alike.{AreRecords}
use Rattle.table_steps.specs.Sourced.{AreNames, AreSourced}
use Rattle.machine_state.specs.declared.machine.Machine.TheInside.{Inside}
use Rattle.machine_state.specs.Fields.{RunsNow}
use Rattle.table_steps.specs.Machine.{KernelRuns, lists_of, kernel_by}
use Rattle.table_steps.proofs.Lives.{HasRecord, record_of}
use Rattle.table_steps.proofs.Records.{regs_are, residents_are}
use Rattle.table_steps.proofs.Recorded.{regs_records}
use Rattle.table_steps.proofs.Stills.{appended}
use Rattle.machine_state.proofs.Holding.{life_has}
use Rattle.machine_state.proofs.HoldingSteps.{regs_keep}
use Rattle.machine_state.proofs.Stepping.{Kept, Steps, same_ring}

pub has_record : (t : Tables) (journal : List Entry) (stopped : Bool) (pid : ℕ) → CanLend (kernel_by t journal stopped) pid
    → (was : Record) × (find pid t.processes ≡ Some was)
has_record t journal stopped pid can =
    let p = life_has (numbered kept_pid pid (kernel_by t journal stopped).processes) can.sid can.holds in
    let r : HasRecord t.processes pid p.0 = record_of t.processes t.next_pid pid p.0 p.1 in
    (r.found, r.there)

-- and in the flat states that the machine stands for it has one too
held_flat : (h : Holding) (sid : ℕ) → life_of h ≡ HoldsSpace sid → (s : Space) × (h ≡ Holds s)
held_flat (Holds s) sid e = (s, refl)
held_flat (Lends n child) sid e = absurd cc
held_flat (Zombie status) sid e = absurd cc

flat_holder : (k : Kernel) (images : List NamedImage) (image : List ℕ) (flat : FlatState) (pid sid : ℕ) → Coupled k images image flat
    → life_in k pid ≡ HoldsSpace sid → (q : Process) × (s : Space) × (process_of flat pid ≡ Some q) × (q.holding ≡ Holds s)
flat_holder k images image flat pid sid c h =
    let p = life_has (numbered kept_pid pid k.processes) sid h in
    go p.0 p.2 (numbered pid_of pid flat.processes) refl (sym (outlines_at k.processes flat.processes c.tables.processes pid) ∙ ap (image_by outline_kept) p.1)
  where
    go : (p : Proc) → p.life ≡ HoldsSpace sid → (o : Option Process) → numbered pid_of pid flat.processes ≡ o → image_by outline_of o ≡ Some (outline_kept p)
        → (q : Process) × (s : Space) × (process_of flat pid ≡ Some q) × (q.holding ≡ Holds s)
    go p l None e i = absurd cc
    go p l (Some q) e i =
        let same : outline_of q ≡ outline_kept p = same_Some (outline_of q) (outline_kept p) i in
        let s = held_flat q.holding sid (ap (λ (o : Outline). o.life) same ∙ l) in
        (q, s.0, found_is flat.processes pid ∙ e, s.1)

pub ran_changes : (k : Kernel) (pid : ℕ) (regs : Regs) → CanLend k pid → ChangesFlat k (ran_by k pid regs (Ran pid 1)) pid regs Keep
ran_changes k pid regs can images image flat c =
    let f = flat_holder k images image flat pid can.sid c can.holds in
    ran_coupled k images image flat pid regs (Ran pid 1) f.0 f.1 f.2 f.3 can.resident c

-- The tables with another record.
module _ (t u : Tables) (pid : ℕ) (regs : Regs) (left : LeftRegs t u pid regs) where
  lists_are : lists_of u ≡ lists_of t
  lists_are = ap lists_of left.rest
      ∙ ap (λ (rs : List Residence). let x : Lists = record (lists_of t) { residents = rs } in x) (residents_are t.processes u.processes pid regs left.was t.next_pid left.there left.changes)

  regs_kernel : (old journal : List Entry) (a b : Bool) (n : ℕ) → journal ≡ append old (Ran pid n) → b ≡ a
      → kernel_by u journal b ≡ ran_by (kernel_by t old a) pid regs (Ran pid n)
  regs_kernel old journal a b n j s =
      ap (λ (x : Tables). kernel_by x journal b) left.rest
      ∙ ap (λ (rs : List Residence). let x : Kernel = record (kernel_by t journal b) {
        place = placement_of (record (lists_of t) { residents = rs });
        processes = Rattle.table_steps.specs.Machine.processes_of u.processes t.next_pid;
      } in x)
      (residents_are t.processes u.processes pid regs left.was t.next_pid left.there left.changes)
      ∙ ap (λ (ps : List Proc). let x : Kernel = record (kernel_by t journal b) { processes = ps } in x) (regs_are t.processes u.processes pid regs left.was t.next_pid left.there left.changes)
      ∙ ap (λ (es : List Entry). ran_regs es b) j ∙ ap (λ (x : Bool). ran_regs (append old (Ran pid n)) x) s
    where
      ran_regs : List Entry → Bool → Kernel
      ran_regs es x =
          record (kernel_by t es x) { processes = map (λ (p : Proc). cond (p.pid == pid) (record p { regs = regs }) p) (Rattle.table_steps.specs.Machine.processes_of t.processes t.next_pid) }

-- the step
pub regs_steps : (m n : Inside) (pid : ℕ) (regs : Regs) (count : ℕ) → LeftRegs m.tables n.tables pid regs → RunsNow m
    → KernelRuns (kernel_by m.tables m.journal.items m.stopped) (lists_of m.tables) m.tables.book.size
    → n.journal.items ≡ append m.journal.items (Ran pid count) → length n.journal.items ≤ m.tables.params.journal
    → n.stopped ≡ m.stopped → n.lost ≡ m.lost → n.room ≡ None
    → Steps m n (ran_by (kernel_by m.tables m.journal.items m.stopped) pid regs (Ran pid count))
regs_steps m n pid regs count left now r journal within stopped lost room =
    let t : Tables = m.tables in
    let u : Tables = n.tables in
    let k : Kernel = kernel_by t m.journal.items m.stopped in
    let same : lists_of u ≡ lists_of t = lists_are t u pid regs left in
    record {
      kept = subst (Kept t) (sym left.rest) (record {
        params = refl;
        images = refl;
        book = refl;
        found = refl;
        next_pid = refl;
        next_sid = refl;
        records = regs_records t.processes u.processes t.next_pid pid regs left.was left.there left.changes left.still_sound now.stands.records;
      });
      is = regs_kernel t u pid regs left m.journal.items n.journal.items m.stopped n.stopped count journal stopped;
      runs = record {
        sound = ran_sound t.book.size k pid regs (Ran pid count) r.sound;
        numbered = ran_numbered k pid regs (Ran pid count) r.numbered;
        due = r.due;
        tied = subst Tied (sym same) r.tied;
      };
      ring = same_ring m u now (ap (λ (x : Tables). x.ring) left.rest);
      images = λ sid. ap (λ (x : Lists). image_of (placement_of x) sid) same;
      holders = regs_keep k (ran_by k pid regs (Ran pid count)) pid regs refl (λ sid h. h);
      grown = appended m.journal.items n.journal.items (Ran pid count) t.params.journal journal within;
      stopped = stopped;
      lost = lost;
      room = room;
    }
