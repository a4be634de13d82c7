-- Who holds a space: by the records, and by the flat state.
use Rattle.std.proofs.Common.{◌≡◌, ◌≢◌, inl, inr, ℕ, ◌<◌, ◌==◌, Bool, true, false, cond, not, List, [], ◌∷◌, map, Option, Some, None, refl, sym, ap, ◌∙◌, subst, arith}
use Rattle.std.specs.Prelude.{find}
use Rattle.std.proofs.lemmas.Bool.{cases_eq, eq-eqb, eqb-true}
use Rattle.std.proofs.lemmas.Option.{same_Some}
use Rattle.proc_table.specs.declared.process.Proc.{Proc as Record}
use Rattle.proc_table.specs.declared.process.Life.{Life as RecordLife}
use Rattle.proc_table.specs.declared.process.Life.TheVariants as lives
use Rattle.proc_table.specs.Records.{find as find_record}
use Rattle.flat_state.specs.Flat.{Holding, Holds, Lends, Zombie, Process, FlatState}
use Rattle.flat_state.specs.Change.{is_borrower}
use Rattle.flat_state.specs.Numbers.{IsAbsent, AllDistinct}
use Rattle.page_model.specs.Pages.{numbered}
use Rattle.page_laws.proofs.Lists.Pages.{numbered_hit, numbered_miss}
use Rattle.kernel_model.specs.Kernel.{Kernel, HoldsSpace, life_of}
use Rattle.kernel_model.specs.ChangeStep.{life_of_proc}
use Rattle.kernel_model.specs.Coupled.{Outline, SameTables}
use Rattle.kernel_laws.proofs.Flat.Lists.{pid_of}
use Rattle.kernel_laws.proofs.Machine.Processes.{pids_same}
use Rattle.kernel_laws.proofs.Machine.Swaps.{found_at}
use Rattle.kernel_laws.proofs.Machine.Tables.{kept_pid, kept_at, outline_at}
use Rattle.machine_state.specs.Alike.{AreRecords}
use Rattle.machine_state.specs.Calls.{life_in}
use Rattle.machine_state.specs.Holders.{HoldersStand}
use Rattle.machine_state.specs.Lives.{AreMarked, space_by}
use Rattle.machine_state.specs.Machine.{life_shown, processes_of, residents_of}
use Rattle.machine_state.proofs.Records.{found_pid}
use Rattle.paged_model.specs.declared.reason.Reason.TheVariants as reasons
use Rattle.paged_model.specs.Reasons.{unless, or_reason}
use Rattle.paged_model.specs.Leaving.{may_not_go, holds_it, holder_by, holder_stays}
use Rattle.move_judge.specs.Records.{IsRecord}
use Rattle.move_judge.proofs.Recorded.{IsFlat, some_there, record_shown, record_borrowed, record_out}
use Rattle.move_judge.specs.Holders.{has_by, has_space, NoneHas, Has, record_stays, HoldsRecord}

-- What is found of a list of processes.

found_test : (test : Process → Bool) (qs : List Process) (q : Process) → find test qs ≡ Some q → test q ≡ true
found_test test [] q e = absurd cc
found_test test (x ∷ xs) q e = go (test x) refl e (found_test test xs q)
  where
    go : (b : Bool) → test x ≡ b → cond b (Some x) (find test xs) ≡ Some q → (find test xs ≡ Some q → test q ≡ true) → test q ≡ true
    go true i f more = subst (λ (y : Process). test y ≡ true) (same_Some x q f) i
    go false i f more = more f

none_test : (test : Process → Bool) (qs : List Process) (n : ℕ) (q : Process) → find test qs ≡ None → numbered pid_of n qs ≡ Some q → test q ≡ false
none_test test [] n q e h = absurd cc
none_test test (x ∷ xs) n q e h = go (test x) refl e (pid_of x == n) h (none_test test xs n q)
  where
    go : (b : Bool) → test x ≡ b → cond b (Some x) (find test xs) ≡ None → (c : Bool) → cond c (Some x) (numbered pid_of n xs) ≡ Some q
        → (find test xs ≡ None → numbered pid_of n xs ≡ Some q → test q ≡ false) → test q ≡ false
    go true i f c g more = absurd cc
    go false i f true g more = subst (λ (y : Process). test y ≡ false) (same_Some x q g) i
    go false i f false g more = more f g

absent_there : (n : ℕ) (qs : List Process) (m : ℕ) (q : Process) → IsAbsent n (map pid_of qs) → numbered pid_of m qs ≡ Some q → n ≢ m
absent_there n [] m q a e h = absurd cc
absent_there n (x ∷ xs) m q a e h = elim (cases_eq x.pid m) [
  | inl i ↦ a.0 (i ∙ sym h)
  | inr d ↦ absent_there n xs m q a.1 (sym (numbered_miss pid_of m x xs d) ∙ e) h
]

found_numbered : (test : Process → Bool) (qs : List Process) (q : Process) → AllDistinct (map pid_of qs) → find test qs ≡ Some q
    → numbered pid_of q.pid qs ≡ Some q
found_numbered test [] q d e = absurd cc
found_numbered test (x ∷ xs) q d e = go (test x) e (found_numbered test xs q d.1)
  where
    go : (b : Bool) → cond b (Some x) (find test xs) ≡ Some q → (find test xs ≡ Some q → numbered pid_of q.pid xs ≡ Some q)
        → numbered pid_of q.pid (x ∷ xs) ≡ Some q
    go true f more = subst (λ (y : Process). numbered pid_of y.pid (x ∷ xs) ≡ Some y) (same_Some x q f) (numbered_hit pid_of x.pid x xs refl)
    go false f more =
        let there : numbered pid_of q.pid xs ≡ Some q = more f in
        numbered_miss pid_of q.pid x xs (absent_there x.pid xs q.pid q d.0 there) ∙ there

-- Lives.

held_life : (h : Holding) (sid : ℕ) → holds_it sid h ≡ true → life_of h ≡ HoldsSpace sid
held_life (Holds s) sid e = ap HoldsSpace (eqb-true s.sid sid e)
held_life (Lends lent child) sid e = absurd cc
held_life (Zombie status) sid e = absurd cc

life_held : (h : Holding) (sid : ℕ) → life_of h ≡ HoldsSpace sid → holds_it sid h ≡ true
life_held (Holds s) sid e = let i : s.sid ≡ sid = cc in eq-eqb s.sid sid i
life_held (Lends lent child) sid e = absurd cc
life_held (Zombie status) sid e = absurd cc

pub has_state : (l : RecordLife) (sid : ℕ) → has_by sid l ≡ true → l ≡ lives.Holds sid
has_state lives.New sid e = absurd cc
has_state (lives.Holds held) sid e = ap (λ (n : ℕ). lives.Holds n) (eqb-true held sid e)
has_state (lives.Lends lent child) sid e = absurd cc
has_state (lives.Zombie status) sid e = absurd cc

life_has : (l : RecordLife) (sid : ℕ) → life_shown l ≡ HoldsSpace sid → has_by sid l ≡ true
life_has lives.New sid e = absurd cc
life_has (lives.Holds held) sid e = let i : held ≡ sid = cc in eq-eqb held sid i
life_has (lives.Lends lent child) sid e = absurd cc
life_has (lives.Zombie status) sid e = absurd cc

pub space_state : (l : RecordLife) (sid : ℕ) → space_by l ≡ Some sid → l ≡ lives.Holds sid
space_state lives.New sid e = absurd cc
space_state (lives.Holds held) sid e = ap (λ (n : ℕ). lives.Holds n) (same_Some held sid e)
space_state (lives.Lends lent child) sid e = absurd cc
space_state (lives.Zombie status) sid e = absurd cc

-- the process of a record that holds a space holds it in the machine
pub held_in : (k : Kernel) (pid sid : ℕ) (p : Record) → HoldsRecord k pid sid p → life_in k pid ≡ HoldsSpace sid
held_in k pid sid p h = ap life_of_proc (record_shown k pid (Some p) h.known) ∙ ap life_shown h.holds

-- Whether a process may go out, by its record.

pub stays_is : (k : Kernel) (F : FlatState) (pid sid : ℕ) (p : Record) → SameTables k F → HoldsRecord k pid sid p
    → record_stays p ≡ may_not_go F k.place pid
stays_is k F pid sid p t h =
    ap (λ (n : ℕ). or_reason (unless (not p.borrowed) (reasons.Borrowed n)) (unless (not p.out) (reasons.IsOut n)))
    (found_pid pid h.known.table p h.known.found)
    ∙ ap (λ (b : Bool). or_reason (unless (not b) (reasons.Borrowed pid)) (unless (not p.out) (reasons.IsOut pid))) (record_borrowed k F t pid p h.known)
    ∙ ap (λ (b : Bool). or_reason (unless (not (is_borrower F.processes pid)) (reasons.Borrowed pid)) (unless (not b) (reasons.IsOut pid)))
    (record_out k pid sid p h.known h.holds)

module _ (k : Kernel) (ps : List Record) (F : FlatState) (sid : ℕ) (t : SameTables k F) (processes : k.processes ≡ processes_of ps k.next_pid)
    (residents : k.place.residents ≡ residents_of ps k.next_pid) (records : AreRecords ps k.next_pid) (marked : AreMarked k.processes ps)
    (holders : HoldersStand k) (apart : AllDistinct (map kept_pid k.processes)) where
  recorded : (n : ℕ) (o : Option Record) → find_record n ps ≡ o → IsRecord k n o
  recorded n o e = record { table = ps; processes = processes; residents = residents; records = records; marked = marked; found = e }

  abbrev test : Process → Bool
  test q = holds_it sid q.holding

  -- a process of the flat state holds the space in the machine too
  found_life : (q : Process) → find test F.processes ≡ Some q → life_in k q.pid ≡ HoldsSpace sid
  found_life q e =
      let there : numbered pid_of q.pid F.processes ≡ Some q
      = found_numbered test F.processes q (subst AllDistinct (pids_same k.processes F.processes t.processes) apart) e in
      let p = kept_at k.processes F.processes t.processes q.pid q there in
      ap life_of_proc p.1 ∙ ap (λ (o : Outline). o.life) (outline_at k.processes F.processes t.processes q.pid p.0 q p.1 there)
      ∙ held_life q.holding sid (found_test test F.processes q e)

  -- it may go out where its record says so
  pub some_holder : (p : Record) → Has ps sid p → record_stays p ≡ holder_stays F k.place sid
  some_holder p h = go (find test F.processes) refl
    where
      known : HoldsRecord k h.number sid p
      known = record { known = recorded h.number (Some p) h.found; holds = has_state p.state sid h.has }

      there : IsFlat F h.number p
      there = some_there k F t h.number p (recorded h.number (Some p) h.found)

      go : (o : Option Process) → find test F.processes ≡ o → record_stays p ≡ holder_by F k.place sid o
      go None e =
          let no : test there.process ≡ false
          = none_test test F.processes h.number there.process e (found_at F h.number there.process there.here).1 in
          let yes : test there.process ≡ true
          = life_held there.process.holding sid (sym there.life ∙ ap life_shown known.holds) in
          absurd (let x : true ≡ false = sym yes ∙ no in cc)
      go (Some q) e =
          let same : h.number ≡ q.pid = holders.once h.number q.pid sid (held_in k h.number sid p known) (found_life q e) in
          stays_is k F h.number sid p t known ∙ ap (may_not_go F k.place) same

  -- without one nobody holds the space
  pub no_holder : NoneHas (λ n. 0 < n) ps sid → Some (reasons.NoHolder sid) ≡ holder_stays F k.place sid
  no_holder none = go (find test F.processes) refl
    where
      by : (n : ℕ) (o : Option Record) → find_record n ps ≡ o → life_in k n ≡ HoldsSpace sid → ⊥
      by n None e l =
          let x = sym (ap life_of_proc (record_shown k n None (recorded n None e))) ∙ l in absurd cc
      by n (Some p) e l =
          let has : has_space sid p ≡ true
          = life_has p.state sid (sym (ap life_of_proc (record_shown k n (Some p) (recorded n (Some p) e))) ∙ l) in
          let above = (records.known n p e).0 in
          let no : has_space sid p ≡ false = none n p (omega (arith, above)) e in
          absurd (let x : true ≡ false = sym has ∙ no in cc)

      go : (o : Option Process) → find test F.processes ≡ o → Some (reasons.NoHolder sid) ≡ holder_by F k.place sid o
      go None e = refl
      go (Some q) e = absurd (by q.pid (find_record q.pid ps) refl (found_life q e))
