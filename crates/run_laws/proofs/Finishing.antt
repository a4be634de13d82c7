-- Where there is no next unit the run is finished; a process that runs has one; and no more than the limit is counted.
use Rattle.std.proofs.Common.{◌≡◌, ◌⊎◌, inl, inr, ℕ, ◌<◌, ◌≤◌, ◌==◌, ◌&&◌, Bool, true, false, cond, nat_lt, List, [], ◌∷◌, length, find, Option, Some, None, Result, Ok, Err, ℤ, refl, sym, ap, ◌∙◌, subst, arith}
use Rattle.std.proofs.lemmas.Bool.Decides.{nat_tests}
use Rattle.std.proofs.lemmas.Bool.{ltb-false}
use Rattle.flat_laws.proofs.Others.{number_of_found}
use Rattle.flat_state.specs.Space.{Space, address_in, answers_of}
use Rattle.flat_state.specs.Flat.{Holding, Process, FlatState, NamedImage, Inputs, process_of, can_step, is_ready, ready_if}
use Rattle.vm_facts.specs.declared.entry.Entry.{Entry}
use Rattle.vm_facts.specs.declared.entry.Entry.TheVariants as entries
use Rattle.user_vax.specs.Effects.{Effect}
use Rattle.user_vax.specs.Program.{Program, Reads, Tests, run}
use Rattle.user_vax.specs.Instruction.{instruction}
use Rattle.user_vax.specs.declared.refused.Refused.{Refused}
use Rattle.user_vax.specs.declared.refused.Refused.TheVariants.{Miss, Below, Signal}
use Rattle.flat_state.specs.declared.spot.Spot.{Spot}
use Rattle.flat_state.specs.declared.spot.Spot.TheVariants as spots
use Rattle.flat_state.specs.Journal.{counted, IsUnit}
use Rattle.page_model.specs.Placement.{Due, Start, CopyOf}
use Rattle.flat_model.specs.Instruction.{instruction_in}
use Rattle.flat_model.specs.declared.calls.Reply.{Reply}
use Rattle.flat_model.specs.declared.calls.Reply.TheVariants.{Writes}
use Rattle.flat_model.specs.declared.calls.SystemCall.{SystemCall}
use Rattle.flat_model.specs.Calls.{call_of}
use Rattle.flat_model.specs.Step.{replied_step, reply_behind, called_step, step_behind, step_of, step_holding, step_if, flat_step}
use Rattle.flat_model.specs.Run.{is_refused, step_at, behind_first, due_at, first_if, process_of_entry}
use Rattle.run_model.specs.State.{State, start}
use Rattle.run_model.specs.Wanted.{wanted}
use Rattle.run_model.specs.After.{after}
use Rattle.run_model.specs.Act.{act}
use Rattle.run_model.proofs.After.{after_count}
use Rattle.run_model.specs.Next.{when, or_else, due_unit, under, pid_if, next_ready, last_turned, turn_of, line_or_turn, next_mark, next_unit}
use Rattle.run_model.specs.Kinds.{ProcessRuns}
use Rattle.run_model.specs.Lawful.{Follows, Reaches, IsFinished}
use Rattle.run_laws.specs.Flowing.{Awaits, WaitsBy, Flows}
use Rattle.run_laws.specs.Running.{IsRun, ReadyToStep, IsIdle}
use Rattle.run_laws.proofs.Refusals.{HasEntry}
use Rattle.run_laws.proofs.Acts.{Stepper, stepper}
use Rattle.run_laws.proofs.Flows.{acts_some, on_steps, on_running, runs_next, has_some}
use Rattle.run_laws.proofs.Lawful.{next_is_unit}
use Rattle.run_laws.proofs.Wholes.{unit_ready, flat_or}

-- No next unit.

-- none of these passes
pub none_passes : (test : Process → Bool) (ps : List Process) (pid : ℕ) (q : Process) → find test ps ≡ None → find (λ x. x.pid == pid) ps ≡ Some q
    → test q ≡ false
none_passes test [] pid q n f = absurd cc
none_passes test (x ∷ ps) pid q n f = go (none_passes test ps pid q) (test x) refl n (x.pid == pid) f
  where
    go : (find test ps ≡ None → find (λ y. y.pid == pid) ps ≡ Some q → test q ≡ false) → (a : Bool) → test x ≡ a → cond a (Some x) (find test ps) ≡ None → (b : Bool)
        → cond b (Some x) (find (λ y. y.pid == pid) ps) ≡ Some q → test q ≡ false
    go ih true e n b f = absurd cc
    go ih false e n true f = ap test (let same : q ≡ x = cc in same) ∙ e
    go ih false e n false f = ih n f

pub none_ready : (F : FlatState) (pid : ℕ) → next_ready F 0 ≡ None → 0 < pid → can_step F pid ≡ false
none_ready F pid n l = go (process_of F pid) refl
  where
    nobody : find (λ q. is_ready q && nat_lt 0 q.pid) F.processes ≡ None
    nobody = from (find (λ q. is_ready q && nat_lt 0 q.pid) F.processes) n
      where
        from : (o : Option Process) → pid_if o ≡ None → o ≡ None
        from None e = refl
        from (Some q) e = absurd cc

    both : (a b : Bool) → b ≡ true → (a && b) ≡ false → a ≡ false
    both true b e k = absurd (let z : true ≡ false = sym e ∙ k in cc)
    both false b e k = refl

    go : (o : Option Process) → process_of F pid ≡ o → ready_if o ≡ false
    go None e = refl
    go (Some q) e = both (is_ready q) (nat_lt 0 q.pid) (let i = number_of_found F.processes pid q e in let m : 0 < q.pid = omega (arith, i, l) in grind (arith, nat_tests))
        (none_passes (λ x. is_ready x && nat_lt 0 x.pid) F.processes pid q nobody e)

-- As many instructions as may are counted; or all lines are taken, and no process can step.
pub none_ends : (A : Inputs) (s : State) → next_unit A s ≡ None → (A.limit ≤ s.count) ⊎ IsIdle A s
unfolding next_unit
none_ends A s h = due s.place.due h
  where
    nobody : (o p : Option ℕ) → turn_of (or_else o p) ≡ None → p ≡ None
    nobody None None e = refl
    nobody None (Some m) e = absurd cc
    nobody (Some n) p e = absurd cc

    by : (a b : Bool) → nat_lt s.count A.limit ≡ a → nat_lt s.lines (length A.lines) ≡ b → when a (line_or_turn s b) ≡ None → (A.limit ≤ s.count) ⊎ IsIdle A s
    by false b e f k = inl (ltb-false s.count A.limit e)
    by true true e f k = absurd cc
    by true false e f k = inr (record {
      lines = ltb-false s.lines (length A.lines) f;
      idle = λ pid l. none_ready s.point.flat pid (nobody (next_ready s.point.flat (last_turned s.mark)) (next_ready s.point.flat 0) k) l;
    })

    mark : (o : Option Entry) → or_else o (next_mark A s) ≡ None → (A.limit ≤ s.count) ⊎ IsIdle A s
    mark None k = by (nat_lt s.count A.limit) (nat_lt s.lines (length A.lines)) refl refl k
    mark (Some u) k = absurd cc

    due : (ds : List Due) → or_else (due_unit s.place ds) (or_else (under A s s.mark) (next_mark A s)) ≡ None → (A.limit ≤ s.count) ⊎ IsIdle A s
    due [] k = mark (under A s s.mark) k
    due (Start q ∷ ds) k = absurd cc
    due (CopyOf q parent ∷ ds) k = absurd cc

-- The flat machine's instructions never miss.

pub never_misses : {A : Type 0} (s : Space) (p : Program A) (a : ℕ) (w : Bool) → run (answers_of s) p ≡ Err (Miss a w) → ⊥
never_misses s (Reads b next) a w e = go (address_in s b) (λ byte. never_misses s (next byte) a w) e
  where
    go : (spot : Spot) → ((byte : ℕ) → run (answers_of s) (next byte) ≡ Err (Miss a w) → ⊥)
        → Rattle.user_vax.specs.Program.after_read (Rattle.flat_state.specs.Space.byte_at s spot) b (λ byte. run (answers_of s) (next byte)) ≡ Err (Miss a w) → ⊥
    go (spots.Text i) ih e = ih (Rattle.std.specs.Prelude.slice_index s.text_bytes i) e
    go (spots.Data i) ih e = ih (Rattle.std.specs.Prelude.slice_index s.data_bytes i) e
    go (spots.Stack i) ih e = ih (Rattle.std.specs.Prelude.slice_index s.stack_bytes i) e
    go spots.Below ih e = cc
    go spots.Outside ih e = cc
never_misses s (Tests b next) a w e = go (address_in s b) (never_misses s next a w) e
  where
    go : (spot : Spot) → (run (answers_of s) next ≡ Err (Miss a w) → ⊥)
        → Rattle.user_vax.specs.Program.after_test (Rattle.flat_state.specs.Space.may_write_at spot) b (run (answers_of s) next) ≡ Err (Miss a w) → ⊥
    go (spots.Text i) ih e = cc
    go (spots.Data i) ih e = ih e
    go (spots.Stack i) ih e = ih e
    go spots.Below ih e = cc
    go spots.Outside ih e = cc
never_misses s _ a w e = cc

-- So each step of a process that can step has an entry.

module _ (images : List NamedImage) (F : FlatState) (p : Process) where
  replied_some : (call : SystemCall) (effect : Effect) (reply : Reply) → HasEntry (replied_step images F p call effect reply).entries
  replied_some call effect (Writes []) = tt
  replied_some call effect (Writes (byte ∷ bytes)) = tt
  replied_some call effect _ = tt

  called_some : (s : Space) (refused : Bool) (effect : Effect) (o : Option SystemCall) → HasEntry (called_step images F p s refused effect o).entries
  called_some s refused effect None = tt
  called_some s refused effect (Some call) = replied_some call effect (reply_behind images F p s refused call effect)

  behind_some : (s : Space) (refused : Bool) (effect : Effect) (o : Option ℤ) → HasEntry (step_behind images F p s refused effect o).entries
  behind_some s refused effect None = tt
  behind_some s refused effect (Some number) = called_some s refused effect (call_of number)

  of_some : (s : Space) (refused : Bool) (r : Result Effect Refused)
      → ((a : ℕ) (w : Bool) → r ≡ Err (Miss a w) → ⊥) → HasEntry (step_of images F p s refused r).entries
  of_some s refused (Ok effect) n = behind_some s refused effect effect.call
  of_some s refused (Err (Miss a w)) n = absurd (n a w refl)
  of_some s true (Err (Below address)) n = tt
  of_some s false (Err (Below address)) n = tt
  of_some s refused (Err (Signal number)) n = tt

pub step_some : (A : Inputs) (F : FlatState) (pid : ℕ) (refused : Bool) → can_step F pid ≡ true → HasEntry (flat_step A F pid refused).entries
unfolding flat_step
step_some A F pid refused c =
    let x : Stepper F pid = stepper F pid c in
    subst (λ (o : Option Process). HasEntry (step_if A.images F refused o).entries) (sym x.here)
    (subst (λ (h : Holding). HasEntry (step_holding A.images F x.process refused h).entries) (sym x.holds)
    (of_some A.images F x.process x.space refused (instruction_in x.space x.process.regs) (λ a w e. never_misses x.space (instruction x.process.regs) a w e)))

-- a process that runs, all of whose pages are valid, has a next unit
pub runs_some : (A : Inputs) (s : State) (pid : ℕ) (now : Bool) → IsRun A s → ProcessRuns A s pid now → wanted A s ≡ None
    → (u : Entry) × (next_unit A s ≡ Some u)
runs_some A s pid now r x w =
    let f : Flows A s = r.flows in
    let a : (u : Entry) × (act A s pid ≡ Some u) = acts_some A s pid c (left s.point.last refl f.waits) in
    (a.0, runs_next A s pid now a.0 x w a.1)
  where
    c : can_step s.point.flat pid ≡ true
    c = on_steps A s s.mark pid now x.on

    some : (step_at A s.point pid).entries ≡ [] → ⊥
    some e = has_some (step_at A s.point pid).entries (step_some A s.point.flat pid (is_refused s.point.last pid) c) e

    -- bytes that are out are the running process's
    own : (p : ℕ) → Awaits A s p → p ≡ pid
    own p y = let z : ProcessRuns A s p y.now = y.runs in let k : Some p ≡ Some pid = sym (on_running A s s.mark p y.now z.on) ∙ on_running A s s.mark pid now x.on in cc

    left : (o : Option Entry) → s.point.last ≡ o → WaitsBy A s o → due_at A s.point pid ≡ [] → ⊥
    left (Some (entries.Out p bytes)) e y z = y.left (ap (λ (n : ℕ). due_at A s.point n) (own p y) ∙ z)
    left None e y z = some (sym (ap (λ (o : Option Entry). Rattle.flat_model.specs.Run.due o pid (step_at A s.point pid).entries) e) ∙ z)
    left (Some (entries.Refused p)) e y z = some (sym (ap (λ (o : Option Entry). Rattle.flat_model.specs.Run.due o pid (step_at A s.point pid).entries) e) ∙ z)
    left (Some (entries.Event p)) e y z = some (sym (ap (λ (o : Option Entry). Rattle.flat_model.specs.Run.due o pid (step_at A s.point pid).entries) e) ∙ z)
    left (Some (entries.Turn p)) e y z = some (sym (ap (λ (o : Option Entry). Rattle.flat_model.specs.Run.due o pid (step_at A s.point pid).entries) e) ∙ z)
    left (Some (entries.Ran p n)) e y z = some (sym (ap (λ (o : Option Entry). Rattle.flat_model.specs.Run.due o pid (step_at A s.point pid).entries) e) ∙ z)
    left (Some (entries.Grew p n)) e y z = some (sym (ap (λ (o : Option Entry). Rattle.flat_model.specs.Run.due o pid (step_at A s.point pid).entries) e) ∙ z)
    left (Some (entries.Call p n b r0 r1)) e y z = some (sym (ap (λ (o : Option Entry). Rattle.flat_model.specs.Run.due o pid (step_at A s.point pid).entries) e) ∙ z)
    left (Some (entries.Sleeps p)) e y z = some (sym (ap (λ (o : Option Entry). Rattle.flat_model.specs.Run.due o pid (step_at A s.point pid).entries) e) ∙ z)
    left (Some (entries.Ended p n)) e y z = some (sym (ap (λ (o : Option Entry). Rattle.flat_model.specs.Run.due o pid (step_at A s.point pid).entries) e) ∙ z)
    left (Some (entries.Zero q)) e y z = some (sym (ap (λ (o : Option Entry). Rattle.flat_model.specs.Run.due o pid (step_at A s.point pid).entries) e) ∙ z)
    left (Some (entries.Get q lo n)) e y z = some (sym (ap (λ (o : Option Entry). Rattle.flat_model.specs.Run.due o pid (step_at A s.point pid).entries) e) ∙ z)
    left (Some (entries.Copy q)) e y z = some (sym (ap (λ (o : Option Entry). Rattle.flat_model.specs.Run.due o pid (step_at A s.point pid).entries) e) ∙ z)
    left (Some (entries.Reclaim q)) e y z = some (sym (ap (λ (o : Option Entry). Rattle.flat_model.specs.Run.due o pid (step_at A s.point pid).entries) e) ∙ z)
    left (Some (entries.Hands n)) e y z = some (sym (ap (λ (o : Option Entry). Rattle.flat_model.specs.Run.due o pid (step_at A s.point pid).entries) e) ∙ z)
    left (Some (entries.Put q n)) e y z = some (sym (ap (λ (o : Option Entry). Rattle.flat_model.specs.Run.due o pid (step_at A s.point pid).entries) e) ∙ z)
    left (Some entries.Done) e y z = some (sym (ap (λ (o : Option Entry). Rattle.flat_model.specs.Run.due o pid (step_at A s.point pid).entries) e) ∙ z)
    left (Some (entries.SwapOut p)) e y z = some (sym (ap (λ (o : Option Entry). Rattle.flat_model.specs.Run.due o pid (step_at A s.point pid).entries) e) ∙ z)
    left (Some (entries.SwapIn p)) e y z = some (sym (ap (λ (o : Option Entry). Rattle.flat_model.specs.Run.due o pid (step_at A s.point pid).entries) e) ∙ z)
    left (Some (entries.Owners k l m n)) e y z = some (sym (ap (λ (o : Option Entry). Rattle.flat_model.specs.Run.due o pid (step_at A s.point pid).entries) e) ∙ z)

-- The limit.

counted_flat : (u : Entry) → IsUnit u → process_of_entry u ≡ None ⊎ ((pid : ℕ) × (process_of_entry u ≡ Some pid))
    → (counted u ≡ 0) ⊎ ((pid : ℕ) × (process_of_entry u ≡ Some pid) × (counted u ≤ 1))
counted_flat u k (inr p) = inr (p.0, p.1, one u k)
  where
    one : (x : Entry) → IsUnit x → counted x ≤ 1
    one (entries.Ran p n) k = omega (arith, k)
    one (entries.Call p n c r0 r1) k = omega arith
    one (entries.Ended p n) k = omega arith
    one _ k = omega arith
counted_flat (entries.Ran p n) k (inl e) = absurd cc
counted_flat (entries.Call p n c r0 r1) k (inl e) = absurd cc
counted_flat (entries.Ended p n) k (inl e) = absurd cc
counted_flat _ k (inl e) = inl refl

-- no more instructions than the limit are counted
pub unit_below : (A : Inputs) (s : State) (u : Entry) → next_unit A s ≡ Some u → s.count ≤ A.limit → (after A s u).count ≤ A.limit
unit_below A s u h l = go (counted_flat u (next_is_unit A s u h) (flat_or u))
  where
    go : (counted u ≡ 0) ⊎ ((pid : ℕ) × (process_of_entry u ≡ Some pid) × (counted u ≤ 1)) → (after A s u).count ≤ A.limit
    go (inl e) = let c = after_count A s u in omega (arith, e, l)
    go (inr (pid, e, k)) = let c = after_count A s u in let r : ReadyToStep A s pid = unit_ready A s u pid h e in let b = r.below in omega (arith, k)

pub units_below : (A : Inputs) (us : List Entry) (s t : State) → Follows A s us t → s.count ≤ A.limit → t.count ≤ A.limit
units_below A [] s t f l = subst (λ (x : State). x.count ≤ A.limit) f l
units_below A (u ∷ us) s t f l = units_below A us (after A s u) t f.1 (unit_below A s u f.0 l)

-- a finished run counted as many instructions as may be, or is idle
pub finished_ends : (A : Inputs) (journal : List Entry) (s : State) → IsFinished A journal s → (s.count ≡ A.limit) ⊎ IsIdle A s
finished_ends A journal s f = elim (none_ends A s f.none) [
  | inl l ↦ inl (let r : Reaches A journal s = (f.lawful).reaches in let b = units_below A r.units (start A r.holdings) s r.follows (omega arith) in omega (arith, l))
  | inr i ↦ inr i
]
