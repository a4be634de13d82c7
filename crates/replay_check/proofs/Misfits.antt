-- What is expected where a run ends.
use Rattle.std.proofs.Common.{◌≡◌, ℕ, suc, ◌+◌, ◌<◌, ◌≤◌, ◌==◌, leb, Bool, true, false, ◌&&◌, List, [], ◌∷◌, ◌++◌, length, take, drop, get_or, Option, Some, None, is_some, IsSome, refl, sym, ap, ◌∙◌, subst, append_assoc, arith}
use Rattle.std.proofs.lemmas.List.{length-take, take-append-drop}
use Rattle.std.specs.Prelude.{position, if◌then◌else◌}
use Rattle.std.proofs.lemmas.Bool.{leb-true, le-leb, lt-leb}
use Rattle.std.proofs.lemmas.Bool.Decides.{nat_tests}
use Rattle.flat_state.specs.Flat.{FlatState, Process, Inputs, process_of, can_step, start_state}
use Rattle.vm_facts.specs.declared.regs.Regs.{Regs}
use Rattle.vm_facts.specs.declared.entry.Entry.{Entry}
use Rattle.vm_facts.specs.declared.entry.Entry.TheVariants as entries
use Rattle.vm_facts.proofs.Tests.{eq_self}
use Rattle.flat_state.specs.Journal.{units_with, repeated, counted, instructions_of}
use Rattle.flat_model.specs.declared.calls.SystemCall.{SystemCall}
use Rattle.flat_model.specs.Step.{Step, flat_step, call_entry}
use Rattle.flat_model.specs.Run.{Point, entry_of_step, due, due_at, first_if, flat_entry, flat_units, is_outcome_of, is_refused, may_follow, process_of_entry, step_at, IsBetween}
use Rattle.flat_machine.specs.declared.deed.Did.{Did}
use Rattle.flat_machine.specs.declared.deed.Did.TheVariants as deeds
use Rattle.replay_check.specs.declared.replaying.Last.{Last}
use Rattle.replay_check.specs.declared.replaying.Last.TheVariants as lasts
use Rattle.replay_check.specs.declared.expecting.Expected.{Expected}
use Rattle.replay_check.specs.declared.expecting.Expected.TheVariants.{Comes, CannotStep, NoProcess, TooMany}
use Rattle.flat_machine.specs.Machine.{entries_of, state_if, entries_if, RunsFor, RunsNoMore}
use Rattle.replay_check.specs.Judging.{refused_in, begins, is_other, IsWriting, IsAt, IsVerdict, HasTaken}
use Rattle.replay_check.specs.Verdicts.{instruction_limit, is_run, first_bad}
use Rattle.replay_check.specs.Expecting.{begun, or_else, due_process, comes_if, missing, expected_by, expected_of, follows_if, comes_or, is_one, ran_or, RunsOnly, IsExpected, IsExpectedOf, IsExpectedAt, IsExpectedIf, IsExpectedBehind, IsMisfit}
use Rattle.replay_check.proofs.Judging.{Opens, free_at, open_at}
use Rattle.flat_machine.proofs.Lists.{is_first, found_at, none_found}
use Rattle.replay_check.proofs.Running.{ran_at, ran_begins, ran_busy, ran_none, ran_next, ran_fails, all_ran, not_ran, units_one, skipped}
use Rattle.replay_check.proofs.Verdicts.{taken_none, taken_run, next_front, bad_at, good_before}
use Rattle.flat_state.proofs.Joins.{count-append}
use Rattle.flat_model.proofs.Folds.{run_more}

pub there : (F : FlatState) (pid place : ℕ) → position (λ (q : Process). q.pid == pid) F.processes ≡ Some place
    → CannotStep pid ≡ missing pid (process_of F pid)
there F pid place found = sym (ap (missing pid) (found_at F.processes place pid (is_first (λ (q : Process). q.pid == pid) F.processes place found)))

pub not_there : (F : FlatState) (pid : ℕ) → position (λ (q : Process). q.pid == pid) F.processes ≡ None → NoProcess pid ≡ missing pid (process_of F pid)
not_there F pid none = sym (ap (missing pid) (none_found F pid none))

-- The next entry of a process.

if_first : (c : Bool) (step : Step) → first_if c step.entries ≡ first_if true (entries_if c step)
if_first true step = refl
if_first false step = refl

act_of : (A : Inputs) (point : Point) (F : FlatState) (pid : ℕ) (refused : Bool) (did : Did) → Opens F pid refused point
    → entries_of pid did ≡ entries_if (can_step F pid) (flat_step A F pid refused) → entry_of_step A point pid ≡ first_if true (entries_of pid did)
act_of A point F pid refused did opens es =
    let step : step_at A point pid ≡ flat_step A F pid refused =
    ap (λ (b : Bool). flat_step A point.flat pid b) opens.refuses ∙ ap (λ (G : FlatState). flat_step A G pid refused) opens.flat in
    let all : due_at A point pid ≡ (flat_step A F pid refused).entries = opens.whole (step_at A point pid).entries ∙ ap (λ (s : Step). s.entries) step in
    ap (λ (G : FlatState). first_if (can_step G pid) (due_at A point pid)) opens.flat ∙ ap (first_if (can_step F pid)) all
    ∙ if_first (can_step F pid) (flat_step A F pid refused) ∙ sym (ap (first_if true) es)

opened : (A : Inputs) (F : FlatState) (last : Last) (pid : ℕ) (refused : Bool) (point : Point) → refused_in pid last ≡ Some refused
    → IsAt A F last point → Opens F pid refused point
opened A F last pid refused point taken at = (open_at A F last pid refused (entries.Ended pid 0) point taken at (eq_self pid)).0

follows : (A : Inputs) (F : FlatState) (last : Last) (pid : ℕ) (refused : Bool) (e : Entry) (point : Point) → refused_in pid last ≡ Some refused
    → IsAt A F last point
    → follows_if refused pid e ≡ may_follow point.last e
follows A F lasts.Other pid refused e point taken at =
    let is : refused ≡ false = cc in
    ap (λ (b : Bool). follows_if b pid e) is ∙ sym (free_at A F lasts.Other pid e point refl at).1
follows A F (lasts.Refused q) pid refused e point taken at = go (q == pid) refl taken
  where
    go : (b : Bool) → (q == pid) ≡ b → (if b then Some true else None) ≡ Some refused → follows_if refused pid e ≡ may_follow point.last e
    go false k t = absurd cc
    go true k t =
        let same : pid ≡ q = grind (arith, nat_tests) in
        let is : refused ≡ true = cc in
        ap (λ (b : Bool). follows_if b pid e) is ∙ ap (λ (n : ℕ). is_outcome_of n e) same ∙ sym (ap (λ (o : Option Entry). may_follow o e) at.1)
follows A F (lasts.Wrote q call regs) pid refused e point taken at = absurd cc

pub next_expected : (A : Inputs) (point : Point) (F : FlatState) (last : Last) (pid : ℕ) (refused : Bool) (did : Did)
    → refused_in pid last ≡ Some refused → IsAt A F last point
    → entries_of pid did ≡ entries_if (can_step F pid) (flat_step A F pid refused)
    → comes_or refused pid (first_if true (entries_of pid did)) (missing pid (process_of F pid)) ≡ expected_of A point pid
next_expected A point F last pid refused did taken at es =
    let opens = opened A F last pid refused point taken at in
    go opens.flat (first_if true (entries_of pid did)) ∙ sym (ap (expected_by point pid) (act_of A point F pid refused did opens es))
  where
    go : point.flat ≡ F → (o : Option Entry) → comes_or refused pid o (missing pid (process_of F pid)) ≡ expected_by point pid o
    go flat (Some e) = ap (λ (b : Bool). comes_if b e) (follows A F last pid refused e point taken at)
    go flat None = sym (ap (λ (G : FlatState). missing pid (process_of G pid)) flat)

missing_one : (pid : ℕ) (o : Option Process) → is_one (missing pid o) ≡ false
missing_one pid None = refl
missing_one pid (Some p) = refl

one_begins : (pid : ℕ) (o : Option Process) (did : Did)
    → is_one (comes_or false pid (first_if true (entries_of pid did)) (missing pid o)) ≡ begins pid did (entries.Ran pid 1)
one_begins pid o deeds.Nothing = missing_one pid o
one_begins pid o deeds.Ran = ran_begins pid
one_begins pid o (deeds.Grew pages) = refl
one_begins pid o (deeds.Replied call regs) = refl
one_begins pid o (deeds.Wrote call [] regs) = refl
one_begins pid o (deeds.Wrote call (x ∷ xs) regs) = refl
one_begins pid o deeds.Slept = refl
one_begins pid o (deeds.Ended status) = refl

pub one_verdict : (A : Inputs) (point : Point) (F G : FlatState) (last new : Last) (pid : ℕ) (refused : Bool) (did : Did)
    → refused_in pid last ≡ Some refused → last ≡ lasts.Other → new ≡ last → IsAt A F last point
    → entries_of pid did ≡ entries_if (can_step F pid) (flat_step A F pid refused) → G ≡ state_if (can_step F pid) F (flat_step A F pid refused)
    → IsVerdict A (is_one (comes_or refused pid (first_if true (entries_of pid did)) (missing pid (process_of F pid)))) G new
    (flat_entry A point (entries.Ran pid 1))
one_verdict A point F G last new pid refused did taken other same at es after =
    let free : is_other last ≡ true = ap is_other other in
    let taken_free : refused_in pid last ≡ Some false = ap (refused_in pid) other in
    let is : refused ≡ false = cc in
    subst (λ (b : Bool). IsVerdict A b G new (flat_entry A point (entries.Ran pid 1)))
    (sym (ap (λ (b : Bool). is_one (comes_or b pid (first_if true (entries_of pid did)) (missing pid (process_of F pid)))) is ∙ one_begins pid (process_of F pid) did))
    (ran_at A point F G last new pid did (begins pid did (entries.Ran pid 1)) free same at
    (subst (λ (b : Bool). entries_of pid did ≡ entries_if (can_step F pid) (flat_step A F pid b)) is es)
    (subst (λ (b : Bool). G ≡ state_if (can_step F pid) F (flat_step A F pid b)) is after) refl)

-- Instructions that run.

module _ (A : Inputs) (F : FlatState) (last : Last) where
  verdict_none : (o : Option Point) → IsVerdict A false F last o → o ≡ None
  verdict_none None h = refl
  verdict_none (Some point) h = absurd h

  verdict_some : (o : Option Point) → IsVerdict A true F last o → IsSome o
  verdict_some None h = absurd h
  verdict_some (Some point) h = refl

  pub runs_all : (point : Point) (pid count ran : ℕ) → ran ≡ count → IsVerdict A true F last (flat_units A (Some point) (units_with (entries.Ran pid ran) []))
      → RunsOnly A point pid count ran
  runs_all point pid count ran all h =
      record { few = omega arith; runs = verdict_some (flat_units A (Some point) (units_with (entries.Ran pid ran) [])) h; stops = λ less. absurd (omega arith) }

pub runs_some : (A : Inputs) (F G : FlatState) (last new : Last) (point : Point) (pid count ran : ℕ) → ran ≤ count
    → IsVerdict A true F last (flat_units A (Some point) (units_with (entries.Ran pid ran) []))
    → IsVerdict A false G new (flat_units A (Some point) (units_with (entries.Ran pid (ran + 1)) [])) → RunsOnly A point pid count ran
runs_some A F G last new point pid count ran few h stop = record {
  few = few;
  runs = verdict_some A F last (flat_units A (Some point) (units_with (entries.Ran pid ran) [])) h;
  stops = λ less. verdict_none A G new (flat_units A (Some point) (units_with (entries.Ran pid (ran + 1)) [])) stop;
}

-- where a step is begun none run
pub runs_busy : (A : Inputs) (F : FlatState) (last : Last) (point : Point) (pid count : ℕ) → is_other last ≡ false → IsAt A F last point
    → RunsOnly A point pid count 0
runs_busy A F last point pid count other at =
    let none = ran_none A F last point pid at in
    runs_some A F F last last point pid count 0 (omega arith) none (ran_next A (Some point) F F last last pid 0 false none (λ p here. ran_busy A p F F last last pid other here))

pub none_run : (A : Inputs) (F : FlatState) (last : Last) (point : Point) (pid count : ℕ) → 0 ≡ count → IsAt A F last point
    → IsVerdict A true F last (flat_units A (Some point) (units_with (entries.Ran pid count) []))
none_run A F last point pid count none at =
    subst (λ (n : ℕ). IsVerdict A true F last (flat_units A (Some point) (units_with (entries.Ran pid n) []))) none (ran_none A F last point pid at)

-- those run that the machine runs
pub runs_free : (A : Inputs) (F G : FlatState) (last : Last) (point : Point) (pid count ran : ℕ) → ran ≤ count → is_other last ≡ true → IsAt A F last point
    → (ran ≡ count → RunsFor A F pid count G) → (ran < count → RunsNoMore A F pid ran) → RunsOnly A point pid count ran
runs_free A F G last point pid count ran few other at all stops = go (ran == count) refl
  where
    go : (b : Bool) → (ran == count) ≡ b → RunsOnly A point pid count ran
    go true e =
        let is : ran ≡ count = grind (arith, nat_tests) in
        runs_all A G last point pid count ran is
        (subst (λ (n : ℕ). IsVerdict A true G last (flat_units A (Some point) (units_with (entries.Ran pid n) []))) (sym is) (all_ran A F last point pid other at count G (all is)))
    go false e =
        let less : ran < count = grind (arith, nat_tests) in
        let h = stops less in
        let so = all_ran A F last point pid other at ran h.0 h.1 in
        runs_some A h.0 h.0 last last point pid count ran few so
        (ran_next A (Some point) h.0 h.0 last last pid ran false so (λ p here. not_ran A h.0 h.0 last last p pid other here h.2))

-- the verdict on so many, by how many run
pub runs_verdict : (A : Inputs) (G : FlatState) (last : Last) (point : Point) (pid count ran : ℕ) → RunsOnly A point pid count ran
    → (ran ≡ count → IsVerdict A true G last (flat_units A (Some point) (units_with (entries.Ran pid count) [])))
    → IsVerdict A (ran == count) G last (flat_units A (Some point) (units_with (entries.Ran pid count) []))
runs_verdict A G last point pid count ran only all = go (ran == count) refl
  where
    go : (b : Bool) → (ran == count) ≡ b → IsVerdict A b G last (flat_units A (Some point) (units_with (entries.Ran pid count) []))
    go true e = all (let is : ran ≡ count = grind (arith, nat_tests) in is)
    go false e =
        let few : ran ≤ count = only.few in
        let less : ran < count = grind (arith, nat_tests) in
        let last_one : ran + 1 ≤ count = omega (arith, less) in
        ran_fails A (Some point) G G last last pid (ran + 1) count last_one
        (subst (λ (o : Option Point). IsVerdict A false G last o) (sym (only.stops less)) tt)

runs_zero : (A : Inputs) (point : Point) (pid : ℕ) → IsSome (flat_units A (Some point) (units_with (entries.Ran pid 0) []))
unfolding flat_units
runs_zero A point pid = refl

-- no instruction runs, of none or where the first doesn't
pub expected_none : (A : Inputs) (point : Point) (pid count : ℕ) (expected : Expected) → count ≡ 0 → expected ≡ expected_of A point pid
    → IsExpected A point pid count expected
expected_none A point pid count expected none is = record {
  ran = 0;
  most = record { few = omega arith; runs = runs_zero A point pid; stops = λ less. absurd (omega arith) };
  told = is;
}

pub expected_stopped : (A : Inputs) (point : Point) (G : FlatState) (new : Last) (pid count : ℕ) (expected : Expected)
    → IsVerdict A false G new (flat_entry A point (entries.Ran pid 1)) → expected ≡ expected_of A point pid
    → IsExpected A point pid count expected
expected_stopped A point G new pid count expected stop is = record {
  ran = 0;
  most = record {
    few = omega arith;
    runs = runs_zero A point pid;
    stops = λ less. units_one A point (entries.Ran pid 1) ∙ verdict_none A G new (flat_entry A point (entries.Ran pid 1)) stop;
  };
  told = is;
}

first_runs : (A : Inputs) (point next : Point) (u : Entry) (n : ℕ) → flat_entry A point u ≡ Some next
    → flat_units A (Some point) (repeated u (n + 1) []) ≡ flat_units A (Some next) (repeated u n [])
unfolding flat_units
first_runs A point next u n first =
    let e : n + 1 ≡ suc n = omega arith in
    ap (λ (k : ℕ). flat_units A (Some point) (repeated u k [])) e ∙ ap (λ (o : Option Point). flat_units A o (repeated u n [])) first

ran_more : (pid n : ℕ) (expected : Expected) → Comes (entries.Ran pid (n + 1)) ≡ ran_or pid (n + 1) expected
ran_more pid n expected =
    let e : suc n ≡ n + 1 = omega arith in
    subst (λ (k : ℕ). Comes (entries.Ran pid k) ≡ ran_or pid k expected) e refl

pub expected_more : (A : Inputs) (point : Point) (G : FlatState) (new : Last) (pid count rest more : ℕ) → count ≡ rest + 1
    → IsVerdict A true G new (flat_entry A point (entries.Ran pid 1))
    → ((next : Point) → IsAt A G new next → RunsOnly A next pid rest more) → IsExpected A point pid count (Comes (entries.Ran pid (more + 1)))
expected_more A point G new pid count rest more all verdict runs = go (flat_entry A point (entries.Ran pid 1)) refl verdict
  where
    go : (o : Option Point) → flat_entry A point (entries.Ran pid 1) ≡ o → IsVerdict A true G new o → IsExpected A point pid count (Comes (entries.Ran pid (more + 1)))
    go None is k = absurd k
    go (Some next) is k =
        let behind = runs next k in
        let few = behind.few in
        record {
          ran = more + 1;
          most = record {
            few = omega arith;
            runs = ap is_some (first_runs A point next (entries.Ran pid 1) more is) ∙ behind.runs;
            stops = λ less. first_runs A point next (entries.Ran pid 1) (more + 1) is ∙ behind.stops (omega arith);
          };
          told = ran_more pid more (expected_of A point pid);
        }

-- The process that is due.

free_begun : (o : Option Entry) → IsBetween o → begun o ≡ None
free_begun (Some (entries.Out x0 x1)) free = absurd free
free_begun (Some (entries.Refused x0)) free = absurd free
free_begun _ free = refl

pub free_due : (A : Inputs) (F : FlatState) (last : Last) (point : Point) (e : Entry) → last ≡ lasts.Other → IsAt A F last point
    → due_process point.last e ≡ process_of_entry e
free_due A F last point e other at =
    let here : IsAt A F lasts.Other point = subst (λ (l : Last). IsAt A F l point) other at in
    ap (λ (o : Option ℕ). or_else o (process_of_entry e)) (free_begun point.last here.1)

pub refused_due : (A : Inputs) (F : FlatState) (last : Last) (pid : ℕ) (point : Point) (e : Entry) → last ≡ lasts.Refused pid → IsAt A F last point
    → due_process point.last e ≡ Some pid
refused_due A F last pid point e is at =
    let here : IsAt A F (lasts.Refused pid) point = subst (λ (l : Last). IsAt A F l point) is at in
    ap (λ (o : Option Entry). due_process o e) here.1

pub wrote_due : (A : Inputs) (F : FlatState) (last : Last) (pid : ℕ) (call : SystemCall) (regs : Regs) (point : Point) (e : Entry)
    → last ≡ lasts.Wrote pid call regs → IsAt A F last point → due_process point.last e ≡ Some pid
wrote_due A F last pid call regs point e is at =
    let here : IsAt A F (lasts.Wrote pid call regs) point = subst (λ (l : Last). IsAt A F l point) is at in
    ap (λ (o : Option Entry). due_process o e) here.out

-- the reply after bytes
reply_next : (A : Inputs) (point : Point) (F : FlatState) (pid : ℕ) (call : SystemCall) (regs : Regs)
    → IsWriting A F pid (call_entry pid call regs) point → Comes (call_entry pid call regs) ≡ expected_of A point pid
reply_next A point F pid call regs at =
    let reply : Entry = call_entry pid call regs in
    let step : step_at A point pid ≡ flat_step A point.flat pid false = ap (λ (o : Option Entry). flat_step A point.flat pid (is_refused o pid)) at.out in
    let rest : due_at A point pid ≡ reply ∷ [] =
    ap (λ (s : Step). due point.last pid s.entries) step ∙ ap (λ (xs : List Entry). due point.last pid xs) at.due
    ∙ ap (λ (o : Option Entry). due o pid (entries.Out pid at.bytes ∷ reply ∷ [])) at.out
    ∙ ap (λ (b : Bool). if b then reply ∷ [] else (entries.Out pid at.bytes ∷ reply ∷ [])) (eq_self pid) in
    let next : entry_of_step A point pid ≡ Some reply = ap (first_if (can_step point.flat pid)) rest ∙ ap (λ (c : Bool). first_if c (reply ∷ [])) at.can in
    sym (ap (expected_by point pid) next ∙ ap (λ (o : Option Entry). comes_if (may_follow o reply) reply) at.out ∙ ap (λ (b : Bool). comes_if b reply) (eq_self pid))

pub wrote_expected : (A : Inputs) (point : Point) (F : FlatState) (last : Last) (pid count : ℕ) (call : SystemCall) (regs : Regs)
    → last ≡ lasts.Wrote pid call regs → IsAt A F last point
    → IsExpected A point pid count (Comes (call_entry pid call regs))
wrote_expected A point F last pid count call regs is at =
    expected_stopped A point F last pid count (Comes (call_entry pid call regs)) (ran_busy A point F F last last pid (ap is_other is) at)
    (reply_next A point F pid call regs (subst (λ (l : Last). IsAt A F l point) is at))

pub refused_expected : (A : Inputs) (point : Point) (F : FlatState) (last : Last) (pid count : ℕ) (expected : Expected) → last ≡ lasts.Refused pid
    → IsAt A F last point → expected ≡ expected_of A point pid
    → IsExpected A point pid count expected
refused_expected A point F last pid count expected is at told =
    expected_stopped A point F last pid count expected (ran_busy A point F F last last pid (ap is_other is) at) told

pub refused_self : (pid : ℕ) (last : Last) → last ≡ lasts.Refused pid → refused_in pid last ≡ Some true
refused_self pid last is = ap (refused_in pid) is ∙ ap (λ (b : Bool). if b then Some true else None) (eq_self pid)

-- What is expected after good entries.

pub behind_few : (A : Inputs) (F : FlatState) (last : Last) (count : ℕ) (good : List Entry) (bad : Entry) (expected : Option Expected)
    → HasTaken A F last count good
    → count + counted bad ≤ instruction_limit → ((point : Point) → IsAt A F last point → IsExpectedAt A point bad expected)
    → IsExpectedBehind A good bad expected
behind_few A F last count good bad expected h few told = record {
  point = h.point;
  run = h.run;
  told =
      let n = h.counts in
      subst (λ (b : Bool). IsExpectedIf b A h.point bad expected) (sym (le-leb (instructions_of good + counted bad) instruction_limit (omega arith))) (told h.point h.at);
}

pub behind_many : (A : Inputs) (F : FlatState) (last : Last) (count : ℕ) (good : List Entry) (bad : Entry) → HasTaken A F last count good
    → instruction_limit < count + counted bad → IsExpectedBehind A good bad (Some TooMany)
behind_many A F last count good bad h many = record {
  point = h.point;
  run = h.run;
  told =
      let n = h.counts in
      subst (λ (b : Bool). IsExpectedIf b A h.point bad (Some TooMany)) (sym (lt-leb (instructions_of good + counted bad) instruction_limit (omega arith))) refl;
}

or_else_none : (o p : Option ℕ) → or_else o p ≡ None → p ≡ None
or_else_none None p h = h
or_else_none (Some n) p h = absurd cc

-- an entry of no process leaves a run
unowned : (A : Inputs) (point : Point) (e : Entry) → process_of_entry e ≡ None → flat_units A (Some point) (units_with e []) ≡ Some point
unowned A point e h =
    skipped A point e (λ p n is. apart p (ap process_of_entry is)) (λ p bytes is. apart p (ap process_of_entry is)) (λ p n is. apart p (ap process_of_entry is))
    (λ p n carry r0 r1 is. apart p (ap process_of_entry is)) (λ p is. apart p (ap process_of_entry is)) (λ p is. apart p (ap process_of_entry is)) (λ p n is. apart p (ap process_of_entry is))
  where
    apart : (p : ℕ) → process_of_entry e ≡ Some p → ⊥
    apart p k = let e : None ≡ Some p = sym h ∙ k in cc

-- nothing is expected only where the entry leaves a run
none_expected : (A : Inputs) (good : List Entry) (bad : Entry) → IsExpectedBehind A good bad None → is_run A (good ++ bad ∷ []) ≡ true
none_expected A good bad h = go (leb (instructions_of good + counted bad) instruction_limit) refl h.told
  where
    due : (o : Option ℕ) → due_process h.point.last bad ≡ o → IsExpectedOf A h.point bad o None → process_of_entry bad ≡ None
    due None is k = or_else_none (begun h.point.last) (process_of_entry bad) is
    due (Some pid) is k = absurd k

    go : (b : Bool) → leb (instructions_of good + counted bad) instruction_limit ≡ b → IsExpectedIf b A h.point bad None → is_run A (good ++ bad ∷ []) ≡ true
    go false is k = absurd cc
    go true is k =
        let owner = due (due_process h.point.last bad) refl k in
        let few = leb-true (instructions_of good + counted bad) instruction_limit is in
        let all = count-append good (bad ∷ []) in
        ap (λ (o : Option Point). is_some o && leb (instructions_of (good ++ bad ∷ [])) instruction_limit)
        (run_more A good bad ∙ ap (λ (o : Option Point). flat_units A o (units_with bad [])) h.run ∙ unowned A h.point bad owner)
        ∙ le-leb (instructions_of (good ++ bad ∷ [])) instruction_limit (omega arith)

empty_run : (A : Inputs) → is_run A [] ≡ true
empty_run A = taken_run A (start_state A) lasts.Other 0 [] (taken_none A (start_state A) refl)

pub number_some : (A : Inputs) (entries : List Entry) (number : ℕ) → first_bad A entries ≡ Some number → (0 < number) × (number ≤ length entries)
number_some A entries number first = let bad = bad_at A entries number (empty_run A) first in (bad.some, bad.within)

pub good_first : (A : Inputs) (entries : List Entry) (number index : ℕ) → first_bad A entries ≡ Some number → number ≡ index + 1
    → first_bad A (take index entries) ≡ None
good_first A entries number index first is = good_before A entries number index (bad_at A entries number (empty_run A) first) (omega arith)

pub misfit_is : (A : Inputs) (entries : List Entry) (number index : ℕ) (e : Entry) (expected : Expected) → first_bad A entries ≡ Some number
    → number ≡ index + 1 → index < length entries
    → e ≡ get_or entries index e → IsExpectedBehind A (take index entries) e (Some expected)
    → IsMisfit A entries (record { number = number; expected = expected })
misfit_is A entries number index e expected first is below here told = record {
  good = take index entries;
  bad = e;
  more = drop (index + 1) entries;
  are =
      sym (take-append-drop (index + 1) entries) ∙ ap (λ (es : List Entry). es ++ drop (index + 1) entries) (sym (next_front entries index e below here))
      ∙ append_assoc (take index entries) (e ∷ []) (drop (index + 1) entries);
  number = let l = length-take index entries in omega arith;
  first = first;
  expected = told;
}

pub never_none : (A : Inputs) (entries : List Entry) (number index : ℕ) (e : Entry) → first_bad A entries ≡ Some number → number ≡ index + 1
    → index < length entries
    → e ≡ get_or entries index e → IsExpectedBehind A (take index entries) e None → first_bad A entries ≡ None
never_none A entries number index e first is below here told =
    let bad = bad_at A entries number (empty_run A) first in
    let run : is_run A (take (index + 1) entries) ≡ true = ap (is_run A) (sym (next_front entries index e below here)) ∙ none_expected A (take index entries) e told in
    let not : is_run A (take (index + 1) entries) ≡ false = ap (λ (n : ℕ). is_run A (take n entries)) (sym is) ∙ bad.bad in
    let no : true ≡ false = sym run ∙ not in
    absurd cc
