-- Instructions of the process at a place, one after another, are its steps.
use Rattle.std.proofs.Common.{◌≡◌, ℕ, ℤ, zero, suc, ◌<◌, Bool, true, false, List, [], ◌∷◌, Option, Some, None, Result, Ok, Err, refl, sym, ap, ◌∙◌, subst}
use Rattle.vm_facts.specs.declared.entry.Entry.TheVariants.{Ran}
use Rattle.vm_facts.specs.declared.regs.Regs.{Regs}
use Rattle.user_vax.specs.Effects.{Effect}
use Rattle.user_vax.specs.Instruction.{answer_of, answer_of_call, registers_after, writes_of}
use Rattle.user_vax.specs.declared.refused.Refused.{Refused}
use Rattle.user_vax.specs.declared.refused.Refused.TheVariants as refusals
use Rattle.user_vax.specs.declared.stepped.Stepped.TheVariants as steps
use Rattle.flat_state.specs.Space.{Space}
use Rattle.flat_state.specs.Flat.{Process, FlatState, NamedImage, Inputs, process_of, is_ready, ready_if, can_step}
use Rattle.flat_state.specs.Change.{with_process}
use Rattle.flat_state.specs.declared.change.Change.TheVariants.{Keep}
use Rattle.flat_model.specs.declared.calls.Reply.{Reply}
use Rattle.flat_model.specs.declared.calls.Reply.TheVariants.{Fails, Does, Writes, Waits, Exits}
use Rattle.flat_model.specs.declared.calls.SystemCall.{SystemCall}
use Rattle.flat_model.specs.Calls.{call_of}
use Rattle.flat_model.specs.Instruction.{instruction_in}
use Rattle.flat_model.specs.Step.{Step, flat_step, step_of, step_behind, called_step, replied_step, reply_behind, written_process}
use Rattle.flat_model.specs.Run.{is_first_of}
use Rattle.flat_process.specs.Running.{outcome_of, Goes, GoesFor, StopsAfter}
use Rattle.flat_process.proofs.Going.{Still, one_still, all_still}
use Rattle.flat_machine.specs.declared.deed.Did.TheVariants as deeds
use Rattle.flat_machine.specs.declared.deed.Deed.{Deed}
use Rattle.flat_machine.specs.Machine.{IsPlace, IsBehind, process_at, space_at, step_by, entries_if, RunsOne, RunsFor, RunsNoMore}
use Rattle.flat_machine.proofs.Lists.{process_found, with_same}
use Rattle.flat_machine.proofs.Changing.{at_kept, place_kept, applied_at, with_twice}
use Rattle.flat_machine.proofs.Stepping.{behind_at, done_made, step_made, step_left, flat_at}

-- an instruction that is carried out, and makes no call, is the whole step
runs_one : (A : Inputs) (F : FlatState) (place : ℕ) (q : Process) → IsPlace F place → can_step F (process_at F place).pid ≡ true
    → Goes (process_at F place) q → RunsOne A F (process_at F place).pid (with_process F q)
runs_one A F place q at can goes =
    let p : Process = process_at F place in
    let s : Space = space_at F place in
    let r : Result Effect Refused = instruction_in s p.regs in
    let after : Regs = registers_after p.regs r in
    let wrote : Process = written_process p s (writes_of r) in
    let mid : FlatState = with_process F wrote in
    let there : IsPlace mid place = place_kept F place wrote at refl refl in
    let behind : IsBehind F p s r mid place steps.Done after = behind_at F mid place steps.Done after at refl (sym goes.done) refl in
    let deed : Deed = record { did = deeds.Ran; regs = after; change = Keep } in
    let made : step_by A.images F p (writes_of r) deed ≡ flat_step A F p.pid false =
    step_made A A.images F place false deed at refl (done_made A.images F mid p s false r place steps.Done after refl behind) in
    let kept : FlatState = with_process mid (record (process_at mid place) { regs = after }) in
    let stands : IsPlace kept place = place_kept mid place (record (process_at mid place) { regs = after }) there refl there.holds in
    let left : kept ≡ (step_by A.images F p (writes_of r) deed).after =
    sym (applied_at A.images mid kept place after Keep there tt refl ∙ with_same kept place stands)
    ∙ step_left A.images F mid p s r place steps.Done after deed behind in
    let is : with_process F q ≡ kept =
    ap (with_process F) goes.left ∙ sym (with_twice F wrote (record wrote { regs = after }) refl)
    ∙ sym (ap (λ (x : Process). with_process mid (record x { regs = after })) (at_kept F place wrote at refl)) in
    record {
      can = can;
      entries = sym (ap (λ (step : Step). step.entries) made);
      after = is ∙ left ∙ ap (λ (step : Step). step.after) made;
    }

-- the machine whose process at the place has gone on
module _ (F : FlatState) (place : ℕ) (at : IsPlace F place) (can : can_step F (process_at F place).pid ≡ true) (mid : Process)
    (still : Still (process_at F place) mid) where
  place_there : IsPlace (with_process F mid) place
  place_there = place_kept F place mid at still.pid (still.holds at.holds)

  process_there : process_at (with_process F mid) place ≡ mid
  process_there = at_kept F place mid at still.pid

  can_there : can_step (with_process F mid) (process_at F place).pid ≡ true
  can_there =
      let found : process_of (with_process F mid) mid.pid ≡ Some mid =
      subst (λ (x : Process). process_of (with_process F mid) x.pid ≡ Some x) process_there (process_found (with_process F mid) place place_there) in
      let named : process_of (with_process F mid) (process_at F place).pid ≡ Some mid =
      subst (λ (n : ℕ). process_of (with_process F mid) n ≡ Some mid) still.pid found in
      ap ready_if named ∙ still.ready (sym (ap ready_if (process_found F place at)) ∙ can)

  pid_there : (process_at (with_process F mid) place).pid ≡ (process_at F place).pid
  pid_there = ap (λ (x : Process). x.pid) process_there ∙ still.pid

  -- so it runs one more
  one_there : (A : Inputs) (q : Process) → Goes mid q → RunsOne A (with_process F mid) (process_at F place).pid (with_process F q)
  one_there A q goes =
      subst (RunsOne A (with_process F mid) (process_at F place).pid) (with_twice F mid q (sym (one_still mid q goes).pid))
      (subst (λ (n : ℕ). RunsOne A (with_process F mid) n (with_process (with_process F mid) q)) pid_there
      (runs_one A (with_process F mid) place q place_there
      (subst (λ (n : ℕ). can_step (with_process F mid) n ≡ true) (sym pid_there) can_there)
      (subst (λ (x : Process). Goes x q) (sym process_there) goes)))

runs_for : (A : Inputs) (F : FlatState) (place : ℕ) → IsPlace F place → can_step F (process_at F place).pid ≡ true → (count : ℕ) (q : Process)
    → GoesFor (process_at F place) count q → RunsFor A F (process_at F place).pid count (with_process F q)
runs_for A F place at can zero q h = ap (with_process F) h ∙ with_same F place at
runs_for A F place at can (suc count) q h = (
  with_process F h.0,
  runs_for A F place at can count h.0 h.1,
  one_there F place at can h.0 (all_still (process_at F place) h.0 count h.1) A q h.2,
)

-- A step whose instruction isn't carried out, or makes a call, doesn't begin with an instruction that ran.
module _ (images : List NamedImage) (F : FlatState) (p : Process) (s : Space) (pid : ℕ) where
  reply_begins : (call : SystemCall) (effect : Effect) (reply : Reply) → is_first_of (replied_step images F p call effect reply).entries (Ran pid 1) ≡ false
  reply_begins call effect (Fails error) = refl
  reply_begins call effect (Does regs change) = refl
  reply_begins call effect (Writes []) = refl
  reply_begins call effect (Writes (byte ∷ bytes)) = refl
  reply_begins call effect Waits = refl
  reply_begins call effect (Exits status) = refl

  call_begins : (effect : Effect) (o : Option SystemCall) → is_first_of (called_step images F p s false effect o).entries (Ran pid 1) ≡ false
  call_begins effect None = refl
  call_begins effect (Some call) = reply_begins call effect (reply_behind images F p s false call effect)

  effect_begins : (effect : Effect) (o : Option ℤ) → (answer_of_call o ≡ steps.Done → ⊥)
      → is_first_of (step_behind images F p s false effect o).entries (Ran pid 1) ≡ false
  effect_begins effect None other = absurd (other refl)
  effect_begins effect (Some number) other = call_begins effect (call_of number)

  step_begins : (r : Result Effect Refused) → (answer_of r ≡ steps.Done → ⊥) → is_first_of (step_of images F p s false r).entries (Ran pid 1) ≡ false
  step_begins (Ok effect) other = effect_begins effect effect.call other
  step_begins (Err (refusals.Miss address write)) other = refl
  step_begins (Err (refusals.Below address)) other = refl
  step_begins (Err (refusals.Signal number)) other = refl

begins_at : (A : Inputs) (F : FlatState) (place pid : ℕ) → IsPlace F place → (process_at F place).pid ≡ pid → can_step F pid ≡ true
    → (answer_of (outcome_of (process_at F place)) ≡ steps.Done → ⊥)
    → is_first_of (entries_if (can_step F pid) (flat_step A F pid false)) (Ran pid 1) ≡ false
begins_at A F place pid at named can other =
    ap (λ (b : Bool). is_first_of (entries_if b (flat_step A F pid false)) (Ran pid 1)) can
    ∙ ap (λ (n : ℕ). is_first_of (flat_step A F n false).entries (Ran pid 1)) (sym named)
    ∙ ap (λ (step : Step). is_first_of step.entries (Ran pid 1)) (flat_at A A.images F place false at refl)
    ∙ step_begins A.images F (process_at F place) (space_at F place) pid (outcome_of (process_at F place)) other

runs_only : (A : Inputs) (F : FlatState) (place : ℕ) → IsPlace F place → can_step F (process_at F place).pid ≡ true → (count : ℕ)
    → StopsAfter (process_at F place) count → RunsNoMore A F (process_at F place).pid count
runs_only A F place at can count h =
    let still : Still (process_at F place) h.0 = all_still (process_at F place) h.0 count h.1 in (
      with_process F h.0,
      runs_for A F place at can count h.0 h.1,
      begins_at A (with_process F h.0) place (process_at F place).pid (place_there F place at can h.0 still) (pid_there F place at can h.0 still) (can_there F place at can h.0 still)
          (subst (λ (x : Process). answer_of (outcome_of x) ≡ steps.Done → ⊥) (sym (process_there F place at can h.0 still)) h.2),
    )

-- the process of a number, at its place, runs so many
pub ran_for : (A : Inputs) (F G : FlatState) (place pid count : ℕ) (q : Process) → IsPlace F place → (process_at F place).pid ≡ pid → true ≡ can_step F pid
    → GoesFor (process_at F place) count q → G ≡ with_process F q → RunsFor A F pid count G
ran_for A F G place pid count q at named can goes is =
    subst (RunsFor A F pid count) (sym is)
    (subst (λ (n : ℕ). RunsFor A F n count (with_process F q)) named
    (runs_for A F place at (ap (can_step F) named ∙ sym can) count q goes))

-- or no more than so many
pub ran_only : (A : Inputs) (F : FlatState) (place pid count : ℕ) → IsPlace F place → (process_at F place).pid ≡ pid → true ≡ can_step F pid
    → StopsAfter (process_at F place) count → RunsNoMore A F pid count
ran_only A F place pid count at named can stops =
    subst (λ (n : ℕ). RunsNoMore A F n count) named (runs_only A F place at (ap (can_step F) named ∙ sym can) count stops)

-- a process that can't step runs none
pub idle_for : (A : Inputs) (F G : FlatState) (pid count : ℕ) → 0 ≡ count → G ≡ F → RunsFor A F pid count G
idle_for A F G pid count none same = subst (λ (n : ℕ). RunsFor A F pid n G) none same

pub idle_only : (A : Inputs) (F : FlatState) (pid : ℕ) → false ≡ can_step F pid → RunsNoMore A F pid 0
idle_only A F pid can =
    (F, refl, ap (λ (b : Bool). is_first_of (entries_if b (flat_step A F pid false)) (Ran pid 1)) (sym can))
