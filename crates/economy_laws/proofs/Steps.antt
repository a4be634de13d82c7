-- The steps of a process that can step: there is one, and what growth is.
use Rattle.std.proofs.Common.{◌≡◌, ℕ, ◌==◌, Bool, true, false, List, [], ◌∷◌, Option, Some, None, Result, Ok, Err, ℤ, if◌then◌else◌, refl, sym, ap, ◌∙◌, subst, arith}
use Rattle.std.proofs.lemmas.Bool.Decides.{nat_tests}
use Rattle.run_laws.proofs.Finishing.{never_misses}
use Rattle.flat_state.specs.Space.{Space}
use Rattle.flat_state.specs.Flat.{Holds, Process, FlatState, NamedImage, Inputs, process_of, can_step}
use Rattle.vm_facts.specs.declared.entry.Entry.{Entry}
use Rattle.vm_facts.specs.declared.entry.Entry.TheVariants as entries
use Rattle.user_vax.specs.Effects.{Effect}
use Rattle.user_vax.specs.Instruction.{instruction}
use Rattle.user_vax.specs.Program.{run}
use Rattle.user_vax.specs.declared.refused.Refused.{Refused}
use Rattle.user_vax.specs.declared.refused.Refused.TheVariants.{Miss, Below, Signal}
use Rattle.flat_model.specs.declared.calls.Reply.{Reply}
use Rattle.flat_model.specs.declared.calls.Reply.TheVariants.{Writes}
use Rattle.flat_model.specs.declared.calls.SystemCall.{SystemCall}
use Rattle.flat_model.specs.Calls.{call_of}
use Rattle.flat_model.specs.Instruction.{instruction_in}
use Rattle.flat_model.specs.Step.{Step, replied_step, reply_behind, called_step, step_behind, step_of, step_holding, step_if, flat_step, grown_step}
use Rattle.flat_model.specs.Run.{step_at, is_refused, behind_first, due, due_at, first_if}
use Rattle.run_model.specs.State.{State}
use Rattle.run_model.specs.Act.{must_refuse, must_settle, act_by, act_if, act}
use Rattle.run_model.specs.Kinds.{ProcessRuns}
use Rattle.run_laws.specs.Running.{IsRun}
use Rattle.run_laws.specs.Flowing.{Awaits, WaitsBy, Flows}
use Rattle.run_laws.proofs.Acts.{Stepper, stepper}
use Rattle.run_laws.proofs.Flows.{on_steps}
use Rattle.run_laws.proofs.Forms.{step_is}

-- Entries.

module _ (images : List NamedImage) (F : FlatState) (p : Process) where
  replied_some : (call : SystemCall) (effect : Effect) (reply : Reply) → (replied_step images F p call effect reply).entries ≡ [] → ⊥
  replied_some call effect (Writes []) h = absurd cc
  replied_some call effect (Writes (byte ∷ bytes)) h = absurd cc
  replied_some call effect _ h = absurd cc

  behind_some : (s : Space) (refused : Bool) (effect : Effect) (o : Option ℤ) → (step_behind images F p s refused effect o).entries ≡ [] → ⊥
  behind_some s refused effect None h = absurd cc
  behind_some s refused effect (Some number) h = go (call_of number) h
    where
      go : (o : Option SystemCall) → (called_step images F p s refused effect o).entries ≡ [] → ⊥
      go None h = absurd cc
      go (Some call) h = replied_some call effect (reply_behind images F p s refused call effect) h

  of_some : (s : Space) (refused : Bool) (r : Result Effect Refused)
      → ((a : ℕ) (w : Bool) → r ≡ Err (Miss a w) → ⊥) → (step_of images F p s refused r).entries ≡ [] → ⊥
  of_some s refused (Ok effect) n h = behind_some s refused effect effect.call h
  of_some s refused (Err (Miss a w)) n h = n a w refl
  of_some s true (Err (Below a)) n h = absurd cc
  of_some s false (Err (Below a)) n h = absurd cc
  of_some s refused (Err (Signal k)) n h = absurd cc

entries_some : (A : Inputs) (F : FlatState) (pid : ℕ) (refused : Bool) → can_step F pid ≡ true → (flat_step A F pid refused).entries ≡ [] → ⊥
entries_some A F pid refused c h =
    let x : Stepper F pid = stepper F pid c in
    let q : Process = x.process in
    of_some A.images F x.process x.space refused (instruction_in x.space q.regs) (λ a w e. never_misses x.space (instruction q.regs) a w e)
    (sym (ap (λ (S : Step). S.entries) (step_is A F pid refused x.process x.space x.here x.holds)) ∙ h)

-- A process that runs acts.
pub act_some : (A : Inputs) (s : State) (pid : ℕ) (now : Bool) → IsRun A s → ProcessRuns A s pid now → act A s pid ≡ None → ⊥
unfolding act
act_some A s pid now r run h =
    let es : List Entry = (step_at A s.point pid).entries in
    by (must_refuse A s pid) (must_settle A s pid) (sym (ap (λ (b : Bool). act_if b A s pid) steps) ∙ h)
  where
    steps : can_step s.point.flat pid ≡ true
    steps = on_steps A s s.mark pid now run.on

    some : (xs : List Entry) → first_if true xs ≡ None → xs ≡ []
    some [] e = refl
    some (x ∷ xs) e = absurd cc

    all : (step_at A s.point pid).entries ≡ [] → ⊥
    all e = entries_some A s.point.flat pid (is_refused s.point.last pid) steps e

    writing : (p : ℕ) (b : Bool) → (p == pid) ≡ b → Awaits A s p → (if b then behind_first (step_at A s.point pid).entries else (step_at A s.point pid).entries) ≡ [] → due_at A s.point pid ≡ [] → ⊥
    writing p true e a k z = let same : p ≡ pid = grind (arith, nat_tests) in a.left (subst (λ (x : ℕ). due_at A s.point x ≡ []) (sym same) z)
    writing p false e a k z = all k

    never : (o : Option Entry) → WaitsBy A s o → due o pid (step_at A s.point pid).entries ≡ [] → due_at A s.point pid ≡ [] → ⊥
    never (Some (entries.Out p bytes)) w k z = writing p (p == pid) refl w k z
    never (Some (entries.Event a)) w k z = all k
    never (Some (entries.Turn a)) w k z = all k
    never (Some (entries.Ran a n)) w k z = all k
    never (Some (entries.Grew a n)) w k z = all k
    never (Some (entries.Call a n c r0 r1)) w k z = all k
    never (Some (entries.Refused a)) w k z = all k
    never (Some (entries.Sleeps a)) w k z = all k
    never (Some (entries.Ended a n)) w k z = all k
    never (Some (entries.Zero a)) w k z = all k
    never (Some (entries.Get a lo n)) w k z = all k
    never (Some (entries.Copy a)) w k z = all k
    never (Some (entries.Reclaim a)) w k z = all k
    never (Some (entries.Hands n)) w k z = all k
    never (Some (entries.Put a n)) w k z = all k
    never (Some entries.Done) w k z = all k
    never (Some (entries.SwapOut a)) w k z = all k
    never (Some (entries.SwapIn a)) w k z = all k
    never (Some (entries.Owners a b c d)) w k z = all k
    never None w k z = all k

    by : (x y : Bool) → act_by A s pid x y ≡ None → ⊥
    by true y k = absurd cc
    by false true k = absurd cc
    by false false k = let f : Flows A s = r.flows in let z = some (due_at A s.point pid) (sym (ap (λ (b : Bool). first_if b (due_at A s.point pid)) steps) ∙ k) in never s.point.last f.waits z z

-- Growth.

pub record Grows (images : List NamedImage) (F : FlatState) (p : Process) (s : Space) (refused : Bool) (r : Result Effect Refused) : Type 0 where
  pub address : ℕ
  pub below : r ≡ Err (Below address)
  pub step : step_of images F p s refused r ≡ grown_step images F p s address

replied_grows : (images : List NamedImage) (F : FlatState) (p : Process) (call : SystemCall) (effect : Effect) (reply : Reply) (a n : ℕ)
    → (replied_step images F p call effect reply).entries ≡ entries.Grew a n ∷ [] → ⊥
replied_grows images F p call effect (Writes []) a n h = absurd cc
replied_grows images F p call effect (Writes (byte ∷ bytes)) a n h = absurd cc
replied_grows images F p call effect _ a n h = absurd cc

behind_grows : (images : List NamedImage) (F : FlatState) (p : Process) (s : Space) (refused : Bool) (effect : Effect) (o : Option ℤ) (a n : ℕ)
    → (step_behind images F p s refused effect o).entries ≡ entries.Grew a n ∷ [] → ⊥
behind_grows images F p s refused effect None a n h = absurd cc
behind_grows images F p s refused effect (Some number) a n h = go (call_of number) h
  where
    go : (o : Option SystemCall) → (called_step images F p s refused effect o).entries ≡ entries.Grew a n ∷ [] → ⊥
    go None h = absurd cc
    go (Some call) h = replied_grows images F p call effect (reply_behind images F p s refused call effect) a n h

pub grows_of : (images : List NamedImage) (F : FlatState) (p : Process) (s : Space) (refused : Bool) (r : Result Effect Refused) (a n : ℕ)
    → (step_of images F p s refused r).entries ≡ entries.Grew a n ∷ [] → Grows images F p s refused r
grows_of images F p s refused (Ok effect) a n h = absurd (behind_grows images F p s refused effect effect.call a n h)
grows_of images F p s refused (Err (Miss b w)) a n h = absurd cc
grows_of images F p s true (Err (Below b)) a n h = absurd cc
grows_of images F p s false (Err (Below b)) a n h = record { address = b; below = refl; step = refl }
grows_of images F p s refused (Err (Signal k)) a n h = absurd cc
