-- A process does another thing next than an instruction alone, where its instruction isn't carried out alone over the frames, or a step of it
-- is begun.
use Rattle.std.proofs.Common.{◌≡◌, ◌≢◌, ℕ, ℤ, Bool, true, false, List, [], ◌∷◌, Option, Some, None, Result, Ok, Err, refl, sym, ap, ◌∙◌, inl, inr}
use Rattle.vm_facts.specs.SwapImages.{SwapImage}
use Rattle.vm_facts.specs.declared.entry.Entry.{Entry}
use Rattle.vm_facts.specs.declared.entry.Entry.TheVariants as entries
use Rattle.user_vax.specs.Program.{run}
use Rattle.user_vax.specs.Effects.{Effect}
use Rattle.user_vax.specs.Instruction.{instruction, answer_of, answer_of_call}
use Rattle.user_vax.specs.declared.refused.Refused.{Refused}
use Rattle.user_vax.specs.declared.refused.Refused.TheVariants.{Miss, Below, Signal}
use Rattle.user_vax.specs.declared.stepped.Stepped.TheVariants as steps
use Rattle.user_vax.proofs.Order.{same_or_misses}
use Rattle.flat_state.specs.Flat.{Process, FlatState, NamedImage, Inputs, can_step}
use Rattle.flat_state.specs.Space.{Space, answers_of}
use Rattle.kernel_model.specs.Kernel.{Kernel}
use Rattle.machine_state.specs.UserMemory.{kernel_answers}
use Rattle.flat_model.specs.declared.calls.Reply.{Reply}
use Rattle.flat_model.specs.declared.calls.Reply.TheVariants.{Fails, Does, Writes, Waits, Exits}
use Rattle.flat_model.specs.declared.calls.SystemCall.{SystemCall}
use Rattle.flat_model.specs.Calls.{call_of}
use Rattle.flat_model.specs.Instruction.{instruction_in}
use Rattle.flat_model.specs.Step.{Step, replied_step, reply_behind, called_step, step_behind, step_of}
use Rattle.flat_model.specs.Run.{step_at, is_refused, due_at, first_if, entry_of_step, process_of_entry, may_follow, ComesAt, IsBetween}
use Rattle.flat_model.proofs.Coming.{Came, came}
use Rattle.run_model.specs.State.{State}
use Rattle.run_model.specs.After.{after}
use Rattle.run_model.specs.Act.{act, LastSays, IsNext}
use Rattle.run_model.specs.Wanted.{wanted}
use Rattle.run_model.proofs.Acting.{next_flat}
use Rattle.run_model.proofs.Wanting.{splits_wanted}
use Rattle.run_laws.proofs.Flows.{Acted, Settles, Refuses, Steps, acted, steps_own}
use Rattle.proc_run.specs.RunUnitsServing.{At}
use Rattle.proc_run.specs.RunUnitsTouching.{RunsInSpace, WantsPage}
use Rattle.proc_run.proofs.Instructing.{miss_wanted}
use Rattle.proc_run.proofs.Stepping.{step_known}
use Rattle.proc_run.proofs.RunsTouching.{frames_cover}
use Rattle.proc_run.proofs.BegunUnits.{whole_due}
use Rattle.paged_model.specs.Steps.{other_begun}
use Rattle.paged_laws.proofs.Acted.{own_awaits}
use Rattle.proc_run.specs.declared.finishing.Begun.{Begun}
use Rattle.proc_run.specs.Rests.{begun_by}

-- Of the steps of the flat machine only that of such an instruction begins with an instruction alone.

module _ (images : List NamedImage) (F : FlatState) (p : Process) (x : Space) (q n : ℕ) (rest : List Entry) where
  reply_other : (call : SystemCall) (effect : Effect) (reply : Reply) → (replied_step images F p call effect reply).entries ≡ entries.Ran q n ∷ rest → ⊥
  reply_other call effect (Fails error) e = cc
  reply_other call effect (Does regs change) e = cc
  reply_other call effect (Writes []) e = cc
  reply_other call effect (Writes (byte ∷ bytes)) e = cc
  reply_other call effect Waits e = cc
  reply_other call effect (Exits status) e = cc

  called_other : (refused : Bool) (effect : Effect) (o : Option SystemCall) → (called_step images F p x refused effect o).entries ≡ entries.Ran q n ∷ rest → ⊥
  called_other refused effect None e = cc
  called_other refused effect (Some call) e = reply_other call effect (reply_behind images F p x refused call effect) e

  behind_alone : (refused : Bool) (effect : Effect) (o : Option ℤ) → (step_behind images F p x refused effect o).entries ≡ entries.Ran q n ∷ rest → o ≡ None
  behind_alone refused effect None e = refl
  behind_alone refused effect (Some number) e = absurd (called_other refused effect (call_of number) e)

  below_other : (refused : Bool) (address : ℕ) → (step_of images F p x refused (Err (Below address))).entries ≡ entries.Ran q n ∷ rest → ⊥
  below_other true address e = cc
  below_other false address e = cc

  step_alone : (refused : Bool) (r : Result Effect Refused) → (step_of images F p x refused r).entries ≡ entries.Ran q n ∷ rest → answer_of r ≡ steps.Done
  step_alone refused (Ok effect) e = ap answer_of_call (behind_alone refused effect effect.call e)
  step_alone refused (Err (Miss address write)) e = absurd cc
  step_alone refused (Err (Below address)) e = absurd (below_other refused address e)
  step_alone refused (Err (Signal number)) e = absurd cc

first_of : (b : Bool) (es : List Entry) (u : Entry) → first_if b es ≡ Some u → (rest : List Entry) × (es ≡ u ∷ rest)
first_of true [] u e = absurd cc
first_of true (f ∷ es) u e = let same : f ≡ u = cc in (es, ap (λ (y : Entry). y ∷ es) same)
first_of false [] u e = absurd cc
first_of false (f ∷ es) u e = absurd cc

-- Between two steps.

module _ (A : Inputs) (s : State) (k : Kernel) (image : SwapImage) (pid : ℕ) (now : Bool) (p : Process) (x : Space) (at : At A s k image) (run_now : RunsInSpace A s pid now p x)
    (unwanted : wanted A s ≡ None) where
  -- over the frames the instruction comes to the same as over the flat memory
  frames_same : run (kernel_answers k x.sid) (instruction p.regs) ≡ instruction_in x p.regs
  frames_same =
      elim (same_or_misses (kernel_answers k x.sid) (answers_of x) (instruction p.regs) (frames_cover A s k image pid now p x at run_now)) [
        | inl same ↦ same.0
        | inr miss ↦
            let w : WantsPage A s k x miss.0 miss.1 = miss_wanted A s k image pid now p x miss.0 miss.1 at run_now miss.2 in
            let z : None ≡ Some w.page =
            sym unwanted
            ∙ splits_wanted A s w.before w.page run_now.runs.clear (record { behind = w.rest; whole = w.touched; valid = w.valid; absent = w.absent }) in
            absurd cc
      ]

  alone : (q n : ℕ) → IsBetween s.point.last → entry_of_step A s.point pid ≡ Some (entries.Ran q n)
      → answer_of (run (kernel_answers k x.sid) (instruction p.regs)) ≡ steps.Done
  alone q n between e =
      let first = first_of (can_step s.point.flat pid) (due_at A s.point pid) (entries.Ran q n) e in
      let refused : Bool = is_refused s.point.last pid in
      let is : step_at A s.point pid ≡ step_of A.images s.point.flat p x refused (instruction_in x p.regs) =
      step_known A s pid now p x (instruction_in x p.regs) run_now (record { unwanted = unwanted; same = refl }) in
      ap answer_of frames_same
      ∙ step_alone A.images s.point.flat p x q n first.0 refused (instruction_in x p.regs)
      (ap (λ (z : Step). z.entries) (sym is) ∙ sym (whole_due s.point.last pid (step_at A s.point pid).entries between) ∙ first.1)

  pub never_alone : IsBetween s.point.last → answer_of (run (kernel_answers k x.sid) (instruction p.regs)) ≢ steps.Done
      → (q n : ℕ) → act A s pid ≡ Some (entries.Ran q n) → ⊥
  never_alone between other q n e = go (acted A s pid (entries.Ran q n) e)
    where
      go : Acted A s pid (entries.Ran q n) → ⊥
      go (Settles z) = cc
      go (Refuses z) = cc
      go (Steps f g z) = other (alone q n between z)

-- Where a step is begun.

reply_follows : (o : Option Entry) (q n : ℕ) (b : Begun) → begun_by o ≡ Some b → may_follow o (entries.Ran q n) ≡ true → ⊥
reply_follows (Some (entries.Refused p)) q n b e f = cc
reply_follows (Some (entries.Out p bytes)) q n b e f = cc
reply_follows _ q n b e f = cc

pub never_begun : (A : Inputs) (s : State) (pid : ℕ) (b : Begun) → LastSays A s.point.flat s.point.last → begun_by s.point.last ≡ Some b
    → other_begun s.point.last pid ≡ None
    → (q n : ℕ) → act A s pid ≡ Some (entries.Ran q n) → ⊥
never_begun A s pid b says begun own q n e = go (acted A s pid (entries.Ran q n) e)
  where
    comes : process_of_entry (entries.Ran q n) ≡ Some pid → ⊥
    comes mine =
        let next : IsNext A s (entries.Ran q n) = record { pid = pid; next = e; awaited = own_awaits s.point.last pid own } in
        let c : Came A s.point (after A s (entries.Ran q n)).point pid (entries.Ran q n) =
        came A s.point (after A s (entries.Ran q n)).point pid (entries.Ran q n) mine (next_flat A s (entries.Ran q n) says next) in
        let k : ComesAt A s.point pid (entries.Ran q n) = c.comes in
        reply_follows s.point.last q n b begun k.follows

    go : Acted A s pid (entries.Ran q n) → ⊥
    go (Settles z) = cc
    go (Refuses z) = cc
    go (Steps f g z) = comes (steps_own A s.point pid (entries.Ran q n) z)
