-- What an instruction that was tried came to, and the machine that it was tried in.
use Rattle.std.proofs.Common.{◌≡◌, ◌≢◌, ℕ, ℤ, Bool, List, [], Option, Some, None, Result, Ok, Err, refl, sym, ap, ◌∙◌, subst}
use Rattle.vm_facts.specs.SwapImages.{SwapImage}
use Rattle.vm_facts.specs.Answers.{Answers, ByteWrite}
use Rattle.vm_facts.specs.declared.regs.Regs.{Regs}
use Rattle.io_edge.specs.FileHolding.{NamedFile}
use Rattle.user_vax.specs.Program.{run}
use Rattle.user_vax.specs.Effects.{Effect}
use Rattle.user_vax.specs.Instruction.{instruction, answer_of, answer_of_call, registers_after, writes_of}
use Rattle.user_vax.specs.declared.refused.Refused.{Refused}
use Rattle.user_vax.specs.declared.refused.Refused.TheVariants.{Miss, Below, Signal}
use Rattle.user_vax.specs.declared.stepped.Stepped.{Stepped}
use Rattle.user_vax.specs.declared.stepped.Stepped.TheVariants as steps
use Rattle.user_step.proofs.Trying.{call_done}
use Rattle.flat_state.specs.Space.{Space}
use Rattle.flat_state.specs.Flat.{Process, Inputs}
use Rattle.machine_state.specs.Going.{CanGoOn}
use Rattle.machine_state.specs.Machine.{Standing}
use Rattle.machine_state.specs.UserMemory.{CanLend, Wrote, writes_in}
use Rattle.step_units.specs.Callers.{regs_of}
use Rattle.run_model.specs.State.{State}
use Rattle.proc_run.proofs.Covering.{writes_none}
use Rattle.step_units.specs.Ready.{Continues}
use Rattle.step_units.proofs.Running.{continues_from}
use Rattle.step_units.proofs.Entries.{room_continues}
use Rattle.proc_run.specs.Calls.{own_answers, MadeCall}
use Rattle.proc_run.specs.Runs.{IsSteady, RunsAt}
use Rattle.proc_run.specs.Stretch.{Leaves}

-- What a step answers.

none_called : (o : Option ℤ) → answer_of_call o ≡ steps.Done → o ≡ None
none_called None e = refl
none_called (Some number) e = absurd cc

some_called : (o : Option ℤ) (number : ℤ) → answer_of_call o ≡ steps.Call number → o ≡ Some number
some_called None number e = absurd cc
some_called (Some n) number e = cc

pub did_all : (r : Result Effect Refused) → answer_of r ≡ steps.Done → (effect : Effect) × (r ≡ Ok effect) × (effect.call ≡ None)
did_all (Ok effect) e = (effect, refl, none_called effect.call e)
did_all (Err (Miss address write)) e = absurd cc
did_all (Err (Below address)) e = absurd cc
did_all (Err (Signal number)) e = absurd cc

pub called : (r : Result Effect Refused) (number : ℤ) → answer_of r ≡ steps.Call number → (effect : Effect) × (r ≡ Ok effect) × (effect.call ≡ Some number)
called (Ok effect) number e = (effect, refl, some_called effect.call number e)
called (Err (Miss address write)) number e = absurd cc
called (Err (Below address)) number e = absurd cc
called (Err (Signal signal)) number e = absurd cc

pub fell : (r : Result Effect Refused) (address : ℕ) → answer_of r ≡ steps.Below address → r ≡ Err (Below address)
fell (Ok effect) address e = absurd (call_done effect.call (steps.Below address) e (λ n z. absurd cc) (λ z. absurd cc))
fell (Err (Miss a w)) address e = absurd cc
fell (Err (Below a)) address e = cc
fell (Err (Signal n)) address e = absurd cc

pub signalled : (r : Result Effect Refused) (number : ℕ) → answer_of r ≡ steps.Signal number → r ≡ Err (Signal number)
signalled (Ok effect) number e = absurd (call_done effect.call (steps.Signal number) e (λ n z. absurd cc) (λ z. absurd cc))
signalled (Err (Miss a w)) number e = absurd cc
signalled (Err (Below a)) number e = absurd cc
signalled (Err (Signal n)) number e = cc

-- The machine is as it was, but for the room for one more instruction.
pub record RoomOnly (old new : Standing) : Type 0 where
  pub made : Option ℕ
  pub only : new ≡ record old { room = made }

pub no_room : (m : Standing) → RoomOnly m m
no_room m = record { made = m.room; only = refl }

-- what it says of the kernel alone
pub room_kernel : (P : Standing → Type 0) (old new : Standing) (o : RoomOnly old new) → P (record old { room = o.made }) → P new
room_kernel P old new o h = subst P (sym o.only) h

pub room_answers : (old new : Standing) (pid : ℕ) (regs : Regs) → RoomOnly old new
    → run (own_answers new pid) (instruction regs) ≡ run (own_answers old pid) (instruction regs)
room_answers old new pid regs o = ap (λ (m : Standing). run (own_answers m pid) (instruction regs)) o.only

pub room_steady : (old new : Standing) → RoomOnly old new → IsSteady old → CanGoOn new → IsSteady new
room_steady old new o h =
    room_kernel (λ m. CanGoOn m → IsSteady m) old new o (λ ready. record { ready = ready; clear = h.clear; frames = h.frames; low = h.low })

pub room_lends : (old new : Standing) (pid : ℕ) → RoomOnly old new → CanLend old.kernel pid → CanLend new.kernel pid
room_lends old new pid o h = room_kernel (λ m. CanLend m.kernel pid) old new o h

pub room_regs : (old new : Standing) (pid : ℕ) (regs : Regs) → RoomOnly old new → regs ≡ regs_of old.kernel pid → regs ≡ regs_of new.kernel pid
room_regs old new pid regs o h = room_kernel (λ m. regs ≡ regs_of m.kernel pid) old new o h

pub room_goes_on : (old mid new : Standing) (n : ℕ) → RoomOnly old mid → old.kernel.place.due ≡ [] → Continues mid new n → Continues old new n
room_goes_on old mid new n o clear c = continues_from old mid new n (room_continues old mid o.made clear o.only) c

pub room_runs : (A : Inputs) (s : State) (old new : Standing) (holds : Option (List NamedFile)) (i : Option SwapImage) (image : SwapImage) (pid : ℕ)
    (now : Bool)
    (p : Process) (x : Space)
    → RoomOnly old new
    → RunsAt A s old holds i image pid now p x → RunsAt A s new holds i image pid now p x
room_runs A s old new holds i image pid now p x o r =
    room_kernel (λ m. RunsAt A s m holds i image pid now p x) old new o (record {
      on = record {
        machine = record { at = r.on.machine.at; images = r.on.machine.images; blocks = r.on.machine.blocks };
        running = r.on.running;
        between = r.on.between;
      };
      named = r.named;
      told = r.told;
    })

-- Where an instruction isn't carried out, or makes a call, the machine stays.

pub wrote_none : (old new : Standing) (sid : ℕ) (memory : Answers) (before : Regs) → Wrote old sid (writes_of (run memory (instruction before))) new
    → answer_of (run memory (instruction before)) ≢ steps.Done → new ≡ old
wrote_none old new sid memory before w d =
    w.machine ∙ ap (λ (ws : List ByteWrite). let m : Standing = record old { kernel = writes_in old.kernel sid ws } in m)
    (writes_none memory before (run memory (instruction before)) refl d)

pub leaves : (s : Stepped) (old new : Standing) → (s ≢ steps.Done → new ≡ old) → Leaves s old new
leaves steps.Done old new h = tt
leaves (steps.Call number) old new h = h (λ z. absurd cc)
leaves (steps.Miss address write) old new h = h (λ z. absurd cc)
leaves (steps.Below address) old new h = h (λ z. absurd cc)
leaves (steps.Signal number) old new h = h (λ z. absurd cc)

pub call_made : (m : Standing) (pid : ℕ) (before after : Regs) (number : ℤ) → answer_of (run (own_answers m pid) (instruction before)) ≡ steps.Call number
    → after ≡ registers_after before (run (own_answers m pid) (instruction before)) → MadeCall m pid before number after
call_made m pid before after number a e =
    let c = called (run (own_answers m pid) (instruction before)) number a in
    record { effect = c.0; made = c.1; number_is = c.2; left = sym (e ∙ ap (registers_after before) c.1) }
