-- Instructions that end their process.
use Rattle.std.proofs.Common.{inl, Bool, List, Result, Ok, Err, sym, ap, ◌∙◌, subst}
use Rattle.vm_facts.specs.Answers.{Answers, ByteWrite}
use Rattle.user_vax.specs.Program.{run}
use Rattle.user_vax.specs.Effects.{Effect}
use Rattle.user_vax.specs.Instruction.{instruction}
use Rattle.user_vax.specs.declared.refused.Refused.{Refused}
use Rattle.user_vax.specs.declared.refused.Refused.TheVariants.{Signal}
use Rattle.machine_state.specs.UserMemory.{kernel_answers}
use Rattle.flat_model.specs.Step.{ended_step, called_step, step_behind}
use Rattle.flat_model.specs.Run.{is_refused}
use Rattle.run_units.specs.Touching.{MakesNone, IsWhole, IsReadyFor}
use Rattle.run_units.proofs.Calling.{calls_write_none}
use Rattle.run_units.proofs.Instructing.{hit_ready}
use Rattle.run_units.proofs.Stepping.{step_known}
use Rattle.step_units.specs.Leaving.{SignalEnds, NoCallEnds}

pub signal_ends : SignalEnds
signal_ends A s m holds image pid now p x number h e =
    let memory : Answers = kernel_answers m.kernel x.sid in
    let r : Result Effect Refused = Err (Signal number) in
    let whole : IsWhole (run memory (instruction p.regs)) = subst IsWhole (sym e) tt in
    let ready : IsReadyFor A s p x r = subst (IsReadyFor A s p x) e (hit_ready A s m.kernel image pid now p x h.machine.at h.running whole) in
    record { unwanted = ready.unwanted; step = step_known A s pid now p x r h.running ready; begins = inl h.between }

pub no_call_ends : NoCallEnds
no_call_ends A s m holds image pid now p x effect number h e call none =
    let memory : Answers = kernel_answers m.kernel x.sid in
    let r : Result Effect Refused = Ok effect in
    let refused : Bool = is_refused s.point.last pid in
    let whole : IsWhole (run memory (instruction p.regs)) = subst IsWhole (sym e) (subst MakesNone (sym call) none) in
    let ready : IsReadyFor A s p x r = subst (IsReadyFor A s p x) e (hit_ready A s m.kernel image pid now p x h.machine.at h.running whole) in
    record {
      unwanted = ready.unwanted;
      step = step_known A s pid now p x r h.running ready ∙ ap (step_behind A.images s.point.flat p x refused effect) call
          ∙ ap (called_step A.images s.point.flat p x refused effect) none
          ∙ ap (λ (ws : List ByteWrite). ended_step A.images s.point.flat p ws 12) (calls_write_none memory p.regs effect number e call);
      begins = inl h.between;
    }
