-- A machine with its files, at a state of a run: the premise of this crate's statements.
use Rattle.std.specs.Prelude.{◌≡◌, ℕ, Bool, List, Option, Ok}
use Rattle.vm_facts.specs.SwapImages.{SwapImage}
use Rattle.io_edge.specs.FileHolding.{NamedFile}
use Rattle.user_vax.specs.Program.{run}
use Rattle.user_vax.specs.Effects.{Effect}
use Rattle.user_vax.specs.Instruction.{instruction}
use Rattle.flat_state.specs.Space.{Space}
use Rattle.flat_state.specs.Flat.{Process, Inputs}
use Rattle.flat_model.specs.declared.calls.SystemCall.{SystemCall}
use Rattle.run_laws.specs.Shown.{IsCallOf}
use Rattle.machine_state.specs.Machine.{Standing}
use Rattle.machine_state.specs.Files.{AreRunImages}
use Rattle.machine_state.specs.UserMemory.{kernel_answers}
use Rattle.run_model.specs.State.{State}
use Rattle.flat_model.specs.Run.{IsBetween}
use Rattle.run_units.specs.Serving.{At}
use Rattle.run_units.specs.Touching.{RunsInSpace}

-- A machine whose files hold the images of a run stands at a state of the run.
pub record MachineAt (A : Inputs) (s : State) (m : Standing) (holds : Option (List NamedFile)) (image : SwapImage) : Type 0 where
  pub at : At A s m.kernel image
  pub images : AreRunImages m.images holds A
  pub blocks : m.params.swap_blocks ≡ A.swap_blocks

-- Between two steps a process runs.
pub record RunsOn (A : Inputs) (s : State) (m : Standing) (holds : Option (List NamedFile)) (image : SwapImage) (pid : ℕ) (now : Bool) (p : Process)
    (x : Space) : Type 0 where
  pub machine : MachineAt A s m holds image
  pub running : RunsInSpace A s pid now p x
  pub between : IsBetween s.point.last

-- Its instruction, over the frames of the machine, comes to this call.
pub record MakesCall (m : Standing) (p : Process) (x : Space) (effect : Effect) (call : SystemCall) : Type 0 where
  pub made : run (kernel_answers m.kernel x.sid) (instruction p.regs) ≡ Ok effect
  pub names : IsCallOf effect call
