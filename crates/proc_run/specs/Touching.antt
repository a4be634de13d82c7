-- When a process runs at a state of a run, so that its touched pages may be sought.
use Rattle.std.specs.Prelude.{◌≡◌, ℕ, Bool}
use Rattle.vm_facts.specs.SwapImages.{SwapImage}
use Rattle.vm_facts.specs.declared.regs.Regs.{Regs}
use Rattle.flat_state.specs.Space.{Space}
use Rattle.flat_state.specs.Flat.{Process, Inputs}
use Rattle.machine_state.specs.Machine.{Standing}
use Rattle.step_units.specs.Reading.{AreNamed}
use Rattle.run_model.specs.State.{State}
use Rattle.step_units.specs.Serving.{At}
use Rattle.step_units.specs.Touching.{RunsInSpace}

-- A machine with the images of a run stands at a state of it, at which a process runs, with these registers.
pub record RunsWith (A : Inputs) (s : State) (now : Bool) (m : Standing) (pid : ℕ) (regs : Regs) : Type 0 where
  pub image : SwapImage
  pub process : Process
  pub space : Space
  pub named : AreNamed A.images m.images
  pub at : At A s m.kernel image
  pub running : RunsInSpace A s pid now process space
  pub has : process.regs ≡ regs
