-- A process that runs in a machine at a state of a run.
use Rattle.std.proofs.Common.{◌≡◌, ℕ, Bool, true, List, Option, Result, Ok, sym, ◌∙◌, subst}
use Rattle.std.specs.Prelude.{IfOk}
use Rattle.vm_facts.specs.SwapImages.{SwapImage}
use Rattle.io_edge.specs.FileHolding.{NamedFile}
use Rattle.vm_facts.specs.declared.page.Page.{Page}
use Rattle.vm_facts.specs.declared.stop.NoMemory.{NoMemory}
use Rattle.vm_facts.specs.declared.regs.Regs.{Regs}
use Rattle.flat_state.specs.Space.{Space}
use Rattle.flat_state.specs.Flat.{Process, Inputs}
use Rattle.machine_state.specs.Machine.{Standing}
use Rattle.step_units.specs.Callers.{regs_of}
use Rattle.run_model.specs.State.{State}
use Rattle.run_model.specs.Wanted.{locked}
use Rattle.step_units.proofs.Tables.{regs_is, is_kept}
use Rattle.proc_run.specs.Touching.{RunsWith}
use Rattle.proc_run.specs.Runs.{RunsAt}
use Rattle.proc_run.specs.Serving.{AreLocked}

-- with the registers that the machine keeps
pub runs_with : (A : Inputs) (s : State) (m : Standing) (holds : Option (List NamedFile)) (i : Option SwapImage) (image : SwapImage) (pid : ℕ) (now : Bool)
    (p : Process) (x : Space) (regs : Regs)
    → regs ≡ regs_of m.kernel pid → RunsAt A s m holds i image pid now p x → RunsWith A s now m pid regs
runs_with A s m holds i image pid now p x regs e r = record {
  image = image;
  process = p;
  space = x;
  named = r.named;
  at = r.on.machine.at;
  running = r.on.running;
  has = sym (e ∙ regs_is m.kernel pid p x (is_kept A s m.kernel image pid now p x r.on.machine.at r.on.running));
}

-- the pages that the instruction touches before the first that isn't valid are those that the run keeps
pub kept : (m : Standing) (holds : Option (List NamedFile)) (i : Option SwapImage) (pid : ℕ) (regs : Regs) (r : Result (List Page) NoMemory)
    (touched pages : List Page)
    → regs ≡ regs_of m.kernel pid
    → pages ≡ touched → r ≡ Ok touched
    → ((A : Inputs) (s : State) (now : Bool) → RunsWith A s now m pid regs → IfOk r (λ qs. qs ≡ locked A s)) → AreLocked m holds i pid pages
kept m holds i pid regs r touched pages e same made before A s image p x runs =
    same ∙ subst (λ (o : Result (List Page) NoMemory). IfOk o (λ qs. qs ≡ locked A s)) made (before A s true (runs_with A s m holds i image pid true p x regs e runs))
