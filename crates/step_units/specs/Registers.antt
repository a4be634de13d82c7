-- That registers are longwords all along a run.
use Rattle.std.specs.Prelude.{ℕ, ◌+◌, ◌<◌, ◌≤◌, ◌^◌, List, length, Option}
use Rattle.vm_facts.specs.SwapImages.{SwapImage}
use Rattle.vm_facts.specs.declared.entry.Entry.{Entry}
use Rattle.flat_state.specs.Flat.{Inputs}
use Rattle.kernel_model.specs.Kernel.{Kernel}
use Rattle.run_laws.specs.Longwords.{ProcessesFit, AllImages}
use Rattle.run_model.specs.State.{State}
use Rattle.run_units.specs.Leads.{Leads}
use Rattle.run_units.specs.Serving.{At}

-- Each process has registers that are longwords and holds a space of bytes, and the next process's number is no more than the
-- first processes and the instructions so far make it.
pub record HasLongwords (A : Inputs) (s : State) : Type 0 where
  pub fit : ProcessesFit s.point.flat.processes
  pub next : s.point.flat.next_pid ≤ length A.first + 1 + s.count

-- next units keep that, while the numbers of processes are longwords
abbrev pub LongwordsStay : Type 0
LongwordsStay =
    (A : Inputs) (s t : State) (k l : Kernel) (image : SwapImage) (j : Option SwapImage) (us : List Entry) → AllImages A.images → At A s k image
    → Leads A s k image us t l j
    → length A.first + 1 + t.count < 2 ^ 32 → HasLongwords A s → HasLongwords A t
