-- The statements that a machine goes on after an access was served.
use Rattle.std.specs.Prelude.{ℕ, List, Option}
use Rattle.vm_facts.specs.SwapImages.{SwapImage}
use Rattle.vm_facts.specs.declared.page.Page.{Page}
use Rattle.io_edge.specs.FileHolding.{NamedFile}
use Rattle.machine_state.specs.Machine.{Standing}
use Rattle.proc_calls.specs.FaultFillAccessAccess.{Access}
use Rattle.proc_calls.specs.Served.{Served}
use Rattle.proc_calls.specs.Touches.{TouchedAs, TouchedNow, AccessComes}
use Rattle.proc_calls.specs.Callers.{IsCaller}
use Rattle.step_units.specs.Ready.{Continues}

-- as far as that needs no waiting
abbrev pub AccessContinues : Type 0
AccessContinues =
    (old new : Standing) (pid : ℕ) (access : Access) (answer : Served) (holds : Option (List NamedFile)) (i j : Option SwapImage) → IsCaller old pid
    → AccessComes (λ came q from. TouchedAs came q from new holds i j) access answer pid old new i j → Continues old new 0

-- until its page is valid
abbrev pub AccessNowContinues : Type 0
AccessNowContinues =
    (old new : Standing) (pid : ℕ) (access : Access) (answer : Served) (locked : List Page) (holds : Option (List NamedFile))
    (i j : Option SwapImage) → IsCaller old pid
    → AccessComes (λ came q from. TouchedNow locked came q from new holds i j) access answer pid old new i j → Continues old new 0
