-- Which pages the hands pass over where a judged run stands.
use Rattle.std.specs.Prelude.{◌≡◌, List, Option}
use Rattle.vm_facts.specs.SwapImages.{SwapImage}
use Rattle.vm_facts.specs.declared.page.Page.{Page}
use Rattle.io_edge.specs.FileHolding.{NamedFile}
use Rattle.flat_state.specs.Flat.{Inputs}
use Rattle.machine_state.specs.Machine.{Standing}
use Rattle.run_model.specs.State.{State}
use Rattle.run_model.specs.Wanted.{locked}
use Rattle.repage_check.specs.declared.past.Past.{Past}
use Rattle.repage_check.specs.Past.{PastAt}

-- at each state at which the machine stands these are the pages that the hands pass over
abbrev pub AreLocked : Past → Standing → List Page → Type 0
AreLocked p m pages =
    (holds : Option (List NamedFile)) (i : Option SwapImage) (A : Inputs) (s : State) (image : SwapImage) → PastAt p m holds i A s image
    → pages ≡ locked A s
