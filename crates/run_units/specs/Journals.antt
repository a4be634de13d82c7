-- The statements of this crate: units are accounted for and few, and so is the journal that they make.
use Rattle.std.specs.Prelude.{◌≡◌, ℕ, ◌≤◌, List, [], length, Option, Some}
use Rattle.vm_facts.specs.SwapImages.{SwapImage}
use Rattle.vm_facts.specs.declared.entry.Entry.{Entry}
use Rattle.swap_book.specs.Holdings.{Holdings}
use Rattle.flat_state.specs.Flat.{Inputs}
use Rattle.flat_state.specs.Journal.{appended}
use Rattle.kernel_model.specs.Kernel.{Kernel}
use Rattle.kernel_model.specs.Start.{ImagesFit}
use Rattle.run_model.specs.State.{State, start}
use Rattle.run_model.specs.Lawful.{Follows, IsLawful}
use Rattle.run_model.specs.Swapped.{left_from, swap_left}
use Rattle.economy_laws.specs.Machine.{StandsAt}
use Rattle.economy_laws.specs.RunLawsRunning.{IsRun, CanRun}
use Rattle.run_units.specs.Leads.{Leads}
use Rattle.run_units.specs.Serving.{At}
use Rattle.run_units.specs.Accounts.{Account}
use Rattle.run_units.specs.Economy.{Economy}

-- Next units, from a state at which a run stands.

-- all is so of them that an account says
abbrev pub UnitsAreAccounted : Type 0
UnitsAreAccounted = (A : Inputs) (s t : State) (us : List Entry) → ImagesFit A.images → IsRun A s → Follows A s us t → Account A s us

-- where there are at most 64 processes
abbrev pub UnitsAreEconomical : Type 0
UnitsAreEconomical = (A : Inputs) (s t : State) (us : List Entry)
    → ImagesFit A.images → IsRun A s → length s.point.flat.processes ≤ 64 → Follows A s us t → Economy A s us

-- the swap image that a machine comes to with these units is the one that they say, with their requests and no others
abbrev pub LeadsSayImage : Type 0
LeadsSayImage = (A : Inputs) (s t : State) (k l : Kernel) (image : SwapImage) (us : List Entry) (j : Option SwapImage)
    → At A s k image → Leads A s k image us t l j → j ≡ Some (left_from A s us image)

-- Next units, from the start of a run.

-- their journal is lawful, and is that of the state to which they lead
abbrev pub JournalsAreLawful : Type 0
JournalsAreLawful = (A : Inputs) (hs : Holdings) (us : List Entry) (t : State)
    → CanRun A hs → Follows A (start A hs) us t → (t.journal ≡ appended [] us) × IsLawful A (appended [] us) t

-- all is so of them that an account says
abbrev pub JournalsAreAccounted : Type 0
JournalsAreAccounted = (A : Inputs) (hs : Holdings) (us : List Entry) (t : State)
    → CanRun A hs → Follows A (start A hs) us t → Account A (start A hs) us

-- where there are at most 64 first processes, they are as few as economy says
abbrev pub JournalsAreEconomical : Type 0
JournalsAreEconomical = (A : Inputs) (hs : Holdings) (us : List Entry) (t : State)
    → CanRun A hs → length A.first ≤ 64 → Follows A (start A hs) us t → Economy A (start A hs) us

-- the swap image that a machine comes to is the one that the journal says
abbrev pub JournalsLeaveImage : Type 0
JournalsLeaveImage = (A : Inputs) (hs : Holdings) (t : State) (k l : Kernel) (image : SwapImage) (us : List Entry) (j : Option SwapImage)
    → CanRun A hs → StandsAt A (start A hs) k image.bytes → Leads A (start A hs) k image us t l j → j ≡ Some (swap_left A (appended [] us) image)
