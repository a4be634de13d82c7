-- How the stack grows to a byte below it: what is asked for, what is refused, and what becomes of the machine.
use Rattle.std.specs.Prelude.{◌≡◌, ℕ, ◌<◌, ◌≤◌, Bool, true, false, Some, None, Result, Ok, is_ok}
use Rattle.vm_facts.specs.declared.entry.Entry.TheVariants.{Grew, Refused}
use Rattle.swap_book.specs.Holdings.{Holdings}
use Rattle.swap_book.specs.Placing.{place_all}
use Rattle.flat_state.specs.declared.change.Change.{Change}
use Rattle.flat_state.specs.declared.change.Change.TheVariants.{Resize}
use Rattle.page_model.specs.Placement.{Placement, IsThere, image_of}
use Rattle.page_model.specs.Conditions.{IsShared}
use Rattle.page_model.specs.Place.{data_count, stack_count}
use Rattle.kernel_model.specs.Kernel.{Kernel, Proc, note_step}
use Rattle.kernel_model.specs.Asks.{asked}
use Rattle.kernel_model.specs.ChangeStep.{space_of_life, change_step}
use Rattle.kernel_model.specs.Unit.{proc_of}
use Rattle.clock_hands.specs.Machine.{Standing}
use Rattle.clock_hands.specs.Calls.{life_in}
use Rattle.clock_hands.specs.Conditions.{KeepsFlat, SameEverywhere}
use Rattle.clock_hands.specs.Applying.{ChangesWhole, facts_named}
use Rattle.clock_hands.specs.UserMemory.{spot_in}
use Rattle.fault_fill.specs.declared.access.Access.{Access}
use Rattle.fault_fill.specs.declared.access.Access.TheVariants as accesses
use Rattle.fault_fill.specs.Access.{access_at}

-- the space that a process holds
abbrev pub space_of_pid : Kernel → ℕ → ℕ
space_of_pid k pid = space_of_life (life_in k pid)

-- what an access of a byte of a space asks for
abbrev pub access_to : Placement → ℕ → ℕ → Bool → Access
access_to p sid address write = access_at sid (image_of p sid) address (spot_in p sid address) write

-- and of the space that a process holds
abbrev pub access_by : Kernel → ℕ → ℕ → Bool → Access
access_by k pid address write = access_to k.place (space_of_pid k pid) address write

-- the stack of this space grows, to no more pages than a stack may have
pub record IsGrowth (p : Placement) (held sid pages : ℕ) : Type 0 where
  pub own : sid ≡ held
  pub more : stack_count p sid < pages
  pub few : pages ≤ 512

-- a page is there, shared where it is text; growth is of the space's own stack
abbrev pub IsAsked : Placement → ℕ → Access → Type 0
IsAsked p held (accesses.Page q) = IsThere p q × IsShared p q
IsAsked p held (accesses.Growth sid pages) = IsGrowth p held sid pages
IsAsked p held (accesses.Refused signal) = Unit {0}

-- the access asks that the stack grow
abbrev pub AsksGrowth : Access → Type 0
AsksGrowth (accesses.Growth sid pages) = Unit {0}
AsksGrowth _ = ⊥

-- growth of the stack of a process to so many pages
abbrev pub growth : Kernel → ℕ → ℕ → Change
growth k pid pages = Resize (data_count k.place (space_of_pid k pid)) pages

-- the holdings once the pieces for that are found, or the length of the first piece that finds no place
abbrev pub growth_found : Standing → ℕ → ℕ → Result Holdings ℕ
growth_found m pid pages = place_all m.params.swap_blocks m.kernel.holdings (asked (facts_named m.images) m.kernel pid (growth m.kernel pid pages))

-- the machine with the holdings in which the pieces were found
abbrev pub with_pieces : Standing → Holdings → Standing
with_pieces m hs = record m { kernel = record m.kernel { holdings = hs } }

-- The pieces were found, and growth is the last entry, with the registers that the record has. What becomes of the flat
-- states is what the change makes of them.
pub record Grown (old new : Standing) (pid pages : ℕ) : Type 0 where
  pub found : Holdings
  pub finds : growth_found old pid pages ≡ Ok found
  pub process : Proc
  pub there : proc_of old.kernel pid ≡ Some process
  pub step : new.kernel
      ≡ change_step (facts_named old.images) (record old.kernel { holdings = found }) pid process.regs (Grew pid pages) (growth old.kernel pid pages)
  pub rest : new ≡ record old { kernel = new.kernel; before = new.kernel.holdings; room = None }
  pub keeps : ChangesWhole (with_pieces old found) new pid process.regs (growth old.kernel pid pages)

-- The pieces find no place: the refusal is the last entry, and nothing else became of the machine.
pub record GrowthRefused (old new : Standing) (pid pages : ℕ) : Type 0 where
  pub none : is_ok (growth_found old pid pages) ≡ false
  pub machine : new ≡ record old { kernel = note_step old.kernel (Refused pid); room = None }
  pub keeps : KeepsFlat old.kernel new.kernel
  pub same : SameEverywhere old.kernel new.kernel

-- growth of the stack by its answer: it grew, or it was refused
abbrev pub GrowsBy : Bool → Standing → Standing → ℕ → ℕ → Type 0
GrowsBy true old new pid pages = Grown old new pid pages
GrowsBy false old new pid pages = GrowthRefused old new pid pages
