-- What fork and vfork have in common: limits, pieces of swap, and the child.
use Rattle.std.specs.Prelude.{◌≡◌, ◌⊎◌, ℕ, ◌≤◌, nat_lt, Bool, true, false, length, None, Result, Ok, Err, is_ok}
use Rattle.vm_facts.specs.declared.regs.Regs.{Regs}
use Rattle.vm_facts.specs.declared.entry.Entry.TheVariants.{Refused}
use Rattle.vm_facts.specs.declared.stop.Stop.{Stop}
use Rattle.swap_book.specs.Holdings.{Holdings}
use Rattle.swap_book.specs.Placing.{place_all}
use Rattle.flat_state.specs.declared.change.Change.{Change}
use Rattle.flat_state.specs.declared.change.Change.TheVariants.{Keep, Lend}
use Rattle.flat_model.specs.declared.calls.SystemCall.{SystemCall}
use Rattle.flat_model.specs.declared.calls.SystemCall.TheVariants.{Vfork}
use Rattle.flat_model.specs.Calls.{try_again, no_memory, process_limit, replied, replied_both}
use Rattle.kernel_model.specs.Kernel.{Kernel, note_step}
use Rattle.kernel_model.specs.ChangeStep.{pass_step}
use Rattle.kernel_model.specs.Asks.{asked}
use Rattle.machine_state.specs.Machine.{Standing}
use Rattle.machine_state.specs.Applying.{facts_named}
use Rattle.machine_state.specs.Conditions.{KeepsFlat}
use Rattle.fault_fill.specs.Stops.{StopsBefore}
use Rattle.vfork_pass.specs.Passed.{HasLent}
use Rattle.fault_fill.specs.Growth.{with_pieces}
use Rattle.proc_calls.specs.Answered.{Answered, StopsOnce}

-- there are fewer processes than may be, as `child_reply` of flat_model asks of a flat state
abbrev pub is_below_limit : Kernel → Bool
is_below_limit k = nat_lt (length k.processes) process_limit

-- the pieces that a change asks for find their places
abbrev pub finds_pieces : Standing → ℕ → Change → Bool
finds_pieces m pid change = is_ok (place_all m.params.swap_blocks m.kernel.holdings (asked (facts_named m.images) m.kernel pid change))

-- the machine after the entry that says that they find none
abbrev pub without_pieces : Standing → ℕ → Standing
without_pieces m pid = record m { kernel = note_step m.kernel (Refused pid); room = None }

-- the call fails after that entry, which leaves the flat states as they are
pub record IsRefused (old new : Standing) (pid : ℕ) (call : SystemCall) (regs : Regs) : Type 0 where
  pub keeps : KeepsFlat old.kernel (note_step old.kernel (Refused pid))
  pub answer : Answered (without_pieces old pid) new pid call (replied regs true no_memory) Keep

-- the pieces of the child were found, and the call tells the process the child's number
pub record HasChild (old new : Standing) (pid : ℕ) (call : SystemCall) (regs : Regs) (child : ℕ) (change : Change) : Type 0 where
  pub found : Holdings
  pub pieces : place_all old.params.swap_blocks old.kernel.holdings (asked (facts_named old.images) old.kernel pid change) ≡ Ok found
  pub answer : Answered (with_pieces old found) new pid call (replied_both regs child 0) change

-- by whether there are fewer processes than may be, and whether the pieces find their places, the call fails, or this is so
abbrev pub MakesChildBy : Bool → Bool → Standing → Standing → ℕ → SystemCall → Regs → Type 0 → Type 0
MakesChildBy false finds old new pid call regs Then = Answered old new pid call (replied regs true try_again) Keep
MakesChildBy true false old new pid call regs Then = IsRefused old new pid call regs
MakesChildBy true true old new pid call regs Then = Then

-- a call that is to make a process fails, where there are as many as may be or pieces find no place; else this is so
abbrev pub MakesChild : Standing → Standing → ℕ → SystemCall → Regs → Change → Type 0 → Type 0
MakesChild old new pid call regs change Then = MakesChildBy (is_below_limit old.kernel) (finds_pieces old pid change) old new pid call regs Then

-- the child is there, and the space passes to it at once: `Answered` says what the machine stands for after both
pub record HasLentSpace (old new : Standing) (pid : ℕ) (regs : Regs) (child : ℕ) : Type 0 where
  pub between : Standing
  pub made : HasChild old between pid Vfork regs child (Lend child)
  pub passed : new ≡ record between { kernel = pass_step between.kernel pid child }
  pub lent : HasLent between.kernel new.kernel pid child

-- a vfork answered: it failed, or the child is there with the space
abbrev pub Vforked : Standing → Standing → ℕ → Regs → Type 0
Vforked old new pid regs = MakesChild old new pid Vfork regs (Lend old.kernel.next_pid) (HasLentSpace old new pid regs old.kernel.next_pid)

-- after the entry that says that the pieces of the change find no place, as is so
pub record FindsNone (old between : Standing) (pid : ℕ) (change : Change) : Type 0 where
  pub below : is_below_limit old.kernel ≡ true
  pub none : finds_pieces old pid change ≡ false
  pub refused : between ≡ without_pieces old pid

-- the run stops as it was, or after that entry
abbrev pub StopsMaking : Standing → Standing → ℕ → Change → Stop → Type 0
StopsMaking old new pid change stop = StopsOnce (λ m. (m ≡ old) ⊎ FindsNone old m pid change) (λ m. StopsBefore m new stop)
