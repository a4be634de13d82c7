-- The first byte that misses in what an instruction and its call read or test.
use Rattle.std.specs.Prelude.{◌≡◌, ℕ, Bool, true, false, List, [], Option, Some, None, Result, Ok, Err, ℤ}
use Rattle.vm_facts.specs.Answers.{Answers}
use Rattle.vm_facts.specs.declared.regs.Regs.{Regs}
use Rattle.user_vax.specs.Program.{run}
use Rattle.user_vax.specs.Effects.{Effect}
use Rattle.user_vax.specs.Instruction.{instruction, writes_of}
use Rattle.user_vax.specs.declared.refused.Refused.{Refused}
use Rattle.user_vax.specs.declared.refused.Refused.TheVariants.{Miss, Below, Signal}
use Rattle.flat_state.specs.Space.{Space}
use Rattle.flat_state.specs.Flat.{Process, FlatState, NamedImage}
use Rattle.flat_model.specs.declared.calls.SystemCall.{SystemCall}
use Rattle.flat_model.specs.Calls.{call_of, reply_of}
use Rattle.vm_facts.specs.declared.page.Page.{Page}
use Rattle.page_model.specs.Pages.{is_valid}
use Rattle.page_model.specs.Placement.{Placement, state_of}
use Rattle.kernel_model.specs.Kernel.{Kernel}
use Rattle.machine_state.specs.UserMemory.{page_in, kernel_answers}
use Rattle.step_units.specs.Growth.{space_of_pid}

-- the byte for which a computation missed
abbrev pub missed_byte : {A : Type 0} → Result A Refused → Option ℕ
missed_byte (Err (Miss address write)) = Some address
missed_byte _ = None

-- that of a call's reads
abbrev pub missed_by_call : List NamedImage → FlatState → Process → Space → Answers → Regs → Option SystemCall → Option ℕ
missed_by_call images F p s memory regs None = None
missed_by_call images F p s memory regs (Some call) = missed_byte (run memory (reply_of images F p s call regs))

-- that of the call of this number, if the instruction makes one
abbrev pub missed_behind_by : List NamedImage → FlatState → Process → Space → Answers → Regs → Option ℤ → Option ℕ
missed_behind_by images F p s memory regs None = None
missed_behind_by images F p s memory regs (Some number) = missed_by_call images F p s memory regs (call_of number)

-- that of an instruction which came to this, or else of its call
abbrev pub missed_behind : List NamedImage → FlatState → Process → Space → Answers → Result Effect Refused → Option ℕ
missed_behind images F p s memory (Ok effect) = missed_behind_by images F p s memory effect.regs effect.call
missed_behind images F p s memory (Err (Miss address write)) = Some address
missed_behind images F p s memory (Err (Below address)) = None
missed_behind images F p s memory (Err (Signal number)) = None

-- that of an instruction, or else of its call
abbrev pub first_missed : List NamedImage → FlatState → Process → Space → Answers → Regs → Option ℕ
first_missed images F p s memory regs = missed_behind images F p s memory (run memory (instruction regs))

-- the page of that byte
abbrev pub page_missed : Kernel → ℕ → Option ℕ → Option Page
page_missed k pid None = None
page_missed k pid (Some address) = page_in k.place (space_of_pid k pid) address

-- the page, by whether it is valid
abbrev pub valid_by : Bool → Page → Option Page
valid_by true q = Some q
valid_by false q = None

-- a page, where it is valid
abbrev pub valid_only : Placement → Option Page → Option Page
valid_only p None = None
valid_only p (Some q) = valid_by (is_valid (state_of p q)) q

-- an instruction of the process with these registers writes nothing over the frames
abbrev pub WritesNothing : Kernel → ℕ → Regs → Type 0
WritesNothing k pid regs = writes_of (run (kernel_answers k (space_of_pid k pid)) (instruction regs)) ≡ []
