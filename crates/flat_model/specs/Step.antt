-- One step of one process: an instruction, growth, or an end, with its entries, writes and change. This is what a process can do.
use Rattle.std.specs.Prelude.{ℕ, ◌+◌, ◌-◌, ◌/◌, Bool, true, false, List, [], ◌∷◌, ◌++◌, length, Option, Some, None, Result, Ok, Err, ℤ}
use Rattle.vm_facts.specs.Answers.{ByteWrite}
use Rattle.flat_state.specs.Space.{Space, stack_top, answers_of, puts}
use Rattle.flat_state.specs.Flat.{Holding, Holds, Lends, Zombie, Process, FlatState, NamedImage, Inputs, process_of, cleared}
use Rattle.vm_facts.specs.declared.regs.Regs.{Regs}
use Rattle.vm_facts.specs.declared.entry.Entry.{Entry}
use Rattle.vm_facts.specs.declared.entry.Entry.TheVariants.{Ran, Out, Grew, Call, Sleeps, Ended}
use Rattle.user_vax.specs.Program.{Program, run}
use Rattle.user_vax.specs.Effects.{Effect}
use Rattle.user_vax.specs.Operands.{register}
use Rattle.user_vax.specs.declared.refused.Refused.{Refused}
use Rattle.user_vax.specs.declared.refused.Refused.TheVariants.{Miss, Below, Signal}
use Rattle.flat_state.specs.Change.{apply_change, apply_writes}
use Rattle.flat_state.specs.declared.change.Change.{Change}
use Rattle.flat_state.specs.declared.change.Change.TheVariants.{Keep, Resize, Sleep, End}
use Rattle.flat_model.specs.Instruction.{instruction_in}
use Rattle.flat_model.specs.declared.calls.Reply.{Reply}
use Rattle.flat_model.specs.declared.calls.Reply.TheVariants.{Fails, Does, Writes, Waits, Exits}
use Rattle.flat_model.specs.declared.calls.SystemCall.{SystemCall}
use Rattle.flat_model.specs.Calls.{number_of, call_of, replied, reply_of, or_fault, refused_reply}

-- the entries of a step, the bytes that it writes, the registers that it leaves, the change by which it ends, and the
-- flat state after it
pub record Step : Type 0 where
  pub entries : List Entry
  pub writes : List ByteWrite
  pub regs : Regs
  pub change : Change
  pub after : FlatState

-- a process's step with these entries, writes, registers and change, and the flat state to which they lead
abbrev pub step_with : List NamedImage → FlatState → Process → List Entry → List ByteWrite → Regs → Change → Step
step_with images F p entries writes regs change = record {
  entries = entries;
  writes = writes;
  regs = regs;
  change = change;
  after = apply_change images (apply_writes F p.pid writes) p.pid regs change;
}

-- no step at all
abbrev pub no_step : FlatState → Step
no_step F = record { entries = []; writes = []; regs = cleared; change = Keep; after = F }

-- the end of a process, whose registers stay as they were
abbrev pub ended_step : List NamedImage → FlatState → Process → List ByteWrite → ℕ → Step
ended_step images F p writes status = step_with images F p (Ended p.pid status ∷ []) writes p.regs (End status)

-- the pages that the stack must have for a byte at this address
abbrev pub pages_down_to : ℕ → ℕ
pages_down_to address = (stack_top - 1 - address) / 1024 + 1

-- the pages of a space's data
abbrev pub data_pages_of : Space → ℕ
data_pages_of s = length s.data_bytes / 1024

-- the stack grows by zeros to the page of an address; the instruction is still to come
abbrev pub grown_step : List NamedImage → FlatState → Process → Space → ℕ → Step
grown_step images F p s address =
    step_with images F p (Grew p.pid (pages_down_to address) ∷ []) [] p.regs (Resize (data_pages_of s) (pages_down_to address))

-- the entry of a call's reply: the call's number, and the carry, R0 and R1 that it leaves
abbrev pub call_entry : ℕ → SystemCall → Regs → Entry
call_entry pid call regs = Call pid (number_of call) regs.c (register regs 0) (register regs 1)

-- the entry of bytes that were written, where there are any
abbrev pub out_entries : ℕ → List ℕ → List Entry
out_entries pid [] = []
out_entries pid (byte ∷ bytes) = Out pid (byte ∷ bytes) ∷ []

-- a call that answers with these registers
abbrev pub answered_step : List NamedImage → FlatState → Process → SystemCall → List ByteWrite → Regs → Change → Step
answered_step images F p call writes regs change = step_with images F p (call_entry p.pid call regs ∷ []) writes regs change

-- a call and its reply, from what the instruction left
abbrev pub replied_step : List NamedImage → FlatState → Process → SystemCall → Effect → Reply → Step
replied_step images F p call effect (Fails error) = answered_step images F p call effect.writes (replied effect.regs true error) Keep
replied_step images F p call effect (Does regs change) = answered_step images F p call effect.writes regs change
replied_step images F p call effect (Writes bytes) =
    step_with images F p (out_entries p.pid bytes ++ call_entry p.pid call (replied effect.regs false (length bytes)) ∷ [])
    effect.writes (replied effect.regs false (length bytes)) Keep
replied_step images F p call effect Waits = step_with images F p (Sleeps p.pid ∷ []) effect.writes p.regs Sleep
replied_step images F p call effect (Exits status) = ended_step images F p effect.writes status

-- the process with what an instruction wrote in its space
abbrev pub written_process : Process → Space → List ByteWrite → Process
written_process p s writes = record p { holding = Holds (puts s writes) }

-- what a call asks of the memory for its reply, after the writes of its instruction
abbrev pub reply_asked : List NamedImage → FlatState → Process → Space → SystemCall → Effect → Program Reply
reply_asked images F p s call effect =
    reply_of images (apply_writes F p.pid effect.writes) (written_process p s effect.writes) (puts s effect.writes) call effect.regs

-- the reply of a call, made after the instruction
abbrev pub reply_behind : List NamedImage → FlatState → Process → Space → Bool → SystemCall → Effect → Reply
reply_behind images F p s refused call effect =
    refused_reply refused (or_fault (run (answers_of (puts s effect.writes)) (reply_asked images F p s call effect)))

-- a call that isn't one of the eight ends the process by signal 12
abbrev pub called_step : List NamedImage → FlatState → Process → Space → Bool → Effect → Option SystemCall → Step
called_step images F p s refused effect None = ended_step images F p effect.writes 12
called_step images F p s refused effect (Some call) =
    replied_step images F p call effect (reply_behind images F p s refused call effect)

-- the step after an instruction that was carried out: one instruction that ran, or the call that it makes
abbrev pub step_behind : List NamedImage → FlatState → Process → Space → Bool → Effect → Option ℤ → Step
step_behind images F p s refused effect None = step_with images F p (Ran p.pid 1 ∷ []) effect.writes effect.regs Keep
step_behind images F p s refused effect (Some number) = called_step images F p s refused effect (call_of number)

-- what an instruction leads to; `refused` says that the pieces of swap space that it asked for found no place
abbrev pub step_of : List NamedImage → FlatState → Process → Space → Bool → Result Effect Refused → Step
step_of images F p s refused (Ok effect) = step_behind images F p s refused effect effect.call
step_of images F p s refused (Err (Miss address write)) = no_step F
step_of images F p s true (Err (Below address)) = ended_step images F p [] 11
step_of images F p s false (Err (Below address)) = grown_step images F p s address
step_of images F p s refused (Err (Signal number)) = ended_step images F p [] number

-- the next step of a process, by what it has: none without a space
abbrev pub step_holding : List NamedImage → FlatState → Process → Bool → Holding → Step
step_holding images F p refused (Holds s) = step_of images F p s refused (instruction_in s p.regs)
step_holding images F p refused (Lends sid child) = no_step F
step_holding images F p refused (Zombie status) = no_step F

-- the next step of a process, by whether it is there: none where it isn't
abbrev pub step_if : List NamedImage → FlatState → Bool → Option Process → Step
step_if images F refused None = no_step F
step_if images F refused (Some p) = step_holding images F p refused p.holding

-- the next step of a process that can step
unfoldable pub flat_step : Inputs → FlatState → ℕ → Bool → Step
flat_step A F pid refused = step_if A.images F refused (process_of F pid)
