-- What becomes of the machine by any call: a reply, a sleep, an end, or a byte that misses.
use Rattle.std.specs.Prelude.{◌≡◌, ℕ, true, false, List, [], ◌∷◌, length, Option, None, Result, Ok, Err}
use Rattle.vm_facts.specs.SwapImages.{SwapImage}
use Rattle.vm_facts.specs.declared.regs.Regs.{Regs}
use Rattle.vm_facts.specs.declared.entry.Entry.{Entry}
use Rattle.vm_facts.specs.declared.entry.Entry.TheVariants as entries
use Rattle.vm_facts.specs.declared.stop.Stop.{Stop}
use Rattle.vm_facts.specs.declared.stop.Stop.TheVariants as stops
use Rattle.user_vax.specs.declared.refused.Refused.{Refused}
use Rattle.user_vax.specs.declared.refused.Refused.TheVariants.{Miss, Below, Signal}
use Rattle.flat_state.specs.declared.change.Change.{Change}
use Rattle.flat_state.specs.declared.change.Change.TheVariants.{Keep, Sleep}
use Rattle.flat_model.specs.declared.calls.Reply.{Reply}
use Rattle.flat_model.specs.declared.calls.Reply.TheVariants.{Fails, Does, Writes, Waits, Exits}
use Rattle.flat_model.specs.declared.calls.SystemCall.{SystemCall}
use Rattle.flat_model.specs.Calls.{bad_address, replied}
use Rattle.flat_model.specs.Step.{call_entry}
use Rattle.kernel_model.specs.ChangeStep.{change_step}
use Rattle.machine_state.specs.Machine.{Standing}
use Rattle.machine_state.specs.Applying.{ChangesWhole, facts_named}
use Rattle.fault_fill.specs.Stops.{StopsBefore}
use Rattle.proc_calls.specs.Callers.{regs_of}
use Rattle.proc_calls.specs.declared.replying.Called.{Called}
use Rattle.proc_calls.specs.declared.replying.Called.TheVariants as calls

-- An entry of a process with its change is the machine's last, and left the process with these registers; what becomes of
-- the flat states is what the change makes of them.
pub record Entered (old new : Standing) (pid : ℕ) (regs : Regs) (e : Entry) (change : Change) : Type 0 where
  pub step : new.kernel ≡ change_step (facts_named old.images) old.kernel pid regs e change
  pub rest : new ≡ record old { kernel = new.kernel; before = new.kernel.holdings; room = None }
  pub keeps : ChangesWhole old new pid regs change

-- a call answers with these registers, and makes a change
abbrev pub Answered : Standing → Standing → ℕ → SystemCall → Regs → Change → Type 0
Answered old new pid call regs change = Entered old new pid regs (call_entry pid call regs) change

-- bytes go out, where there are any
abbrev pub GoneOut : Standing → Standing → ℕ → List ℕ → Type 0
GoneOut old new pid [] = new ≡ old
GoneOut old new pid (byte ∷ bytes) = Entered old new pid (regs_of old.kernel pid) (entries.Out pid (byte ∷ bytes)) Keep

-- bytes go out with the registers that the record has, and then the call answers
pub record Written (old new : Standing) (pid : ℕ) (call : SystemCall) (bytes : List ℕ) (regs : Regs) : Type 0 where
  pub between : Standing
  pub out : GoneOut old between pid bytes
  pub answer : Answered between new pid call regs Keep

-- What a call comes to by its reply. One that waits keeps the registers that the record has. An end isn't among the calls
-- of which this is said.
abbrev pub Replied : Standing → Standing → ℕ → SystemCall → Regs → Reply → Called → Type 0
Replied old new pid call regs (Fails error) called = (called ≡ calls.Ready) × Answered old new pid call (replied regs true error) Keep
Replied old new pid call regs (Does after change) called = (called ≡ calls.Ready) × Answered old new pid call after change
Replied old new pid call regs (Writes bytes) called =
    (called ≡ calls.Ready) × Written old new pid call bytes (replied regs false (length bytes))
Replied old new pid call regs Waits called =
    (called ≡ calls.Asleep) × Entered old new pid (regs_of old.kernel pid) (entries.Sleeps pid) Sleep
Replied old new pid call regs (Exits status) called = ⊥

-- By what its reads come to: where a page that it reads isn't valid, the machine is as before, and any other byte that is
-- refused is a fault.
abbrev pub Comes : Standing → Standing → ℕ → SystemCall → Regs → Result Reply Refused → Called → Type 0
Comes old new pid call regs (Ok reply) called = Replied old new pid call regs reply called
Comes old new pid call regs (Err (Miss address write)) called = (called ≡ calls.Miss address) × (new ≡ old)
Comes old new pid call regs (Err (Below address)) called = Replied old new pid call regs (Fails bad_address) called
Comes old new pid call regs (Err (Signal number)) called = Replied old new pid call regs (Fails bad_address) called

-- A call stopped on its way: it had come so far, to a machine, and there it stopped so.
pub record StopsOnce (Far There : Standing → Type 0) : Type 0 where
  pub reached : Standing
  pub far : Far reached
  pub stops : There reached

-- The run stops where a byte that a call reads is refused, before the entry that says that it is a fault: only for want of memory where
-- the byte's page isn't valid, since no entry comes then.
abbrev pub StopsRefused : Standing → Standing → Refused → Stop → Type 0
StopsRefused old new (Miss address write) stop = StopsBefore old new stop × (stop ≡ stops.NoMemory)
StopsRefused old new _ stop = StopsBefore old new stop

-- By what a call reads the run stops so, with the swap image before and after; or where a byte was refused, with the image as it was.
abbrev pub StopsReading : {A : Type 0} → Result A Refused → (A → Option SwapImage → Option SwapImage → Stop → Type 0) → Standing → Standing
    → Option SwapImage → Option SwapImage → Stop → Type 0
StopsReading (Ok read) Stops old new i j stop = Stops read i j stop
StopsReading (Err refused) Stops old new i j stop = StopsRefused old new refused stop × (j ≡ i)
