-- What a write comes to: bytes in the journal, and then the reply.
use Rattle.std.specs.Prelude.{◌≡◌, ◌⊎◌, ℕ, ◌≤◌, List, [], length, Result, Ok, Err}
use Rattle.vm_facts.specs.declared.stop.Stop.{Stop}
use Rattle.user_vax.specs.declared.refused.Refused.{Refused}
use Rattle.flat_model.specs.declared.calls.Reply.{Reply}
use Rattle.flat_model.specs.declared.calls.Reply.TheVariants.{Fails, Does, Writes, Waits, Exits}
use Rattle.flat_model.specs.Calls.{write_limit}
use Rattle.machine_state.specs.Machine.{Standing}
use Rattle.fault_fill.specs.Stops.{StopsBefore}
use Rattle.proc_calls.specs.Answered.{GoneOut, StopsOnce}

-- an error, or no more bytes than one write may have
abbrev pub IsWrite : Reply → Type 0
IsWrite (Fails error) = Unit {0}
IsWrite (Does regs change) = ⊥
IsWrite (Writes bytes) = length bytes ≤ write_limit
IsWrite Waits = ⊥
IsWrite (Exits status) = ⊥

-- what a write reads gives a reply of a write, or is refused
abbrev pub IsWriteReply : Result Reply Refused → Type 0
IsWriteReply (Ok reply) = IsWrite reply
IsWriteReply (Err refused) = Unit {0}

-- the bytes of a reply, where it writes any
abbrev pub reply_bytes : Reply → List ℕ
reply_bytes (Writes bytes) = bytes
reply_bytes _ = []

-- a write stops before its bytes go out, or after them, before the call's own entry
abbrev pub StopsOut : Standing → Standing → ℕ → List ℕ → Stop → Type 0
StopsOut old new pid bytes stop = StopsOnce (λ m. (m ≡ old) ⊎ GoneOut old m pid bytes) (λ m. StopsBefore m new stop)
