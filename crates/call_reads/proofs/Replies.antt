-- What a reply starts.
use Rattle.std.proofs.Common.{ℕ, Result, Ok, Err}
use Rattle.std.specs.Prelude.{IfOk}
use Rattle.vm_facts.specs.declared.stop.NoMemory.{NoMemory}
use Rattle.user_vax.specs.declared.refused.Refused.{Refused}
use Rattle.flat_state.specs.declared.change.Change.TheVariants.{Keep, Resize, Fork, Lend, Exec, Reap, Sleep, End}
use Rattle.flat_model.specs.declared.calls.Reply.{Reply}
use Rattle.flat_model.specs.declared.calls.Reply.TheVariants.{Fails, Does, Writes, Waits, Exits}
use Rattle.call_reads.specs.Reading.{StartsAs}

started_as : (P Q : ℕ → Type 0) → ((n : ℕ) → P n → Q n) → (reply : Reply) → StartsAs P reply → StartsAs Q reply
started_as P Q f (Fails error) h = tt
started_as P Q f (Does regs Keep) h = absurd h
started_as P Q f (Does regs (Resize n m)) h = absurd h
started_as P Q f (Does regs (Fork child)) h = absurd h
started_as P Q f (Does regs (Lend child)) h = absurd h
started_as P Q f (Does regs (Exec image top)) h = (f image h.0, h.1)
started_as P Q f (Does regs (Reap child)) h = absurd h
started_as P Q f (Does regs Sleep) h = absurd h
started_as P Q f (Does regs (End status)) h = absurd h
started_as P Q f (Writes bytes) h = absurd h
started_as P Q f Waits h = absurd h
started_as P Q f (Exits status) h = absurd h

pub all_start : (P Q : ℕ → Type 0) → ((n : ℕ) → P n → Q n) → (r : Result (Result Reply Refused) NoMemory)
    → IfOk r (λ asked. IfOk asked (StartsAs P)) → IfOk r (λ asked. IfOk asked (StartsAs Q))
all_start P Q f (Ok (Ok reply)) h = started_as P Q f reply h
all_start P Q f (Ok (Err refused)) h = tt
all_start P Q f (Err none) h = tt
