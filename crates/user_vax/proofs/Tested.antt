-- Bytes that were tested.
use Rattle.std.proofs.Common.{◌≡◌, ℕ, List, [], ◌∷◌, Result, Ok, refl}
use Rattle.vm_facts.specs.Answers.{Answers, ByteWrite}
use Rattle.vm_facts.specs.declared.memory.MayWrite.{MayWrite}
use Rattle.vm_facts.specs.declared.memory.MayWrite.TheVariants as tests
use Rattle.user_vax.specs.declared.refused.Refused.{Refused}
use Rattle.user_vax.specs.Program.{run, after_test}
use Rattle.user_vax.specs.Instruction.{MayAll, write_tests}

may_first : (answer : MayWrite) (address : ℕ) (next : Result (Unit {0}) Refused) → after_test answer address next ≡ Ok tt
    → (answer ≡ tests.May) × (next ≡ Ok tt)
may_first tests.May address next h = (refl, h)
may_first tests.Miss address next h = absurd (cc)
may_first tests.Below address next h = absurd (cc)
may_first tests.Text address next h = absurd (cc)
may_first tests.Outside address next h = absurd (cc)

-- bytes that were tested may be written
pub tested_may : (memory : Answers) (writes : List ByteWrite) → run memory (write_tests writes) ≡ Ok tt → MayAll memory writes
unfolding write_tests
tested_may memory [] h = tt
tested_may memory (write ∷ writes) h =
    let both = may_first (memory.may_write write.address) write.address (run memory (write_tests writes)) h in
    (both.0, tested_may memory writes both.1)
