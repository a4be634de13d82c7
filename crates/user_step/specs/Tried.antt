-- What one try of an instruction comes to, and what is left of it to do.
use Rattle.std.specs.Prelude.{◌≡◌, ℕ, ℤ, List, ◌++◌, drop, slice_index, Option, Some, None, Result, Ok, Err}
use Rattle.vm_facts.specs.Answers.{Answers, ByteWrite, writes_down}
use Rattle.vm_facts.specs.declared.regs.Regs.{Regs}
use Rattle.vax_code.specs.declared.instr.Instr.{Instr}
use Rattle.user_vax.specs.declared.refused.Refused.{Refused}
use Rattle.user_vax.specs.declared.stepped.Stepped.{Stepped}
use Rattle.user_vax.specs.declared.stepped.Stepped.TheVariants as answers
use Rattle.user_vax.specs.Effects.{Effect, bytes_at}
use Rattle.user_vax.specs.Computation.{computation}
use Rattle.user_vax.specs.Program.{Program, ◌>>=◌, run}
use Rattle.user_vax.specs.Instruction.{MayAll, tested_effect, answer_of, answer_of_call, registers_after}
use Rattle.vax_execute.specs.declared.outcome.Write.{Write}
use Rattle.vax_execute.specs.declared.ready.Ready.{Ready}
use Rattle.vax_execute.specs.Outcomes.{IsSize, bytes_of}

-- ---- Numbers that go to memory.

-- a number of 1, 2 or 4 bytes, each of which may be written
pub record IsReady (memory : Answers) (write : Write) : Type 0 where
  pub size : IsSize write.size
  pub may : MayAll memory (bytes_of write)

-- the number, if there is one, may be written
abbrev pub IsOneReady : Answers → Option Write → Type 0
IsOneReady memory None = Unit {0}
IsOneReady memory (Some write) = IsReady memory write

-- a longword at an address, and those that lie just below it
abbrev pub writes_below : ℕ → List ℕ → List ByteWrite
writes_below address longwords = bytes_at 4 address (slice_index longwords 0) ++ writes_down address (drop 1 longwords)

-- ---- An instruction whose operands are evaluated.

-- what is left of it
unfoldable pub completion : Ready → Regs → Program Effect
completion ready regs = computation ready.name regs ready.a ready.b ready.c >>= tested_effect

-- ---- What the code came to. What it changes in place is worth something only where it isn't refused.

-- an instruction
abbrev pub LeavesInstr : Result (Unit {0}) Refused → Instr → Result Instr Refused → Type 0
LeavesInstr (Ok done) instr wanted = wanted ≡ Ok instr
LeavesInstr (Err refused) instr wanted = wanted ≡ Err refused

-- an instruction of which this is left, from these registers
abbrev pub Prepares : Answers → Result Ready Refused → Regs → Result Effect Refused → Type 0
Prepares memory (Ok ready) regs wanted = wanted ≡ run memory (completion ready regs)
Prepares memory (Err refused) regs wanted = wanted ≡ Err refused

-- an instruction, by the number of its call, if it makes one, and the registers after it, whichever were before
abbrev pub CarriesOut : Result (Option ℤ) Refused → Regs → Result Effect Refused → Type 0
CarriesOut (Ok call) regs wanted = (answer_of wanted ≡ answer_of_call call) × ((before : Regs) → regs ≡ registers_after before wanted)
CarriesOut (Err refused) regs wanted = wanted ≡ Err refused

-- the registers after an instruction that was tried: those before, unless it was carried out and makes no call
abbrev pub registers_tried : Stepped → Regs → Result Effect Refused → Regs
registers_tried answers.Done before wanted = registers_after before wanted
registers_tried _ before wanted = before
