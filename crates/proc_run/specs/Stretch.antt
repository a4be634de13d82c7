-- Instructions in a row within one loan of the memory, and what they left together.
use Rattle.std.specs.Prelude.{◌≡◌, ℕ, zero, suc, Bool, true, false, List, [], ◌++◌, Option}
use Rattle.vm_facts.specs.SwapImages.{SwapImage}
use Rattle.vm_facts.specs.Answers.{Answers, ByteWrite, written}
use Rattle.vm_facts.specs.declared.regs.Regs.{Regs}
use Rattle.io_edge.specs.FileHolding.{NamedFile}
use Rattle.user_vax.specs.Program.{run}
use Rattle.user_vax.specs.Instruction.{instruction, answer_of, registers_after, writes_of}
use Rattle.user_vax.specs.declared.stepped.Stepped.{Stepped}
use Rattle.user_vax.specs.declared.stepped.Stepped.TheVariants as steps
use Rattle.machine_state.specs.Machine.{Standing}
use Rattle.step_units.specs.Ready.{Continues}
use Rattle.step_units.specs.Stepped.{LeadsFrom}
use Rattle.proc_run.specs.declared.advancing.Advance.TheVariants as advances
use Rattle.proc_run.specs.declared.stretch.Missed.{Missed}
use Rattle.proc_run.specs.Choosing.{may_run}
use Rattle.proc_run.specs.Runs.{HasRunner, AdvancesTo}

-- The machine after an instruction was tried: it is as it was, but where the instruction is carried out and makes no call.
abbrev pub Leaves : Stepped → Standing → Standing → Type 0
Leaves steps.Done old new = Unit {0}
Leaves _ old new = new ≡ old

-- Over a memory.

-- the instruction of these registers is carried out, makes no call, and leaves those
pub record CarriesOn (memory : Answers) (before after : Regs) : Type 0 where
  pub done : answer_of (run memory (instruction before)) ≡ steps.Done
  pub left : after ≡ registers_after before (run memory (instruction before))

-- it does, and what it wrote is so; or nothing changed, where nothing written is so
abbrev pub GoesOr : Bool → Answers → Regs → Regs → (List ByteWrite → Type 0) → Type 0
GoesOr true memory before after Wrote = CarriesOn memory before after × Wrote (writes_of (run memory (instruction before)))
GoesOr false memory before after Wrote = (after ≡ before) × Wrote []

-- so many instructions from these registers on wrote these bytes, and left those registers
abbrev pub Stretch : Answers → Regs → ℕ → List ByteWrite → Regs → Type 0
Stretch memory before zero writes after = (writes ≡ []) × (after ≡ before)
Stretch memory before (suc count) writes after =
    (earlier : List ByteWrite) × (mid : Regs) × Stretch memory before count earlier mid × CarriesOn (written memory earlier) mid after
    × (writes ≡ earlier ++ writes_of (run (written memory earlier) (instruction mid)))

-- and what they wrote is so
abbrev pub StretchOf : Answers → Regs → ℕ → Regs → (List ByteWrite → Type 0) → Type 0
StretchOf memory before count after Wrote = (writes : List ByteWrite) × Stretch memory before count writes after × Wrote writes

-- the instruction of these registers has no access yet to this byte
abbrev pub MissesByte : Answers → Regs → Missed → Type 0
MissesByte memory regs missed = answer_of (run memory (instruction regs)) ≡ steps.Miss missed.address missed.write

-- Over a machine.

-- an instruction more of a process that runs was counted, for every state at which the machine stands
pub record RanOne (old : Standing) (pid : ℕ) (new : Standing) : Type 0 where
  pub can : may_run old.kernel pid ≡ true
  pub advances : (now : Bool) (holds : Option (List NamedFile)) (i : Option SwapImage)
      → LeadsFrom (HasRunner old holds i pid now) (AdvancesTo old.kernel new.kernel i advances.Counted)
  pub continues : Continues old new 1

-- so many were, one after another
abbrev pub RanOn : Standing → ℕ → ℕ → Standing → Type 0
RanOn old pid zero new = new ≡ old
RanOn old pid (suc count) new = (mid : Standing) × RanOn old pid count mid × RanOne mid pid new
