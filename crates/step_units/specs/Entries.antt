-- The statements that a machine goes on after each kind of entry.
use Rattle.std.specs.Prelude.{◌≡◌, ℕ, List, [], Option, None}
use Rattle.vm_facts.specs.Answers.{ByteWrite}
use Rattle.vm_facts.specs.declared.regs.Regs.{Regs}
use Rattle.vm_facts.specs.declared.entry.Entry.{Entry}
use Rattle.vm_facts.specs.declared.entry.Entry.TheVariants as entries
use Rattle.swap_book.specs.Holdings.{Holdings}
use Rattle.flat_state.specs.declared.change.Change.{Change}
use Rattle.flat_state.specs.declared.change.Change.TheVariants.{Fork, Exec}
use Rattle.flat_state.specs.Journal.{counted, IsPlain}
use Rattle.kernel_model.specs.Kernel.{note_step}
use Rattle.kernel_model.specs.ChangeStep.{ran_by, pass_step}
use Rattle.machine_state.specs.Machine.{Standing}
use Rattle.machine_state.specs.UserMemory.{writes_in}
use Rattle.proc_calls.specs.Answered.{Entered}
use Rattle.proc_calls.specs.Callers.{IsCaller}
use Rattle.proc_calls.specs.Growth.{with_pieces}
use Rattle.step_units.specs.Ready.{Continues}

-- a change after which no page is due, where none was
abbrev pub LeavesNone : Change → Type 0
LeavesNone (Fork child) = ⊥
LeavesNone (Exec image top) = ⊥
LeavesNone _ = Unit {0}

-- An entry of a process with its change: none of an instruction, and none of the hands.
abbrev pub EntryContinues : Type 0
EntryContinues =
    (old new : Standing) (pid : ℕ) (regs : Regs) (e : Entry) (change : Change) → IsCaller old pid → IsPlain e → LeavesNone change
    → Entered old new pid regs e change
    → Continues old new (counted e)

-- an entry of a process with its change, for which pieces were found before
abbrev pub FoundContinues : Type 0
FoundContinues =
    (old new : Standing) (found : Holdings) (pid : ℕ) (regs : Regs) (e : Entry) (change : Change) → IsCaller old pid → IsPlain e → LeavesNone change
    → Entered (with_pieces old found) new pid regs e change → Continues old new (counted e)

-- An entry that goes into the journal alone.
abbrev pub NoteContinues : Type 0
NoteContinues =
    (old new : Standing) (e : Entry) → old.kernel.place.due ≡ [] → IsPlain e → new ≡ record old { kernel = note_step old.kernel e; room = None }
    → Continues old new (counted e)

-- An instruction that is counted.
abbrev pub RanContinues : Type 0
RanContinues =
    (old new : Standing) (pid : ℕ) (regs : Regs) → old.kernel.place.due ≡ []
    → new ≡ record old { kernel = ran_by old.kernel pid regs (entries.Ran pid 1); room = None } → Continues old new 1

-- room for an instruction that is to be counted
abbrev pub RoomContinues : Type 0
RoomContinues = (old new : Standing) (made : Option ℕ) → old.kernel.place.due ≡ [] → new ≡ record old { room = made } → Continues old new 0

-- the writes of an instruction
abbrev pub WritesContinue : Type 0
WritesContinue =
    (old new : Standing) (sid : ℕ) (ws : List ByteWrite) → old.kernel.place.due ≡ []
    → new ≡ record old { kernel = writes_in old.kernel sid ws } → Continues old new 0

-- A space that passes from a process to another, with no entry.
abbrev pub PassContinues : Type 0
PassContinues =
    (old new : Standing) (from to : ℕ) → old.kernel.place.due ≡ [] → new ≡ record old { kernel = pass_step old.kernel from to } → Continues old new 0
