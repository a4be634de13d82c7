-- How the code of the flat machine keeps a flat state, and what its steps make of one.
use Rattle.std.specs.Prelude.{◌≡◌, ℕ, zero, suc, ◌<◌, ◌==◌, true, false, List, [], ◌∷◌, ◌++◌, length, position, slice_index_or, IsTrue, Some, Result, Err, Bool}
use Rattle.vm_facts.specs.Answers.{ByteWrite}
use Rattle.flat_state.specs.Space.{Space}
use Rattle.flat_state.specs.Flat.{Process, FlatState, NamedImage, Inputs, can_step, holds_space}
use Rattle.vm_facts.specs.declared.entry.Entry.{Entry}
use Rattle.vm_facts.specs.declared.entry.Entry.TheVariants.{Ran, Grew, Sleeps, Ended}
use Rattle.user_vax.specs.declared.stepped.Stepped.{Stepped}
use Rattle.flat_model.specs.Step.{call_entry, out_entries, Step, step_with, flat_step, written_process}
use Rattle.flat_model.specs.Run.{is_first_of}
use Rattle.vm_facts.specs.declared.regs.Regs.{Regs}
use Rattle.user_vax.specs.Effects.{Effect}
use Rattle.user_vax.specs.Instruction.{answer_of, registers_after, writes_of}
use Rattle.user_vax.specs.declared.refused.Refused.{Refused}
use Rattle.user_vax.specs.declared.refused.Refused.TheVariants as refusals
use Rattle.flat_state.specs.Change.{apply_writes}
use Rattle.flat_process.specs.Holdings.{space_in, no_process}
use Rattle.flat_machine.specs.declared.deed.Did.{Did}
use Rattle.flat_machine.specs.declared.deed.Did.TheVariants as deeds
use Rattle.flat_machine.specs.declared.deed.Deed.{Deed}

-- the process at a place
abbrev pub process_at : FlatState → ℕ → Process
process_at F place = slice_index_or F.processes place no_process

-- the space of the process at a place; an empty one where it holds none
abbrev pub space_at : FlatState → ℕ → Space
space_at F place = space_in (process_at F place).holding

-- the place of a process that has a space, the first of its number
pub record IsPlace (F : FlatState) (place : ℕ) : Type 0 where
  pub within : place < length F.processes
  pub first : position (λ q. q.pid == (process_at F place).pid) F.processes ≡ Some place
  pub holds : IsTrue (holds_space (process_at F place).holding)

-- the entries of a step of a process
abbrev pub entries_of : ℕ → Did → List Entry
entries_of pid deeds.Nothing = []
entries_of pid deeds.Ran = Ran pid 1 ∷ []
entries_of pid (deeds.Grew pages) = Grew pid pages ∷ []
entries_of pid (deeds.Replied call regs) = call_entry pid call regs ∷ []
entries_of pid (deeds.Wrote call bytes regs) = out_entries pid bytes ++ call_entry pid call regs ∷ []
entries_of pid deeds.Slept = Sleeps pid ∷ []
entries_of pid (deeds.Ended status) = Ended pid status ∷ []

-- a step with these writes, and what the deed says
abbrev pub step_by : List NamedImage → FlatState → Process → List ByteWrite → Deed → Step
step_by images F p writes deed = step_with images F p (entries_of p.pid deed.did) writes deed.regs deed.change

-- the state after a step, where the process can make one
abbrev pub state_if : Bool → FlatState → Step → FlatState
state_if true F step = step.after
state_if false F step = F

-- the entries of a step, where the process can make one
abbrev pub entries_if : Bool → Step → List Entry
entries_if true step = step.entries
entries_if false step = []

-- the state after an instruction that came to this, the process that ran it at its place, and what it left
pub record IsBehind (F : FlatState) (p : Process) (s : Space) (r : Result Effect Refused) (G : FlatState) (place : ℕ) (stepped : Stepped)
    (regs : Regs) : Type 0 where
  pub state : G ≡ apply_writes F p.pid (writes_of r)
  pub process : process_at G place ≡ written_process p s (writes_of r)
  pub answer : stepped ≡ answer_of r
  pub registers : regs ≡ registers_after p.regs r
  pub hits : (address : ℕ) (write : Bool) → r ≡ Err (refusals.Miss address write) → ⊥

-- Instructions of a process, one after another.

-- its next step is one instruction that ran, and leads to this state
pub record RunsOne (A : Inputs) (F : FlatState) (pid : ℕ) (G : FlatState) : Type 0 where
  pub can : can_step F pid ≡ true
  pub entries : (flat_step A F pid false).entries ≡ Ran pid 1 ∷ []
  pub after : G ≡ (flat_step A F pid false).after

-- so many of its steps are
abbrev pub RunsFor : Inputs → FlatState → ℕ → ℕ → FlatState → Type 0
RunsFor A F pid zero G = G ≡ F
RunsFor A F pid (suc count) G = (mid : FlatState) × RunsFor A F pid count mid × RunsOne A mid pid G

-- so many are, and the next one doesn't begin with an instruction that ran
abbrev pub RunsNoMore : Inputs → FlatState → ℕ → ℕ → Type 0
RunsNoMore A F pid count =
    (mid : FlatState) × RunsFor A F pid count mid
    × (is_first_of (entries_if (can_step mid pid) (flat_step A mid pid false)) (Ran pid 1) ≡ false)
