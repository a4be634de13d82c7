-- What a process that makes no call comes to by itself, and that it comes to that beside all others.
use Rattle.std.specs.Prelude.{◌≡◌, ℕ, zero, suc, ◌+◌, ◌==◌, Bool, true, false, cond, List, [], ◌∷◌, Option, Some, None, Result, Ok, Err, ℤ}
use Rattle.flat_state.specs.Space.{Space, puts}
use Rattle.flat_state.specs.Flat.{Holds, Process, FlatState, Inputs, process_of}
use Rattle.flat_state.specs.Numbers.{IsNumbered}
use Rattle.flat_state.specs.Change.{resized}
use Rattle.vm_facts.specs.declared.regs.Regs.{Regs}
use Rattle.vm_facts.specs.declared.entry.Entry.{Entry}
use Rattle.vm_facts.specs.declared.entry.Entry.TheVariants as entries
use Rattle.user_vax.specs.Effects.{Effect}
use Rattle.user_vax.specs.declared.refused.Refused.{Refused}
use Rattle.user_vax.specs.declared.refused.Refused.TheVariants.{Below}
use Rattle.flat_model.specs.Instruction.{instruction_in}
use Rattle.flat_model.specs.Step.{data_pages_of, pages_down_to}
use Rattle.flat_model.specs.Run.{Point, process_of_entry, flat_units}

-- what a process has for itself: its space and its registers
pub record Belongings : Type 0 where
  pub space : Space
  pub regs : Regs

-- what it has after an instruction that was carried out; none where that makes a call
abbrev pub own_ran : Space → Effect → Option ℤ → Option Belongings
own_ran s effect None = Some (record { space = puts s effect.writes; regs = effect.regs })
own_ran s effect (Some number) = None

-- the same, by what the instruction comes to: for one that found no stack at an address the stack grows; none where a signal ends the process
abbrev pub own_behind : Space → Regs → Result Effect Refused → Option Belongings
own_behind s regs (Ok effect) = own_ran s effect effect.call
own_behind s regs (Err (Below address)) = Some (record { space = resized s (data_pages_of s) (pages_down_to address); regs = regs })
own_behind s regs (Err _) = None

-- after one step of its own, where it makes no call: it follows from what it has alone
abbrev pub own_step : Option Belongings → Option Belongings
own_step None = None
own_step (Some o) = own_behind o.space o.regs (instruction_in o.space o.regs)

-- after so many
abbrev pub own_steps : ℕ → Option Belongings → Option Belongings
own_steps zero o = o
own_steps (suc n) o = own_steps n (own_step o)

-- the process is there, awake, and has this. So it hasn't lent its space; it may have borrowed it.
pub record HasBelongings (F : FlatState) (pid : ℕ) (o : Belongings) : Type 0 where
  pub process : Process
  pub here : process_of F pid ≡ Some process
  pub holds : process.holding ≡ Holds o.space
  pub regs : process.regs ≡ o.regs
  pub awake : process.asleep ≡ false

-- the entry is of this process
abbrev pub is_by : ℕ → Option ℕ → Bool
is_by pid None = false
is_by pid (Some p) = p == pid

-- an instruction ran that is no call, or the stack grew for one
abbrev pub makes_no_call : Entry → Bool
makes_no_call (entries.Ran pid n) = true
makes_no_call (entries.Grew pid pages) = true
makes_no_call _ = false

-- each of these units that is of this process is such
abbrev pub NoneCalls : ℕ → List Entry → Type 0
NoneCalls pid [] = Unit {0}
NoneCalls pid (u ∷ us) = (is_by pid (process_of_entry u) ≡ true → makes_no_call u ≡ true) × NoneCalls pid us

-- how many of these units are of this process
abbrev pub steps_by : ℕ → List Entry → ℕ
steps_by pid [] = 0
steps_by pid (u ∷ us) = cond (is_by pid (process_of_entry u)) 1 0 + steps_by pid us

-- what a process has after so many steps of its own, and that it has it here
pub record ComesAlone (steps : ℕ) (o : Belongings) (F : FlatState) (pid : ℕ) : Type 0 where
  pub own : Belongings
  pub steps_to : own_steps steps (Some o) ≡ Some own
  pub has : HasBelongings F pid own

-- A process that makes no call in a run of the flat machine has after it what its own steps alone make of what it had before,
-- whatever all others do in between: they run, call, fork, lend and borrow, wait and end.
abbrev pub RunsAsAlone : Type 0
RunsAsAlone = (A : Inputs) (from to : Point) (units : List Entry) (pid : ℕ) (o : Belongings) → IsNumbered from.flat → HasBelongings from.flat pid o
    → NoneCalls pid units → flat_units A (Some from) units ≡ Some to → ComesAlone (steps_by pid units) o to.flat pid
