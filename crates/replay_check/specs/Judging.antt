-- How the judge follows a run of the flat machine.
use Rattle.std.specs.Prelude.{◌≡◌, ℕ, ◌≤◌, ◌==◌, Bool, true, false, List, [], ◌∷◌, Option, Some, None, if◌then◌else◌}
use Rattle.flat_state.specs.Flat.{FlatState, Inputs, can_step}
use Rattle.vm_facts.specs.declared.entry.Entry.{Entry}
use Rattle.vm_facts.specs.declared.entry.Entry.TheVariants as entries
use Rattle.flat_state.specs.Journal.{instructions_of}
use Rattle.flat_model.specs.Step.{flat_step, call_entry}
use Rattle.flat_model.specs.Run.{Point, is_first_of, flat_run, IsBetween}
use Rattle.flat_machine.specs.declared.deed.Did.{Did}
use Rattle.flat_machine.specs.declared.deed.Did.TheVariants as deeds
use Rattle.flat_machine.specs.Machine.{entries_of}
use Rattle.replay_check.specs.declared.replaying.Last.{Last}
use Rattle.replay_check.specs.declared.replaying.Last.TheVariants as lasts
use Rattle.replay_check.specs.Verdicts.{instruction_limit, is_run}

-- no step is begun
abbrev pub is_other : Last → Bool
is_other lasts.Other = true
is_other (lasts.Refused pid) = false
is_other (lasts.Wrote pid call regs) = false

-- whether the pieces of this process found no place; none after bytes, or where another's found none
abbrev pub refused_in : ℕ → Last → Option Bool
refused_in pid lasts.Other = Some false
refused_in pid (lasts.Refused p) = if p == pid then Some true else None
refused_in pid (lasts.Wrote p call regs) = None

-- what is to come after the first entry of a step: the reply, where bytes were written
abbrev pub last_behind : ℕ → Did → Last
last_behind pid (deeds.Wrote call bytes regs) = lasts.Wrote pid call regs
last_behind pid _ = lasts.Other

-- a call of this process whose bytes are out, and whose reply is to come
pub record IsWriting (A : Inputs) (F : FlatState) (pid : ℕ) (reply : Entry) (point : Point) : Type 0 where
  pub bytes : List ℕ
  pub out : point.last ≡ Some (entries.Out pid bytes)
  pub can : can_step point.flat pid ≡ true
  pub due : (flat_step A point.flat pid false).entries ≡ entries.Out pid bytes ∷ reply ∷ []
  pub after : (flat_step A point.flat pid false).after ≡ F

-- the judge, with this machine and this last entry, stands at a point of a run
abbrev pub IsAt : Inputs → FlatState → Last → Point → Type 0
IsAt A F lasts.Other point = (point.flat ≡ F) × IsBetween point.last
IsAt A F (lasts.Refused pid) point = (point.flat ≡ F) × (point.last ≡ Some (entries.Refused pid))
IsAt A F (lasts.Wrote pid call regs) point = IsWriting A F pid (call_entry pid call regs) point

-- the verdict on an entry, after which the judge stands where the entry leaves a run
abbrev pub IsVerdict : Inputs → Bool → FlatState → Last → Option Point → Type 0
IsVerdict A true F last (Some point) = IsAt A F last point
IsVerdict A true F last None = ⊥
IsVerdict A false F last (Some point) = ⊥
IsVerdict A false F last None = Unit {0}

-- the first entry of what a process did is this one
abbrev pub begins : ℕ → Did → Entry → Bool
begins pid did e = is_first_of (entries_of pid did) e

-- the judge has taken these entries as a run: it stands at the point after them, and has counted their instructions
pub record HasTaken (A : Inputs) (F : FlatState) (last : Last) (count : ℕ) (journal : List Entry) : Type 0 where
  pub point : Point
  pub run : flat_run A journal ≡ Some point
  pub at : IsAt A F last point
  pub counts : count ≡ instructions_of journal
  pub few : count ≤ instruction_limit

-- whether it has taken them, or they are no run
abbrev pub HasJudged : Inputs → Bool → FlatState → Last → ℕ → List Entry → Type 0
HasJudged A true F last count journal = HasTaken A F last count journal
HasJudged A false F last count journal = is_run A journal ≡ false
