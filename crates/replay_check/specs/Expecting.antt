-- What the flat machine gives in place of the first entry that is none of its run.
use Rattle.std.specs.Prelude.{◌≡◌, ℕ, zero, suc, ◌+◌, ◌<◌, ◌≤◌, nat_le, Bool, true, false, List, [], ◌∷◌, ◌++◌, length, Option, Some, None, IsSome}
use Rattle.flat_state.specs.Flat.{Process, Inputs, process_of}
use Rattle.vm_facts.specs.declared.entry.Entry.{Entry}
use Rattle.vm_facts.specs.declared.entry.Entry.TheVariants.{Ran, Out, Refused}
use Rattle.flat_state.specs.Journal.{units_with, counted, instructions_of}
use Rattle.flat_model.specs.Run.{Point, entry_of_step, may_follow, is_outcome_of, process_of_entry, flat_units, flat_run}
use Rattle.replay_check.specs.declared.expecting.Expected.{Expected}
use Rattle.replay_check.specs.declared.expecting.Expected.TheVariants.{Comes, Unrefused, CannotStep, NoProcess, TooMany}
use Rattle.replay_check.specs.declared.expecting.Misfit.{Misfit}
use Rattle.replay_check.specs.Verdicts.{instruction_limit, first_bad}

-- the process whose step has begun, and isn't complete
abbrev pub begun : Option Entry → Option ℕ
begun (Some (Out p bytes)) = Some p
begun (Some (Refused p)) = Some p
begun _ = None

-- the first number, where there is one, or else the second
abbrev pub or_else : Option ℕ → Option ℕ → Option ℕ
or_else None other = other
or_else (Some p) other = Some p

-- the process of which an entry is due: the one whose step has begun, and else the one of the entry that stands there
abbrev pub due_process : Option Entry → Entry → Option ℕ
due_process last e = or_else (begun last) (process_of_entry e)

-- this entry comes, or it would with no `Refused` before it
abbrev pub comes_if : Bool → Entry → Expected
comes_if true e = Comes e
comes_if false e = Unrefused e

-- why a process has no step: it isn't there, or can't step
abbrev pub missing : ℕ → Option Process → Expected
missing pid None = NoProcess pid
missing pid (Some p) = CannotStep pid

-- the entry of a process's step, or why it has none
abbrev pub expected_by : Point → ℕ → Option Entry → Expected
expected_by point pid (Some e) = comes_if (may_follow point.last e) e
expected_by point pid None = missing pid (process_of point.flat pid)

-- the next entry of a process's step, or why it has none
abbrev pub expected_of : Inputs → Point → ℕ → Expected
expected_of A point pid = expected_by point pid (entry_of_step A point pid)

-- whether an entry follows where the pieces of a process found no place or not
abbrev pub follows_if : Bool → ℕ → Entry → Bool
follows_if false pid e = true
follows_if true pid e = is_outcome_of pid e

-- this entry comes next, where there is one
abbrev pub comes_or : Bool → ℕ → Option Entry → Expected → Expected
comes_or refused pid (Some e) absent = comes_if (follows_if refused pid e) e
comes_or refused pid None absent = absent

-- one instruction comes next
abbrev pub is_one : Expected → Bool
is_one (Comes (Ran pid count)) = true
is_one expected = false

-- of so many instructions of a process these run, and no more
pub record RunsOnly (A : Inputs) (point : Point) (pid count ran : ℕ) : Type 0 where
  pub few : ran ≤ count
  pub runs : IsSome (flat_units A (Some point) (units_with (Ran pid ran) []))
  pub stops : ran < count → flat_units A (Some point) (units_with (Ran pid (ran + 1)) []) ≡ None

-- the instructions that run, and where there are none, this
abbrev pub ran_or : ℕ → ℕ → Expected → Expected
ran_or pid zero expected = expected
ran_or pid (suc n) expected = Comes (Ran pid (suc n))

-- the instructions of a `Ran`
abbrev pub run_length : Entry → ℕ
run_length (Ran p count) = count
run_length e = 0

-- what this process gives in place of an entry: as many of its instructions as run, and else its next entry
pub record IsExpected (A : Inputs) (point : Point) (pid count : ℕ) (expected : Expected) : Type 0 where
  pub ran : ℕ
  pub most : RunsOnly A point pid count ran
  pub told : expected ≡ ran_or pid ran (expected_of A point pid)

-- what this process gives in place of an entry; nothing where there is none
abbrev pub IsExpectedOf : Inputs → Point → Entry → Option ℕ → Option Expected → Type 0
IsExpectedOf A point e None expected = expected ≡ None
IsExpectedOf A point e (Some pid) None = ⊥
IsExpectedOf A point e (Some pid) (Some expected) = IsExpected A point pid (run_length e) expected

-- what the process that is due gives in place of an entry; nothing where the entry is of no process and none is due
abbrev pub IsExpectedAt : Inputs → Point → Entry → Option Expected → Type 0
IsExpectedAt A point e expected = IsExpectedOf A point e (due_process point.last e) expected

-- the same where as many instructions may run as the run then has
abbrev pub IsExpectedIf : Bool → Inputs → Point → Entry → Option Expected → Type 0
IsExpectedIf true A point e expected = IsExpectedAt A point e expected
IsExpectedIf false A point e expected = expected ≡ Some TooMany

-- what is expected in place of an entry after these, which are a run
pub record IsExpectedBehind (A : Inputs) (good : List Entry) (bad : Entry) (expected : Option Expected) : Type 0 where
  pub point : Point
  pub run : flat_run A good ≡ Some point
  pub told : IsExpectedIf (nat_le (instructions_of good + counted bad) instruction_limit) A point bad expected

-- the first bad entry, and what is expected in its place after the good ones
pub record IsMisfit (A : Inputs) (entries : List Entry) (misfit : Misfit) : Type 0 where
  pub good : List Entry
  pub bad : Entry
  pub more : List Entry
  pub are : entries ≡ good ++ bad ∷ more
  pub number : misfit.number ≡ length good + 1
  pub first : first_bad A entries ≡ Some misfit.number
  pub expected : IsExpectedBehind A good bad (Some misfit.expected)

-- nothing where the entries are a run, and else the first bad one with what is expected there
abbrev pub IsExplained : Inputs → List Entry → Option Misfit → Type 0
IsExplained A entries None = first_bad A entries ≡ None
IsExplained A entries (Some misfit) = IsMisfit A entries misfit
