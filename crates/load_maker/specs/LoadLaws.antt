-- The statements on loads: what is so at each place of a run, and what a finished one counts.
use Rattle.std.specs.Prelude.{◌≡◌, ℕ, ◌+◌, ◌*◌, ◌≤◌, List, length, None}
use Rattle.std.specs.List.{count_by}
use Rattle.vm_facts.specs.declared.entry.Entry.{Entry}
use Rattle.swap_book.specs.Holdings.{Holdings}
use Rattle.flat_state.specs.Flat.{FlatState, Inputs}
use Rattle.flat_state.specs.Journal.{instructions_of}
use Rattle.flat_model.specs.Run.{Point}
use Rattle.run_model.specs.State.{State}
use Rattle.run_model.specs.Next.{next_unit}
use Rattle.run_model.specs.Lawful.{Reaches}
use Rattle.run_laws.specs.Running.{CanRun}
use Rattle.flat_laws.specs.Others.{is_refusal}
use Rattle.flat_laws.specs.Visible.{is_end}
use Rattle.economy_laws.specs.Few.{moves_asked}
use Rattle.load_maker.specs.Load.{load_pages}
use Rattle.load_maker.specs.Counts.{is_granted_fork, counts_of}
use Rattle.load_maker.specs.Stages.{Stage, AllStand}
use Rattle.load_maker.specs.Left.{IsLoad, load_counts, instructions_left, forks_left, ends_left, total}

-- Where a load's run has come with this journal: each process stands at a stage of its program. What the journal counts, and what is left
-- at these stages, make the whole: the instructions, the four children and the eight ends. Nothing was refused.
pub record IsUnderWay (number : ℕ) (journal : List Entry) (s : State) : Type 0 where
  pub stages : List Stage
  pub stand : AllStand (load_pages number) stages (let point : Point = s.point in let flat : FlatState = point.flat in flat.processes)
  pub instructions : instructions_of journal + total (instructions_left (load_pages number)) stages ≡ 72 + 720 * (load_pages number + 1)
  pub children : count_by is_granted_fork journal + total forks_left stages ≡ 4
  pub ended : count_by is_end journal + total ends_left stages ≡ 8
  pub refused : count_by is_refusal journal ≡ 0

-- each journal of a load's run is one with which the run is under way
abbrev pub LoadsAreUnderWay : Type 0
LoadsAreUnderWay = (number : ℕ) (A : Inputs) (hs : Holdings) (journal : List Entry) (s : State) → IsLoad number A → CanRun A hs → Reaches A journal s
    → IsUnderWay number journal s

-- a finished one counts what its number says
abbrev pub FinishedLoadsCount : Type 0
FinishedLoadsCount = (number : ℕ) (A : Inputs) (hs : Holdings) (journal : List Entry) (s : State) → IsLoad number A → CanRun A hs → Reaches A journal s
    → next_unit A s ≡ None → counts_of 4 journal ≡ load_counts number

-- Its journal has few entries, at each place of its run: few for what it counts, and few for each line of the schedule.
abbrev pub LoadsAreShort : Type 0
LoadsAreShort = (number : ℕ) (A : Inputs) (hs : Holdings) (journal : List Entry) (s : State) → IsLoad number A → CanRun A hs → Reaches A journal s
    → length journal ≤ 12000000 + (9234 * length A.lines + 2 * moves_asked A.lines)
