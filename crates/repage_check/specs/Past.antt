-- What is known of a paged run beside its machine, and how each unit changes it.
use Rattle.std.specs.Prelude.{◌≡◌, ℕ, ◌+◌, not, Bool, false, List, length, Option, Some, None}
use Rattle.vm_facts.specs.SwapImages.{SwapImage}
use Rattle.vm_facts.specs.declared.entry.Entry.{Entry}
use Rattle.vm_facts.specs.declared.entry.Entry.TheVariants as entries
use Rattle.io_edge.specs.FileHolding.{NamedFile}
use Rattle.flat_state.specs.Flat.{Inputs}
use Rattle.flat_state.specs.Journal.{counted, instructions_of}
use Rattle.kernel_model.specs.Kernel.{Kernel}
use Rattle.page_model.specs.Placement.{Placement}
use Rattle.page_model.specs.Swapper.{is_out}
use Rattle.machine_state.specs.Machine.{Standing}
use Rattle.run_model.specs.declared.mark.Mark.{Mark}
use Rattle.run_model.specs.declared.mark.Mark.TheVariants as marks
use Rattle.run_model.specs.State.{State}
use Rattle.paged_model.specs.Runs.{turn_mark, out_mark, in_mark}
use Rattle.step_judge.specs.Begun.{Begun}
use Rattle.step_judge.specs.Begun.TheVariants as begun
use Rattle.step_judge.specs.Choosing.{may_run}
use Rattle.step_judge.specs.At.{JudgedAt}
use Rattle.repage_check.specs.declared.past.Past.{Past}

-- After a unit.

-- the lines of a schedule that were taken
abbrev pub lines_next : ℕ → Entry → ℕ
lines_next lines (entries.Event line) = lines + 1
lines_next lines _ = lines

-- whether a turn is of a process that is out
abbrev pub turn_out : Kernel → Entry → Bool
turn_out k (entries.Turn pid) = not (may_run k pid)
turn_out k _ = false

-- the last mark, where so many instructions are counted
abbrev pub mark_next : Bool → ℕ → Mark → Entry → Mark
mark_next out count mark (entries.Event line) = marks.Over
mark_next out count mark (entries.Turn pid) = turn_mark out pid count
mark_next out count mark (entries.SwapOut pid) = out_mark pid mark
mark_next out count mark (entries.SwapIn pid) = in_mark pid count mark
mark_next out count mark _ = mark

-- how a step is begun
abbrev pub begun_next : Option Begun → Entry → Option Begun
begun_next b (entries.Ran pid n) = None
begun_next b (entries.Out pid bytes) = Some (begun.Sent pid (length bytes))
begun_next b (entries.Grew pid pages) = None
begun_next b (entries.Call pid number carry r0 r1) = None
begun_next b (entries.Refused pid) = Some (begun.Refused pid)
begun_next b (entries.Sleeps pid) = None
begun_next b (entries.Ended pid status) = None
begun_next b _ = b

-- all of it, by whether a turn is of a process that is out
abbrev pub past_next : Bool → Past → Entry → Past
past_next out p u = record {
  lines = lines_next p.lines u;
  mark = mark_next out p.counted p.mark u;
  counted = p.counted + counted u;
  begun = begun_next p.begun u;
}

-- At a state.

-- who has the turn
abbrev pub turn_of : Mark → Option ℕ
turn_of (marks.Turn pid since) = Some pid
turn_of _ = None

-- who has the turn is in; and none is dispatched
abbrev pub MarkIsIn : Placement → Mark → Type 0
MarkIsIn p (marks.Dispatch pid count since) = ⊥
MarkIsIn p (marks.Turn pid since) = is_out p pid ≡ false
MarkIsIn p _ = Unit {0}

-- The machine stands at a state of a paged run, of which so much is known; and the journal counts the instructions that were counted.
pub record PastAt (p : Past) (m : Standing) (holds : Option (List NamedFile)) (i : Option SwapImage) (A : Inputs) (s : State) (image : SwapImage)
    : Type 0 where
  pub judged : JudgedAt m p.counted p.begun holds i A s image
  pub counts : instructions_of s.journal ≡ s.count
  pub lines : s.lines ≡ p.lines
  pub mark : s.mark ≡ p.mark
  pub turn : MarkIsIn s.place s.mark
