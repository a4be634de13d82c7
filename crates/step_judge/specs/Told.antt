-- What is told of a line of a process: the first reason, or that it was made.
use Rattle.std.specs.Prelude.{◌≡◌, ℕ, ◌==◌, ◌-◌, nat_lt, not, Bool, true, false, List, length, slice_get, Option, Some, None}
use Rattle.vm_facts.specs.SwapImages.{SwapImage}
use Rattle.vm_facts.specs.declared.entry.Entry.{Entry}
use Rattle.vm_facts.specs.declared.entry.Entry.TheVariants as entries
use Rattle.flat_state.specs.Flat.{Inputs}
use Rattle.kernel_model.specs.Kernel.{Kernel}
use Rattle.page_model.specs.Placement.{Due}
use Rattle.page_model.specs.Swapper.{is_out}
use Rattle.machine_state.specs.Going.{CanGoOn}
use Rattle.machine_state.specs.Machine.{Standing}
use Rattle.run_model.specs.State.{State}
use Rattle.run_model.specs.Act.{act}
use Rattle.proc_run.specs.Leads.{MadeAs}
use Rattle.paged_model.specs.declared.reason.Reason.{Reason}
use Rattle.paged_model.specs.declared.reason.Reason.TheVariants as reasons
use Rattle.paged_model.specs.Reasons.{unless, or_reason}
use Rattle.paged_model.specs.Moves.{due_first}
use Rattle.paged_model.specs.Steps.{stuck, page_away, other_act, step_reason}
use Rattle.proc_run.specs.declared.finishing.Begun.{Begun}
use Rattle.proc_run.specs.Rests.{pid_of}

-- Entries.

-- an instruction alone
abbrev pub is_ran : Entry → Bool
is_ran (entries.Ran pid n) = true
is_ran _ = false

-- Reasons, part by part.

-- the step of another process is begun so
abbrev pub other_by : Option Begun → ℕ → Option Reason
other_by None pid = None
other_by (Some b) pid = unless (pid_of b == pid) (reasons.Begun (pid_of b))

-- before anything of the process: so many instructions are counted; it can't step; the step of another is begun so; and these are due
abbrev pub first_reasons : Inputs → State → ℕ → Option Begun → List Due → ℕ → Option Reason
first_reasons A s counted b due pid =
    or_reason (unless (nat_lt counted 1000000) reasons.TooMany) (or_reason (stuck A s pid) (or_reason (other_by b pid) (due_first due)))

-- a page that it touches isn't valid, or it does another thing next
abbrev pub left_reason : Inputs → State → ℕ → Entry → Option Reason
left_reason A s pid u = or_reason (page_away A s pid) (other_act pid u (act A s pid))

-- it is out, or one of these
abbrev pub in_reason : Inputs → State → ℕ → Entry → Option Reason
in_reason A s pid u = or_reason (unless (not (is_out s.place pid)) (reasons.IsOut pid)) (left_reason A s pid u)

-- What is told is the reason; and with none the entry was made as a unit.
pub record Told (reason why : Option Reason) (u : Entry) (k l : Kernel) (j : Option SwapImage) (A : Inputs) (s : State) (image : SwapImage) : Type 0 where
  pub exact : reason ≡ why
  pub made : reason ≡ None → MadeAs A s k image u l j

-- by what the process does next
abbrev pub ActTold : Option Reason → Entry → ℕ → Kernel → Kernel → Option SwapImage → Inputs → State → SwapImage → Type 0
ActTold reason u pid k l j A s image = Told reason (other_act pid u (act A s pid)) u k l j A s image

-- by its pages too
abbrev pub LeftTold : Option Reason → Entry → ℕ → Kernel → Kernel → Option SwapImage → Inputs → State → SwapImage → Type 0
LeftTold reason u pid k l j A s image = Told reason (left_reason A s pid u) u k l j A s image

-- by whether it is in, too
abbrev pub InTold : Option Reason → Entry → ℕ → Kernel → Kernel → Option SwapImage → Inputs → State → SwapImage → Type 0
InTold reason u pid k l j A s image = Told reason (in_reason A s pid u) u k l j A s image

-- by all that a step asks
abbrev pub StepTold : Option Reason → Entry → ℕ → Kernel → Kernel → Option SwapImage → Inputs → State → SwapImage → Type 0
StepTold reason u pid k l j A s image = Told reason (step_reason A s pid u) u k l j A s image

-- What a machine made.

-- it made what the process does next, which is the last entry of its journal
pub record ActMade (k l : Kernel) (j : Option SwapImage) (pid : ℕ) (A : Inputs) (s : State) (image : SwapImage) : Type 0 where
  pub entry : Entry
  pub acts : act A s pid ≡ Some entry
  pub made : MadeAs A s k image entry l j
  pub last : slice_get l.journal (length l.journal - 1) ≡ Some entry

-- it can go on, with its sizes and images
pub record GoesOnWith (old new : Standing) : Type 0 where
  pub ready : CanGoOn new
  pub params : new.params ≡ old.params
  pub images : new.images ≡ old.images
