-- What a dispatch and a turn lead to: an instruction count, or a page to wait for.
use Rattle.std.specs.Prelude.{◌≡◌, ℕ, ◌+◌, ◌≤◌, min, Bool, true, false, List, Option, Some, None}
use Rattle.vm_facts.specs.SwapImages.{SwapImage}
use Rattle.vm_facts.specs.declared.entry.Entry.{Entry}
use Rattle.io_edge.specs.FileHolding.{NamedFile}
use Rattle.flat_state.specs.Flat.{Inputs}
use Rattle.flat_state.specs.Journal.{instructions_of}
use Rattle.kernel_model.specs.Kernel.{Kernel}
use Rattle.page_model.specs.Swapper.{is_out}
use Rattle.machine_state.specs.Machine.{Standing}
use Rattle.step_units.specs.Reading.{AreNamed}
use Rattle.run_model.specs.declared.mark.Mark.TheVariants as marks
use Rattle.run_model.specs.State.{State}
use Rattle.run_model.specs.Next.{turn_instructions, under}
use Rattle.step_units.specs.Leads.{Leads}
use Rattle.step_units.specs.Machines.{MachineAt}
use Rattle.step_units.specs.Lines.{IsClear}
use Rattle.proc_run.specs.Runs.{IsSteady}

-- the last mark is a dispatch of a process, or a turn, and asks for instructions up to this count
abbrev pub AsksRun : Inputs → State → ℕ → Bool → ℕ → Type 0
AsksRun A s pid false until = (n : ℕ) × (since : ℕ) × (s.mark ≡ marks.Dispatch pid n since) × (until ≡ min (since + n) A.limit)
AsksRun A s pid true until = (since : ℕ) × (s.mark ≡ marks.Turn pid since) × (until ≡ min (since + turn_instructions) A.limit)

-- The machine stands at a state under such a mark, with nothing due and no step begun, and a swap image that is told.
pub record UnderMark (m : Standing) (holds : Option (List NamedFile)) (i : Option SwapImage) (pid : ℕ) (now : Bool) (counted until : ℕ) (A : Inputs)
    (s : State) (image : SwapImage) : Type 0 where
  pub machine : MachineAt A s m holds image
  pub named : AreNamed A.images m.images
  pub told : i ≡ Some image
  pub clear : IsClear s
  pub count : s.count ≡ counted
  pub asks : AsksRun A s pid now until

-- Next units lead to where nothing more is to come of the mark, unless it is a turn whose process is out.
pub record RunLeads (k : Kernel) (pid : ℕ) (now : Bool) (l : Kernel) (j : Option SwapImage) (count : ℕ) (A : Inputs) (s : State)
    (image : SwapImage) : Type 0 where
  pub units : List Entry
  pub state : State
  pub leads : Leads A s k image units state l j
  pub clear : IsClear state
  pub over : (now ≡ true → is_out state.place pid ≡ false) → under A state state.mark ≡ None
  pub counts : state.count ≡ count
  pub lines : state.lines ≡ s.lines
  pub mark : state.mark ≡ s.mark

-- Whatever the devices tell: the machine goes on, with the sizes and images of before, and so many instructions are counted now.
pub record CountsTo (old new : Standing) (counted count : ℕ) : Type 0 where
  pub steady : IsSteady new
  pub params : new.params ≡ old.params
  pub images : new.images ≡ old.images
  pub counts : instructions_of new.kernel.journal ≡ count
  pub more : counted ≤ count
