-- What a verdict claims: a run of the paged machine, or the first line that can't come.
use Rattle.std.specs.Prelude.{◌≡◌, ◌↔◌, ℕ, List, Option, Some, None, Ok, Err}
use Rattle.vm_facts.specs.SwapImages.{SwapImage}
use Rattle.io_edge.specs.FileHolding.{NamedFile}
use Rattle.swap_book.specs.Holdings.{Holdings}
use Rattle.flat_state.specs.Flat.{Inputs}
use Rattle.flat_model.specs.Asked.{start_held}
use Rattle.machine_state.specs.Machine.{Standing}
use Rattle.run_model.specs.declared.mark.Mark.TheVariants as marks
use Rattle.vm_core.specs.Leading.{IsTold}
use Rattle.paged_model.specs.declared.line.Line.{Line}
use Rattle.paged_model.specs.declared.reason.Misstep.{Misstep}
use Rattle.paged_model.specs.Traces.{first_trace_misstep, IsPagedTrace}
use Rattle.repage_check.specs.declared.past.Past.{Past}
use Rattle.repage_check.specs.declared.checking.Verdict.{Verdict}
use Rattle.repage_check.specs.declared.checking.Verdict.TheVariants.{NoSpace, Paged, Not}

-- what is known at the start of a run
abbrev pub past_at_start : Past
past_at_start = record { lines = 0; mark = marks.Over; counted = 0; begun = None }

-- The first processes' pieces find their places, and this is the first line of a trace that can't come, with the reason.
pub record HasMisstep (A : Inputs) (ls : List Line) (misstep : Misstep) : Type 0 where
  pub holdings : Holdings
  pub found : start_held A ≡ Ok holdings
  pub first : first_trace_misstep A holdings ls ≡ Some misstep

-- A verdict says that a trace is a run of the paged machine exactly where it is one; it names a line with a reason exactly where that is the first
-- line that can't come, and why; and it names a first process exactly where that process's pieces find no place.
pub record IsJudged (A : Inputs) (ls : List Line) (verdict : Verdict) : Type 0 where
  pub paged : (verdict ≡ Paged) ↔ IsPagedTrace A ls
  pub misstep : (misstep : Misstep) → (verdict ≡ Not misstep) ↔ HasMisstep A ls misstep
  pub no_space : (pid : ℕ) → (verdict ≡ NoSpace pid) ↔ (start_held A ≡ Err pid)

-- There are inputs of which a machine and these first processes are, with the limit of a judged run, and the swap image is told.
pub record IsAsked (m : Standing) (first : List ℕ) (holds : Option (List NamedFile)) (i : Option SwapImage) : Type 0 where
  pub inputs : Inputs
  pub image : SwapImage
  pub told : IsTold inputs m first holds image
  pub shown : i ≡ Some image
  pub limit : inputs.limit ≡ 1000000
