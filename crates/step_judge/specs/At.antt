-- A machine at a state of a paged run, when a process's line is judged.
use Rattle.std.specs.Prelude.{◌≡◌, ℕ, ◌<◌, ◌≤◌, true, List, [], Option, Some, None}
use Rattle.vm_facts.specs.SwapImages.{SwapImage}
use Rattle.vm_facts.specs.declared.entry.Entry.TheVariants as entries
use Rattle.io_edge.specs.FileHolding.{NamedFile}
use Rattle.flat_state.specs.Flat.{Inputs, can_step}
use Rattle.kernel_model.specs.Start.{ImagesFit}
use Rattle.machine_state.specs.Files.{AreRunImages}
use Rattle.machine_state.specs.Machine.{Standing}
use Rattle.proc_run.specs.Reading.{AreNamed}
use Rattle.run_model.specs.State.{State}
use Rattle.run_model.specs.Wanted.{wanted}
use Rattle.run_model.specs.Act.{act}
use Rattle.run_laws.specs.Machine.{StandsAt}
use Rattle.paged_model.specs.Steps.{other_begun}
use Rattle.paged_laws.specs.Paged.{under_dispatch, IsPaged}
use Rattle.proc_run.specs.declared.finishing.Begun.{Begun}
use Rattle.proc_run.specs.Choosing.{may_run}
use Rattle.proc_run.specs.Rests.{begun_by}

-- The machine stands at the state, with its bytes, its images and a swap image that is told. So many instructions are counted, and a
-- step is begun so, or none. A run counts no more than a million instructions, over 64 frames or more.
pub record JudgedAt (m : Standing) (counted : ℕ) (b : Option Begun) (holds : Option (List NamedFile)) (i : Option SwapImage) (A : Inputs)
    (s : State) (image : SwapImage) : Type 0 where
  pub fit : ImagesFit A.images
  pub paged : IsPaged A s
  pub stands : StandsAt A s m.kernel image.bytes
  pub images : AreRunImages m.images holds A
  pub named : AreNamed A.images m.images
  pub blocks : m.params.swap_blocks ≡ A.swap_blocks
  pub told : i ≡ Some image
  pub count : s.count ≡ counted
  pub begun : begun_by s.point.last ≡ b
  pub limit : A.limit ≡ 1000000
  pub enough : 64 ≤ A.frames

-- A process of it can step, where it is in: fewer instructions are counted than may be, no step of another is begun, and nothing is due.
pub record SoonAt (m : Standing) (counted : ℕ) (b : Option Begun) (holds : Option (List NamedFile)) (i : Option SwapImage) (pid : ℕ) (A : Inputs)
    (s : State) (image : SwapImage) : Type 0 where
  pub at : JudgedAt m counted b holds i A s image
  pub few : s.count < A.limit
  pub steps : can_step s.point.flat pid ≡ true
  pub own : other_begun s.point.last pid ≡ None
  pub clear : s.place.due ≡ []

-- and it is in
pub record ReadyAt (m : Standing) (counted : ℕ) (b : Option Begun) (holds : Option (List NamedFile)) (i : Option SwapImage) (pid : ℕ) (A : Inputs)
    (s : State) (image : SwapImage) : Type 0 where
  pub soon : SoonAt m counted b holds i pid A s image
  pub runs : may_run m.kernel pid ≡ true

-- All its pages are valid, and it doesn't carry out an instruction alone.
pub record ActsAt (m : Standing) (counted : ℕ) (b : Option Begun) (holds : Option (List NamedFile)) (i : Option SwapImage) (pid : ℕ) (A : Inputs)
    (s : State) (image : SwapImage) : Type 0 where
  pub ready : ReadyAt m counted b holds i pid A s image
  pub unwanted : wanted A (under_dispatch s pid) ≡ None
  pub other : (q n : ℕ) → act A s pid ≡ Some (entries.Ran q n) → ⊥
