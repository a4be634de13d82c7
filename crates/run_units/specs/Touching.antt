-- The statements on touched pages: what an instruction over the frames says of the page waited for.
use Rattle.std.specs.Prelude.{◌≡◌, ℕ, Bool, true, false, List, [], ◌∷◌, ◌++◌, Option, Some, None, Result, Ok, Err, ℤ}
use Rattle.vm_facts.specs.SwapImages.{SwapImage}
use Rattle.vm_facts.specs.Answers.{Answers}
use Rattle.vm_facts.specs.declared.page.Page.{Page}
use Rattle.vm_facts.specs.declared.regs.Regs.{Regs}
use Rattle.user_vax.specs.Program.{run}
use Rattle.user_vax.specs.Effects.{Effect}
use Rattle.user_vax.specs.Instruction.{instruction}
use Rattle.user_vax.specs.declared.refused.Refused.{Refused}
use Rattle.user_vax.specs.declared.refused.Refused.TheVariants.{Miss, Below, Signal}
use Rattle.flat_state.specs.Space.{Space, answers_of}
use Rattle.flat_state.specs.Flat.{Holds, Process, Inputs, process_of}
use Rattle.page_model.specs.Pages.{is_valid}
use Rattle.page_model.specs.Placement.{state_of}
use Rattle.kernel_model.specs.Kernel.{Kernel}
use Rattle.fault_fill.specs.UserMemory.{kernel_answers, page_in}
use Rattle.flat_model.specs.declared.calls.Reply.{Reply}
use Rattle.flat_model.specs.declared.calls.SystemCall.{SystemCall}
use Rattle.flat_model.specs.Calls.{call_of}
use Rattle.flat_model.specs.Step.{reply_asked}
use Rattle.flat_model.specs.Instruction.{instruction_in}
use Rattle.economy_laws.specs.Shown.{IsCallOf}
use Rattle.run_model.specs.State.{State}
use Rattle.run_model.specs.Wanted.{wanted, touched_next, AllValid}
use Rattle.run_model.specs.Kinds.{ProcessRuns}
use Rattle.fault_fill.specs.declared.access.Access.TheVariants as accesses
use Rattle.fault_fill.specs.Growth.{access_to}
use Rattle.run_units.specs.Serving.{At}

-- a process that runs, and its space
pub record RunsInSpace (A : Inputs) (s : State) (pid : ℕ) (now : Bool) (p : Process) (x : Space) : Type 0 where
  pub runs : ProcessRuns A s pid now
  pub here : process_of s.point.flat pid ≡ Some p
  pub holds : p.holding ≡ Holds x

-- the first page that the process touches and that isn't valid is the one of this address, and what an access of it asks for
pub record WantsPage (A : Inputs) (s : State) (k : Kernel) (x : Space) (address : ℕ) (write : Bool) : Type 0 where
  pub before : List Page
  pub page : Page
  pub rest : List Page
  pub touched : touched_next A s ≡ before ++ page ∷ rest
  pub valid : AllValid s.place before
  pub absent : is_valid (state_of s.place page) ≡ false
  pub at : page_in k.place x.sid address ≡ Some page
  pub asks : access_to k.place x.sid address write ≡ accesses.Page page

-- where the instruction misses a byte, its process waits for that byte's page
abbrev pub MissIsWanted : Type 0
MissIsWanted =
    (A : Inputs) (s : State) (k : Kernel) (image : SwapImage) (pid : ℕ) (now : Bool) (p : Process) (x : Space) (address : ℕ) (write : Bool)
    → At A s k image → RunsInSpace A s pid now p x → run (kernel_answers k x.sid) (instruction p.regs) ≡ Err (Miss address write)
    → WantsPage A s k x address write

-- none of the eight calls
abbrev pub MakesNone : Option ℤ → Type 0
MakesNone None = Unit {0}
MakesNone (Some number) = call_of number ≡ None

-- the instruction comes to an end of its own, and makes none of the eight calls
abbrev pub IsWhole : Result Effect Refused → Type 0
IsWhole (Ok effect) = MakesNone effect.call
IsWhole (Err (Miss address write)) = ⊥
IsWhole (Err (Below address)) = Unit {0}
IsWhole (Err (Signal number)) = Unit {0}

-- the process waits for no page, and its instruction comes to the same over the flat memory
pub record IsReadyFor (A : Inputs) (s : State) (p : Process) (x : Space) (r : Result Effect Refused) : Type 0 where
  pub unwanted : wanted A s ≡ None
  pub same : instruction_in x p.regs ≡ r

-- where it doesn't, and makes none of the eight calls, the process waits for none
abbrev pub NoMissIsReady : Type 0
NoMissIsReady =
    (A : Inputs) (s : State) (k : Kernel) (image : SwapImage) (pid : ℕ) (now : Bool) (p : Process) (x : Space)
    → At A s k image → RunsInSpace A s pid now p x → IsWhole (run (kernel_answers k x.sid) (instruction p.regs))
    → IsReadyFor A s p x (run (kernel_answers k x.sid) (instruction p.regs))

-- an instruction that makes a call writes nothing itself
abbrev pub CallsWriteNothing : Type 0
CallsWriteNothing =
    (memory : Answers) (regs : Regs) (effect : Effect) (number : ℤ) → run memory (instruction regs) ≡ Ok effect → effect.call ≡ Some number
    → effect.writes ≡ []

-- what a call reads misses no byte
abbrev pub IsAnswered : Result Reply Refused → Type 0
IsAnswered (Err (Miss address write)) = ⊥
IsAnswered _ = Unit {0}

-- the process waits for no page; over the flat memory its instruction comes to this call, writes nothing itself, and the call
-- comes to this
pub record IsCalledFor (A : Inputs) (s : State) (p : Process) (x : Space) (call : SystemCall) (effect : Effect) (r : Result Reply Refused) : Type 0 where
  pub unwanted : wanted A s ≡ None
  pub same : instruction_in x p.regs ≡ Ok effect
  pub writes : effect.writes ≡ []
  pub replies : run (answers_of x) (reply_asked A.images s.point.flat p x call effect) ≡ r

-- where the reads of a call miss a byte, its process waits for that byte's page
abbrev pub CallMissIsWanted : Type 0
CallMissIsWanted =
    (A : Inputs) (s : State) (k : Kernel) (image : SwapImage) (pid : ℕ) (now : Bool) (p : Process) (x : Space) (effect : Effect) (call : SystemCall)
    (address : ℕ) (write : Bool)
    → At A s k image → RunsInSpace A s pid now p x → run (kernel_answers k x.sid) (instruction p.regs) ≡ Ok effect → IsCallOf effect call
    → run (kernel_answers k x.sid) (reply_asked A.images s.point.flat p x call effect) ≡ Err (Miss address write) → WantsPage A s k x address write

-- where they don't it waits for none
abbrev pub CallIsReady : Type 0
CallIsReady =
    (A : Inputs) (s : State) (k : Kernel) (image : SwapImage) (pid : ℕ) (now : Bool) (p : Process) (x : Space) (effect : Effect) (call : SystemCall)
    → At A s k image → RunsInSpace A s pid now p x → run (kernel_answers k x.sid) (instruction p.regs) ≡ Ok effect → IsCallOf effect call
    → IsAnswered (run (kernel_answers k x.sid) (reply_asked A.images s.point.flat p x call effect))
    → IsCalledFor A s p x call effect (run (kernel_answers k x.sid) (reply_asked A.images s.point.flat p x call effect))
