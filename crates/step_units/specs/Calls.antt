-- The statements that a machine goes on after each call of a process.
use Rattle.std.specs.Prelude.{ℕ, List, Option, Result, Ok, Err}
use Rattle.vm_facts.specs.SwapImages.{SwapImage}
use Rattle.vm_facts.specs.Answers.{Answers}
use Rattle.vm_facts.specs.declared.page.Page.TheVariants.{Stack}
use Rattle.vm_facts.specs.declared.regs.Regs.{Regs}
use Rattle.io_edge.specs.FileHolding.{NamedFile}
use Rattle.user_vax.specs.Program.{run}
use Rattle.user_vax.specs.declared.refused.Refused.{Refused}
use Rattle.flat_state.specs.Flat.{NamedImage}
use Rattle.flat_state.specs.declared.change.Change.TheVariants.{Exec}
use Rattle.flat_model.specs.declared.calls.Reply.{Reply}
use Rattle.flat_model.specs.declared.calls.Reply.TheVariants.{Fails, Does}
use Rattle.flat_model.specs.declared.calls.SystemCall.{SystemCall}
use Rattle.flat_model.specs.declared.calls.SystemCall.TheVariants.{Write, Wait}
use Rattle.flat_model.specs.Calls.{write_reply, execve_reply}
use Rattle.machine_state.specs.Machine.{Standing}
use Rattle.proc_calls.specs.declared.replying.Called.{Called}
use Rattle.proc_calls.specs.declared.replying.Called.TheVariants as calls
use Rattle.proc_calls.specs.Answered.{Replied, Comes}
use Rattle.proc_calls.specs.Callers.{IsCaller}
use Rattle.proc_calls.specs.Copying.{HasCopied}
use Rattle.proc_calls.specs.Filling.{FillsStart}
use Rattle.proc_calls.specs.Forking.{Forked}
use Rattle.proc_calls.specs.Leaving.{HasEnded, ExitComes}
use Rattle.proc_calls.specs.Making.{IsRefused, Vforked}
use Rattle.proc_calls.specs.Sizing.{BreakComes}
use Rattle.proc_calls.specs.Starting.{HasStarted, ExecComes}
use Rattle.proc_calls.specs.Waiting.{wait_answer}
use Rattle.step_units.specs.Entries.{LeavesNone}
use Rattle.step_units.specs.Ready.{Continues}

-- the instructions that a call counts, by what it comes to
abbrev pub called_count : Called → ℕ
called_count calls.Ready = 1
called_count (calls.Miss address) = 0
called_count calls.Asleep = 0
called_count calls.Gone = 1

-- a reply after which no page is due, where none was
abbrev pub RepliesNone : Reply → Type 0
RepliesNone (Does regs change) = LeavesNone change
RepliesNone _ = Unit {0}

-- such a reply, or reads that are refused
abbrev pub AnswersNone : Result Reply Refused → Type 0
AnswersNone (Ok reply) = RepliesNone reply
AnswersNone (Err refused) = Unit {0}

-- an image that starts, or an error
abbrev pub StartsOrFails : Result Reply Refused → Type 0
StartsOrFails (Ok (Does regs (Exec image top))) = Unit {0}
StartsOrFails (Ok (Fails error)) = Unit {0}
StartsOrFails (Ok _) = ⊥
StartsOrFails (Err refused) = Unit {0}

-- A call that replies at once.
abbrev pub ReplyContinues : Type 0
ReplyContinues =
    (old new : Standing) (pid : ℕ) (call : SystemCall) (regs : Regs) (reply : Reply) (called : Called) → IsCaller old pid → RepliesNone reply
    → Replied old new pid call regs reply called → Continues old new (called_count called)

-- a call that reads before it replies
abbrev pub CallContinues : Type 0
CallContinues =
    (old new : Standing) (pid : ℕ) (call : SystemCall) (regs : Regs) (r : Result Reply Refused) (called : Called) → IsCaller old pid → AnswersNone r
    → Comes old new pid call regs r called → Continues old new (called_count called)

-- A write, whatever the memory that it reads.
abbrev pub WriteContinues : Type 0
WriteContinues =
    (old new : Standing) (pid : ℕ) (regs : Regs) (memory : Answers) (called : Called) → IsCaller old pid
    → Comes old new pid Write regs (run memory (write_reply regs)) called → Continues old new (called_count called)

-- a wait
abbrev pub WaitContinues : Type 0
WaitContinues =
    (old new : Standing) (pid : ℕ) (regs : Regs) (called : Called) → IsCaller old pid → Replied old new pid Wait regs (wait_answer old.kernel pid regs) called
    → Continues old new (called_count called)

-- A vfork.
abbrev pub VforkContinues : Type 0
VforkContinues = (old new : Standing) (pid : ℕ) (regs : Regs) → IsCaller old pid → Vforked old new pid regs → Continues old new 1

-- a fork, once all pages that are due were copied
abbrev pub ForkContinues : Type 0
ForkContinues =
    (old new : Standing) (pid : ℕ) (regs : Regs) (holds : Option (List NamedFile)) (before after : Option SwapImage) → IsCaller old pid
    → Forked old new pid regs holds before after → HasCopied old new → Continues old new 1

-- An end of a process.
abbrev pub EndContinues : Type 0
EndContinues =
    (old new : Standing) (pid status : ℕ) (holds : Option (List NamedFile)) (before after : Option SwapImage) → IsCaller old pid
    → HasEnded old new pid status holds before after → Continues old new 1

-- an exit
abbrev pub ExitContinues : Type 0
ExitContinues =
    (old new : Standing) (pid : ℕ) (regs : Regs) (r : Result Reply Refused) (holds : Option (List NamedFile)) (before after : Option SwapImage)
    (called : Called)
    → IsCaller old pid → ExitComes old new pid regs r holds before after called → Continues old new (called_count called)

-- A break.
abbrev pub BreakContinues : Type 0
BreakContinues =
    (old new : Standing) (pid : ℕ) (regs : Regs) (r : Result ℕ Refused) (holds : Option (List NamedFile)) (before after : Option SwapImage) (called : Called)
    → IsCaller old pid → BreakComes old new pid regs r holds before after called → Continues old new (called_count called)

-- A call whose pieces find no place.
abbrev pub RefusalContinues : Type 0
RefusalContinues =
    (old new : Standing) (pid : ℕ) (call : SystemCall) (regs : Regs) → IsCaller old pid → IsRefused old new pid call regs → Continues old new 1

-- an execve, once its new stack page was filled
abbrev pub StartContinues : Type 0
StartContinues =
    (old between new : Standing) (pid : ℕ) (after : Regs) (image : ℕ) (top : List ℕ) (holds later : Option (List NamedFile))
    (h i j : Option SwapImage) → IsCaller old pid
    → HasStarted old between pid after image top holds h i → FillsStart (Stack old.kernel.next_sid 0) between new later i j → Continues old new 1

-- An execve replies nothing else, whatever the memory that it reads.
abbrev pub ExecStarts : Type 0
ExecStarts = (known : List NamedImage) (memory : Answers) (regs : Regs) → StartsOrFails (run memory (execve_reply known regs))

-- An execve, whatever the memory that it reads.
abbrev pub ExecContinues : Type 0
ExecContinues =
    (old new : Standing) (pid : ℕ) (regs : Regs) (known : List NamedImage) (memory : Answers) (holds : Option (List NamedFile))
    (i j : Option SwapImage) (called : Called)
    → IsCaller old pid → ExecComes old new pid regs (run memory (execve_reply known regs)) holds i j called → Continues old new (called_count called)
