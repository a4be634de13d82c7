-- What is told of a trace that was judged in memory.
use Rattle.std.specs.Prelude.{◌≡◌, ℕ, ◌-◌, nat_le, Bool, List, length, slice_get, take, Option, Some, None, Result, Ok, Err}
use Rattle.vm_facts.specs.declared.page.PageState.TheVariants.{Coming, Going}
use Rattle.swap_book.specs.Holdings.{Holdings}
use Rattle.flat_state.specs.Flat.{Inputs}
use Rattle.flat_model.specs.Asked.{start_held}
use Rattle.page_model.specs.Placement.{Placement}
use Rattle.run_model.specs.State.{State, start}
use Rattle.owner_lines.specs.Owners.{carrier}
use Rattle.owner_lines.specs.Account.{text_at}
use Rattle.paged_model.specs.declared.reason.Reason.{Reason}
use Rattle.paged_model.specs.declared.reason.Reason.TheVariants.{InState}
use Rattle.paged_model.specs.declared.reason.Misstep.{Misstep}
use Rattle.paged_model.specs.declared.line.Line.{Line}
use Rattle.paged_model.specs.Traces.{trace_state, first_trace_misstep, IsPagedTrace}
use Rattle.repage_check.specs.Verdicts.{HasMisstep, IsJudged}
use Rattle.command_edge.specs.declared.fault.Fault.{Fault}
use Rattle.command_edge.specs.declared.fault.Fault.TheVariants.{NoMemory, NoSpace, NotPaged}
use Rattle.command_edge.specs.Ending.{Ending}
use Rattle.repage_check.specs.declared.checking.Verdict.TheVariants.{Paged}
use Rattle.repage_command.specs.declared.judging.Judged.{Judged}
use Rattle.repage_command.specs.declared.judging.Repaged.{Repaged}
use Rattle.repage_command.specs.Telling.{paged_line, misstep_line}

-- the state to which these lines lead, from a start with these holdings
abbrev pub traced_to : Inputs → Holdings → List Line → State
traced_to A hs ls = trace_state A (start A hs) ls

-- who owns what behind these lines, from a start with these holdings
abbrev pub owners_led : Inputs → Holdings → Bool → List Line → List ℕ
owners_led A hs over ls = text_at A (length (traced_to A hs ls).journal) over (traced_to A hs ls)

-- These lines were judged. Where they are a run of the paged machine the transfer is told that has this frame behind the last of them, and who
-- owns what there, where that is asked.
pub record TellsJudged (A : Inputs) (ls : List Line) (frame : ℕ) (asked : Option Bool) (judged : Judged) : Type 0 where
  pub verdict : IsJudged A ls judged.verdict
  pub transfer : judged.verdict ≡ Paged → (hs : Holdings) → start_held A ≡ Ok hs → judged.transfer ≡ carrier (traced_to A hs ls).place frame
  pub owners : judged.verdict ≡ Paged → (over : Bool) → asked ≡ Some over → (hs : Holdings) → start_held A ≡ Ok hs
      → judged.owners.items ≡ owners_led A hs over ls

-- how judging them ends
abbrev pub EndsJudging : Inputs → List Line → ℕ → Option Bool → Result Judged Fault → Type 0
EndsJudging A ls frame asked (Ok judged) = TellsJudged A ls frame asked judged
EndsJudging A ls frame asked (Err NoMemory) = Unit {0}
EndsJudging A ls frame asked (Err _) = ⊥

-- the frame of a page that isn't valid since it is in a transfer
abbrev pub frame_away : Reason → Option ℕ
frame_away (InState q (Coming frame)) = Some frame
frame_away (InState q (Going frame)) = Some frame
frame_away _ = None

-- the number of the transfer that has such a frame; 0 where there is none
abbrev pub transfer_by : Placement → Option ℕ → ℕ
transfer_by p None = 0
transfer_by p (Some frame) = carrier p frame

-- the number of the transfer that a reason at a line speaks of, from a start with these holdings
abbrev pub transfer_at : Inputs → Holdings → List Line → ℕ → Reason → ℕ
transfer_at A hs ls line reason = transfer_by (traced_to A hs (take (line - 1) ls)).place (frame_away reason)

-- The first line that can't come, and the line that tells why.
pub record TellsMisstep (A : Inputs) (ls : List Line) (line : ℕ) (why : List ℕ) : Type 0 where
  pub holdings : Holdings
  pub found : start_held A ≡ Ok holdings
  pub misstep : Misstep
  pub first : first_trace_misstep A holdings ls ≡ Some misstep
  pub same : line ≡ misstep.line
  pub told : why ≡ misstep_line line (slice_get ls (line - 1)) (transfer_at A holdings ls line misstep.reason) misstep.reason

-- what is told by the first line that can't come, or none
abbrev pub TellsBad : Inputs → List Line → Option ℕ → List ℕ → Type 0
TellsBad A ls None why = IsPagedTrace A ls
TellsBad A ls (Some line) why = TellsMisstep A ls line why

-- What is told of a trace.
pub record TellsRepaged (A : Inputs) (ls : List Line) (repaged : Repaged) : Type 0 where
  pub count : repaged.lines ≡ length ls
  pub bad : TellsBad A ls repaged.bad repaged.why.items

-- how judging a trace ends
abbrev pub EndsRepaging : Inputs → List Line → Result Repaged Fault → Type 0
EndsRepaging A ls (Ok repaged) = TellsRepaged A ls repaged
EndsRepaging A ls (Err NoMemory) = Unit {0}
EndsRepaging A ls (Err (NoSpace pid)) = start_held A ≡ Err pid
EndsRepaging A ls (Err _) = ⊥

-- Of what is told.

-- the line that tells why, where a line can't come
abbrev pub why_if : Option ℕ → List ℕ → Option (List ℕ)
why_if None why = None
why_if (Some line) why = Some why

-- how the command ends by it
abbrev pub IsRepageEnding : Repaged → Ending → Type 0
IsRepageEnding repaged (Ok output) = (repaged.bad ≡ None) × (output ≡ paged_line repaged.lines)
IsRepageEnding repaged (Err NoMemory) = Unit {0}
IsRepageEnding repaged (Err (NotPaged line)) = repaged.bad ≡ Some line
IsRepageEnding repaged (Err _) = ⊥

-- Who owns what.

-- So many of these lines are a run of the paged machine, and this is who owns what behind them, with the word for the end where there are no
-- more.
pub record TellsOwners (A : Inputs) (ls : List Line) (wanted : ℕ) (text : List ℕ) : Type 0 where
  pub holdings : Holdings
  pub found : start_held A ≡ Ok holdings
  pub good : first_trace_misstep A holdings (take wanted ls) ≡ None
  pub told : text ≡ owners_led A holdings (nat_le (length ls) wanted) (take wanted ls)

-- how telling it ends
abbrev pub EndsOwning : Inputs → List Line → ℕ → Ending → Type 0
EndsOwning A ls wanted (Ok text) = TellsOwners A ls wanted text
EndsOwning A ls wanted (Err NoMemory) = Unit {0}
EndsOwning A ls wanted (Err (NoSpace pid)) = start_held A ≡ Err pid
EndsOwning A ls wanted (Err (NotPaged line)) = (misstep : Misstep) × HasMisstep A (take wanted ls) misstep × (line ≡ misstep.line)
EndsOwning A ls wanted (Err _) = ⊥
