-- Traces by any policy, with lines that `run` never writes.
use Rattle.std.specs.Prelude.{◌≡◌, ℕ, ◌+◌, zero, suc, List, [], ◌∷◌, ◌++◌, Option, None, Ok}
use Rattle.vm_facts.specs.declared.entry.Entry.{Entry}
use Rattle.vm_facts.specs.declared.entry.Entry.TheVariants as entries
use Rattle.swap_book.specs.Holdings.{Holdings}
use Rattle.flat_state.specs.Flat.{Inputs}
use Rattle.page_model.specs.Placement.{Placement}
use Rattle.kernel_model.specs.declared.part.HandPart.{HandPart}
use Rattle.kernel_model.specs.HandParts.{part_place}
use Rattle.kernel_model.specs.HandMoves.{move_parts}
use Rattle.flat_model.specs.Asked.{start_held}
use Rattle.run_model.specs.State.{State, start}
use Rattle.run_model.specs.Wanted.{locked}
use Rattle.paged_model.specs.declared.line.Line.{Line}
use Rattle.paged_model.specs.declared.line.Line.TheVariants as lines
use Rattle.paged_model.specs.declared.reason.Reason.{Reason}
use Rattle.paged_model.specs.declared.reason.Misstep.{Misstep}
use Rattle.paged_model.specs.Reasons.{or_reason}
use Rattle.paged_model.specs.Steps.{begun}
use Rattle.paged_model.specs.Parts.{part_reason}
use Rattle.paged_model.specs.Runs.{paged_after, line_reason, line_after, misstep_or}

-- Lines.

-- why a line can't come at a state; none where it may
abbrev pub trace_line_reason : Inputs → State → Line → Option Reason
trace_line_reason A s (lines.RunLine e) = line_reason A s e
trace_line_reason A s (lines.Part x) = or_reason (begun s.point.last) (part_reason s.place x)

-- the state after a line; a part of a move changes where pages are, and no entry is made for it
abbrev pub trace_line_after : Inputs → State → Line → State
trace_line_after A s (lines.RunLine e) = line_after A s e
trace_line_after A s (lines.Part x) = record s { place = part_place s.place x }

-- the entries among these lines
abbrev pub entries_in : List Line → List Entry
entries_in [] = []
entries_in (lines.RunLine e ∷ ls) = e ∷ entries_in ls
entries_in (lines.Part x ∷ ls) = entries_in ls

-- Traces.

-- the state after these lines, in order
unfoldable pub trace_state : Inputs → State → List Line → State
trace_state A s [] = s
trace_state A s (l ∷ ls) = trace_state A (trace_line_after A s l) ls

-- the first line that can't come, of lines from a number and a state on
unfoldable pub trace_misstep : Inputs → State → ℕ → List Line → Option Misstep
trace_misstep A s n [] = None
trace_misstep A s n (l ∷ ls) = misstep_or n (trace_line_reason A s l) (trace_misstep A (trace_line_after A s l) (n + 1) ls)

-- the first line of a trace that can't come, from a start with these holdings
abbrev pub first_trace_misstep : Inputs → Holdings → List Line → Option Misstep
first_trace_misstep A hs ls = trace_misstep A (start A hs) 1 ls

-- A trace of such lines is a run of the paged machine: the first processes' pieces find their places, and each line may come where it stands.
pub record IsPagedTrace (A : Inputs) (ls : List Line) : Type 0 where
  pub holdings : Holdings
  pub found : start_held A ≡ Ok holdings
  pub good : first_trace_misstep A holdings ls ≡ None

-- Moves of the hands.

-- the parts of so many moves of the hands, one after another, each with the pages that are locked where it comes
abbrev pub moves_parts : Inputs → State → ℕ → List HandPart
moves_parts A s zero = []
moves_parts A s (suc n) = move_parts s.place (locked A s) ++ moves_parts A (paged_after A s (entries.Hands 1)) n

-- a placement with the hands where they stand in another
abbrev pub with_hands : Placement → Placement → Placement
with_hands p q = record q { front = p.front; back = p.back }
