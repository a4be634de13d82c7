-- Which entries are no run, and which pages the instructions of a run touch.
use Rattle.std.specs.Prelude.{ℕ, ◌+◌, nat_le, Bool, not, ◌&&◌, List, [], ◌∷◌, ◌++◌, length, take, find, is_some, Option, Some, None}
use Rattle.std.specs.List.{range_with_len}
use Rattle.vm_facts.specs.declared.page.Page.{Page}
use Rattle.vm_facts.specs.declared.entry.Entry.{Entry}
use Rattle.vm_facts.specs.declared.entry.Entry.TheVariants.{Ran, Call, Ended}
use Rattle.flat_state.specs.Flat.{Inputs}
use Rattle.flat_state.specs.Journal.{units_of, instructions_of}
use Rattle.flat_model.specs.Run.{Point, flat_entry, flat_run, start_point}
use Rattle.flat_model.specs.Touched.{touched}
use Rattle.replay_check.specs.declared.replaying.Verdict.{Verdict}
use Rattle.replay_check.specs.declared.replaying.Verdict.TheVariants as verdicts
use Rattle.replay_check.specs.declared.replaying.TheConstants.{INSTRUCTION_LIMIT}

-- the instructions that a transcript may have
abbrev pub instruction_limit : ℕ
instruction_limit = INSTRUCTION_LIMIT

-- the entries are a run of the flat machine, of no more instructions than may be
abbrev pub is_run : Inputs → List Entry → Bool
is_run A entries = is_some (flat_run A entries) && nat_le (instructions_of entries) instruction_limit

-- the least number of first entries that are no run; none where all are one
abbrev pub first_bad : Inputs → List Entry → Option ℕ
first_bad A entries = find (λ i. not (is_run A (take i entries))) (range_with_len 0 (length entries + 1))

-- the verdict where so many first entries are no run and fewer are one, or where all are one
abbrev pub verdict_of : Option ℕ → Verdict
verdict_of None = verdicts.Run
verdict_of (Some entries) = verdicts.BadEntry entries

-- the pages that a unit touches, where it counts an instruction
abbrev pub touched_by_unit : Inputs → Point → Entry → List Page
touched_by_unit A point (Ran pid count) = touched A point.flat pid
touched_by_unit A point (Call pid number carry r0 r1) = touched A point.flat pid
touched_by_unit A point (Ended pid status) = touched A point.flat pid
touched_by_unit A point _ = []

-- the pages that units touch from a point on, in order; no more after a unit that can't come at its point
unfoldable pub references_from : Inputs → Option Point → List Entry → List Page
references_from A None units = []
references_from A (Some point) [] = []
references_from A (Some point) (u ∷ us) = touched_by_unit A point u ++ references_from A (flat_entry A point u) us

-- for each counted instruction of a journal in order, the pages that it touches
abbrev pub references_of : Inputs → List Entry → List Page
references_of A journal = references_from A (Some (start_point A)) (units_of journal)
