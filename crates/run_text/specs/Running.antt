-- A `Ran` that may still be joined by the next one, while the other lines are written.
use Rattle.std.specs.Prelude.{ℕ, ◌+◌, ◌==◌, Bool, true, false, List, [], ◌∷◌, ◌++◌, Option, Some, None}
use Rattle.vm_facts.specs.declared.entry.Entry.{Entry}
use Rattle.vm_facts.specs.declared.entry.Entry.TheVariants.{Ran}
use Rattle.run_text.specs.declared.waiting.Run.{Run}
use Rattle.run_text.specs.Text.{line_of, is_paging}

-- the waiting entry
abbrev pub waiting : Option Run → List Entry
waiting None = []
waiting (Some r) = Ran r.pid r.count ∷ []

-- its line
abbrev pub waiting_text : Option Run → List ℕ
waiting_text None = []
waiting_text (Some r) = line_of (Ran r.pid r.count)

-- its count
abbrev pub waiting_count : Option Run → ℕ
waiting_count None = 0
waiting_count (Some r) = r.count

-- what is written where a `Ran` comes, which may be one of the same process
abbrev pub text_unless_same : Bool → Run → List ℕ
text_unless_same true r = []
text_unless_same false r = line_of (Ran r.pid r.count)

-- the line that is written before a `Ran` of this process; none where the two are joined
abbrev pub text_before : Option Run → ℕ → List ℕ
text_before None pid = []
text_before (Some r) pid = text_unless_same (r.pid == pid) r

-- what waits then
abbrev pub lengthened : Bool → Run → ℕ → ℕ → Run
lengthened true r pid count = record { pid = r.pid; count = r.count + count }
lengthened false r pid count = record { pid = pid; count = count }

-- the `Ran` that waits once this one came: both as one where they are of one process
abbrev pub run_with : Option Run → ℕ → ℕ → Run
run_with None pid count = record { pid = pid; count = count }
run_with (Some r) pid count = lengthened (r.pid == pid) r pid count

-- what is written where an entry comes that isn't a `Ran`, which may be a paging entry
abbrev pub other_text : Bool → Option Run → Entry → List ℕ
other_text true run e = []
other_text false run e = waiting_text run ++ line_of e

-- what waits after an entry that isn't a `Ran`: the same after a paging entry, else none
abbrev pub other_run : Bool → Option Run → Option Run
other_run true run = run
other_run false run = None

-- what is written where an entry comes
abbrev pub text_at : Option Run → Entry → List ℕ
text_at run (Ran pid count) = text_before run pid
text_at run e = other_text (is_paging e) run e

-- what waits then
abbrev pub run_after : Option Run → Entry → Option Run
run_after run (Ran pid count) = Some (run_with run pid count)
run_after run e = other_run (is_paging e) run
