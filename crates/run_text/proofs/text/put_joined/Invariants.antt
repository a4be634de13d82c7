-- What waits and what is left make the rest of the text.
use Rattle.std.proofs.Common.{◌≤◌, ◌*◌, ◌++◌, drop}
use Rattle.run_text.specs.Text.{lines_of, joined, without_paging}
use Rattle.run_text.specs.Running.{waiting, waiting_count}
use Rattle.run_text.proofs.Putting.{Leaves}
use Rattle.run_text.proofs.text.put_joined.Given as goal

abbrev pub invariant-loop-e : goal.invariant-loop-e
invariant-loop-e g l =
    Leaves g.S.Sink (lines_of (joined (waiting l.run ++ without_paging (drop l.e-index l.entries)))) (lines_of (joined (without_paging l.entries))) l.fn.out l.out
    × (waiting_count l.run ≤ l.e-index * 4294967296)
