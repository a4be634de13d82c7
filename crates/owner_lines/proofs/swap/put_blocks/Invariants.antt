-- The lines of the blocks up to this one passed, and the rest is left.
use Rattle.std.proofs.Common.{◌-◌}
use Rattle.owner_lines.specs.Owners.{swap_lines}
use Rattle.owner_lines.proofs.Rising.{text_from}
use Rattle.run_text.proofs.Putting.{Leaves}
use Rattle.owner_lines.proofs.swap.put_blocks.Given as goal

abbrev pub invariant-loop-piece : goal.invariant-loop-piece
invariant-loop-piece g l = Leaves g.S.Sink (text_from l.blocks l.from l.holdings) (swap_lines l.blocks l.holdings) l.fn.out l.out

abbrev pub decreases-loop-piece : goal.decreases-loop-piece
decreases-loop-piece g l = l.blocks - l.from
