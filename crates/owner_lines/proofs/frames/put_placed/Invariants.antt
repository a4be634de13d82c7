-- The lines of some frames passed, and the rest is left.
use Rattle.std.proofs.Common.{◌+◌, ◌-◌, length}
use Rattle.std.specs.List.{flat_map}
use Rattle.page_model.specs.Frames.{count_up}
use Rattle.owner_lines.specs.Owners.{frame_line, frame_lines}
use Rattle.run_text.proofs.Putting.{Leaves}
use Rattle.owner_lines.proofs.frames.put_placed.Given as goal

abbrev pub invariant-loop-before : goal.invariant-loop-before
invariant-loop-before g l =
    let p = l.machine.kernel.place in
    Leaves g.S.Sink (flat_map (frame_line p) (count_up (l.before + 1) (length p.holds - l.before))) (frame_lines p) l.fn.out l.out
