-- One more frame.
use Rattle.std.proofs.Common.{◌<◌, length, arith}
use Rattle.run_stats.specs.Looks.{valid_frame, valid_frames}
use Rattle.run_stats.proofs.Folds.{count_first, count_next, count_done}
use Rattle.run_stats.proofs.valid.valid_frames.Goals as goal

pub loop-before-init : goal.loop-before-init
loop-before-init c =
    let p = c.args.machine.now.kernel.place in
    record { sum = count_first (valid_frame p) (length p.holds); fits = omega arith }

pub loop-before-preserved : goal.loop-before-preserved
loop-before-preserved c =
    let p = c.args.machine.now.kernel.place in
    let within : c.loop-before.before < length p.holds = omega (arith, c.frames-before-end.ensures.count, c.core-core.ensures.frames, c.loop-before-test.true) in
    let h = c.loop-before.invariant in
    record {
      sum = count_next (valid_frame p) c.loop-before.before (length p.holds) c.loop-before.valid c.valid_frame-valid.result (valid_frames p) within c.valid_frame-valid.ensures.value h.sum;
      fits = omega (arith, h.fits, c.valid_frame-valid.ensures.most);
    }

pub returns : goal.returns
returns c =
    let p = c.args.machine.now.kernel.place in
    count_done (valid_frame p) c.loop-before.before (length p.holds) c.loop-before.valid (valid_frames p)
    (omega (arith, c.frames-before-end.ensures.count, c.core-core.ensures.frames, c.loop-before-test.false)) c.loop-before.invariant.sum
