-- One more frame's line passes, or fails.
use Rattle.std.proofs.Common.{rules, arith, ◌≡◌, ◌<◌, length}
use Rattle.owner_lines.specs.Owners.{frame_line, frame_lines}
use Rattle.owner_lines.proofs.Counting.{count_none, count_more, count_all}
use Rattle.run_text.proofs.Putting.{leaves_all, leaves_is, leaves_rest, leaves_failed, leaves_none}
use Rattle.owner_lines.proofs.frames.put_placed.Goals as goal

pub put_frame-requires-clause-frame : goal.put_frame-requires-clause-frame
put_frame-requires-clause-frame g c = (omega arith, omega (arith, c.frames-before-end.ensures.count, c.requires.shows.frames, c.loop-before-test.true))

pub loop-before-init : goal.loop-before-init
loop-before-init g c =
    let p = c.args.machine.now.kernel.place in
    leaves_is (count_none (frame_line p) (length p.holds)) (leaves_all {t = frame_lines p} (g.met.S.Sink.leads_nowhere c.args.out.now.sink.now))

pub returns-in_err-put_frame : goal.returns-in_err-put_frame
returns-in_err-put_frame g c =
    let p = c.args.machine.now.kernel.place in
    let within : c.loop-before.before < length p.holds = omega (arith, c.frames-before-end.ensures.count, c.requires.shows.frames, c.loop-before-test.true) in
    let here = count_more (frame_line p) c.loop-before.before (length p.holds) within in
    leaves_failed g.met.S.Sink.leads_through c.loop-before.invariant c.in_err-put_frame.ensures _ here (search rules)

pub loop-before-preserved : goal.loop-before-preserved
loop-before-preserved g c =
    let p = c.args.machine.now.kernel.place in
    let within : c.loop-before.before < length p.holds = omega (arith, c.frames-before-end.ensures.count, c.requires.shows.frames, c.loop-before-test.true) in
    let here = count_more (frame_line p) c.loop-before.before (length p.holds) within in
    leaves_rest g.met.S.Sink.leads_through c.loop-before.invariant c.in_ok-put_frame.ensures here

pub returns : goal.returns
returns g c =
    let p = c.args.machine.now.kernel.place in
    let all : c.loop-before.before ≡ length p.holds =
    omega (arith, c.frames-before-end.ensures.count, c.requires.shows.frames, c.loop-before-test.false, c.loop-before.auto.before-end) in
    leaves_none c.loop-before.invariant (count_all (frame_line p) c.loop-before.before (length p.holds) all)
