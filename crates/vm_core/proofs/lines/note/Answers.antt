use Rattle.std.proofs.lemmas.Result.{on_ok_weaker}
use Rattle.proc_run.specs.Stops.{StopsBefore}
use Rattle.proc_run.specs.Sizes.{KeptAtStop}
use Rattle.proc_run.proofs.StopsKeep.{before_same}
use Rattle.vm_core.proofs.Noting.{stops_noting, stops_weaker}
use Rattle.vm_core.proofs.Steadying.{noted_first, noted_steady}
use Rattle.vm_core.proofs.lines.note.Goals as goal

pub returns-clause-first : goal.returns-clause-first
returns-clause-first c = on_ok_weaker c.note.result (noted_first c.args.m.now c.note.new.self c.args.e c.requires.note) c.note.ensures.performs.step

pub returns-clause-steady : goal.returns-clause-steady
returns-clause-steady c =
    noted_steady c.note.result c.args.m.now c.note.new.self c.args.e c.requires.clear c.requires.frames c.requires.note c.note.ensures.performs.step c.note.ensures.performs.rest
    c.note.ensures.performs.goes_on

pub returns-clause-stops : goal.returns-clause-stops
returns-clause-stops c = stops_noting c.note.result c.args.m.now c.note.new.self c.requires.ready.whole c.note.ensures.stops

pub returns-clause-kept : goal.returns-clause-kept
returns-clause-kept c =
    stops_weaker c.note.result (StopsBefore c.args.m.now c.note.new.self) (KeptAtStop c.args.m.now c.note.new.self) (before_same c.args.m.now c.note.new.self)
    (stops_noting c.note.result c.args.m.now c.note.new.self c.requires.ready.whole c.note.ensures.stops)
