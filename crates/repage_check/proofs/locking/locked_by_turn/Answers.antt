use Rattle.std.proofs.Common.{sym, subst}
use Rattle.step_judge.proofs.SoFar.{lends_there}
use Rattle.repage_check.specs.Locking.{AreLocked}
use Rattle.repage_check.proofs.Passing.{ready_locked, stuck_locked}
use Rattle.repage_check.proofs.locking.locked_by_turn.Goals as goal

pub touched_and_wanted-requires-clause-lends : goal.touched_and_wanted-requires-clause-lends
touched_and_wanted-requires-clause-lends c =
    lends_there c.args.m.now c.args.pid (record { ready = c.requires.ready; clear = c.requires.clear; frames = c.requires.frames; low = c.requires.low })
    c.in-Some.ensures.ready

pub returns-in_ok-touched_and_wanted-in-Some-clause-locked : goal.returns-in_ok-touched_and_wanted-in-Some-clause-locked
returns-in_ok-touched_and_wanted-in-Some-clause-locked c =
    ready_locked c.args._past c.args.m.now c.args.pid c.in-Some.regs _ c.requires.clear c.requires.none
    c.requires.turn c.in-Some.ensures.ready c.in-Some.ensures.registers c.in_ok-touched_and_wanted-in-Some.ensures.before

pub returns-in-None-clause-locked : goal.returns-in-None-clause-locked
returns-in-None-clause-locked c =
    subst (AreLocked c.args._past c.args.m.now) (sym c.none.ensures)
    (stuck_locked c.args._past c.args.m.now c.args.pid c.requires.clear c.requires.turn (c.ready_regs.ensures.none c.in-None.is))
