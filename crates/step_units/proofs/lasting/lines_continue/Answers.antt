use Rattle.step_units.proofs.LinesContinue.{moves_continue, turn_continues, fill_continues}
use Rattle.step_units.proofs.Transfers.{done_continues}
use Rattle.step_units.proofs.lasting.lines_continue.Goals as goal

pub returns-clause-moves : goal.returns-clause-moves
returns-clause-moves c = moves_continue

pub returns-clause-done : goal.returns-clause-done
returns-clause-done c = done_continues

pub returns-clause-turns : goal.returns-clause-turns
returns-clause-turns c = turn_continues

pub returns-clause-fills : goal.returns-clause-fills
returns-clause-fills c = fill_continues
