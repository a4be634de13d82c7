use Rattle.step_units.proofs.Asking.{interrupt_made, idle_ends, interrupt_stops, hands_made, hands_stop, audit_made, audit_stops}
use Rattle.step_units.proofs.PuttingOut.{swapper_made, swapper_stops}
use Rattle.step_units.proofs.lines.lines_are_made.Goals as goal

pub returns-clause-interrupt : goal.returns-clause-interrupt
returns-clause-interrupt c = interrupt_made

pub returns-clause-idle : goal.returns-clause-idle
returns-clause-idle c = idle_ends

pub returns-clause-interrupt_stops : goal.returns-clause-interrupt_stops
returns-clause-interrupt_stops c = interrupt_stops

pub returns-clause-hands : goal.returns-clause-hands
returns-clause-hands c = hands_made

pub returns-clause-hands_stop : goal.returns-clause-hands_stop
returns-clause-hands_stop c = hands_stop

pub returns-clause-audit : goal.returns-clause-audit
returns-clause-audit c = audit_made

pub returns-clause-audit_stops : goal.returns-clause-audit_stops
returns-clause-audit_stops c = audit_stops

pub returns-clause-swapper : goal.returns-clause-swapper
returns-clause-swapper c = swapper_made

pub returns-clause-swapper_stops : goal.returns-clause-swapper_stops
returns-clause-swapper_stops c = swapper_stops
