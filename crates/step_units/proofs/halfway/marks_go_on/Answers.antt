use Rattle.vm_facts.specs.declared.entry.Entry.TheVariants as entries
use Rattle.run_units.proofs.Swapping.{line_asks}
use Rattle.step_units.proofs.Stopping.{stops_here}
use Rattle.step_units.proofs.PuttingOut.{in_comes, out_comes, out_stops}
use Rattle.step_units.proofs.halfway.marks_go_on.Goals as goal

pub returns-clause-puts : goal.returns-clause-puts
returns-clause-puts c = out_comes

pub returns-clause-putting_stops : goal.returns-clause-putting_stops
returns-clause-putting_stops c = out_stops

pub returns-clause-brings : goal.returns-clause-brings
returns-clause-brings c = in_comes

pub returns-clause-bringing_stops : goal.returns-clause-bringing_stops
returns-clause-bringing_stops c A s old new image j pid stop clear m x =
    stops_here A s old image stop new j (entries.SwapIn pid) ((line_asks A s clear.clear).0 pid m) x
