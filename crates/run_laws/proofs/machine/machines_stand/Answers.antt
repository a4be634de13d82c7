use Rattle.run_laws.proofs.Going.{unit_goes}
use Rattle.run_laws.proofs.Machines.{start_keeps, unit_keeps, units_keep, makes_follows}
use Rattle.run_laws.proofs.machine.machines_stand.Goals as goal

pub returns : goal.returns
returns c = record {
  start = start_keeps;
  unit = unit_keeps;
  units = units_keep;
  follows = makes_follows;
  goes = unit_goes;
}
