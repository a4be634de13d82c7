use Rattle.std.proofs.Common.{◌≤◌, length, subst}
use Rattle.table_steps.specs.Machine.{Standing}
use Rattle.machine_state.proofs.Stepping.{is_running}
use Rattle.machine_state.proofs.machine.Machine.always.Goals as goal

pub returns : goal.returns
returns c = record {
  within = subst (λ (s : Standing). length s.kernel.journal ≤ s.params.journal) c.self.view_is c.self.invariant.within;
  running = is_running c.self.inside c.args.self.now c.self.invariant c.self.view_is;
}
