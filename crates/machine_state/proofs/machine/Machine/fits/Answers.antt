use Rattle.machine_state.proofs.Asked.{only_looked, asked_none}
use Rattle.machine_state.proofs.Standings.{runs_by, runs_within}
use Rattle.machine_state.proofs.machine.Machine.fits.Goals as goal

pub invariant_of-self : goal.invariant_of-self
invariant_of-self c =
    runs_within _ (runs_by c.self.inside c.args.self.now c.self.view_is c.requires.ready.running.runs) (λ _.
    asked_none c.self.inside c.args.self.now c.find_all-found.new.book c.self.invariant c.self.view_is c.requires.ready.running.runs
    (only_looked c.find_all-found.result c.self.inside.tables.book c.find_all-found.new.book c.args.wants.now c.find_all-found.ensures.book c.find_all-found.ensures.err))
