use Rattle.std.proofs.Common.{subst}
use Rattle.table_steps.specs.Tables.{Tables}
use Rattle.table_steps.specs.Machine.{Standing, lists_of}
use Rattle.machine_state.specs.Showing.{ShowsCore}
use Rattle.machine_state.proofs.Standings.{stands_now}
use Rattle.table_steps.proofs.UserFrames.{known_by}
use Rattle.machine_state.proofs.Showings.{core_shows}
use Rattle.machine_state.proofs.machine.Machine.core.Goals as goal

pub returns : goal.returns
returns c =
    let t : Tables = c.self.inside.tables in
    let now = stands_now c.self.inside c.args.self.now c.self.invariant c.self.view_is c.requires.runs in
    let k = known_by t c.self.inside.journal.items c.self.inside.stopped c.stands.ensures now.stands in
    subst (λ (s : Standing). ShowsCore s.kernel.place t.core) c.self.view_is (core_shows (lists_of t) k)
