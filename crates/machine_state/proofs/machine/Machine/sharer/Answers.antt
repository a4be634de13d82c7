use Rattle.std.proofs.Common.{refl, sym, subst}
use Rattle.proc_table.specs.Records.{Lowest}
use Rattle.table_steps.specs.Machine.{Standing, lists_of}
use Rattle.table_steps.specs.View.{placement_of}
use Rattle.table_steps.specs.Sharing.{IsSharer}
use Rattle.table_steps.specs.Tables.{Tables}
use Rattle.machine_state.proofs.Sharers.{lowest_sharer}
use Rattle.machine_state.proofs.machine.Machine.sharer.Goals as goal

pub returns : goal.returns
returns c =
    let t : Tables = c.self.inside.tables in
    subst (λ (s : Standing). Lowest (IsSharer s.kernel.place c.args.image) c.sharer.result) c.self.view_is
    (subst (Lowest (IsSharer (placement_of (lists_of t)) c.args.image)) (sym c.sharer.ensures.first)
    (lowest_sharer (placement_of (lists_of t)) t.core.slots t.spaces c.args.image refl c.sharer.ensures.rising))
