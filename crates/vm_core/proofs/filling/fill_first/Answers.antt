use Rattle.io_edge.specs.WithFiles.{stores}
use Rattle.std.proofs.Common.{subst}
use Rattle.std.specs.Prelude.{Option}
use Rattle.vm_facts.specs.declared.page.Page.{Page}
use Rattle.vm_core.specs.Filling.{due_of, IsDueFirst}
use Rattle.vm_core.proofs.Filled.{copy_first, start_due, room_none, copy_fills, start_fills}
use Rattle.vm_core.proofs.filling.fill_first.Goals as goal

pub copy_page-requires-clause-first : goal.copy_page-requires-clause-first
copy_page-requires-clause-first g c =
    copy_first c.args.m.now.kernel.place c.args.page c.in-Some.parent (subst (λ (o : Option Page). IsDueFirst c.args.m.now.kernel.place (due_of c.args.page o)) c.in-Some.is c.requires.first)

pub copy_page-requires-clause-room : goal.copy_page-requires-clause-room
copy_page-requires-clause-room g c = c.requires.room c.in-Some.parent

pub fill_start-requires-clause-first : goal.fill_start-requires-clause-first
fill_start-requires-clause-first g c =
    start_due c.args.m.now.kernel.place c.args.page (subst (λ (o : Option Page). IsDueFirst c.args.m.now.kernel.place (due_of c.args.page o)) c.in-None.is c.requires.first)

pub fill_start-requires-clause-room : goal.fill_start-requires-clause-room
fill_start-requires-clause-room g c = room_none c.args.m.now.kernel.place c.args.page (c.requires.room c.args.page)

pub returns-in-Some-clause-filled : goal.returns-in-Some-clause-filled
returns-in-Some-clause-filled g c =
    copy_fills c.copy_page.result c.args.page c.in-Some.parent c.args.parent c.args.m.now c.copy_page.new.m (g.F.Files.holds c.args.files.now)
    (stores g.F.Files g.D.SwapDev c.args.files.now c.args.swap.now)
    (stores g.F.Files g.D.SwapDev c.copy_page.new.files c.copy_page.new.swap) c.in-Some.is c.copy_page.ensures.copied c.copy_page.ensures.on

pub returns-in-None-clause-filled : goal.returns-in-None-clause-filled
returns-in-None-clause-filled g c =
    start_fills c.fill_start.result c.args.page c.args.parent c.args.m.now c.fill_start.new.m (g.F.Files.holds c.args.files.now) (stores g.F.Files g.D.SwapDev c.args.files.now c.args.swap.now)
    (stores g.F.Files g.D.SwapDev c.fill_start.new.files c.fill_start.new.swap) c.in-None.is c.fill_start.ensures.filled
