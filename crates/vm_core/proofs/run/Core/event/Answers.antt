use Rattle.io_edge.specs.WithFiles.{stores}
use Rattle.std.proofs.Common.{sym, subst, arith}
use Rattle.vm_core.specs.Cores.{Underway, StandsUnderway, LineDueAt, LineTaken}
use Rattle.vm_core.specs.Accounts.{StopsAccountedFrom}
use Rattle.vm_core.proofs.Noting.{stops_on}
use Rattle.vm_core.proofs.Taking.{takes_line, stops_carrying, stops_noted}
use Rattle.proc_run.specs.Sizes.{KeptAtStop}
use Rattle.proc_run.specs.Stepped.{LeadsFrom}
use Rattle.proc_run.proofs.StopsKeep.{kept_through}
use Rattle.vm_core.proofs.run.Core.event.Goals as goal

pub returns-in_err-note-clause-stops : goal.returns-in_err-note-clause-stops
returns-in_err-note-clause-stops g c =
    let old : Underway = record { machine = c.self.inside.machine; counted = c.self.inside.counted } in
    let after : Underway = record { machine = c.note.new.m; counted = c.self.inside.counted } in
    let holds = g.F.Files.holds c.args.files.now in
    let i = stores g.F.Files g.D.SwapDev c.args.files.now c.args.swap.now in
    stops_on c.from_residual.result c.in_err-note.field-0.0 (StopsAccountedFrom (LineDueAt c.args.self.now c.args.line c.args.e holds i) c.args.self.now.machine after.machine i)
    c.from_residual.ensures.1
    (subst (λ (u : Underway). StopsAccountedFrom (LineDueAt u c.args.line c.args.e holds i) u.machine after.machine i c.in_err-note.field-0.0) c.self.view_is
    (stops_noted old after holds i c.args.line c.args.e c.in_err-note.field-0.0 c.in_err-note.ensures.stops))

pub carry_out-requires-clause-counted : goal.carry_out-requires-clause-counted
carry_out-requires-clause-counted g c =
    let goes : StandsUnderway (record { machine = c.self.inside.machine; counted = c.self.inside.counted }) = subst StandsUnderway (sym c.self.view_is) c.requires.goes_on in
    let a = c.in_ok-note.ensures.steady.counted in let b = goes.counted in omega arith

pub returns-in_err-self-inside-clause-stops : goal.returns-in_err-self-inside-clause-stops
returns-in_err-self-inside-clause-stops g c =
    let old : Underway = record { machine = c.self.inside.machine; counted = c.self.inside.counted } in
    let after : Underway = record { machine = c.carry_out.new.m; counted = c.self.inside.counted } in
    let holds = g.F.Files.holds c.args.files.now in
    let i = stores g.F.Files g.D.SwapDev c.args.files.now c.args.swap.now in
    let j = stores g.F.Files g.D.SwapDev c.carry_out.new.files c.carry_out.new.swap in
    stops_on c.from_residual-in_err-self-inside.result c.in_err-self-inside.field-0.0
    (StopsAccountedFrom (LineDueAt c.args.self.now c.args.line c.args.e holds i) c.args.self.now.machine after.machine j) c.from_residual-in_err-self-inside.ensures.1
    (subst (λ (u : Underway). StopsAccountedFrom (LineDueAt u c.args.line c.args.e holds i) u.machine after.machine j c.in_err-self-inside.field-0.0) c.self.view_is
    (stops_carrying old after c.note.new.m holds i j c.args.line c.args.e c.in_err-self-inside.field-0.0 c.in_ok-note.ensures.steady c.in_ok-note.ensures.step
    c.in_err-self-inside.ensures.stops))

pub returns-then-is_over-clause-takes : goal.returns-then-is_over-clause-takes
returns-then-is_over-clause-takes g c =
    let old : Underway = record { machine = c.self.inside.machine; counted = c.self.inside.counted } in
    let after : Underway = record { machine = c.carry_out.new.m; counted = c.in_ok-self-inside.field-0 } in
    let holds = g.F.Files.holds c.args.files.now in
    let i = stores g.F.Files g.D.SwapDev c.args.files.now c.args.swap.now in
    let j = stores g.F.Files g.D.SwapDev c.carry_out.new.files c.carry_out.new.swap in
    subst (λ (u : Underway). LeadsFrom (LineDueAt u c.args.line c.args.e holds i) (LineTaken u after holds j)) c.self.view_is
    (takes_line old c.note.new.m c.carry_out.new.m holds i j c.args.line c.in_ok-self-inside.field-0 c.args.e c.in_ok-note.ensures.steady c.in_ok-note.ensures.step
    c.in_ok-self-inside.ensures.done c.in_ok-self-inside.ensures.counts)

pub returns-else-is_over-clause-takes : goal.returns-else-is_over-clause-takes
returns-else-is_over-clause-takes g c =
    let old : Underway = record { machine = c.self.inside.machine; counted = c.self.inside.counted } in
    let after : Underway = record { machine = c.carry_out.new.m; counted = c.in_ok-self-inside.field-0 } in
    let holds = g.F.Files.holds c.args.files.now in
    let i = stores g.F.Files g.D.SwapDev c.args.files.now c.args.swap.now in
    let j = stores g.F.Files g.D.SwapDev c.carry_out.new.files c.carry_out.new.swap in
    subst (λ (u : Underway). LeadsFrom (LineDueAt u c.args.line c.args.e holds i) (LineTaken u after holds j)) c.self.view_is
    (takes_line old c.note.new.m c.carry_out.new.m holds i j c.args.line c.in_ok-self-inside.field-0 c.args.e c.in_ok-note.ensures.steady c.in_ok-note.ensures.step
    c.in_ok-self-inside.ensures.done c.in_ok-self-inside.ensures.counts)

pub returns-in_err-note-clause-kept : goal.returns-in_err-note-clause-kept
returns-in_err-note-clause-kept g c =
    stops_on c.from_residual.result c.in_err-note.field-0.0 (KeptAtStop c.args.self.now.machine c.note.new.m) c.from_residual.ensures.1
    (subst (λ (u : Underway). KeptAtStop u.machine c.note.new.m c.in_err-note.field-0.0) c.self.view_is c.in_err-note.ensures.kept)

pub returns-in_err-self-inside-clause-kept : goal.returns-in_err-self-inside-clause-kept
returns-in_err-self-inside-clause-kept g c =
    let noted = c.in_ok-note.ensures.steady in
    stops_on c.from_residual-in_err-self-inside.result c.in_err-self-inside.field-0.0 (KeptAtStop c.args.self.now.machine c.carry_out.new.m) c.from_residual-in_err-self-inside.ensures.1
    (subst (λ (u : Underway). KeptAtStop u.machine c.carry_out.new.m c.in_err-self-inside.field-0.0) c.self.view_is
    (kept_through c.self.inside.machine c.note.new.m c.carry_out.new.m c.in_err-self-inside.field-0.0 (record { params = noted.params; images = noted.images }) c.in_err-self-inside.ensures.kept))
