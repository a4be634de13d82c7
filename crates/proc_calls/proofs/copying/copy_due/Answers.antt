use Rattle.io_edge.specs.WithFiles.{stores}
use Rattle.std.proofs.Common.{sym, ◌∙◌, subst, arith, None}
use Rattle.std.proofs.lemmas.Result.{err_from_is_err_and}
use Rattle.proc_calls.specs.Copying.{AreCopiesFrom, IsCopyFirst, OnceCopied}
use Rattle.proc_calls.proofs.Copies.{room_for}
use Rattle.proc_calls.proofs.CopiedPages.{FirstOf, first_of, copy_first, list_first, others_due, stops_first, fewer_due, copies_none, copies_one, copies_all, copied_all}
use Rattle.machine_state.proofs.Transfers.{transfers_none, transfers_then}
use Rattle.proc_calls.proofs.copying.copy_due.Goals as goal

pub loop-child-init : goal.loop-child-init
loop-child-init g c = record {
  asks = c.requires.asks;
  due = c.requires.due;
  room = c.requires.room;
  low = c.requires.low;
  so_far = copies_none c.args.m.now (g.F.Files.holds c.args.files.now) (stores g.F.Files g.D.SwapDev c.args.files.now c.args.swap.now);
  outside = transfers_none g.met.F.Files.leads_nowhere g.met.D.SwapDev.leads_nowhere c.args.files.now c.args.swap.now;
}

pub copy_page-requires-clause-first : goal.copy_page-requires-clause-first
copy_page-requires-clause-first g c =
    let so = c.loop-child.invariant in
    let p = c.loop-child.m.kernel.place in
    let child = c.in-Some.child in
    copy_first p c.args.parent child c.page_in.result c.page_in.ensures (first_of c.args.parent p.due child so.due (sym c.due.ensures ∙ c.in-Some.is))

pub copy_page-requires-clause-room : goal.copy_page-requires-clause-room
copy_page-requires-clause-room g c =
    let so = c.loop-child.invariant in
    so.room c.page_in.result

pub returns-in_err-copy_page-clause-copied : goal.returns-in_err-copy_page-clause-copied
returns-in_err-copy_page-clause-copied g c =
    let so = c.loop-child.invariant in
    let now = c.loop-child.m in
    let new = c.copy_page.new.m in
    let child = c.in-Some.child in
    let stop = c.in_err-copy_page.field-0.0 in
    let j = stores g.F.Files g.D.SwapDev c.copy_page.new.files c.copy_page.new.swap in
    let f : FirstOf c.args.parent now.kernel.place.due child = first_of c.args.parent now.kernel.place.due child so.due (sym c.due.ensures ∙ c.in-Some.is) in
    let first : IsCopyFirst now.kernel.place child c.page_in.result = copy_first now.kernel.place c.args.parent child c.page_in.result c.page_in.ensures f in
    let p = err_from_is_err_and c.from_residual.result c.from_residual.ensures.1 in
    rw (p.1, p.2) (so.so_far.stops stop new j
    (stops_first now.kernel.place.due first.others child c.page_in.result now new (g.F.Files.holds c.loop-child.files)
    (stores g.F.Files g.D.SwapDev c.loop-child.files c.loop-child.swap) j stop first.first c.in_err-copy_page.ensures.copied))

pub loop-child-smaller : goal.loop-child-smaller
loop-child-smaller g c =
    let so = c.loop-child.invariant in
    let now = c.loop-child.m in
    let next = c.copy_page.new.m in
    let child = c.in-Some.child in
    let on : OnceCopied child now next = c.in_ok-copy_page.ensures.on in
    let f : FirstOf c.args.parent now.kernel.place.due child = first_of c.args.parent now.kernel.place.due child so.due (sym c.due.ensures ∙ c.in-Some.is) in
    fewer_due now.kernel.place next.kernel.place c.args.parent child f on.due

pub loop-child-preserved : goal.loop-child-preserved
loop-child-preserved g c =
    let so = c.loop-child.invariant in
    let now = c.loop-child.m in
    let next = c.copy_page.new.m in
    let child = c.in-Some.child in
    let on : OnceCopied child now next = c.in_ok-copy_page.ensures.on in
    let f : FirstOf c.args.parent now.kernel.place.due child = first_of c.args.parent now.kernel.place.due child so.due (sym c.due.ensures ∙ c.in-Some.is) in
    let zero = on.last in
    record {
      asks = c.in_ok-copy_page.ensures.goes_on.asks;
      due = subst (AreCopiesFrom c.args.parent) (sym (others_due now.kernel.place next.kernel.place c.args.parent child f on.due)) f.rest;
      room = λ page. room_for now.kernel.place next.kernel.place page page on.frames (so.room page);
      low = omega (arith, zero);
      so_far = copies_one c.args.m.now now next f.others child c.page_in.result (g.F.Files.holds c.args.files.now) (g.F.Files.holds c.loop-child.files) (g.F.Files.holds c.copy_page.new.files)
          (stores g.F.Files g.D.SwapDev c.args.files.now c.args.swap.now) (stores g.F.Files g.D.SwapDev c.loop-child.files c.loop-child.swap)
          (stores g.F.Files g.D.SwapDev c.copy_page.new.files c.copy_page.new.swap)
          (list_first now.kernel.place c.args.parent child c.page_in.result c.page_in.ensures f) (others_due now.kernel.place next.kernel.place c.args.parent child f on.due)
          c.in_ok-copy_page.ensures.goes_on.outside.files.holds c.in_ok-copy_page.ensures.copied on so.so_far;
      outside = transfers_then {stop = None} g.met.F.Files.leads_through g.met.D.SwapDev.leads_through so.outside c.in_ok-copy_page.ensures.goes_on.outside;
    }

pub returns-clause-copied : goal.returns-clause-copied
returns-clause-copied g c =
    let so = c.loop-child.invariant in
    copies_all c.args.m.now c.loop-child.m (g.F.Files.holds c.args.files.now) (g.F.Files.holds c.loop-child.files)
    (stores g.F.Files g.D.SwapDev c.args.files.now c.args.swap.now) (stores g.F.Files g.D.SwapDev c.loop-child.files c.loop-child.swap)
    (sym c.due.ensures ∙ c.in_default.is) so.so_far

pub returns-clause-on : goal.returns-clause-on
returns-clause-on g c =
    let so = c.loop-child.invariant in
    copied_all c.args.m.now c.loop-child.m (g.F.Files.holds c.args.files.now) (g.F.Files.holds c.loop-child.files)
    (stores g.F.Files g.D.SwapDev c.args.files.now c.args.swap.now) (stores g.F.Files g.D.SwapDev c.loop-child.files c.loop-child.swap)
    (sym c.due.ensures ∙ c.in_default.is) so.so_far
