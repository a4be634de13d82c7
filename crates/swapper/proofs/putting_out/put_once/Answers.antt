use Rattle.io_edge.specs.WithFiles.{stores}
use Rattle.std.proofs.Common.{IfErr, None, OnOk, [], refl, sym, subst}
use Rattle.std.proofs.lemmas.Result.{on_ok_weaker}
use Rattle.vm_facts.specs.declared.entry.Entry.{Entry}
use Rattle.paging_units.specs.Made.{ground, MakesUnit}
use Rattle.paging_units.specs.Stops.{StopsAt}
use Rattle.paging_units.proofs.Keeping.{keeps_flat}
use Rattle.swapper.specs.Putting.{IsStep}
use Rattle.swapper.specs.declared.putting_out.Step.TheVariants as steps
use Rattle.swapper.proofs.PutUnits.{first_own, first_is_seated, none_asked}
use Rattle.swapper.proofs.Leaving.{left_asks}
use Rattle.swapper.proofs.putting_out.put_once.Goals as goal

pub put_page-requires-clause-own : goal.put_page-requires-clause-own
put_page-requires-clause-own g c =
    let s : IsStep c.args.m.now.kernel.place c.args.sid (steps.Put c.in-Put.page) = subst (IsStep c.args.m.now.kernel.place c.args.sid) c.in-Put.is c.requires.step in
    first_own c.args.m.now.kernel.place c.args.sid c.in-Put.page s.1

pub put_page-requires-clause-seated : goal.put_page-requires-clause-seated
put_page-requires-clause-seated g c =
    let s : IsStep c.args.m.now.kernel.place c.args.sid (steps.Put c.in-Put.page) = subst (IsStep c.args.m.now.kernel.place c.args.sid) c.in-Put.is c.requires.step in
    first_is_seated c.args.m.now.kernel.place c.args.sid c.in-Put.page s.1

pub returns-in-Wait-clause-made : goal.returns-in-Wait-clause-made
returns-in-Wait-clause-made g c =
    let s : IsStep c.args.m.now.kernel.place c.args.sid steps.Wait = subst (IsStep c.args.m.now.kernel.place c.args.sid) c.in-Wait.is c.requires.step in
    subst (λ (e : Entry). OnOk c.complete.result
    (MakesUnit (ground c.args.m.now (g.F.Files.holds c.args.files.now) []) e c.args.m.now c.complete.new.m (stores g.F.Files g.D.SwapDev c.args.files.now c.args.swap.now)
    (stores g.F.Files g.D.SwapDev c.complete.new.files c.complete.new.swap)))
    (sym (s.1 c.args._pid)) c.complete.ensures.made

pub returns-in-Wait-clause-stopped : goal.returns-in-Wait-clause-stopped
returns-in-Wait-clause-stopped g c =
    let s : IsStep c.args.m.now.kernel.place c.args.sid steps.Wait = subst (IsStep c.args.m.now.kernel.place c.args.sid) c.in-Wait.is c.requires.step in
    subst (λ (e : Entry). IfErr c.complete.result (StopsAt e c.args.m.now c.complete.new.m (stores g.F.Files g.D.SwapDev c.args.files.now c.args.swap.now)
    (stores g.F.Files g.D.SwapDev c.complete.new.files c.complete.new.swap)))
    (sym (s.1 c.args._pid)) c.complete.ensures.stopped

pub returns-in-Put-clause-keeps : goal.returns-in-Put-clause-keeps
returns-in-Put-clause-keeps g c =
    on_ok_weaker c.put_page.result (keeps_flat c.args.m.now c.put_page.new.m (g.F.Files.holds c.args.files.now)
    (stores g.F.Files g.D.SwapDev c.args.files.now c.args.swap.now)) c.put_page.ensures.keeps

pub returns-in-Put-clause-goes_on : goal.returns-in-Put-clause-goes_on
returns-in-Put-clause-goes_on g c =
    let old = c.args.m.now in
    let new = c.put_page.new.m in
    let holds = g.F.Files.holds c.args.files.now in
    let blocks = g.D.SwapDev.blocks c.args.swap.now in
    record {
      outside = none_asked c.put_page.result c.args.files.now c.args.swap.now g.met.F.Files.leads_nowhere g.met.D.SwapDev.leads_nowhere c.put_page.ensures.cause;
      asks = left_asks c.put_page.result old new holds blocks blocks refl c.requires.asks (on_ok_weaker c.put_page.result (λ m. m.beside) (c.put_page.ensures.made holds None))
          c.put_page.ensures.goes_on;
    }
