use Rattle.io_edge.specs.WithFiles.{stores}
use Rattle.fault_fill.specs.Growth.{access_by}
use Rattle.fault_fill.proofs.PageStops.{page_comes}
use Rattle.fault_fill.proofs.touch.serve.Goals as goal

pub returns-in-Ok-clause-served : goal.returns-in-Ok-clause-served
returns-in-Ok-clause-served g c =
    page_comes (access_by c.args.m.now.kernel c.args.pid c.args.address c.args.write) c.in_ok-page.field-0 c.in-Ok.page c.args.pid c.args.m.now c.page_for.new.m c.serve_page.new.m
    (g.F.Files.holds c.args.files.now) (stores g.F.Files g.D.SwapDev c.args.files.now c.args.swap.now)
    (stores g.F.Files g.D.SwapDev c.serve_page.new.files c.serve_page.new.swap) c.serve_page.result c.in-Ok.is c.in_ok-page.ensures.reaches
    c.serve_page.ensures.served c.serve_page.ensures.few c.serve_page.ensures.few_at_stop c.serve_page.ensures.low c.serve_page.ensures.stay
