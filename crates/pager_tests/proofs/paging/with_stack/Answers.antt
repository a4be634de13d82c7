use Rattle.std.proofs.Common.{Some, map}
use Rattle.io_edge.specs.FileHolding.{named_file}
use Rattle.pager_tests.proofs.Readiness.{started_ready}
use Rattle.pager_tests.proofs.paging.with_stack.Goals as goal

pub returns : goal.returns
returns g c =
    let holds = Some (map named_file c.args._files.now.store.files.items) in
    let blocks = c.args._swap.now.store.blocks in
    c.fill_stack.ensures holds blocks (started_ready c.begun-m.result c.args.facts holds blocks c.begun-m.ensures c.requires.short c.requires.blocks c.requires.files)
