use Rattle.std.proofs.Common.{◌≡◌, length, rules}
use Rattle.system_edge.proofs.SwapRanges.{try_read_page}
use Rattle.system_edge.proofs.file_swap.FileSwap.try_read.Goals as goal

pub returns-clause-done : goal.returns-clause-done
returns-clause-done g c =
    let whole : length c.read_page-moved.new.page ≡ 1024 = search rules in
    try_read_page c.read_page-moved.result (g.S.System.tells c.args.self.now.system.now) c.args.self.now.blocks c.args.block _ _ _ c.read_page-moved.new.page
    c.in_ok-file.ensures.image c.in_ok-file.file.within c.requires whole c.read_page-moved.ensures.past c.read_page-moved.ensures.written
