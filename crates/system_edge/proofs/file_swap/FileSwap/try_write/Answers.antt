use Rattle.std.proofs.Common.{ap}
use Rattle.system_edge.proofs.SwapRanges.{try_over, try_part}
use Rattle.system_edge.proofs.file_swap.FileSwap.try_write.Goals as goal

pub returns-clause-done : goal.returns-clause-done
returns-clause-done g c =
    try_over c.write_pages-moved.result (g.S.System.tells c.args.self.now.system.now) _ c.args.self.now.blocks _ c.args.block _ _ _ _ c.args.bytes.now
    (ap (λ s. g.S.System.tells s.now) c.take_file.ensures.system) c.take_file.ensures.blocks c.in_ok-file.ensures.image c.in_ok-file.ensures.room c.in_ok-file.file.within c.requires.inside
    c.write_pages-moved.ensures.done

pub returns-clause-failed : goal.returns-clause-failed
returns-clause-failed g c =
    try_part c.write_pages-moved.result (g.S.System.tells c.args.self.now.system.now) _ c.args.self.now.blocks _ c.args.block _ _ _ _ c.args.bytes.now
    (ap (λ s. g.S.System.tells s.now) c.take_file.ensures.system) c.take_file.ensures.blocks c.in_ok-file.ensures.image c.in_ok-file.ensures.room c.in_ok-file.file.within c.requires.inside
    c.write_pages-moved.ensures.failed
