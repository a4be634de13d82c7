use Rattle.std.proofs.Common.{arith}
use Rattle.system_edge.proofs.SwapRanges.{within_after}
use Rattle.system_edge.proofs.file_swap.SwapFile.write_pages.Goals as goal

pub invariant_of-self : goal.invariant_of-self
invariant_of-self g c = record {
  within = within_after c.write_range.result c.args.self.now.len c.length_after-self.result c.offset_of.result (g.F.SystemFile.bytes c.args.self.now.file)
      (g.F.SystemFile.bytes c.write_range.new.self) c.args.bytes.now c.args.self.now.within (omega (arith, c.length_after-self.ensures, c.offset_of.ensures))
      c.write_range.ensures.done c.write_range.ensures.failed;
}
