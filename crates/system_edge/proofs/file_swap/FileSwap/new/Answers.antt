use Rattle.system_edge.proofs.SwapRanges.{new_zeros}
use Rattle.system_edge.proofs.file_swap.FileSwap.new.Goals as goal

pub returns-clause-zeros : goal.returns-clause-zeros
returns-clause-zeros g c = λ tells. new_zeros (g.S.System.tells c.args.system.now) c.args.blocks tells
