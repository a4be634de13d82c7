use Rattle.std.proofs.Common.{arith}
use Rattle.kernel_tables.proofs.UPages.{longwords_each}
use Rattle.kernel_tables.proofs.u_pages.are_longwords.Goals as goal

pub returns : goal.returns
returns c = longwords_each c.args.words.now (λ k b. let fits = c.type_inv.words k in omega arith)
