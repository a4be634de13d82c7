use Rattle.std.proofs.Common.{ℕ, codes, sym, ap}
use Rattle.std.specs.Fmt.{digits}
use Rattle.command_edge.specs.Ending.{numbered_line}
use Rattle.command_edge.proofs.lines.swap_read_line.Goals as goal

pub returns-in-0-clause-line : goal.returns-in-0-clause-line
unfolding digits
returns-in-0-clause-line c = ap (λ (device : ℕ). numbered_line (codes "vmrun: swap read fault on device ") device) (sym c.in-0.is)

pub returns-in-1-clause-line : goal.returns-in-1-clause-line
unfolding digits
returns-in-1-clause-line c = ap (λ (device : ℕ). numbered_line (codes "vmrun: swap read fault on device ") device) (sym c.in-1.is)
