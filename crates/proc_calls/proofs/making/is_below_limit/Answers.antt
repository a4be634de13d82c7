use Rattle.std.proofs.Common.{ℕ, nat_lt, ap, ◌∙◌}
use Rattle.proc_calls.proofs.Makes.{below_limit}
use Rattle.proc_calls.proofs.making.is_below_limit.Goals as goal

pub returns : goal.returns
returns c =
    ap (λ (n : ℕ). nat_lt n 64) c.len.ensures
    ∙ below_limit c.args.m.now.kernel c.processes.result.now c.processes.ensures.processes (c.processes.ensures.records c.requires.running.runs)
