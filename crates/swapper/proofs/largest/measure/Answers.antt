use Rattle.std.proofs.Common.{sym, ap, ◌∙◌}
use Rattle.swapper.specs.Runners.{runner_of, runner_measured}
use Rattle.swapper.proofs.largest.measure.Goals as goal

pub returns-in_err-seen-clause-runner : goal.returns-in_err-seen-clause-runner
returns-in_err-seen-clause-runner c =
    ap runner_measured c.from_residual.ensures ∙ sym (ap runner_of c.in_err-seen.was) ∙ c.candidate.ensures.runner c.args.m.now.kernel.place c.requires.residents

pub returns-clause-runner : goal.returns-clause-runner
returns-clause-runner c = sym (ap runner_of c.in_ok-seen.was) ∙ c.candidate.ensures.runner c.args.m.now.kernel.place c.requires.residents
