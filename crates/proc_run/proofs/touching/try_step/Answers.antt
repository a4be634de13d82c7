use Rattle.std.proofs.Common.{◌≡◌, sym, ◌∙◌}
use Rattle.proc_run.proofs.Covering.{quiet_step, kept_through}
use Rattle.proc_run.proofs.touching.try_step.Goals as goal

pub returns-clause-same : goal.returns-clause-same
returns-clause-same c =
    let w = c.step.ensures.wrote in
    let same : c.step.new.memory.memory.machine.now ≡ c.args.m.now =
    kept_through c.args.m.now c.memory.result.machine c.step.new.memory.memory.machine c.memory.result.layout c.step.new.memory.memory.layout c.args.pages.now c.step.new.memory.pages.now _ w
    (quiet_step c.args.m.now c.memory.result.machine.now c.args.pid c.memory.result.layout.sid c.args.pages.now c.args.regs.now c.memory.ensures.now c.memory.ensures.space c.requires.quiet)
    c.memory.ensures.now in
    c.m-1.given.1 (sym (w.through.0 ∙ c.memory.ensures.same_reference)) ∙ same
