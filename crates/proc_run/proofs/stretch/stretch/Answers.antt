use Rattle.std.proofs.Common.{◌++◌}
use Rattle.proc_run.proofs.Appended.{stretch_append}
use Rattle.proc_run.proofs.stretch.stretch.Goals as goal

pub returns-clause-carried : goal.returns-clause-carried
returns-clause-carried g c =
    let first = c.short_stretch-first.ensures.carried in
    let rest = c.long_stretch-rest.ensures.carried in
    let is = g.met.M.Memory.wrote_answers c.args.memory.now c.short_stretch-first.new.memory first.0 first.2 in (
      first.0 ++ rest.0,
      stretch_append (g.M.Memory.answers c.args.memory.now) (g.M.Memory.answers c.short_stretch-first.new.memory) c.args.regs.now c.short_stretch-first.new.regs c.long_stretch-rest.new.regs
          c.short_stretch-first.result.count c.long_stretch-rest.result.count first.0 rest.0 is first.1 rest.1,
      g.met.M.Memory.wrote_more c.args.memory.now c.short_stretch-first.new.memory c.long_stretch-rest.new.memory first.0 rest.0 first.2 rest.2,
    )
