use Rattle.io_edge.specs.WithFiles.{stores}
use Rattle.std.proofs.Common.{◌+◌, false, subst}
use Rattle.vm_facts.specs.declared.stop.Stop.{Stop}
use Rattle.proc_run.specs.Sizes.{KeptAtStop}
use Rattle.proc_run.specs.Stepped.{StopsFrom}
use Rattle.proc_run.specs.Running.{UnderMark}
use Rattle.step_judge.proofs.Makings.{counts_on, act_made, full_act_made, full_act_on}
use Rattle.step_judge.proofs.making.make_act.Goals as goal

pub returns-in-Ok-clause-made : goal.returns-in-Ok-clause-made
returns-in-Ok-clause-made g c =
    act_made c.args.m.now c.run-went.new.m c.args.counted (g.F.Files.holds c.args.files.now) (stores g.F.Files g.D.SwapDev c.args.files.now c.args.swap.now)
    (stores g.F.Files g.D.SwapDev c.run-went.new.files c.run-went.new.swap) c.args.pid c.requires.bound c.always.ensures.within _ c.in-Ok.ensures.runs c.in-Ok.ensures.counts

pub returns-in-Ok-clause-on : goal.returns-in-Ok-clause-on
returns-in-Ok-clause-on g c = counts_on c.args.m.now c.run-went.new.m c.args.counted _ c.in-Ok.ensures.counts

pub returns-in-JournalFull-clause-made : goal.returns-in-JournalFull-clause-made
returns-in-JournalFull-clause-made g c =
    let old = c.args.m.now in
    let new = c.run-went.new.m in
    let holds = g.F.Files.holds c.args.files.now in
    let i = stores g.F.Files g.D.SwapDev c.args.files.now c.args.swap.now in
    let j = stores g.F.Files g.D.SwapDev c.run-went.new.files c.run-went.new.swap in
    full_act_made old new c.args.counted holds i j c.args.pid c.requires.bound c.always.ensures.within
    (subst (λ (x : Stop). KeptAtStop old new x) c.in-JournalFull.is c.in-Err.ensures.kept)
    (subst (λ (x : Stop). StopsFrom (UnderMark old holds i c.args.pid false c.args.counted (c.args.counted + 1)) old new j x) c.in-JournalFull.is c.in-Err.ensures.stops)

pub returns-in-JournalFull-clause-on : goal.returns-in-JournalFull-clause-on
returns-in-JournalFull-clause-on g c =
    let old = c.args.m.now in
    let new = c.run-went.new.m in
    let holds = g.F.Files.holds c.args.files.now in
    let i = stores g.F.Files g.D.SwapDev c.args.files.now c.args.swap.now in
    let j = stores g.F.Files g.D.SwapDev c.run-went.new.files c.run-went.new.swap in
    full_act_on old new c.args.counted holds i j c.args.pid c.requires.bound c.always.ensures.within
    (subst (λ (x : Stop). KeptAtStop old new x) c.in-JournalFull.is c.in-Err.ensures.kept) c.requires.steady.ready c.requires.acts
    (subst (λ (x : Stop). StopsFrom (UnderMark old holds i c.args.pid false c.args.counted (c.args.counted + 1)) old new j x) c.in-JournalFull.is c.in-Err.ensures.stops)
    c.always.ensures.running
