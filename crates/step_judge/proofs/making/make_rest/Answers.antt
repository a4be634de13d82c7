use Rattle.io_edge.specs.WithFiles.{stores}
use Rattle.std.proofs.Common.{subst}
use Rattle.vm_facts.specs.declared.stop.Stop.{Stop}
use Rattle.flat_state.specs.Journal.{instructions_of}
use Rattle.proc_run.specs.Sizes.{KeptAtStop}
use Rattle.proc_run.specs.Stepped.{StopsFrom}
use Rattle.proc_run.specs.Rests.{BegunAt}
use Rattle.step_judge.proofs.Makings.{some_begun_there, counts_on, rest_made, full_rest_made, full_rest_on}
use Rattle.step_judge.proofs.making.make_rest.Goals as goal

pub finish_step-went-requires-clause-begun : goal.finish_step-went-requires-clause-begun
finish_step-went-requires-clause-begun g c =
    some_begun_there c.args.m.now c.args._counted c.args.begun (g.F.Files.holds c.args.files.now) (stores g.F.Files g.D.SwapDev c.args.files.now c.args.swap.now) c.args._pid c.requires.acts

pub returns-in-Ok-clause-made : goal.returns-in-Ok-clause-made
returns-in-Ok-clause-made g c =
    rest_made c.args.m.now c.finish_step-went.new.m c.args._counted (g.F.Files.holds c.args.files.now) (stores g.F.Files g.D.SwapDev c.args.files.now c.args.swap.now)
    (stores g.F.Files g.D.SwapDev c.finish_step-went.new.files c.finish_step-went.new.swap) c.args._pid c.requires.bound c.always.ensures.within c.args.begun
    (instructions_of c.args.m.now.kernel.journal)
    c.in-Ok.ensures.finishes c.in-Ok.ensures.counts

pub returns-in-Ok-clause-on : goal.returns-in-Ok-clause-on
returns-in-Ok-clause-on g c = counts_on c.args.m.now c.finish_step-went.new.m (instructions_of c.args.m.now.kernel.journal) _ c.in-Ok.ensures.counts

pub returns-in-JournalFull-clause-made : goal.returns-in-JournalFull-clause-made
returns-in-JournalFull-clause-made g c =
    let old = c.args.m.now in
    let new = c.finish_step-went.new.m in
    let holds = g.F.Files.holds c.args.files.now in
    let i = stores g.F.Files g.D.SwapDev c.args.files.now c.args.swap.now in
    let j = stores g.F.Files g.D.SwapDev c.finish_step-went.new.files c.finish_step-went.new.swap in
    full_rest_made old new c.args._counted holds i j c.args._pid c.requires.bound c.always.ensures.within
    (subst (λ (x : Stop). KeptAtStop old new x) c.in-JournalFull.is c.in-Err.ensures.kept) c.args.begun
    (subst (λ (x : Stop). StopsFrom (BegunAt old c.args.begun holds i) old new j x) c.in-JournalFull.is c.in-Err.ensures.stops)

pub returns-in-JournalFull-clause-on : goal.returns-in-JournalFull-clause-on
returns-in-JournalFull-clause-on g c =
    let old = c.args.m.now in
    let new = c.finish_step-went.new.m in
    let holds = g.F.Files.holds c.args.files.now in
    let i = stores g.F.Files g.D.SwapDev c.args.files.now c.args.swap.now in
    let j = stores g.F.Files g.D.SwapDev c.finish_step-went.new.files c.finish_step-went.new.swap in
    full_rest_on old new c.args._counted holds i j c.args._pid c.requires.bound c.always.ensures.within
    (subst (λ (x : Stop). KeptAtStop old new x) c.in-JournalFull.is c.in-Err.ensures.kept) c.args.begun c.requires.steady.ready c.requires.acts
    (subst (λ (x : Stop). StopsFrom (BegunAt old c.args.begun holds i) old new j x) c.in-JournalFull.is c.in-Err.ensures.stops)
    c.always.ensures.running
