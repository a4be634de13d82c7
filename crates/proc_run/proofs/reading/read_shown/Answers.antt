use Rattle.std.proofs.Common.{refl}
use Rattle.step_units.proofs.Images.{shown_by, all_fit, few_shown}
use Rattle.proc_run.proofs.reading.read_shown.Goals as goal

pub read_by_call-requires-clause-few : goal.read_by_call-requires-clause-few
read_by_call-requires-clause-few c =
    let m = c.args.shown.now.memory.machine.now in
    few_shown m m c.images.result.now refl c.images.ensures c.requires

pub read_by_call-requires-clause-entries : goal.read_by_call-requires-clause-entries
read_by_call-requires-clause-entries c =
    let m = c.args.shown.now.memory.machine.now in
    all_fit m m c.images.result.now refl c.images.ensures c.requires

pub returns : goal.returns
returns c = λ known F p s named.
    let m = c.args.shown.now.memory.machine.now in
    c.read_by_call.ensures known F p s (shown_by known m m c.images.result.now refl c.images.ensures named)
