use Rattle.std.proofs.Common.{◌∙◌}
use Rattle.proc_calls.proofs.Spaces.{shared_by}
use Rattle.proc_calls.proofs.starting.is_shared.Goals as goal

pub returns : goal.returns
returns c = c.is_some.ensures ∙ shared_by c.args.m.now.kernel.place c.args.image c.sharer.result c.requires.numbered.spaces_differ c.sharer.ensures
