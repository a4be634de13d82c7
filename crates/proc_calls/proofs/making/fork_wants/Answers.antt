use Rattle.std.proofs.Common.{◌∙◌}
use Rattle.proc_calls.proofs.Forks.{wants_are}
use Rattle.proc_calls.proofs.Sizes.{data_counted, stack_counted}
use Rattle.proc_calls.proofs.making.fork_wants.Goals as goal

pub returns : goal.returns
returns c =
    let k = c.args.m.now.kernel in
    let space = c.in-Some.space.now in
    wants_are k c.args.parent c.next_numbers-child.result.1 c.next_numbers-child.result.0 c.data_pages.result c.stack_pages.result c.u_want.result
    c.next_numbers-child.ensures.space c.next_numbers-child.ensures.process
    (c.data_pages.ensures.count ∙ data_counted k.place c.in-Some.ensures.shown.core space c.in-Some.ensures.shown.space c.args.parent c.in-Some.ensures.named)
    (c.stack_pages.ensures.count ∙ stack_counted k.place c.in-Some.ensures.shown.core space c.in-Some.ensures.shown.space c.args.parent c.in-Some.ensures.named)
    c.u_want.ensures
