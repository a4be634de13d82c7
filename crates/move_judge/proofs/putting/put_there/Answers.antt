use Rattle.std.proofs.Common.{sym, ◌∙◌}
use Rattle.move_judge.proofs.Puts.{own_shared, own_along, few_pages}
use Rattle.move_judge.proofs.putting.put_there.Goals as goal

pub put_few-requires-clause-own : goal.put_few-requires-clause-own
put_few-requires-clause-own c = own_shared c.args.m.now.kernel.place c.args.sid c.args.page c.requires.own

pub put_few-requires-clause-shared : goal.put_few-requires-clause-shared
put_few-requires-clause-shared c = own_along c.args.m.now.kernel.place c.args.sid c.args.page c.requires.own

pub put_few-requires-clause-few : goal.put_few-requires-clause-few
put_few-requires-clause-few c = (few_pages c.args.n (sym c.wrong_length.ensures ∙ c.in-None.is)).1
