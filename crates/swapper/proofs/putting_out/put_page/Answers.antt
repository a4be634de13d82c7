use Rattle.swapper.proofs.PutUnits.{can_push}
use Rattle.swapper.proofs.putting_out.put_page.Goals as goal

pub push-requires-clause-can : goal.push-requires-clause-can
push-requires-clause-can c =
    can_push c.args.m.now.kernel.place c.args.sid c.run_of-n.result c.args.page c.requires.clear c.requires.own c.requires.seated c.requires.room c.run_of-n.ensures
