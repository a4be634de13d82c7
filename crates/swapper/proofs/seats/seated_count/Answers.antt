use Rattle.swapper.proofs.Seen.{count_whole}
use Rattle.swapper.proofs.seats.seated_count.Goals as goal

pub returns : goal.returns
returns c = λ p h.
    count_whole p c.args.core.now c.args.space.now c.sid-sid.result c.data_pages.result c.stack_pages.result c.count_in.result c.count_in-2.result h c.sid-sid.ensures
    c.data_pages.ensures.count c.stack_pages.ensures.count (c.count_in.ensures.count p h (λ v. c.sid-sid.ensures)) (c.count_in-2.ensures.count p h (λ v. c.sid-sid.ensures))
