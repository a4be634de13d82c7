use Rattle.repage_check.proofs.Notings.{owners_told}
use Rattle.repage_check.proofs.noting.owners_reason.Goals as goal

pub returns : goal.returns
returns c = λ s o.
    owners_told c.args.m.now.kernel s c.args.u.now c.owners_of-stands.result c.same_owners.result c.unless.result o c.owners_of-stands.ensures
    c.same_owners.ensures c.unless.ensures
