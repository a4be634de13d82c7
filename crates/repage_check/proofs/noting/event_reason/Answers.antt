use Rattle.repage_check.proofs.Notings.{event_told}
use Rattle.repage_check.proofs.noting.event_reason.Goals as goal

pub returns : goal.returns
returns c = λ s e. event_told c.args.past.lines c.args.line s c.unless.result e c.unless.ensures
