use Rattle.kernel_laws.proofs.Sound.NumbersApart.{begin_numbered}
use Rattle.kernel_laws.proofs.Sound.Begins.{begin_sound}
use Rattle.kernel_laws.proofs.Kept.Begins.{begins_due}
use Rattle.kernel_laws.proofs.starts.begins_keep.Goals as goal

pub returns-clause-sound : goal.returns-clause-sound
returns-clause-sound c = begin_sound

pub returns-clause-numbered : goal.returns-clause-numbered
returns-clause-numbered c = begin_numbered

pub returns-clause-dues : goal.returns-clause-dues
returns-clause-dues c = begins_due
