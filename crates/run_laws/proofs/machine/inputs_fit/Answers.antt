use Rattle.run_laws.proofs.Filing.{may_begin, images_fit, inputs_sized}
use Rattle.run_laws.proofs.machine.inputs_fit.Goals as goal

pub returns-clause-begins : goal.returns-clause-begins
returns-clause-begins c = may_begin

pub returns-clause-images : goal.returns-clause-images
returns-clause-images c = images_fit

pub returns-clause-sizes : goal.returns-clause-sizes
returns-clause-sizes c = inputs_sized
