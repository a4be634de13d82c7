use Rattle.paging_units.proofs.Units.{made_same, made_starts}
use Rattle.paging_units.proofs.Keeping.{made_shaped, fits_shaped}
use Rattle.paging_units.proofs.laws.units_keep.Goals as goal

pub returns-clause-same : goal.returns-clause-same
returns-clause-same c = made_same

pub returns-clause-starts : goal.returns-clause-starts
returns-clause-starts c = made_starts

pub returns-clause-fits : goal.returns-clause-fits
returns-clause-fits c locked us k l i j images m = fits_shaped k.place l.place (made_shaped locked us k l i j m) images
