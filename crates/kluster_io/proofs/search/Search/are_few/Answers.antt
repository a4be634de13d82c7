use Rattle.kluster_io.proofs.FewPages.{few_there}
use Rattle.kluster_io.proofs.search.Search.are_few.Goals as goal

pub returns : goal.returns
returns c v there = few_there c.args.self.now.space.now c.args.self.now.page v c.fits.ensures.text_few c.fits.ensures.data_few c.fits.ensures.stack_few there
