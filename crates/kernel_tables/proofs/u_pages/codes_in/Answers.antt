use Rattle.kernel_tables.proofs.UPages.{codes_are}
use Rattle.kernel_tables.proofs.u_pages.codes_in.Goals as goal

pub returns : goal.returns
returns c = codes_are c.args.page.now c.word_at.result c.told-page c.word_at.ensures
