use Rattle.kernel_tables.proofs.UPages.{words_are}
use Rattle.kernel_tables.proofs.u_pages.words_in.Goals as goal

pub returns : goal.returns
returns c = words_are c.args.page.now c.read_words.new.words c.told-page c.read_words.ensures.count c.read_words.ensures.read
