-- The holdings before the last pieces were found are a book of the area's size.
use Rattle.std.proofs.Common.{subst, sym, ap₂}
use Rattle.vm_facts.specs.declared.params.Params.{Params}
use Rattle.swap_book.specs.Book.{IsBook}
use Rattle.swap_book.specs.Holdings.{Holdings}
use Rattle.owner_lines.specs.Owners.{swap_lines}
use Rattle.run_text.proofs.Putting.{text_is}
use Rattle.owner_lines.proofs.writing.put_swap.Goals as goal

pub put_blocks-requires : goal.put_blocks-requires
put_blocks-requires g c =
    subst (IsBook c.params.result.now.swap_blocks) (sym c.holdings_before.ensures)
    (subst (λ (q : Params). IsBook q.swap_blocks c.args.machine.now.before) (sym c.params.ensures) c.requires.sound.owner.blocks.book)

pub returns : goal.returns
returns g c = text_is (ap₂ (λ (q : Params) (hs : Holdings). swap_lines q.swap_blocks hs) c.params.ensures c.holdings_before.ensures) c.put_blocks.ensures
