use Rattle.std.proofs.Common.{refl}
use Rattle.source_commands.proofs.Listings.{listed_more, listed_all}
use Rattle.source_commands.proofs.text.listing_of.Goals as goal

pub loop-instruction-preserved : goal.loop-instruction-preserved
loop-instruction-preserved c = (
  listed_more c.args.start c.args.code.now c.loop-instruction.text.items c.loop-instruction.rest.now c.loop-instruction.at _ c.put_line.new.text.items c.in-Is.size _ refl
      c.loop-instruction.invariant.0 c.in-Is.ensures.shows.0 c.in-Is.ensures.moves.1 c.in_ok-put_line.ensures,
  c.loop-instruction.invariant.1,
)

pub returns : goal.returns
returns c =
    listed_all c.args.start c.args.code.now c.loop-instruction.text.items c.loop-instruction.rest.now c.loop-instruction.at c.put_end.new.text.items
    c.loop-instruction.invariant.0 c.in_default.ensures.shows c.in_ok-put_end.ensures
