-- The owner's table has room.
use Rattle.process_counts.specs.declared.amounts.Owner.TheVariants.{Space, Image}
use Rattle.run_stats.proofs.sums.add_pages.Goals as goal

pub add_at-requires : goal.add_at-requires
add_at-requires c = c.requires (Space c.in-Space.sid)

pub add_at-requires-in-Image : goal.add_at-requires-in-Image
add_at-requires-in-Image c = c.requires (Image c.in-Image.image)
