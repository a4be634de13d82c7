-- There is room for each frame's place.
use Rattle.std.proofs.Common.{arith}
use Rattle.owner_lines.proofs.frames.free_places.Goals as goal

pub put_free_places-requires : goal.put_free_places-requires
put_free_places-requires c = omega (arith, c.requires.shows.frames, c.requires.running.frames)
