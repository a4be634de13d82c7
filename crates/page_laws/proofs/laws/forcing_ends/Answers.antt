use Rattle.page_laws.proofs.Ends.Forcing.{far_bound, move_stands}
use Rattle.page_laws.proofs.Ends.Serving.{force_falls}
use Rattle.page_laws.proofs.Moves.Locks.{force_spares}
use Rattle.page_laws.proofs.Ends.Hands.{force_stands}
use Rattle.page_laws.proofs.Ends.Wholes.{force_room, forced}
use Rattle.page_laws.proofs.laws.forcing_ends.Goals as goal

pub returns : goal.returns
returns c = record {
  falls = force_falls;
  near = far_bound;
  stands = move_stands;
  hands = force_stands;
  room = force_room;
  spares = force_spares;
  whole = forced;
}
