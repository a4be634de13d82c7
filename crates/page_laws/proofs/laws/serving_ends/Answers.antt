use Rattle.page_laws.proofs.Ends.Serving.{serve_falls}
use Rattle.page_laws.proofs.Moves.Locks.{serve_spares}
use Rattle.page_laws.proofs.Ends.Hands.{serve_stands}
use Rattle.page_laws.proofs.Ends.Wholes.{serve_room, serve_sizes, served}
use Rattle.page_laws.proofs.laws.serving_ends.Goals as goal

pub returns : goal.returns
returns c = record {
  falls = serve_falls;
  hands = serve_stands;
  room = serve_room;
  sizes = λ p locked q w o. serve_sizes p locked q o w;
  spares = serve_spares;
  whole = served;
}
