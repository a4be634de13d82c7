use Rattle.swap_book.proofs.PlaceLaws.{places_apart_of}
use Rattle.swap_book.proofs.places_apart.Goals as goal

pub returns : goal.returns
returns c = places_apart_of
