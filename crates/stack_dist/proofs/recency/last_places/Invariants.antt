use Rattle.std.proofs.Common.{◌≡◌, ℕ, ◌+◌, [], length, nat_eq, take}
use Rattle.std.specs.HashMap.{get}
use Rattle.stack_dist.specs.Recency.{after, moved_by, place_in, AreLastPlaces}
use Rattle.stack_dist.proofs.recency.last_places.Given as goal

abbrev pub invariant-loop-page : goal.invariant-loop-page
invariant-loop-page l = record {
  end : l.place + l.page-index ≡ l.end;
  last : (q : ℕ) → get nat_eq l.last q ≡ moved_by l.place (place_in q (after (take l.page-index l.refs) []));
  len : length l.places.items ≡ l.page-index;
  places : AreLastPlaces l.refs l.end l.page-index l.places.items;
}
