use Rattle.std.proofs.Common.{◌≡◌, ◌+◌, [], length, take}
use Rattle.stack_dist.specs.Recency.{after}
use Rattle.stack_dist.proofs.RecencyLaws.{Follows, last_of}
use Rattle.stack_dist.proofs.recency.hits_by_depth.Given as goal

abbrev pub invariant-loop-before : goal.invariant-loop-before
invariant-loop-before l = record {
  places : l.place + l.before-index ≡ l.initial.place;
  room : length l.gaps ≡ l.initial.place;
  follows : Follows (after (take l.before-index l.fn.refs) []) (last_of l.place (after (take l.before-index l.fn.refs) [])) l.place l.gaps l.hits.items;
}
