-- The places of the frames that are left, written as well, are those of the whole list.
use Rattle.std.proofs.Common.{◌≡◌, ◌+◌, ◌-◌, ◌<◌, length}
use Rattle.core_map.specs.Links.{walk, frames_of}
use Rattle.core_map.proofs.PlaceLemmas.{written}
use Rattle.core_map.proofs.frame_list.FrameList.put_places.Given as goal

abbrev pub invariant-loop-before : goal.invariant-loop-before
invariant-loop-before l = record {
  within : l.at < length l.self-inside.next.items;
  long : length l.places ≡ length l.fn.places;
  left : written (l.before + 1) (walk (l.self-inside.len - l.before) l.self-inside.next.items l.at) l.places ≡ written 1 (frames_of l.self-inside) l.fn.places;
}
