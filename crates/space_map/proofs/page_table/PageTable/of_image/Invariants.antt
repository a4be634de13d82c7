use Rattle.std.proofs.Common.{◌≡◌, length, map, vec_capacity}
use Rattle.std.specs.List.{All}
use Rattle.space_map.specs.Space.{first_places}
use Rattle.vax_pte.specs.Words.{place_named}
use Rattle.space_map.specs.Tables.{IsWord}
use Rattle.space_map.proofs.page_table.PageTable.of_image.Given as goal

abbrev pub invariant-loop-v : goal.invariant-loop-v
invariant-loop-v l = record {
  room : vec_capacity l.words ≡ l.pages;
  count : length l.words.items ≡ l.v;
  words : All (IsWord l.user_write) l.words.items;
  places : map place_named l.words.items ≡ first_places l.facts l.text l.v;
}
