use Rattle.std.proofs.Common.{◌≡◌, ◌≤◌, ◌<◌, ℕ, length, map, take}
use Rattle.std.specs.Prelude.{All}
use Rattle.command_edge.specs.ImageWords.{name_in, image_names}
use Rattle.command_edge.proofs.image_words.image_names.Given as goal

abbrev pub invariant-loop-word : goal.invariant-loop-word
invariant-loop-word l = record {
  few : length l.names.items ≤ l.word-index;
  short : (most : ℕ) → All (λ word. length (name_in word.now) < most) l.words → All (λ name. length name.now < most) l.names.items;
  exact : map (λ name. name.now) l.names.items ≡ image_names (map (λ word. word.now) (take l.word-index l.words));
}
