use Rattle.std.proofs.Common.{◌≡◌, ◌≤◌, length, map, take}
use Rattle.std.specs.Prelude.{All}
use Rattle.command_edge.specs.ImageWords.{first_images}
use Rattle.command_edge.proofs.image_words.first_images.Given as goal

abbrev pub invariant-loop-word : goal.invariant-loop-word
invariant-loop-word l = record {
  range : All (λ number. (1 ≤ number) × (number ≤ length l.names)) l.first.items;
  exact : l.first.items ≡ first_images (map (λ name. name.now) l.names) (map (λ word. word.now) (take l.word-index l.words));
}
