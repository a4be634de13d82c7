use Rattle.std.proofs.Common.{ℕ, List, Bor, map, ap, ◌∙◌}
use Rattle.command_words.proofs.WordLists.{around_trace, no_trace}
use Rattle.command_words.proofs.image_words.ImageWords.without_trace.Goals as goal

pub returns-in-Some : goal.returns-in-Some
returns-in-Some c = rw c.from_place.ensures (around_trace c.args.words.now c.in-Some.place c.in-Some.ensures.place)

pub returns-in-None : goal.returns-in-None
returns-in-None c = ap (λ (words : List (Bor (List ℕ))). map (λ (word : Bor (List ℕ)). word.now) words) c.all.ensures ∙ no_trace c.args.words.now c.in-None.ensures.place
