-- How gaps among places are kept as bits of words.
use Rattle.std.specs.Prelude.{◌≡◌, ℕ, zero, suc, ◌/◌, ◌%◌, ◌^◌, ◌<◌, List, [], ◌∷◌, ◌++◌, length}
use Rattle.stack_dist.specs.Tree.{total}
use Rattle.stack_dist.specs.declared.gaps.Gaps.TheInside.{Inside}

-- so many bits of a word, the lowest first
unfoldable pub bits : ℕ → ℕ → List ℕ
bits zero word = []
bits (suc n) word = word % 2 ∷ bits n (word / 2)

-- the bits of words, 64 of each
unfoldable pub all_bits : List ℕ → List ℕ
all_bits [] = []
all_bits (word ∷ words) = bits 64 word ++ all_bits words

-- how many bits of each word are set
unfoldable pub bit_counts : List ℕ → List ℕ
bit_counts [] = []
bit_counts (word ∷ words) = total (bits 64 word) ∷ bit_counts words

-- the places, as the bits of all words
abbrev pub places_of : Inside → List ℕ
places_of a = all_bits a.words.items

-- the counts are those of the bits that are set in each word
pub record AreGaps (a : Inside) : Type 0 where
  pub room : length a.words.items < 2 ^ 26
  pub counts : a.counts ≡ bit_counts a.words.items
