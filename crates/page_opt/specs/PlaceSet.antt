-- A set of places as bits of words, with bits above them that say which words have any.
use Rattle.std.specs.Prelude.{◌≡◌, ℕ, zero, suc, ◌+◌, ◌-◌, ◌*◌, ◌/◌, ◌%◌, ◌^◌, ◌<◌, ◌≤◌, min, Bool, true, false, ◌==◌, List, length, slice_index_or, Option, Some, None}
use Rattle.std.specs.Int.{bit_at}
use Rattle.page_opt.specs.declared.place_set.PlaceSet.TheInside.{Inside}

-- the words, and the node of place 0
pub record Bits : Type 0 where
  pub words : List ℕ
  pub first : ℕ

-- the set as its callers see it: its words, and the node of place 0
abbrev pub bits_of : Inside → Bits
bits_of a = record { words = a.words.items; first = a.first }

-- the bit of a node
abbrev pub bit_of : List ℕ → ℕ → ℕ
bit_of words node = bit_at (slice_index_or words (node / 64) 0) (node % 64)

-- the place is in the set
abbrev pub has_place : Bits → ℕ → Bool
has_place bits place = bit_of bits.words (bits.first + place) == 1

-- how many places there is room for
abbrev pub capacity : Bits → ℕ
capacity bits = 64 * length bits.words - bits.first

-- so many levels above a node
unfoldable pub above : ℕ → ℕ → ℕ
above zero node = node
above (suc d) node = above d node / 64

-- the levels above the places, up to node 1
pub record AreLevels (first height : ℕ) : Type 0 where
  pub top : above height first ≡ 1
  pub some : (d : ℕ) → d ≤ height → 0 < above d first
  pub each : (d : ℕ) → d < height → 64 * above (suc d) first ≡ above d first

-- the bit of each node above the places says whether its word has any
abbrev pub AreSummaries : ℕ → List ℕ → Type 0
AreSummaries first words = (k : ℕ) → 1 < k → k < first → bit_of words k ≡ min (slice_index_or words k 0) 1

-- the bits are a tree: levels from the places up to node 1, and each bit above says whether its word has any
pub record IsTree (a : Inside) : Type 0 where
  pub height : 0 < a.height
  pub small : a.first < 2 ^ 32
  pub levels : AreLevels a.first a.height
  pub top : 1 < length a.words.items
  pub inside : a.first ≤ 64 * length a.words.items
  pub room : 64 * length a.words.items ≤ 2 * a.first
  pub summaries : AreSummaries a.first a.words.items

-- one bit became this
pub record BitChanged (old new : List ℕ) (node to : ℕ) : Type 0 where
  pub len : length new ≡ length old
  pub here : bit_of new node ≡ to
  pub other : (k : ℕ) → (k ≡ node → ⊥) → bit_of new k ≡ bit_of old k
  pub words : (k : ℕ) → (k ≡ node / 64 → ⊥) → slice_index_or new k 0 ≡ slice_index_or old k 0

-- of the bits of places one became this
pub record LeafChanged (first : ℕ) (old new : List ℕ) (leaf to : ℕ) : Type 0 where
  pub len : length new ≡ length old
  pub here : bit_of new leaf ≡ to
  pub other : (k : ℕ) → first ≤ k → (k ≡ leaf → ⊥) → bit_of new k ≡ bit_of old k

-- the last node of a place whose bit is set
pub record IsLastLeaf (first : ℕ) (words : List ℕ) (node : ℕ) : Type 0 where
  pub leaf : first ≤ node
  pub there : bit_of words node ≡ 1
  pub last : (k : ℕ) → first ≤ k → bit_of words k ≡ 1 → k ≤ node

-- the last place of the set
pub record IsLastPlace (bits : Bits) (place : ℕ) : Type 0 where
  pub there : has_place bits place ≡ true
  pub last : (k : ℕ) → has_place bits k ≡ true → k ≤ place

-- what is found as the last place of the set: none where it is empty
abbrev pub IsLast : Bits → Option ℕ → Type 0
IsLast bits None = (k : ℕ) → has_place bits k ≡ false
IsLast bits (Some place) = IsLastPlace bits place
