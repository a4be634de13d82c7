-- That spaces stand by rising numbers, and where one stands.
use Rattle.std.specs.Prelude.{◌≡◌, ℕ, ◌<◌, List, [], ◌∷◌, map, length, slice_get, Option, Some, None}
use Rattle.vm_facts.specs.declared.page.Page.{Page}
use Rattle.vm_facts.specs.declared.page.Page.TheVariants.{Data, Stack, Text}
use Rattle.space_map.specs.Space.{Places}

-- the numbers of the spaces, in their order
abbrev pub sids_of : List Places → List ℕ
sids_of ss = map (λ (s : Places). s.sid) ss

-- a number is below each of these
abbrev pub IsBelowAll : ℕ → List ℕ → Type 0
IsBelowAll n [] = Unit {0}
IsBelowAll n (m ∷ ms) = (n < m) × IsBelowAll n ms

-- each number is below all that stand after it
abbrev pub AreRising : List ℕ → Type 0
AreRising [] = Unit {0}
AreRising (n ∷ ns) = IsBelowAll n ns × AreRising ns

-- the space with this number stands there
pub record StandsAt (ss : List Places) (sid index : ℕ) : Type 0 where
  pub in_range : index < length ss
  pub number : slice_get (sids_of ss) index ≡ Some sid

-- the space that a page of data or stack is of
abbrev pub space_named : Page → Option ℕ
space_named (Data sid v) = Some sid
space_named (Stack sid v) = Some sid
space_named (Text image v) = None

-- the space that a page of data or stack is of stands there
pub record IsHome (ss : List Places) (index : ℕ) (q : Page) : Type 0 where
  pub sid : ℕ
  pub named : space_named q ≡ Some sid
  pub stands : StandsAt ss sid index
