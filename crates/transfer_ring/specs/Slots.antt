-- The slots of the ring: where the transfers in flight stand.
use Rattle.std.specs.Prelude.{◌≡◌, ℕ, ◌+◌, ◌<◌, ◌≤◌, List, [], ◌∷◌, Option, Some, None, length, slice_index_or, ⊤}
use Rattle.transfer_ring.specs.declared.transfer.Transfer.{Transfer}
use Rattle.vm_facts.specs.Lists.{times}
use Rattle.transfer_ring.specs.Counting.{IsFlight}

-- what stands in a slot; past the last one nothing does
abbrev pub slot_at : List (Option Transfer) → ℕ → Option Transfer
slot_at slots slot = slice_index_or slots slot None

-- a transfer, if there is one, before others
abbrev pub put_first : Option Transfer → List Transfer → List Transfer
put_first None rest = rest
put_first (Some transfer) rest = transfer ∷ rest

-- the transfers that stand in these slots, in this order
abbrev pub in_flight : List (Option Transfer) → List ℕ → List Transfer
in_flight slots [] = []
in_flight slots (slot ∷ rest) = put_first (slot_at slots slot) (in_flight slots rest)

-- how often a slot stands in the order
abbrev pub listings : Option Transfer → ℕ
listings None = 0
listings (Some transfer) = 1

-- a transfer in a slot has at most 16 pages, with sources that they have room for
abbrev pub IsSoundSlot : Option Transfer → Type 0
IsSoundSlot None = ⊤
IsSoundSlot (Some transfer) = IsFlight transfer

-- the order has each used slot once, and the others are spare
pub record IsKept (slots : List (Option Transfer)) (order spare : List ℕ) : Type 0 where
  pub all : length slots ≡ 16
  pub count : length order + length spare ≡ 16
  pub listed : (slot : ℕ) → times slot order ≡ listings (slot_at slots slot)
  pub once : (slot : ℕ) → slot < 16 → times slot order + times slot spare ≡ 1
  pub beyond : (slot : ℕ) → 16 ≤ slot → times slot spare ≡ 0
  pub sound : (slot : ℕ) → IsSoundSlot (slot_at slots slot)
