-- How many pages transfers have.
use Rattle.std.specs.Prelude.{ℕ, ◌+◌, ◌≤◌, List, [], ◌∷◌, length}
use Rattle.transfer_ring.specs.declared.transfer.Transfer.{Transfer}
use Rattle.transfer_ring.specs.declared.transfer.Transfer.TheVariants.{Read, Write}
use Rattle.transfer_ring.specs.Sound.{HasSources}

-- how many pages a transfer has
abbrev pub transfer_pages : Transfer → ℕ
transfer_pages (Read demanded parts) = length parts.items
transfer_pages (Write parts) = length parts.items

-- the pages of all these together
abbrev pub pages_of_all : List Transfer → ℕ
pages_of_all [] = 0
pages_of_all (transfer ∷ rest) = transfer_pages transfer + pages_of_all rest

-- what holds of a transfer in flight
pub record IsFlight (transfer : Transfer) : Type 0 where
  pub sources : HasSources transfer
  pub few : transfer_pages transfer ≤ 16
