-- Swap space: blocks of 512 bytes, two to a page, and transfers to and from it.
use Rattle.std.specs.Prelude.{ℕ, ◌+◌, ◌*◌, List, ◌++◌, take, drop}
use Rattle.vm_facts.specs.declared.transfers.TheConstants.{MOST_IN_FLIGHT}

-- how many transfers may be in flight
abbrev pub most_in_flight : ℕ
most_in_flight = MOST_IN_FLIGHT

-- the page whose two blocks begin at this one
unfoldable pub blocks_at : List ℕ → ℕ → List ℕ
blocks_at image block = take 1024 (drop (512 * block) image)

-- the image with these bytes as the page whose two blocks begin at this one
unfoldable pub put_blocks : List ℕ → ℕ → List ℕ → List ℕ
put_blocks image block bytes = take (512 * block) image ++ bytes ++ drop (512 * block + 1024) image
