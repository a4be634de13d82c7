-- What the swap image has of a page: its two blocks.
use Rattle.std.specs.Prelude.{ℕ, List, [], Option, Some, None}
use Rattle.vm_facts.specs.declared.page.Page.{Page}
use Rattle.vm_facts.specs.Swap.{blocks_at, put_blocks}
use Rattle.swap_book.specs.Holdings.{Holdings}
use Rattle.page_model.specs.Ownership.{block_of}

-- The swap image.

-- what the swap image has in the two blocks from this one on; nothing where there is no block
abbrev pub stored_at : List ℕ → Option ℕ → List ℕ
stored_at image None = []
stored_at image (Some b) = blocks_at image b

-- what the swap image has of a page
abbrev pub stored : Holdings → List ℕ → Page → List ℕ
stored hs image q = stored_at image (block_of hs q)

-- the swap image once these bytes are in the two blocks from this one on; the same image where there is no block
abbrev pub store_at : List ℕ → Option ℕ → List ℕ → List ℕ
store_at image None bytes = image
store_at image (Some b) bytes = put_blocks image b bytes
