-- The requests that a unit makes of the swap device, and the image after them.
use Rattle.std.specs.Prelude.{ℕ, List, [], ◌∷◌, ◌++◌, Option, Some, None}
use Rattle.vm_facts.specs.SwapImages.{StoreRequest, SwapRead, SwapWrite, SwapImage, with_requests}
use Rattle.page_model.specs.Holdings.{Holdings}
use Rattle.page_model.specs.Ownership.{block_of}
use Rattle.page_model.specs.Placement.{Part}
use Rattle.page_model.specs.Stored.{store_at}

-- The requests.

-- the request for the page at a block; none where there is no block
abbrev pub asked_at : (ℕ → StoreRequest) → Option ℕ → List StoreRequest
asked_at ask None = []
asked_at ask (Some block) = ask block ∷ []

-- those for these pages, in their order
abbrev pub pages_asked : Holdings → (ℕ → StoreRequest) → List Part → List StoreRequest
pages_asked hs ask [] = []
pages_asked hs ask (x ∷ xs) = asked_at ask (block_of hs x.page) ++ pages_asked hs ask xs

-- The swap device as it is told.

-- after a read of the page at a block, if there is one
abbrev pub read_at : SwapImage → Option ℕ → SwapImage
read_at image block = with_requests (asked_at SwapRead block) image

-- after a write of these bytes there
abbrev pub write_at : SwapImage → Option ℕ → List ℕ → SwapImage
write_at image block bytes = with_requests (asked_at SwapWrite block) (record image { bytes = store_at image.bytes block bytes })
