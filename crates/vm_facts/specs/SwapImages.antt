-- A swap device as it is told, alone or with the files beside it: its bytes, and what was asked.
use Rattle.std.specs.Prelude.{ℕ, List, [], ◌∷◌, ◌++◌}
use Rattle.vm_facts.specs.FileRequests.{FileRequest, FilesNoted}

-- a request: the page whose two blocks of swap begin at this one is read, or written; or files are asked
pub data StoreRequest : Type 0 where
  SwapRead : ℕ → StoreRequest
  SwapWrite : ℕ → StoreRequest
  OfFiles : FileRequest → StoreRequest

-- What has been noted of the requests that were made. A device notes what it chooses: nothing, or all of them in order; two devices that
-- are one note each their own; and so do a device and the files beside it.
pub data Noted : Type 0 where
  Nothing : Noted
  These : List StoreRequest → Noted
  Both : Noted → Noted → Noted
  Beside : Noted → FilesNoted → Noted

-- A swap device as it is told: its bytes, block after block, and what will have been noted once these further requests are made.
pub record SwapImage : Type 0 where
  pub bytes : List ℕ
  pub noted : List StoreRequest → Noted

-- after these requests, in their order, which change no byte
abbrev pub with_requests : List StoreRequest → SwapImage → SwapImage
with_requests requests image = record image { noted = λ more. image.noted (requests ++ more) }

-- after one request
abbrev pub with_request : StoreRequest → SwapImage → SwapImage
with_request request image = with_requests (request ∷ []) image

-- of these bytes, where nothing is noted
abbrev pub unnoted : List ℕ → SwapImage
unnoted bytes = record { bytes = bytes; noted = λ requests. Nothing }
