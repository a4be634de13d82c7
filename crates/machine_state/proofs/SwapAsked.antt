-- What the end of a transfer asks of the swap device alone, and what becomes of that device.
use Rattle.std.specs.Prelude.{◌≡◌, ◌⊎◌, List, [], ◌∷◌, Option, Some, None}
use Rattle.vm_facts.specs.SwapImages.{StoreRequest, SwapRead, SwapWrite, SwapImage, with_requests}
use Rattle.page_model.specs.Holdings.{Holdings}
use Rattle.page_model.specs.Placement.{Transfer, Part, FromSwap, FromFile, Errand, Writes, Reads}
use Rattle.page_model.specs.Ownership.{block_of}
use Rattle.kernel_model.specs.Kernel.{Kernel, image_after}
use Rattle.kernel_model.specs.SwapRequests.{pages_asked, read_at}

-- by what a transfer of these pages is for: a read from a file asks nothing of swap
abbrev pub swap_errand_asks : Holdings → Errand → List Part → List StoreRequest
swap_errand_asks hs Writes xs = pages_asked hs SwapWrite xs
swap_errand_asks hs (Reads FromSwap demanded) xs = pages_asked hs SwapRead xs
swap_errand_asks hs (Reads FromFile demanded) xs = []

abbrev pub swap_oldest_asks : Holdings → List Transfer → List StoreRequest
swap_oldest_asks hs [] = []
swap_oldest_asks hs (t ∷ ts) = swap_errand_asks hs t.errand t.parts

-- the device after the oldest transfer
abbrev pub SwapDone : Kernel → Option SwapImage → Option SwapImage → Type 0
SwapDone k None after = after ≡ None
SwapDone k (Some image) after =
    after ≡ Some (with_requests (swap_oldest_asks k.holdings k.place.transfers) (record image { bytes = image_after k image.bytes }))

-- after a read from swap that failed
abbrev pub SwapAskedAll : Kernel → SwapImage → List Part → SwapImage → Type 0
SwapAskedAll k image [] after = ⊥
SwapAskedAll k image (x ∷ xs) after =
    (after ≡ read_at image (block_of k.holdings x.page)) ⊎ SwapAskedAll k (read_at image (block_of k.holdings x.page)) xs after

abbrev pub SwapAskedFirst : Kernel → SwapImage → List Transfer → SwapImage → Type 0
SwapAskedFirst k image [] after = ⊥
SwapAskedFirst k image (t ∷ ts) after = SwapAskedAll k image t.parts after

abbrev pub SwapAskedAfter : Kernel → Option SwapImage → Option SwapImage → Type 0
SwapAskedAfter k None after = after ≡ None
SwapAskedAfter k (Some image) after = (asked : SwapImage) × (after ≡ Some asked) × SwapAskedFirst k image k.place.transfers asked
