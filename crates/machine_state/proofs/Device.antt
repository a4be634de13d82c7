-- What a swap device says of its image is what the model says of it.
use Rattle.std.proofs.Common.{◌≡◌, ℕ, List, ◌++◌, Option, Some, None, refl, sym, ap, ◌∙◌}
use Rattle.vm_facts.specs.SwapImages.{StoreRequest, SwapWrite, SwapImage, with_requests}
use Rattle.vm_facts.specs.declared.page.Page.{Page}
use Rattle.io_edge.specs.SwapImage as device
use Rattle.swap_book.specs.Holdings.{Holdings}
use Rattle.page_model.specs.Ownership.{block_of}
use Rattle.page_model.specs.Stored.{stored_at, stored, store_at}
use Rattle.kernel_model.specs.SwapRequests.{asked_at, read_at, write_at}

-- a page that was read from its blocks
pub read_is : (hs : Holdings) (image bytes : List ℕ) (q : Page) (b : ℕ) → block_of hs q ≡ Some b → device.HoldsPage (Some image) b bytes
    → bytes ≡ stored hs image q
read_is hs image bytes q b e h = h ∙ sym (ap (stored_at image) e)

-- a page that was asked for
pub asked_is : (hs : Holdings) (image : SwapImage) (q : Page) (b : ℕ) (new : Option SwapImage) → block_of hs q ≡ Some b
    → device.ReadsPage (Some image) b new → new ≡ Some (read_at image (block_of hs q))
asked_is hs image q b new e h = h ∙ ap (λ (i : SwapImage). Some i) (sym (ap (λ (o : Option ℕ). read_at image o) e))

-- a page that was written into them
pub written_is : (hs : Holdings) (image : SwapImage) (bytes : List ℕ) (q : Page) (b : ℕ) (new : Option SwapImage) → block_of hs q ≡ Some b
    → device.WritesPage (Some image) b bytes new → new ≡ Some (write_at image (block_of hs q) bytes)
written_is hs image bytes q b new e h = h ∙ ap (λ (i : SwapImage). Some i) (sym (ap (λ (o : Option ℕ). write_at image o bytes) e))

-- a page that was written first, before these requests
pub written_first : (image : SwapImage) (o : Option ℕ) (bytes put : List ℕ) (rest : List StoreRequest)
    → with_requests rest (record (write_at image o bytes) { bytes = put }) ≡ with_requests (asked_at SwapWrite o ++ rest) (record image { bytes = put })
written_first image None bytes put rest = refl
written_first image (Some b) bytes put rest = refl
