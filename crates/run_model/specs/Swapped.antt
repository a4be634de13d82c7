-- The swap image after a journal, and what was asked of swap and of files by then.
use Rattle.std.specs.Prelude.{ℕ, List, [], ◌∷◌, ◌++◌, length, Option, Some, None}
use Rattle.vm_facts.specs.SwapImages.{StoreRequest, SwapImage, with_requests}
use Rattle.flat_state.specs.Flat.{Process, Inputs, process_of}
use Rattle.vm_facts.specs.declared.page.Page.TheVariants.{Data, Stack}
use Rattle.vm_facts.specs.declared.entry.Entry.{Entry}
use Rattle.vm_facts.specs.declared.entry.Entry.TheVariants as entries
use Rattle.swap_book.specs.declared.Owner.TheVariants as owners
use Rattle.swap_book.specs.Holdings.{block_in}
use Rattle.flat_state.specs.Journal.{units_of}
use Rattle.kernel_model.specs.Placement.{Transfer, Part, Errand, Writes, Reads, slots_of}
use Rattle.kernel_model.specs.Place.{space_of_holding}
use Rattle.kernel_model.specs.Ownership.{block_of}
use Rattle.kernel_model.specs.Stored.{store_at}
use Rattle.kernel_model.specs.UPage.{u_page}
use Rattle.kernel_model.specs.Coupled.{memory_of}
use Rattle.kernel_model.specs.Requests.{image_files, unit_asks}
use Rattle.flat_model.specs.Asked.{start_held, or_before}
use Rattle.run_model.specs.State.{State, start}
use Rattle.run_model.specs.After.{after}

-- each of these pages, as the flat machine has it, is in its two blocks
abbrev pub pages_stored : Inputs → State → List Part → List ℕ → List ℕ
pages_stored A s [] image = image
pages_stored A s (x ∷ xs) image = pages_stored A s xs (store_at image (block_of s.holdings x.page) (memory_of A.images s.point.flat x.page))

-- the swap image once a transfer of these pages ends, by what it is for; a read changes nothing
abbrev pub done_stored : Inputs → State → List Part → Errand → List ℕ → List ℕ
done_stored A s xs Writes image = pages_stored A s xs image
done_stored A s xs (Reads source demanded) image = image

-- the swap image once the oldest transfer ends; without one nothing changes
abbrev pub oldest_stored : Inputs → State → List Transfer → List ℕ → List ℕ
oldest_stored A s [] image = image
oldest_stored A s (t ∷ ts) image = done_stored A s t.parts t.errand image

-- the swap image once a process's u page is in its blocks; without such a process nothing changes
abbrev pub u_stored : State → ℕ → Option Process → List ℕ → List ℕ
u_stored s pid None image = image
u_stored s pid (Some q) image =
    store_at image (block_in s.holdings (owners.U pid) 0)
    (u_page q.regs (length (slots_of s.place (Data (space_of_holding q.holding) 0))) (length (slots_of s.place (Stack (space_of_holding q.holding) 0))))

-- the swap image after a unit: the end of a write puts its pages there, and a process that goes out its u page
abbrev pub image_behind : Inputs → State → Entry → List ℕ → List ℕ
image_behind A s entries.Done image = oldest_stored A s s.place.transfers image
image_behind A s (entries.SwapOut pid) image = u_stored s pid (process_of s.point.flat pid) image
image_behind A s _ image = image

-- the swap image after the writes of these units, from this state and this image on
unfoldable pub swapped_from : Inputs → State → List Entry → List ℕ → List ℕ
swapped_from A s [] image = image
swapped_from A s (u ∷ us) image = swapped_from A (after A s u) us (image_behind A s u image)

-- the swap image after the writes of a journal
abbrev pub swapped : Inputs → List Entry → List ℕ → List ℕ
swapped A journal image = swapped_from A (start A (or_before [] (start_held A))) (units_of journal) image

-- What is asked of swap, and of the files of the images.

-- what these units ask of them, in their order, from this state on
unfoldable pub requests_from : Inputs → State → List Entry → List StoreRequest
requests_from A s [] = []
requests_from A s (u ∷ us) = unit_asks (image_files A) s.place s.holdings u ++ requests_from A (after A s u) us

-- what the units of a journal ask of them
abbrev pub requests_of : Inputs → List Entry → List StoreRequest
requests_of A journal = requests_from A (start A (or_before [] (start_held A))) (units_of journal)

-- The swap device as it is told, with the files beside it.

-- after these units: their writes are its bytes, and their requests were made, each once and no others
abbrev pub left_from : Inputs → State → List Entry → SwapImage → SwapImage
left_from A s us image = with_requests (requests_from A s us) (record image { bytes = swapped_from A s us image.bytes })

-- after a journal
abbrev pub swap_left : Inputs → List Entry → SwapImage → SwapImage
swap_left A journal image = with_requests (requests_of A journal) (record image { bytes = swapped A journal image.bytes })
