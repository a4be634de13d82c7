-- A swap device and the files beside it, as they are told together.
use Rattle.std.specs.Prelude.{List, [], ◌∷◌, Option, Some, None}
use Rattle.vm_facts.specs.FileRequests.{FileRequest, FileNotes}
use Rattle.vm_facts.specs.SwapImages.{StoreRequest, SwapRead, SwapWrite, OfFiles, Beside, SwapImage}
use Rattle.io_edge.specs.declared.files.Files.{Ghosts as FilesGhosts}
use Rattle.io_edge.specs.declared.swap_dev.SwapDev.{Ghosts as SwapGhosts}

-- of these requests, those of swap
abbrev pub of_swap : List StoreRequest → List StoreRequest
of_swap [] = []
of_swap (SwapRead block ∷ rs) = SwapRead block ∷ of_swap rs
of_swap (SwapWrite block ∷ rs) = SwapWrite block ∷ of_swap rs
of_swap (OfFiles request ∷ rs) = of_swap rs

-- and those of files
abbrev pub of_files : List StoreRequest → List FileRequest
of_files [] = []
of_files (SwapRead block ∷ rs) = of_files rs
of_files (SwapWrite block ∷ rs) = of_files rs
of_files (OfFiles request ∷ rs) = request ∷ of_files rs

-- a device with files beside it, which note the requests of files
abbrev pub image_with_files : FileNotes → SwapImage → SwapImage
image_with_files notes image = record { bytes = image.bytes; noted = λ requests. Beside (image.noted (of_swap requests)) (notes (of_files requests)) }

-- told where the device is
abbrev pub with_files : FileNotes → Option SwapImage → Option SwapImage
with_files notes None = None
with_files notes (Some image) = Some (image_with_files notes image)

-- a swap device and files, over bounds `F: Files` and `D: SwapDev`
abbrev pub stores : {F D : Type 0} → FilesGhosts F → SwapGhosts D → F → D → Option SwapImage
stores f d files swap = with_files (f.notes files) (d.image swap)
