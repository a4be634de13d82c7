-- What swap and the files beside it note together.
use Rattle.std.proofs.Common.{◌≡◌, List, [], ◌∷◌, ◌++◌, map, refl, sym, ap}
use Rattle.vm_facts.specs.FileRequests.{FileRequest, FileNotes, after_requests}
use Rattle.vm_facts.specs.SwapImages.{StoreRequest, SwapRead, SwapWrite, OfFiles, Beside, SwapImage, with_requests}
use Rattle.io_edge.specs.WithFiles.{of_swap, of_files, image_with_files}

pub of_swap-append : (xs ys : List StoreRequest) → of_swap (xs ++ ys) ≡ of_swap xs ++ of_swap ys
of_swap-append [] ys = refl
of_swap-append (SwapRead block ∷ xs) ys = ap (λ (rs : List StoreRequest). SwapRead block ∷ rs) (of_swap-append xs ys)
of_swap-append (SwapWrite block ∷ xs) ys = ap (λ (rs : List StoreRequest). SwapWrite block ∷ rs) (of_swap-append xs ys)
of_swap-append (OfFiles request ∷ xs) ys = of_swap-append xs ys

pub of_files-append : (xs ys : List StoreRequest) → of_files (xs ++ ys) ≡ of_files xs ++ of_files ys
of_files-append [] ys = refl
of_files-append (SwapRead block ∷ xs) ys = of_files-append xs ys
of_files-append (SwapWrite block ∷ xs) ys = of_files-append xs ys
of_files-append (OfFiles request ∷ xs) ys = ap (λ (rs : List FileRequest). request ∷ rs) (of_files-append xs ys)

-- requests of files alone
pub files_of_files : (rs : List FileRequest) → of_files (map OfFiles rs) ≡ rs
files_of_files [] = refl
files_of_files (r ∷ rs) = ap (λ (more : List FileRequest). r ∷ more) (files_of_files rs)

pub swap_of_files : (rs : List FileRequest) → of_swap (map OfFiles rs) ≡ []
swap_of_files [] = refl
swap_of_files (r ∷ rs) = swap_of_files rs

-- Both note their own of these requests.
pub beside_after : (rs : List StoreRequest) (notes : FileNotes) (image : SwapImage)
    → image_with_files (after_requests (of_files rs) notes) (with_requests (of_swap rs) image) ≡ with_requests rs (image_with_files notes image)
beside_after rs notes image = λ i. record {
  bytes = image.bytes;
  noted = λ more. Beside (image.noted (sym (of_swap-append rs more) i)) (notes (sym (of_files-append rs more) i));
}
