-- Requests that are made of a swap device, as it is told.
use Rattle.std.proofs.Common.{◌≡◌, List, ◌++◌, append_assoc}
use Rattle.vm_facts.specs.SwapImages.{StoreRequest, SwapImage, with_requests}

-- requests, and then others, are a row of requests
pub with_requests-append : (xs ys : List StoreRequest) (image : SwapImage) → with_requests (xs ++ ys) image ≡ with_requests ys (with_requests xs image)
with_requests-append xs ys image = λ i. record image { noted = λ more. image.noted (append_assoc xs ys more i) }
