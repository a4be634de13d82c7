-- A device that is told has its size.
use Rattle.std.proofs.Common.{◌≡◌, ◌≤◌, ◌*◌, ℕ, Bool, true, false, List, [], length, Option, Some, None, refl, subst, arith}
use Rattle.std.proofs.lemmas.Option.{same_Some}
use Rattle.std.specs.Option.{ForSome}
use Rattle.vm_facts.specs.SwapImages.{SwapImage, unnoted}
use Rattle.io_edge.specs.Told.{told_length, untold_length}
use Rattle.io_edge.specs.Zeros.{with_zeros, length-with_zeros}
use Rattle.system_edge.specs.SwapFiles.{IsWithin, file_image, image_of}

-- bytes that are within fewer are within more
pub within_more : (few many : ℕ) (bytes : Option (List ℕ)) → few ≤ many → IsWithin few bytes → IsWithin many bytes
within_more few many bytes more within = λ told is. omega (arith, more, within told is)

-- none are within any number
pub none_within : (size : ℕ) → IsWithin size (Some [])
none_within size = λ told is. subst (λ (bytes : List ℕ). length bytes ≤ size) (same_Some [] told is) (omega arith)

pub file_whole : (told : Bool) (blocks : ℕ) (bytes : Option (List ℕ)) (image : SwapImage) → IsWithin (512 * blocks) bytes
    → file_image told blocks bytes ≡ Some image → length image.bytes ≡ 512 * blocks
file_whole false blocks bytes image within is = untold_length image (512 * blocks) is
file_whole true blocks None image within is = untold_length image (512 * blocks) is
file_whole true blocks (Some bytes) image within is =
    told_length (unnoted (with_zeros (512 * blocks) bytes)) image (512 * blocks) is (length-with_zeros (512 * blocks) bytes (within bytes refl))

pub image_whole : {F : Type 0} (bytes : F → Option (List ℕ)) (told : Bool) (blocks : ℕ) (file : Option F) (image : SwapImage)
    → ForSome file (λ f. IsWithin (512 * blocks) (bytes f)) → image_of bytes told blocks file ≡ Some image → length image.bytes ≡ 512 * blocks
image_whole bytes told blocks None image within is = file_whole told blocks (Some []) image (none_within (512 * blocks)) is
image_whole bytes told blocks (Some file) image within is = file_whole told blocks (bytes file) image (within file refl) is
