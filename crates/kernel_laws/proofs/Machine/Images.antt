-- What the end of a transfer does to the swap image and to the frames is what the laws of coupling ask.
use Rattle.std.proofs.Common.{◌≡◌, ℕ, zero, suc, ◌*◌, ◌≤◌, List, [], ◌∷◌, length, map, Option, Some, None, refl, sym, ap, ◌∙◌, subst, arith}
use Rattle.std.specs.Prelude.{slice_get}
use Rattle.flat_state.specs.Flat.{FlatState, NamedImage, image_numbered}
use Rattle.aout_image.specs.declared.Image.{Image}
use Rattle.page_model.specs.Place.{facts_of, facts_numbered}
use Rattle.swap_book.specs.Book.{IsBook}
use Rattle.page_model.specs.Placement.{Part, Source, FromSwap, FromFile}
use Rattle.page_model.specs.Ownership.{block_of}
use Rattle.page_model.specs.PageBytes.{Bytes, source_bytes, bytes_read, StoresAll}
use Rattle.kernel_model.specs.Kernel.{Kernel, frame_bytes, read_into, store_all}
use Rattle.page_model.specs.Stored.{store_at}
use Rattle.kernel_model.specs.Coupled.{beside_kernel}
use Rattle.page_laws.proofs.Blocks.Places.{page_within, image_stores}
use Rattle.vm_facts.proofs.Swap.{length-put_blocks}

-- the page of a part has blocks, and its frame a page's bytes
pub record CanStore (k : Kernel) (x : Part) : Type 0 where
  pub block : ℕ
  pub found : block_of k.holdings x.page ≡ Some block
  pub whole : length (frame_bytes k x.frame) ≡ 1024

abbrev pub AllStore : Kernel → List Part → Type 0
AllStore k [] = Unit {0}
AllStore k (x ∷ xs) = CanStore k x × AllStore k xs

-- The pages of a write go into their blocks, one after another.
pub written_bytes : (xs : List Part) (size : ℕ) (k : Kernel) (images : List NamedImage) (flat : FlatState) (image : List ℕ) → IsBook size k.holdings
    → 512 * size ≤ length image → AllStore k xs
    → StoresAll (beside_kernel k images image flat) xs (beside_kernel k images (store_all k image xs) flat)
written_bytes [] size k images flat image book l a = refl
written_bytes (x ∷ xs) size k images flat image book l a =
    let c : CanStore k x = a.0 in
    let w = page_within size k.holdings x.page c.block book c.found in
    let same : length (store_at image (block_of k.holdings x.page) (frame_bytes k x.frame)) ≡ length image =
    ap (λ (o : Option ℕ). length (store_at image o (frame_bytes k x.frame))) c.found ∙ length-put_blocks image (frame_bytes k x.frame) c.block (omega arith) c.whole in (
      beside_kernel k images (store_at image (block_of k.holdings x.page) (frame_bytes k x.frame)) flat,
      image_stores size k.holdings image (frame_bytes k x.frame) x.page c.block (beside_kernel k images image flat) book l c.whole c.found,
      written_bytes xs size k images flat (store_at image (block_of k.holdings x.page) (frame_bytes k x.frame)) book (omega arith) a.1,
    )

-- what is read, page by page
abbrev pub pages_read : Bytes → Source → List Part → List (List ℕ)
pages_read b source xs = map (λ (x : Part). source_bytes b source x.page) xs

-- The frames of a read have what was read.
pub read_bytes : (source : Source) (xs : List Part) (b : Bytes) → bytes_read b source xs ≡ record b { frames = read_into xs (pages_read b source xs) b.frames }
read_bytes source [] b = refl
read_bytes FromSwap (x ∷ xs) b = read_bytes FromSwap xs (Rattle.page_model.specs.PageBytes.with_frame b x.frame (b.swap x.page))
read_bytes FromFile (x ∷ xs) b = read_bytes FromFile xs (Rattle.page_model.specs.PageBytes.with_frame b x.frame (b.file x.page))

-- The facts of an image.

abbrev pub facts_in : Option NamedImage → Option Image
facts_in None = None
facts_in (Some named) = Some named.image.facts

slice_facts : (images : List NamedImage) (place : ℕ) → slice_get (facts_of images) place ≡ facts_in (slice_get images place)
slice_facts [] place = refl
slice_facts (named ∷ images) zero = refl
slice_facts (named ∷ images) (suc place) = slice_facts images place

pub facts_same : (images : List NamedImage) (number : ℕ) → facts_numbered (facts_of images) number ≡ facts_in (image_numbered images number)
facts_same images zero = refl
facts_same images (suc place) = slice_facts images place

pub facts_found : (images : List NamedImage) (number : ℕ) (named : NamedImage) → image_numbered images number ≡ Some named
    → facts_numbered (facts_of images) number ≡ Some named.image.facts
facts_found images number named e = facts_same images number ∙ ap facts_in e

-- something is so of an image that is there
pub image_known : (images : List NamedImage) (number : ℕ) (named : NamedImage) (P : Option Image → Option NamedImage → Type 0)
    → image_numbered images number ≡ Some named
    → P (Some named.image.facts) (Some named) → P (facts_numbered (facts_of images) number) (image_numbered images number)
image_known images number named P e h = subst (λ (o : Option Image). P o (image_numbered images number)) (sym (facts_found images number named e)) (subst (P (Some named.image.facts)) (sym e) h)
