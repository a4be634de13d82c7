-- The blocks of different pages don't meet, so a write of one page leaves all others as they are.
use Rattle.std.proofs.Common.{◌≡◌, ◌≢◌, ◌⊎◌, inl, inr, ℕ, ◌+◌, ◌*◌, ◌≤◌, List, length, Option, Some, None, refl, sym, ap, ◌∙◌, arith}
use Rattle.vm_facts.specs.declared.page.Page.{Page}
use Rattle.vm_facts.specs.declared.page.Page.TheVariants.{Data, Stack, Text}
use Rattle.page_model.specs.Holdings.{Holdings}
use Rattle.page_model.specs.Book.{IsBook, IsPlace, ArePlacesApart}
use Rattle.page_model.proofs.PlaceLaws.{places_apart_of}
use Rattle.page_model.specs.PageNames.{number_of}
use Rattle.page_model.specs.Ownership.{owner_of, block_of}
use Rattle.page_model.specs.PageBytes.{Bytes, Stores}
use Rattle.page_model.specs.Stored.{stored_at, stored, store_at}
use Rattle.vm_facts.specs.Swap.{put_blocks}
use Rattle.vm_facts.proofs.Swap.{blocks_at-put_blocks_same, blocks_at-put_blocks_other}

-- Pages.

same_owners : (q r : Page) → owner_of q ≡ owner_of r → number_of q ≡ number_of r → q ≡ r
same_owners (Data a v) (Data b w) e n = cc
same_owners (Stack a v) (Stack b w) e n = cc
same_owners (Text a v) (Text b w) e n = cc
same_owners _ (Text b w) e n = absurd cc
same_owners _ (Data b w) e n = absurd cc
same_owners _ (Stack b w) e n = absurd cc

pub pages_apart : (size : ℕ) (hs : Holdings) (q r : Page) (x y : ℕ) → IsBook size hs → q ≢ r → block_of hs q ≡ Some x → block_of hs r ≡ Some y
    → (x + 2 ≤ y) ⊎ (y + 2 ≤ x)
pages_apart size hs q r x y book n e h =
    let a : ArePlacesApart size hs = places_apart_of size hs book in
    elim (a.apart (owner_of q) (owner_of r) (number_of q) (number_of r) x y e h) [
      | inl k ↦ absurd (n (same_owners q r k.0 k.1))
      | inr k ↦ k
    ]

pub page_within : (size : ℕ) (hs : Holdings) (q : Page) (x : ℕ) → IsBook size hs → block_of hs q ≡ Some x → x + 2 ≤ size
page_within size hs q x book e =
    let a : ArePlacesApart size hs = places_apart_of size hs book in
    let p : IsPlace size hs (owner_of q) x = a.own (owner_of q) (number_of q) x e in
    p.within

-- A write of a page changes what the image has of it, and of no other page.
pub store_own : (size : ℕ) (hs : Holdings) (image bytes : List ℕ) (q : Page) (x : ℕ) → IsBook size hs → 512 * size ≤ length image
    → length bytes ≡ 1024 → block_of hs q ≡ Some x → stored hs (store_at image (block_of hs q) bytes) q ≡ bytes
store_own size hs image bytes q x book l lb e =
    let w = page_within size hs q x book e in
    ap (λ (o : Option ℕ). stored_at (store_at image o bytes) o) e ∙ blocks_at-put_blocks_same image bytes x (omega arith) lb

pub stored_other : (image bytes : List ℕ) (x : ℕ) (o : Option ℕ) → 512 * x + 1024 ≤ length image → length bytes ≡ 1024
    → ((y : ℕ) → o ≡ Some y → (x + 2 ≤ y) ⊎ (y + 2 ≤ x)) → stored_at (put_blocks image x bytes) o ≡ stored_at image o
stored_other image bytes x None l lb n = refl
stored_other image bytes x (Some y) l lb n = blocks_at-put_blocks_other image bytes x y l lb (n y refl)

pub store_other : (size : ℕ) (hs : Holdings) (image bytes : List ℕ) (q r : Page) (x : ℕ) → IsBook size hs → 512 * size ≤ length image
    → length bytes ≡ 1024 → block_of hs q ≡ Some x → r ≢ q
    → stored hs (store_at image (block_of hs q) bytes) r ≡ stored hs image r
store_other size hs image bytes q r x book l lb e n =
    let w = page_within size hs q x book e in
    ap (λ (o : Option ℕ). stored_at (store_at image o bytes) (block_of hs r)) e
    ∙ stored_other image bytes x (block_of hs r) (omega arith) lb (λ y h. pages_apart size hs q r x y book (λ k. n (sym k)) e h)

-- what a write changes beside, over a swap image
pub image_stores : (size : ℕ) (hs : Holdings) (image bytes : List ℕ) (q : Page) (x : ℕ) (b : Bytes) → IsBook size hs → 512 * size ≤ length image
    → length bytes ≡ 1024 → block_of hs q ≡ Some x
    → Stores (record b { swap = stored hs image }) (record b { swap = stored hs (store_at image (block_of hs q) bytes) }) q bytes
image_stores size hs image bytes q x b book l lb e = record {
  frames = refl;
  own = store_own size hs image bytes q x book l lb e;
  others = λ w n. store_other size hs image bytes q w x book l lb e n;
  file = λ w. refl;
  start = λ w. refl;
  memory = λ w. refl;
}
