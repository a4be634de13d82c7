-- What is so of the swap device alone is so of it with the files beside it.
use Rattle.std.proofs.Common.{◌≡◌, inl, inr, ℕ, List, [], ◌∷◌, ◌++◌, map, Option, Some, None, Result, Ok, Err, OnErr, refl, sym, ap, ◌∙◌, subst}
use Rattle.vm_facts.specs.FileRequests.{FileRequest, FileNotes, after_requests}
use Rattle.vm_facts.specs.SwapImages.{StoreRequest, SwapRead, SwapWrite, OfFiles, SwapImage, with_requests}
use Rattle.vm_facts.specs.declared.stop.Stop.{Stop}
use Rattle.vm_facts.specs.declared.stop.Stop.TheVariants as stops
use Rattle.io_edge.specs.WithFiles.{of_swap, of_files, image_with_files, with_files}
use Rattle.io_edge.proofs.Seen.{of_swap-append, of_files-append, files_of_files, swap_of_files, beside_after}
use Rattle.flat_state.specs.Flat.{FlatState, NamedImage}
use Rattle.page_model.specs.Holdings.{Holdings}
use Rattle.page_model.specs.Ownership.{block_of}
use Rattle.page_model.specs.Stored.{store_at}
use Rattle.page_model.specs.Placement.{Transfer, Part, Source, FromSwap, FromFile, Errand, Writes, Reads, image_of}
use Rattle.kernel_model.specs.Kernel.{Kernel, image_after, frame_bytes}
use Rattle.kernel_model.specs.Unit.{u_bytes, proc_of}
use Rattle.kernel_model.specs.SwapRequests.{asked_at, pages_asked, read_at, write_at}
use Rattle.kernel_model.specs.Requests.{ImageFile, fill_asked, fills_asked, errand_asks, first_asks}
use Rattle.table_steps.specs.Done.{Sources, ReadsTold, StandsTold, ImageAfter, SpoilsAll, SpoilsFirst, SpoilsAfter, AskedAll, AskedFor, AskedFirst, AskedAfter, IsReadFrom, OldestReadsFrom}
use Rattle.table_steps.specs.Swapping.{u_block, IsIn, WritesU, AsksU, SpoilsU, SwapBehind, KeepsOut, KeepsIn}
use Rattle.machine_state.specs.FilesAsked.{errand_asked, oldest_asked, AskedUpTo, OldestAskedUpTo}
use Rattle.machine_state.proofs.SwapAsked.{swap_errand_asks, swap_oldest_asks, SwapDone, SwapAskedAll, SwapAskedFirst, SwapAskedAfter}

-- Requests of swap alone.

-- these requests are all of swap
record OfSwap (rs : List StoreRequest) : Type 0 where
  pub swap : of_swap rs ≡ rs
  pub files : of_files rs ≡ []

reads_at : (o : Option ℕ) → OfSwap (asked_at SwapRead o)
reads_at None = record { swap = refl; files = refl }
reads_at (Some block) = record { swap = refl; files = refl }

writes_at : (o : Option ℕ) → OfSwap (asked_at SwapWrite o)
writes_at None = record { swap = refl; files = refl }
writes_at (Some block) = record { swap = refl; files = refl }

both_of_swap : (xs ys : List StoreRequest) → OfSwap xs → OfSwap ys → OfSwap (xs ++ ys)
both_of_swap xs ys x y = record {
  swap = of_swap-append xs ys ∙ ap (λ (rs : List StoreRequest). rs ++ of_swap ys) x.swap ∙ ap (λ (rs : List StoreRequest). xs ++ rs) y.swap;
  files = of_files-append xs ys ∙ ap (λ (rs : List FileRequest). rs ++ of_files ys) x.files ∙ y.files;
}

reads_of : (hs : Holdings) (xs : List Part) → OfSwap (pages_asked hs SwapRead xs)
reads_of hs [] = record { swap = refl; files = refl }
reads_of hs (x ∷ xs) = both_of_swap _ _ (reads_at (block_of hs x.page)) (reads_of hs xs)

writes_of : (hs : Holdings) (xs : List Part) → OfSwap (pages_asked hs SwapWrite xs)
writes_of hs [] = record { swap = refl; files = refl }
writes_of hs (x ∷ xs) = both_of_swap _ _ (writes_at (block_of hs x.page)) (writes_of hs xs)

-- they are made of the device whether files stand beside it or not
swap_alone : (rs : List StoreRequest) (notes : FileNotes) (image : SwapImage) → OfSwap rs
    → image_with_files notes (with_requests rs image) ≡ with_requests rs (image_with_files notes image)
swap_alone rs notes image o =
    ap (λ (xs : List StoreRequest). image_with_files notes (with_requests xs image)) (sym o.swap)
    ∙ ap (λ (xs : List FileRequest). image_with_files (after_requests xs notes) (with_requests (of_swap rs) image)) (sym o.files)
    ∙ beside_after rs notes image

-- and requests of files are made of the files alone
files_alone : (rs : List FileRequest) (notes : FileNotes) (image : SwapImage)
    → image_with_files (after_requests rs notes) image ≡ with_requests (map OfFiles rs) (image_with_files notes image)
files_alone rs notes image =
    ap (λ (xs : List FileRequest). image_with_files (after_requests xs notes) image) (sym (files_of_files rs))
    ∙ ap (λ (xs : List StoreRequest). image_with_files (after_requests (of_files (map OfFiles rs)) notes) (with_requests xs image)) (sym (swap_of_files rs))
    ∙ beside_after (map OfFiles rs) notes image

reads_beside : (notes : FileNotes) (image : SwapImage) (o : Option ℕ) → image_with_files notes (read_at image o) ≡ read_at (image_with_files notes image) o
reads_beside notes image o = swap_alone (asked_at SwapRead o) notes image (reads_at o)

writes_beside : (notes : FileNotes) (image : SwapImage) (o : Option ℕ) (bytes : List ℕ)
    → image_with_files notes (write_at image o bytes) ≡ write_at (image_with_files notes image) o bytes
writes_beside notes image o bytes =
    swap_alone (asked_at SwapWrite o) notes (record image { bytes = store_at image.bytes o bytes }) (writes_at o)

-- The end of a transfer.

module _ (files : List ImageFile) (f : ℕ → ℕ) (hs : Holdings) where
  swap_part : (e : Errand) (xs : List Part) → of_swap (errand_asks files f hs e xs) ≡ swap_errand_asks hs e xs
  swap_part Writes xs = let o = writes_of hs xs in o.swap
  swap_part (Reads FromSwap demanded) xs = let o = reads_of hs xs in o.swap
  swap_part (Reads FromFile demanded) xs = swap_of_files (fills_asked files f xs)

  file_part : (e : Errand) (xs : List Part) → of_files (errand_asks files f hs e xs) ≡ errand_asked files f e xs
  file_part Writes xs = let o = writes_of hs xs in o.files
  file_part (Reads FromSwap demanded) xs = let o = reads_of hs xs in o.files
  file_part (Reads FromFile demanded) xs = files_of_files (fills_asked files f xs)

  first_of_swap : (ts : List Transfer) → of_swap (first_asks files f hs ts) ≡ swap_oldest_asks hs ts
  first_of_swap [] = refl
  first_of_swap (t ∷ ts) = swap_part t.errand t.parts

  first_of_files : (ts : List Transfer) → of_files (first_asks files f hs ts) ≡ oldest_asked files f ts
  first_of_files [] = refl
  first_of_files (t ∷ ts) = file_part t.errand t.parts

pub done_beside : (files : List ImageFile) (k : Kernel) (before after : Option SwapImage) (old new : FileNotes)
    → SwapDone k before after → new ≡ after_requests (oldest_asked files (image_of k.place) k.place.transfers) old
    → ImageAfter files k (with_files old before) (with_files new after)
done_beside files k None after old new d n = ap (with_files new) d
done_beside files k (Some image) after old new d n =
    let rs : List StoreRequest = first_asks files (image_of k.place) k.holdings k.place.transfers in
    let put : SwapImage = record image { bytes = image_after k image.bytes } in
    ap (with_files new) d
    ∙ ap (λ (notes : FileNotes). Some (image_with_files notes (with_requests (swap_oldest_asks k.holdings k.place.transfers) put))) n
    ∙ ap (λ (xs : List StoreRequest). Some (image_with_files (after_requests (oldest_asked files (image_of k.place) k.place.transfers) old) (with_requests xs put)))
    (sym (first_of_swap files (image_of k.place) k.holdings k.place.transfers))
    ∙ ap (λ (xs : List FileRequest). Some (image_with_files (after_requests xs old) (with_requests (of_swap rs) put)))
    (sym (first_of_files files (image_of k.place) k.holdings k.place.transfers))
    ∙ ap (λ (i : SwapImage). Some i) (beside_after rs old put)

-- A write of it that failed.

all_spoiled : (k : Kernel) (notes : FileNotes) (image : SwapImage) (xs : List Part) (after : SwapImage) → SpoilsAll k image xs after
    → SpoilsAll k (image_with_files notes image) xs (image_with_files notes after)
all_spoiled k notes image [] after h = absurd h
all_spoiled k notes image (x ∷ xs) after (inl h) =
    inl (h.0, h.1, ap (image_with_files notes) h.2 ∙ writes_beside notes image (block_of k.holdings x.page) h.0)
all_spoiled k notes image (x ∷ xs) after (inr h) =
    inr (subst (λ (i : SwapImage). SpoilsAll k i xs (image_with_files notes after)) (writes_beside notes image (block_of k.holdings x.page) (frame_bytes k x.frame))
    (all_spoiled k notes (write_at image (block_of k.holdings x.page) (frame_bytes k x.frame)) xs after h))

first_spoiled : (k : Kernel) (notes : FileNotes) (image : SwapImage) (ts : List Transfer) (after : SwapImage) → SpoilsFirst k image ts after
    → SpoilsFirst k (image_with_files notes image) ts (image_with_files notes after)
first_spoiled k notes image [] after h = absurd h
first_spoiled k notes image (t ∷ ts) after h = (h.0, all_spoiled k notes image t.parts after h.1)

pub spoiled_beside : (k : Kernel) (before after : Option SwapImage) (old new : FileNotes) → SpoilsAfter k before after → new ≡ old
    → SpoilsAfter k (with_files old before) (with_files new after)
spoiled_beside k None after old new h n = ap (with_files new) h
spoiled_beside k (Some image) after old new h n = (
  image_with_files old h.0,
  ap (with_files new) h.1 ∙ ap (λ (notes : FileNotes). Some (image_with_files notes h.0)) n,
  first_spoiled k old image k.place.transfers h.0 h.2,
)

-- A read of it from swap that failed.

all_asked : (files : List ImageFile) (k : Kernel) (notes : FileNotes) (image : SwapImage) (xs : List Part) (after : SwapImage) → SwapAskedAll k image xs after
    → AskedAll files k FromSwap (image_with_files notes image) xs (image_with_files notes after)
all_asked files k notes image [] after h = absurd h
all_asked files k notes image (x ∷ xs) after (inl h) = inl (ap (image_with_files notes) h ∙ reads_beside notes image (block_of k.holdings x.page))
all_asked files k notes image (x ∷ xs) after (inr h) =
    inr (subst (λ (i : SwapImage). AskedAll files k FromSwap i xs (image_with_files notes after)) (reads_beside notes image (block_of k.holdings x.page))
    (all_asked files k notes (read_at image (block_of k.holdings x.page)) xs after h))

first_asked : (files : List ImageFile) (k : Kernel) (notes : FileNotes) (image : SwapImage) (ts : List Transfer) (after : SwapImage)
    → OldestReadsFrom FromSwap ts → SwapAskedFirst k image ts after → AskedFirst files k (image_with_files notes image) ts (image_with_files notes after)
first_asked files k notes image [] after from h = absurd h
first_asked files k notes image (t ∷ ts) after from h = go t.errand from
  where
    go : (e : Errand) → IsReadFrom FromSwap e → AskedFor files k e (image_with_files notes image) t.parts (image_with_files notes after)
    go Writes x = absurd x
    go (Reads FromSwap demanded) x = all_asked files k notes image t.parts after h
    go (Reads FromFile demanded) x = absurd cc

pub asked_beside : (files : List ImageFile) (k : Kernel) (before after : Option SwapImage) (old new : FileNotes) → OldestReadsFrom FromSwap k.place.transfers
    → SwapAskedAfter k before after → new ≡ old → AskedAfter files k (with_files old before) (with_files new after)
asked_beside files k None after old new from h n = ap (with_files new) h
asked_beside files k (Some image) after old new from h n = (
  image_with_files old h.0,
  ap (with_files new) h.1 ∙ ap (λ (notes : FileNotes). Some (image_with_files notes h.0)) n,
  first_asked files k old image k.place.transfers h.0 from h.2,
)

-- A read from a file that failed.

all_filled : (files : List ImageFile) (k : Kernel) (image : SwapImage) (xs : List Part) (old new : FileNotes) → AskedUpTo files (image_of k.place) xs old new
    → AskedAll files k FromFile (image_with_files old image) xs (image_with_files new image)
all_filled files k image [] old new h = absurd h
all_filled files k image (x ∷ xs) old new (inl h) =
    inl (ap (λ (notes : FileNotes). image_with_files notes image) h ∙ files_alone (fill_asked files (image_of k.place) x.page) old image)
all_filled files k image (x ∷ xs) old new (inr h) =
    inr (subst (λ (i : SwapImage). AskedAll files k FromFile i xs (image_with_files new image)) (files_alone (fill_asked files (image_of k.place) x.page) old image)
    (all_filled files k image xs (after_requests (fill_asked files (image_of k.place) x.page) old) new h))

first_filled : (files : List ImageFile) (k : Kernel) (image : SwapImage) (ts : List Transfer) (old new : FileNotes) → OldestReadsFrom FromFile ts
    → OldestAskedUpTo files (image_of k.place) ts old new → AskedFirst files k (image_with_files old image) ts (image_with_files new image)
first_filled files k image [] old new from h = absurd h
first_filled files k image (t ∷ ts) old new from h = go t.errand from
  where
    go : (e : Errand) → IsReadFrom FromFile e → AskedFor files k e (image_with_files old image) t.parts (image_with_files new image)
    go Writes x = absurd x
    go (Reads FromSwap demanded) x = absurd cc
    go (Reads FromFile demanded) x = all_filled files k image t.parts old new h

pub filled_beside : (files : List ImageFile) (k : Kernel) (before after : Option SwapImage) (old new : FileNotes) → OldestReadsFrom FromFile k.place.transfers
    → after ≡ before → OldestAskedUpTo files (image_of k.place) k.place.transfers old new → AskedAfter files k (with_files old before) (with_files new after)
filled_beside files k None after old new from same h = ap (with_files new) same
filled_beside files k (Some image) after old new from same h =
    (image_with_files new image, ap (with_files new) same, first_filled files k image k.place.transfers old new from h)

-- What was read, and what stands.

pub told_beside : (from : Sources) (before : Option SwapImage) (k : Kernel) (read : List (List ℕ)) (notes : FileNotes) → ReadsTold from before k read
    → ReadsTold from (with_files notes before) k read
told_beside from None k read notes h = tt
told_beside from (Some image) k read notes h = h

pub stands_beside : (k : Kernel) (images : List NamedImage) (i : Option SwapImage) (flat : FlatState) (notes : FileNotes) → StandsTold k images i flat
    → StandsTold k images (with_files notes i) flat
stands_beside k images None flat notes h = absurd h
stands_beside k images (Some image) flat notes h = h

pub stands_alone : (k : Kernel) (images : List NamedImage) (i : Option SwapImage) (flat : FlatState) (notes : FileNotes)
    → StandsTold k images (with_files notes i) flat → StandsTold k images i flat
stands_alone k images None flat notes h = absurd h
stands_alone k images (Some image) flat notes h = h

-- The u pages.

pub wrote_beside : (k : Kernel) (pid : ℕ) (before after : Option SwapImage) (notes : FileNotes) → WritesU k pid before after
    → WritesU k pid (with_files notes before) (with_files notes after)
wrote_beside k pid None after notes h = ap (with_files notes) h
wrote_beside k pid (Some image) after notes h =
    ap (with_files notes) h ∙ ap (λ (i : SwapImage). Some i) (writes_beside notes image (u_block k pid) (u_bytes k (proc_of k pid)))

pub asks_beside : (k : Kernel) (pid : ℕ) (before after : Option SwapImage) (notes : FileNotes) → AsksU k pid before after
    → AsksU k pid (with_files notes before) (with_files notes after)
asks_beside k pid None after notes h = ap (with_files notes) h
asks_beside k pid (Some image) after notes h = ap (with_files notes) h ∙ ap (λ (i : SwapImage). Some i) (reads_beside notes image (u_block k pid))

spoils_beside : (k : Kernel) (pid : ℕ) (before after : Option SwapImage) (notes : FileNotes) → SpoilsU k pid before after
    → SpoilsU k pid (with_files notes before) (with_files notes after)
spoils_beside k pid None after notes h = ap (with_files notes) h
spoils_beside k pid (Some image) after notes h =
    (h.0, h.1, ap (with_files notes) h.2 ∙ ap (λ (i : SwapImage). Some i) (writes_beside notes image (u_block k pid) h.0))

pub behind_beside : {A : Type 0} (r : Result A Stop) (k : Kernel) (pid : ℕ) (before after : Option SwapImage) (notes : FileNotes) → SwapBehind r k pid before
    after
    → SwapBehind r k pid (with_files notes before) (with_files notes after)
behind_beside (Ok x) k pid before after notes h = ap (with_files notes) h
behind_beside (Err stops.NoMemory) k pid before after notes h = ap (with_files notes) h
behind_beside (Err stops.JournalFull) k pid before after notes h = ap (with_files notes) h
behind_beside (Err stops.FileFault) k pid before after notes h = ap (with_files notes) h
behind_beside (Err stops.SwapReadFault) k pid before after notes h = asks_beside k pid before after notes h
behind_beside (Err stops.SwapWriteFault) k pid before after notes h = spoils_beside k pid before after notes h

pub err_beside : {A : Type 0} (r : Result A Stop) (k : Kernel) (pid : ℕ) (before after : Option SwapImage) (notes : FileNotes)
    → OnErr r (SwapBehind r k pid before after) → OnErr r (SwapBehind r k pid (with_files notes before) (with_files notes after))
err_beside (Ok x) k pid before after notes h = h
err_beside {A} (Err stop) k pid before after notes h = behind_beside {A = A} (Err stop) k pid before after notes h

pub in_beside : (old new : Kernel) (pid : ℕ) (image : Option SwapImage) (notes : FileNotes) → IsIn old new pid image → IsIn old new pid (with_files notes image)
in_beside old new pid None notes h = h
in_beside old new pid (Some image) notes h = record { regs = h.regs; stored = h.stored; step = h.step }

pub out_kept_beside : (old new : Kernel) (before after : Option SwapImage) (notes : FileNotes) → KeepsOut old new before after
    → KeepsOut old new (with_files notes before) (with_files notes after)
out_kept_beside old new before after notes h =
    λ images flat stood. stands_beside new images after flat notes (h images flat (stands_alone old images before flat notes stood))

pub in_kept_beside : (old new : Kernel) (pid : ℕ) (before after : Option SwapImage) (notes : FileNotes) → KeepsIn old new pid before after
    → KeepsIn old new pid (with_files notes before) (with_files notes after)
in_kept_beside old new pid before after notes h =
    λ images flat may stood. stands_beside new images after flat notes (h images flat may (stands_alone old images before flat notes stood))
