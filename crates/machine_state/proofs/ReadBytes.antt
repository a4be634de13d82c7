-- What the devices answer is what the model reads and stores.
use Rattle.std.proofs.Common.{◌≡◌, inl, inr, ℕ, zero, suc, ◌+◌, ◌-◌, ◌*◌, ◌/◌, ◌≤◌, min, Bool, true, false, List, [], ◌∷◌, ◌++◌, length, map, take, drop, replicate, Option, Some, None, slice_get, refl, sym, ap, ◌∙◌, subst, arith}
use Rattle.std.proofs.lemmas.List.{take-append-drop, length-take}
use Rattle.flat_state.specs.Flat.{FlatState, NamedImage, image_numbered}
use Rattle.vm_facts.specs.SwapImages.{StoreRequest, SwapRead, SwapWrite, SwapImage, with_requests}
use Rattle.vm_facts.proofs.Requests.{with_requests-append}
use Rattle.vm_facts.specs.declared.page.Page.{Page}
use Rattle.vm_facts.specs.declared.page.Page.TheVariants.{Data, Stack, Text}
use Rattle.aout_image.specs.declared.Image.{Image}
use Rattle.aout_image.specs.Image.{Loaded, loaded, in_pages, page_at, page_from, pages_of, given_of, offset_of, segment_of, text_given, data_given}
use Rattle.aout_image.proofs.Images.{page_at-in_pages}
use Rattle.io_edge.specs.FileHolding.{NamedFile, HoldsRange, bytes_at}
use Rattle.transfer_ring.specs.declared.transfer.Inbound.{Inbound}
use Rattle.transfer_ring.specs.declared.transfer.Outbound.{Outbound}
use Rattle.transfer_ring.specs.declared.transfer.Source.{Source as From}
use Rattle.transfer_ring.specs.declared.transfer.Source.TheVariants as froms
use Rattle.transfer_ring.specs.Parts.{HasRead, AreSameParts, PartsAreRead as AreReadParts, AsksSource, AsksParts, AsksSome, WritesParts, SpoilsParts}
use Rattle.swap_book.specs.Holdings.{Holdings}
use Rattle.page_model.specs.Placement.{Placement, Part, Source, FromSwap, FromFile, Reads, image_of}
use Rattle.page_model.specs.Ownership.{block_of}
use Rattle.page_model.specs.PageBytes.{source_bytes}
use Rattle.kernel_model.specs.Kernel.{Kernel, store_all, frame_bytes}
use Rattle.kernel_model.specs.Coupled.{beside_kernel, file_of, image_text, data_of}
use Rattle.page_model.specs.Stored.{store_at}
use Rattle.kernel_model.specs.SwapRequests.{asked_at, pages_asked, read_at, write_at}
use Rattle.table_steps.specs.View.{source_of, in_part, out_part}
use Rattle.table_steps.specs.Sourced.{ImageNamed, named_at, IsRange, IsRangeOf, IsPageRange, IsSourced, AreSourcedIn, AreOwnBlocks}
use Rattle.table_steps.specs.Files.{HasFile, HaveFiles, AreFiles, AreLoaded, AreImages}
use Rattle.table_steps.specs.Done.{AreWholePages, SpoilsAll}
use Rattle.machine_state.proofs.SwapAsked.{swap_errand_asks, SwapAskedAll}
use Rattle.machine_state.proofs.Device.{read_is, asked_is, written_is, written_first}
use Rattle.machine_state.proofs.Reaches.{file_at, given_within}
use Rattle.machine_state.proofs.Ends.{AreBytes}

-- A page that was read from its file.

loaded_segment : (facts : Image) (bytes : List ℕ) (text : Bool)
    → segment_of text (loaded facts bytes) ≡ in_pages (pages_of text facts) (take (given_of text facts) (drop (offset_of text facts) bytes))
unfolding loaded
loaded_segment facts bytes true = refl
loaded_segment facts bytes false = refl

given_fits : (facts : Image) (text : Bool) → given_of text facts ≤ 1024 * pages_of text facts
given_fits facts true = go (text_given facts)
  where
    go : (n : ℕ) → n ≤ 1024 * ((n + 1023) / 1024)
    go n = omega arith
given_fits facts false = go (data_given facts) facts.bss_len
  where
    go : (n b : ℕ) → n ≤ 1024 * ((n + b + 1023) / 1024)
    go n b = omega arith

range_read : (n : ImageNamed) (files : List NamedFile) (text : Bool) (v id offset count : ℕ) (bytes : List ℕ) → HasFile n files
    → IsRange n text v id offset count → length bytes ≡ 1024
    → HoldsRange (Some files) id offset (take count bytes) → drop count bytes ≡ replicate (1024 - count) 0
    → bytes ≡ page_at v (segment_of text (loaded n.facts (bytes_at files n.file)))
range_read n files text v id offset count bytes f r whole h z =
    let file : List ℕ = bytes_at files n.file in
    let small : count ≤ 1024 = let e = r.count_is in omega arith in
    let long : length (take count bytes) ≡ count = length-take count bytes ∙ (omega arith) in
    let front : take count bytes ≡ take count (drop offset file) =
    h ∙ ap (λ (m : ℕ). take m (drop offset (bytes_at files id))) long ∙ ap (λ (i : ℕ). take count (drop offset (bytes_at files i))) r.file in
    sym (take-append-drop count bytes)
    ∙ ap (λ (xs : List ℕ). xs ++ drop count bytes) front
    ∙ ap (λ (xs : List ℕ). take count (drop offset file) ++ xs) z
    ∙ ap (λ (o : ℕ). page_from file o count) r.offset_is
    ∙ ap (page_from file (offset_of text n.facts + min (1024 * v) (given_of text n.facts))) r.count_is
    ∙ sym (ap (page_at v) (loaded_segment n.facts file text)
    ∙ page_at-in_pages (offset_of text n.facts) (given_of text n.facts) (pages_of text n.facts) v file (let a = f.whole in let b = given_within n.facts text in omega arith)
    (given_fits n.facts text) r.within)

pub loaded_at : (ns : List ImageNamed) (files : List NamedFile) (images : List NamedImage) (i : ℕ) (n : ImageNamed) → AreLoaded ns files images
    → slice_get ns i ≡ Some n
    → (x : NamedImage) × (slice_get images i ≡ Some x) × (x.image ≡ loaded n.facts (bytes_at files n.file))
loaded_at [] files images i n h e = absurd cc
loaded_at (m ∷ ms) files [] i n h e = absurd h
loaded_at (m ∷ ms) files (x ∷ xs) zero n h e = let same : m ≡ n = cc in (x, refl, subst (λ (y : ImageNamed). x.image ≡ loaded y.facts (bytes_at files y.file)) same h.0)
loaded_at (m ∷ ms) files (x ∷ xs) (suc i) n h e = loaded_at ms files xs i n h.1 e

text_read : (ns : List ImageNamed) (files : List NamedFile) (images : List NamedImage) (i v id offset count : ℕ) (bytes : List ℕ) (o : Option ImageNamed)
    → HaveFiles ns files
    → AreLoaded ns files images → named_at ns i ≡ o → IsRangeOf o true v id offset count → length bytes ≡ 1024
    → HoldsRange (Some files) id offset (take count bytes) → drop count bytes ≡ replicate (1024 - count) 0
    → bytes ≡ page_at v (image_text (image_numbered images i))
text_read ns files images i v id offset count bytes None f l e r w h z = absurd r
text_read ns files images zero v id offset count bytes (Some n) f l e r w h z = absurd cc
text_read ns files images (suc i) v id offset count bytes (Some n) f l e r w h z =
    let x = loaded_at ns files images i n l e in
    range_read n files true v id offset count bytes (file_at ns files i n f e) r w h z
    ∙ ap (λ (y : Loaded). page_at v y.text) (sym x.2) ∙ sym (ap (λ (y : Option NamedImage). page_at v (image_text y)) x.1)

data_read : (ns : List ImageNamed) (files : List NamedFile) (images : List NamedImage) (i v id offset count : ℕ) (bytes : List ℕ) (o : Option ImageNamed)
    → HaveFiles ns files
    → AreLoaded ns files images → named_at ns i ≡ o → IsRangeOf o false v id offset count → length bytes ≡ 1024
    → HoldsRange (Some files) id offset (take count bytes) → drop count bytes ≡ replicate (1024 - count) 0
    → bytes ≡ page_at v (data_of (image_numbered images i))
data_read ns files images i v id offset count bytes None f l e r w h z = absurd r
data_read ns files images zero v id offset count bytes (Some n) f l e r w h z = absurd cc
data_read ns files images (suc i) v id offset count bytes (Some n) f l e r w h z =
    let x = loaded_at ns files images i n l e in
    range_read n files false v id offset count bytes (file_at ns files i n f e) r w h z
    ∙ ap (λ (y : Loaded). page_at v y.data) (sym x.2) ∙ sym (ap (λ (y : Option NamedImage). page_at v (data_of y)) x.1)

file_read : (ns : List ImageNamed) (p : Placement) (files : List NamedFile) (images : List NamedImage) (q : Page) (id offset count : ℕ) (bytes : List ℕ)
    → HaveFiles ns files
    → AreLoaded ns files images → IsPageRange ns (image_of p) q id offset count → length bytes ≡ 1024
    → HoldsRange (Some files) id offset (take count bytes) → drop count bytes ≡ replicate (1024 - count) 0 → bytes ≡ file_of images p q
file_read ns p files images (Data sid v) id offset count bytes f l r w h z = data_read ns files images (image_of p sid) v id offset count bytes (named_at ns (image_of p sid)) f l refl r w h z
file_read ns p files images (Stack sid v) id offset count bytes f l r w h z = absurd r
file_read ns p files images (Text i v) id offset count bytes f l r w h z = text_read ns files images i v id offset count bytes (named_at ns i) f l refl r w h z

-- A page that was read.
page_read : (ns : List ImageNamed) (k : Kernel) (size : ℕ) (holds : Option (List NamedFile)) (images : List NamedImage) (image : List ℕ) (flat : FlatState)
    (q : Page) (x : From) (s : Source) (bytes : List ℕ)
    → AreFiles ns holds → AreImages ns holds images → IsSourced ns (image_of k.place) k.holdings size q x → source_of x ≡ s → length bytes ≡ 1024
    → HasRead holds (Some image) x bytes
    → bytes ≡ source_bytes (beside_kernel k images image flat) s q
page_read ns k size holds images image flat q (froms.Swap block) s bytes f l r e w h =
    read_is k.holdings image bytes q block r.own h ∙ ap (λ (y : Source). source_bytes (beside_kernel k images image flat) y q) e
page_read ns k size None images image flat q (froms.File id offset count) s bytes f l r e w h = absurd l
page_read ns k size (Some files) images image flat q (froms.File id offset count) s bytes f l r e w h =
    file_read ns k.place files images q id offset count bytes f l r w h.0 h.1 ∙ ap (λ (y : Source). source_bytes (beside_kernel k images image flat) y q) e

pub pages_read : (ns : List ImageNamed) (k : Kernel) (size : ℕ) (holds : Option (List NamedFile)) (images : List NamedImage) (image : List ℕ) (flat : FlatState)
    (s : Source) (olds news : List Inbound)
    → AreFiles ns holds → AreImages ns holds images → AreSourcedIn ns (image_of k.place) k.holdings size s olds → AreSameParts olds news → AreWholePages news
    → AreReadParts holds (Some image) news
    → map (λ (x : Inbound). x.token.bytes) news ≡ map (λ (x : Part). source_bytes (beside_kernel k images image flat) s x.page) (map in_part olds)
pages_read ns k size holds images image flat s [] [] f l r p w h = refl
pages_read ns k size holds images image flat s [] (y ∷ ys) f l r p w h = absurd p
pages_read ns k size holds images image flat s (x ∷ xs) [] f l r p w h = absurd p
pages_read ns k size holds images image flat s (x ∷ xs) (y ∷ ys) f l r p w h =
    ap (λ (b : List ℕ). b ∷ map (λ (z : Inbound). z.token.bytes) ys)
    (page_read ns k size holds images image flat x.page x.source s y.token.bytes f l r.1 r.0 w.0 (subst (λ (z : From). HasRead holds (Some image) z y.token.bytes) p.0.source h.0))
    ∙ ap (λ (bs : List (List ℕ)). source_bytes (beside_kernel k images image flat) s x.page ∷ bs) (pages_read ns k size holds images image flat s xs ys f l r.2 p.1 w.1 h.1)

-- Pages that were asked for.

source_asked : (ns : List ImageNamed) (f : ℕ → ℕ) (hs : Holdings) (size : ℕ) (image : SwapImage) (q : Page) (x : From) (new : Option SwapImage)
    → source_of x ≡ FromSwap → IsSourced ns f hs size q x → AsksSource x (Some image) new → new ≡ Some (read_at image (block_of hs q))
source_asked ns f hs size image q (froms.Swap block) new e r h = asked_is hs image q block new r.own h
source_asked ns f hs size image q (froms.File id offset count) new e r h = absurd cc

source_unasked : (x : From) (old new : Option SwapImage) → source_of x ≡ FromFile → AsksSource x old new → new ≡ old
source_unasked (froms.Swap block) old new e h = absurd cc
source_unasked (froms.File id offset count) old new e h = h

none_of_source : (x : From) (new : Option SwapImage) → AsksSource x None new → new ≡ None
none_of_source (froms.Swap block) new h = h
none_of_source (froms.File id offset count) new h = h

module _ (ns : List ImageNamed) (f : ℕ → ℕ) (hs : Holdings) (size : ℕ) where
  swap_asked : (image : SwapImage) (xs : List Inbound) (new : Option SwapImage) → AreSourcedIn ns f hs size FromSwap xs → AsksParts xs (Some image) new
      → new ≡ Some (with_requests (pages_asked hs SwapRead (map in_part xs)) image)
  swap_asked image [] new r h = h
  swap_asked image (x ∷ xs) new r h =
      let next : SwapImage = read_at image (block_of hs x.page) in
      let one : h.0 ≡ Some next = source_asked ns f hs size image x.page x.source h.0 r.0 r.1 h.1 in
      swap_asked next xs new r.2 (subst (λ (i : Option SwapImage). AsksParts xs i new) one h.2)
      ∙ ap (λ (i : SwapImage). Some i)
      (sym (with_requests-append (asked_at SwapRead (block_of hs x.page)) (pages_asked hs SwapRead (map in_part xs)) image))

  files_asked : (xs : List Inbound) (old new : Option SwapImage) → AreSourcedIn ns f hs size FromFile xs → AsksParts xs old new → new ≡ old
  files_asked [] old new r h = h
  files_asked (x ∷ xs) old new r h = files_asked xs h.0 new r.2 h.2 ∙ source_unasked x.source old h.0 r.0 h.1

  pub pages_asked_for : (s : Source) (demanded : Page) (image : SwapImage) (xs : List Inbound) (new : Option SwapImage) → AreSourcedIn ns f hs size s xs
      → AsksParts xs (Some image) new → new ≡ Some (with_requests (swap_errand_asks hs (Reads s demanded) (map in_part xs)) image)
  pages_asked_for FromSwap demanded image xs new r h = swap_asked image xs new r h
  pages_asked_for FromFile demanded image xs new r h = files_asked xs (Some image) new r h

pub none_asked : (xs : List Inbound) (new : Option SwapImage) → AsksParts xs None new → new ≡ None
none_asked [] new h = h
none_asked (x ∷ xs) new h = none_asked xs new (subst (λ (i : Option SwapImage). AsksParts xs i new) (none_of_source x.source h.0 h.1) h.2)

-- Pages that were asked for up to a fault.

pub swap_asked_some : (ns : List ImageNamed) (f : ℕ → ℕ) (k : Kernel) (size : ℕ) (image : SwapImage) (xs : List Inbound) (new : Option SwapImage)
    → AreSourcedIn ns f k.holdings size FromSwap xs → AsksSome xs (Some image) new
    → (after : SwapImage) × (new ≡ Some after) × SwapAskedAll k image (map in_part xs) after
swap_asked_some ns f k size image [] new r h = absurd h
swap_asked_some ns f k size image (x ∷ xs) new r (inl h) =
    (read_at image (block_of k.holdings x.page), source_asked ns f k.holdings size image x.page x.source new r.0 r.1 h, inl refl)
swap_asked_some ns f k size image (x ∷ xs) new r (inr h) =
    let next : SwapImage = read_at image (block_of k.holdings x.page) in
    let one : h.0 ≡ Some next = source_asked ns f k.holdings size image x.page x.source h.0 r.0 r.1 h.1 in
    let more = swap_asked_some ns f k size next xs new r.2 (subst (λ (i : Option SwapImage). AsksSome xs i new) one h.2) in
    (more.0, more.1, inr more.2)

pub files_asked_some : (ns : List ImageNamed) (f : ℕ → ℕ) (hs : Holdings) (size : ℕ) (xs : List Inbound) (old new : Option SwapImage)
    → AreSourcedIn ns f hs size FromFile xs → AsksSome xs old new → new ≡ old
files_asked_some ns f hs size [] old new r h = absurd h
files_asked_some ns f hs size (x ∷ xs) old new r (inl h) = source_unasked x.source old new r.0 h
files_asked_some ns f hs size (x ∷ xs) old new r (inr h) = files_asked_some ns f hs size xs h.0 new r.2 h.2 ∙ source_unasked x.source old h.0 r.0 h.1

pub none_asked_some : (xs : List Inbound) (new : Option SwapImage) → AsksSome xs None new → new ≡ None
none_asked_some [] new h = absurd h
none_asked_some (x ∷ xs) new (inl h) = none_of_source x.source new h
none_asked_some (x ∷ xs) new (inr h) =
    none_asked_some xs new (subst (λ (i : Option SwapImage). AsksSome xs i new) (none_of_source x.source h.0 h.1) h.2)

-- Pages that were written.

pub pages_written : (k : Kernel) (size : ℕ) (image : SwapImage) (xs : List Outbound) (new : Option SwapImage) → AreOwnBlocks k.holdings size xs
    → AreBytes k.frames xs → WritesParts xs (Some image) new
    → new ≡ Some (with_requests (pages_asked k.holdings SwapWrite (map out_part xs)) (record image { bytes = store_all k image.bytes (map out_part xs) }))
pages_written k size image [] new o b h = h
pages_written k size image (x ∷ xs) new o b h =
    let block : Option ℕ = block_of k.holdings x.page in
    let bytes : List ℕ = frame_bytes k x.token.number in
    let rest : List StoreRequest = pages_asked k.holdings SwapWrite (map out_part xs) in
    let one : h.0 ≡ Some (write_at image block bytes) =
    written_is k.holdings image x.token.bytes x.page x.block h.0 o.0.own h.1 ∙ ap (λ (bs : List ℕ). Some (write_at image block bs)) (sym b.0) in
    pages_written k size (write_at image block bytes) xs new o.1 b.1 (subst (λ (i : Option SwapImage). WritesParts xs i new) one h.2)
    ∙ ap (λ (i : SwapImage). Some i) (written_first image block bytes (store_all k (store_at image.bytes block bytes) (map out_part xs)) rest)

pub none_written : (xs : List Outbound) (new : Option SwapImage) → WritesParts xs None new → new ≡ None
none_written [] new h = h
none_written (x ∷ xs) new h = none_written xs new (subst (λ (i : Option SwapImage). WritesParts xs i new) h.1 h.2)

pub pages_spoiled : (k : Kernel) (size : ℕ) (image : SwapImage) (xs : List Outbound) (new : Option SwapImage) → AreOwnBlocks k.holdings size xs
    → AreBytes k.frames xs → SpoilsParts xs (Some image) new
    → (after : SwapImage) × (new ≡ Some after) × SpoilsAll k image (map out_part xs) after
pages_spoiled k size image [] new o b h = absurd h
pages_spoiled k size image (x ∷ xs) new o b (inl s) =
    (write_at image (block_of k.holdings x.page) s.0, written_is k.holdings image s.0 x.page x.block new o.0.own s.2, inl (s.0, s.1, refl))
pages_spoiled k size image (x ∷ xs) new o b (inr h) =
    let next : SwapImage = write_at image (block_of k.holdings x.page) (frame_bytes k x.token.number) in
    let one : h.0 ≡ Some next = written_is k.holdings image x.token.bytes x.page x.block h.0 o.0.own h.1 ∙ ap (λ (bs : List ℕ). Some (write_at image (block_of k.holdings x.page) bs)) (sym b.0) in
    let more = pages_spoiled k size next xs new o.1 b.1 (subst (λ (i : Option SwapImage). SpoilsParts xs i new) one h.2) in
    (more.0, more.1, inr more.2)

pub none_spoiled : (xs : List Outbound) (new : Option SwapImage) → SpoilsParts xs None new → new ≡ None
none_spoiled [] new h = absurd h
none_spoiled (x ∷ xs) new (inl s) = s.2
none_spoiled (x ∷ xs) new (inr h) = none_spoiled xs new (subst (λ (i : Option SwapImage). SpoilsParts xs i new) h.1 h.2)
