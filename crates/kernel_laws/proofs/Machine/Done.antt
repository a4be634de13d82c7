-- The end of a transfer keeps the whole machine coupled: what was written is in the swap image, and what was read in
-- the frames.
use Rattle.std.proofs.Common.{◌≡◌, ◌⊎◌, inl, inr, ℕ, ◌+◌, ◌*◌, ◌<◌, ◌≤◌, Bool, true, false, List, [], ◌∷◌, length, map, drop, Option, Some, None, IsSome, refl, sym, ap, ◌∙◌, subst, arith, length-drop}
use Rattle.std.proofs.lemmas.List.{length-take-le}
use Rattle.flat_state.specs.Space.{Space}
use Rattle.flat_state.specs.Flat.{FlatState, NamedImage, image_numbered, spaces_of}
use Rattle.vm_facts.specs.declared.page.Page.{Page}
use Rattle.vm_facts.specs.declared.page.Page.TheVariants.{Data, Stack, Text}
use Rattle.vm_facts.specs.declared.page.PageState.TheVariants.{Going}
use Rattle.aout_image.specs.Image.{page_at}
use Rattle.swap_book.specs.declared.Owner.TheVariants as owners
use Rattle.swap_book.specs.Holdings.{Holdings, block_in}
use Rattle.swap_book.specs.Book.{IsBook, ArePlacesApart}
use Rattle.swap_book.proofs.PlaceLaws.{places_apart_of}
use Rattle.page_model.specs.Pages.{numbered, frame_of, data_in, stack_in, SpacePages}
use Rattle.flat_state.specs.PageNames.{number_of}
use Rattle.page_model.specs.Placement.{Transfer, Part, Errand, Writes, Reads, space_number, moving, parts_of, state_of, mark_of, slots_of, IsThere}
use Rattle.page_model.specs.Moves.{done}
use Rattle.page_model.specs.Ownership.{OwnsFrames, OwnsBlocks, OneOwner, Each, IsMoving, owner_of, block_of, needs_blocks, needs_blocks_by}
use Rattle.page_model.specs.PageBytes.{Bytes, IfSaved, bytes_in, source_bytes, BytesAfter, BytesBy}
use Rattle.kernel_model.specs.Kernel.{Kernel, frame_bytes, store_all, image_after, image_after_of, image_after_by, landed, landed_by, plain_step, done_step}
use Rattle.kernel_model.specs.Coupled.{Coupled, Fits, SameTables, AreRead, AreReadBy, image_text, memory_of, data_bytes_in, stack_bytes_in, beside_kernel}
use Rattle.kernel_model.specs.Sound.{Sound, TextFits, lives}
use Rattle.page_model.specs.Stored.{stored, store_at}
use Rattle.vm_facts.specs.Swap.{put_blocks}
use Rattle.page_laws.proofs.Moves.Steps.{page_in}
use Rattle.page_laws.proofs.Blocks.Aside.{places_found}
use Rattle.page_laws.proofs.Blocks.Places.{page_within, stored_other}
use Rattle.vm_facts.proofs.Swap.{length-put_blocks}
use Rattle.kernel_laws.proofs.Machine.Images.{CanStore, AllStore, written_bytes, read_bytes}
use Rattle.page_laws.proofs.Bytes.Pages.{keeps_at}
use Rattle.page_laws.proofs.Bytes.Runs.{done_coupled}
use Rattle.page_laws.proofs.Bytes.Others.{each_front}
use Rattle.kernel_laws.proofs.Machine.Shapes.{done_shaped}
use Rattle.kernel_laws.proofs.Machine.Moves.{alike_coupled, file_same, u_stored, moved_coupled}

-- A page that is there has 1,024 bytes.

page_length : (v n : ℕ) (bytes : List ℕ) → length bytes ≡ 1024 * n → v < n → length (page_at v bytes) ≡ 1024
page_length v n bytes l w = length-take-le 1024 (drop (1024 * v) bytes) (omega (arith, length-drop (1024 * v) bytes))

-- a segment of a space is as long as its pages
pub fit_data : (o : Option Space) (x : Option SpacePages) → Fits o x → length (data_bytes_in o) ≡ 1024 * length (data_in x)
fit_data None None f = refl
fit_data None (Some x) f = absurd f
fit_data (Some s) None f = absurd f
fit_data (Some s) (Some x) f = f.data_size

pub fit_stack : (o : Option Space) (x : Option SpacePages) → Fits o x → length (stack_bytes_in o) ≡ 1024 * length (stack_in x)
fit_stack None None f = refl
fit_stack None (Some x) f = absurd f
fit_stack (Some s) None f = absurd f
fit_stack (Some s) (Some x) f = f.stack_size

pub memory_length : (k : Kernel) (images : List NamedImage) (flat : FlatState) (w : Page) → SameTables k flat → TextFits images k.place
    → IsThere k.place w → length (memory_of images flat w) ≡ 1024
memory_length k images flat (Data sid v) t x there = page_length v (length (slots_of k.place (Data sid 0))) (data_bytes_in (numbered (λ (s : Space). s.sid) sid (spaces_of flat)))
    (fit_data (numbered (λ (s : Space). s.sid) sid (spaces_of flat)) (numbered space_number sid k.place.spaces) (t.spaces sid)) there
memory_length k images flat (Stack sid v) t x there = page_length v (length (slots_of k.place (Stack sid 0))) (stack_bytes_in (numbered (λ (s : Space). s.sid) sid (spaces_of flat)))
    (fit_stack (numbered (λ (s : Space). s.sid) sid (spaces_of flat)) (numbered space_number sid k.place.spaces) (t.spaces sid)) there
memory_length k images flat (Text image v) t x there = page_length v (length (slots_of k.place (Text image 0))) (image_text (image_numbered images image)) (x image) there

-- The pages of a write have blocks.

going_needs : (q : Page) (f : ℕ) (m : Bool) → needs_blocks_by q (Going f) m ≡ true
going_needs (Data sid v) f true = refl
going_needs (Data sid v) f false = refl
going_needs _ f true = refl
going_needs _ f false = refl

pub some_of : {A : Type 0} (o : Option A) → IsSome o → (x : A) × (o ≡ Some x)
some_of None e = absurd cc
some_of (Some x) e = (x, refl)

module _ (size : ℕ) (k : Kernel) (images : List NamedImage) (image : List ℕ) (flat : FlatState) where
  can_store : (x : Part) → Sound size k → TextFits images k.place → Coupled k images image flat → state_of k.place x.page ≡ Going x.frame → CanStore k x
  can_store x so fits c e =
      let o : OneOwner size (lives k.processes) k.place k.holdings = so.owner in
      let needs : needs_blocks k.place x.page ≡ true =
      ap (λ (s : Rattle.vm_facts.specs.declared.page.PageState.PageState). needs_blocks_by x.page s (mark_of k.place x.page)) e ∙ going_needs x.page x.frame (mark_of k.place x.page) in
      let block : (b : ℕ) × (block_of k.holdings x.page ≡ Some b) = some_of (block_of k.holdings x.page) (places_found size (lives k.processes) k.place k.holdings x.page o needs) in
      let there : IsThere k.place x.page = page_in k.place x.page x.frame (ap frame_of e) in
      let here : (bytes_in (beside_kernel k images image flat) x.frame ≡ memory_of images flat x.page) × IfSaved (beside_kernel k images image flat) x.page (mark_of k.place x.page) =
      keeps_at k.place (beside_kernel k images image flat) x.page (Going x.frame) c.pages there e in
      record { block = block.0; found = block.1; whole = ap length here.0 ∙ memory_length k images flat x.page c.tables fits there }

  all_store : (xs : List Part) → Sound size k → TextFits images k.place → Coupled k images image flat → Each (IsMoving k.place) (map (moving Writes) xs)
      → AllStore k xs
  all_store [] so fits c m = tt
  all_store (x ∷ xs) so fits c m = (can_store x so fits c m.0, all_store xs so fits c m.1)

  -- the pages that the oldest transfer writes have bytes and blocks
  pub oldest_store : (t : Transfer) (ts : List Transfer) → Sound size k → TextFits images k.place → Coupled k images image flat → k.place.transfers ≡ t ∷ ts
      → t.errand ≡ Writes → AllStore k t.parts
  oldest_store t ts so fits c h e =
      let o : OneOwner size (lives k.processes) k.place k.holdings = so.owner in
      let f : OwnsFrames k.place = o.frames in
      all_store t.parts so fits c (subst (λ (x : Errand). Each (IsMoving k.place) (map (moving x) t.parts)) e
      (each_front (IsMoving k.place) (map (moving t.errand) t.parts) (parts_of ts) (subst (λ (us : List Transfer). Each (IsMoving k.place) (parts_of us)) h f.moves)))

-- What else the image has.

-- the blocks of a u page are of no page
u_apart : (size : ℕ) (hs : Holdings) (q : Page) (pid x y : ℕ) → IsBook size hs → block_of hs q ≡ Some x → block_in hs (owners.U pid) 0 ≡ Some y
    → (x + 2 ≤ y) ⊎ (y + 2 ≤ x)
u_apart size hs q pid x y book e h =
    let a : ArePlacesApart size hs = places_apart_of size hs book in
    elim (a.apart (owner_of q) (owners.U pid) (number_of q) 0 x y e h) [
      | inl k ↦ absurd (other q k.0)
      | inr k ↦ k
    ]
  where
    other : (q : Page) → owner_of q ≡ owners.U pid → ⊥
    other (Data sid v) e = cc
    other (Stack sid v) e = cc
    other (Text image v) e = cc

-- A write keeps the image's length, and all u pages.
record Writing (k : Kernel) (before after : List ℕ) : Type 0 where
  pub whole : length after ≡ length before
  pub u_pages : (pid : ℕ) → u_stored k after pid ≡ u_stored k before pid

all_written : (xs : List Part) (size : ℕ) (k : Kernel) (image : List ℕ) → IsBook size k.holdings → 512 * size ≤ length image → AllStore k xs
    → Writing k image (store_all k image xs)
all_written [] size k image book l a = record { whole = refl; u_pages = λ pid. refl }
all_written (x ∷ xs) size k image book l a =
    let c : CanStore k x = a.0 in
    let w = page_within size k.holdings x.page c.block book c.found in
    let put : store_at image (block_of k.holdings x.page) (frame_bytes k x.frame) ≡ put_blocks image c.block (frame_bytes k x.frame) =
    ap (λ (o : Option ℕ). store_at image o (frame_bytes k x.frame)) c.found in
    let same : length (store_at image (block_of k.holdings x.page) (frame_bytes k x.frame)) ≡ length image =
    ap length put ∙ length-put_blocks image (frame_bytes k x.frame) c.block (omega arith) c.whole in
    let more : Writing k (store_at image (block_of k.holdings x.page) (frame_bytes k x.frame)) (store_all k image (x ∷ xs)) =
    all_written xs size k (store_at image (block_of k.holdings x.page) (frame_bytes k x.frame)) book (omega arith) a.1 in
    record {
      whole = more.whole ∙ same;
      u_pages = λ pid. more.u_pages pid ∙ ap (λ (i : List ℕ). u_stored k i pid) put
          ∙ stored_other image (frame_bytes k x.frame) c.block (block_in k.holdings (owners.U pid) 0) (omega arith) c.whole (λ y h. u_apart size k.holdings x.page pid c.block y book c.found h);
    }

-- Done.

-- what the end of the oldest transfer makes of what stands beside
abbrev ended_bytes : Kernel → List NamedImage → List ℕ → FlatState → List Transfer → List (List ℕ) → Bytes
ended_bytes k images image flat ts read = record (beside_kernel k images image flat) { frames = landed ts read k.frames; swap = stored k.holdings (image_after_of k image ts) }

ending : (size : ℕ) (k : Kernel) (images : List NamedImage) (image : List ℕ) (flat : FlatState) (read : List (List ℕ)) → Sound size k
    → TextFits images k.place → 512 * size ≤ length image → Coupled k images image flat
    → AreRead (beside_kernel k images image flat) k.place.transfers read → (ts : List Transfer) → k.place.transfers ≡ ts
    → BytesAfter (beside_kernel k images image flat) ts (ended_bytes k images image flat ts read) × Writing k image (image_after_of k image ts)
ending size k images image flat read so fits l c r [] h = (refl, record { whole = refl; u_pages = λ pid. refl })
ending size k images image flat read so fits l c r (t ∷ ts) h = by t.errand refl
  where
    b : Bytes
    b = beside_kernel k images image flat

    o : OneOwner size (lives k.processes) k.place k.holdings
    o = so.owner

    book : IsBook size k.holdings
    book = let w : OwnsBlocks size (lives k.processes) k.place k.holdings = o.blocks in w.book

    moves : Each (IsMoving k.place) (map (moving t.errand) t.parts)
    moves = let f : OwnsFrames k.place =
        o.frames in each_front (IsMoving k.place) (map (moving t.errand) t.parts) (parts_of ts) (subst (λ (us : List Transfer). Each (IsMoving k.place) (parts_of us)) h f.moves)

    by : (e : Errand) → t.errand ≡ e
        → BytesBy b e t.parts (record b { frames = landed_by e t.parts read k.frames; swap = stored k.holdings (image_after_by k image t e) }) × Writing k image (image_after_by k image t e)
    by Writes e =
        let a : AllStore k t.parts = all_store size k images image flat t.parts so fits c (subst (λ (x : Errand). Each (IsMoving k.place) (map (moving x) t.parts)) e moves) in
        (written_bytes t.parts size k images flat image book l a, all_written t.parts size k image book l a)
    by (Reads source demanded) e =
        let is : read ≡ map (λ (x : Part). source_bytes b source x.page) t.parts = subst (λ (x : Errand). AreReadBy b x t.parts read) e (subst (λ (us : List Transfer). AreRead b us read) h r) in (
          read_bytes source t.parts b ∙ ap (λ (x : List (List ℕ)). record b {
            frames = Rattle.kernel_model.specs.Kernel.read_into t.parts x k.frames;
          }) (sym is),
          record { whole = refl; u_pages = λ pid. refl },
        )

pub done_coupled_step : (size : ℕ) (k : Kernel) (images : List NamedImage) (image : List ℕ) (flat : FlatState) (read : List (List ℕ)) → Sound size k
    → TextFits images k.place → 512 * size ≤ length image
    → AreRead (beside_kernel k images image flat) k.place.transfers read → Coupled k images image flat
    → Coupled (done_step k read) images (image_after k image) flat
done_coupled_step size k images image flat read so fits l r c =
    let o : OneOwner size (lives k.processes) k.place k.holdings = so.owner in
    let a = ending size k images image flat read so fits l c r k.place.transfers refl in
    let w : Writing k image (image_after k image) = a.1 in
    moved_coupled k (done_step k read) images image (image_after k image) flat refl refl refl w.u_pages (done_shaped k.place)
    (alike_coupled (done k.place) (ended_bytes k images image flat k.place.transfers read) (beside_kernel (done_step k read) images (image_after k image) flat)
    (λ v. record { frames = refl; swap = refl; file = file_same images k.place (done k.place) (done_shaped k.place) v; start = refl; memory = refl })
    (done_coupled k.place (beside_kernel k images image flat) (ended_bytes k images image flat k.place.transfers read) o.frames so.tokens a.0 c.pages)) c

-- the image is as long as it was
pub image_length : (size : ℕ) (k : Kernel) (images : List NamedImage) (image : List ℕ) (flat : FlatState) → Sound size k → TextFits images k.place
    → 512 * size ≤ length image
    → Coupled k images image flat → length (image_after k image) ≡ length image
image_length size k images image flat so fits l c = go k.place.transfers refl
  where
    o : OneOwner size (lives k.processes) k.place k.holdings
    o = so.owner

    book : IsBook size k.holdings
    book = let w : OwnsBlocks size (lives k.processes) k.place k.holdings = o.blocks in w.book

    go : (ts : List Transfer) → k.place.transfers ≡ ts → length (image_after_of k image ts) ≡ length image
    go [] h = refl
    go (t ∷ ts) h = by t.errand refl
      where
        moves : Each (IsMoving k.place) (map (moving t.errand) t.parts)
        moves = let f : OwnsFrames k.place =
            o.frames in each_front (IsMoving k.place) (map (moving t.errand) t.parts) (parts_of ts) (subst (λ (us : List Transfer). Each (IsMoving k.place) (parts_of us)) h f.moves)

        by : (e : Errand) → t.errand ≡ e → length (image_after_by k image t e) ≡ length image
        by Writes e =
            let a : AllStore k t.parts = all_store size k images image flat t.parts so fits c (subst (λ (x : Errand). Each (IsMoving k.place) (map (moving x) t.parts)) e moves) in
            let w : Writing k image (store_all k image t.parts) = all_written t.parts size k image book l a in
            w.whole
        by (Reads source demanded) e = refl
