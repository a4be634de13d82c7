-- Pieces that wait change nothing of what the kernel stands for, nor does the end of a transfer change what is asked.
use Rattle.std.proofs.Common.{◌≡◌, ℕ, ◌*◌, List, [], ◌∷◌, ◌++◌, Option, Some, None, Ok, refl, sym, ap, ap₂, ◌∙◌, map}
use Rattle.vm_facts.specs.declared.page.Page.TheVariants.{Data, Stack, Text}
use Rattle.aout_image.specs.Image.{image_data_pages}
use Rattle.swap_book.specs.Chunks.{pieces}
use Rattle.swap_book.specs.declared.Owner.TheVariants as owners
use Rattle.swap_book.specs.Holdings.{Holdings}
use Rattle.swap_book.specs.Owners.{u_pieces}
use Rattle.swap_book.specs.Placing.{Wanted, wanted, place_all}
use Rattle.flat_state.specs.Flat.{NamedImage}
use Rattle.flat_state.specs.PageNames.{number_of}
use Rattle.flat_state.specs.declared.change.Change.{Change}
use Rattle.flat_state.specs.declared.change.Change.TheVariants.{Resize, Fork, Exec}
use Rattle.page_model.specs.Placement.{Placement, Transfer, Part, Errand, Writes, Reads}
use Rattle.page_model.specs.Moves.{done}
use Rattle.page_model.specs.Ownership.{OneOwner, block_of, owner_of}
use Rattle.page_model.specs.Stored.{store_at}
use Rattle.kernel_model.specs.Kernel.{Kernel, done_step, store_all, image_after, image_after_of, image_after_by, frame_bytes}
use Rattle.kernel_model.specs.Coupled.{Coupled}
use Rattle.kernel_model.specs.Sound.{Sound, lives}
use Rattle.kernel_model.specs.Stands.{Stands}
use Rattle.kernel_model.specs.Asks.{further, text_asked, image_asked, change_asks, asked}
use Rattle.kernel_model.specs.Unit.{KernelState, FindUnit, DoneUnit, with_found, kernel_after, states_after}
use Rattle.kernel_model.specs.Invariant.{WereFound, Invariant, MayAll, Waits}
use Rattle.page_laws.proofs.Moves.Stays.{Steady, done_steady}
use Rattle.kernel_laws.proofs.Kept.Pages.{done_kept, find_kept}
use Rattle.kernel_laws.proofs.Machine.Done.{oldest_store}
use Rattle.kernel_laws.proofs.Machine.Images.{CanStore, AllStore}
use Rattle.kernel_laws.proofs.Machine.Takes.{still_found, takes_coupled}
use Rattle.page_model.specs.Place.{facts_of, facts_numbered}
use Rattle.aout_image.specs.declared.Image.{Image}

-- The kernel with the pieces that wait.

pub waits_coupled : (size : ℕ) (images : List NamedImage) (m : KernelState) → Invariant size images m → Coupled (with_found m) images m.image m.flat
waits_coupled size images m i =
    let f : WereFound size m.kernel.holdings m.found = i.found in
    let st : Stands images m.kernel m.flat = i.stands in
    takes_coupled size m.kernel images m.image m.flat f.pieces m.found st.texts f.placed i.coupled

store_same : (size : ℕ) (k : Kernel) (new : Holdings) (ws : List Wanted) (xs : List Part) (image : List ℕ) → place_all size k.holdings ws ≡ Ok new
    → AllStore k xs → store_all (record k { holdings = new }) image xs ≡ store_all k image xs
store_same size k new ws [] image e a = refl
store_same size k new ws (x ∷ xs) image e a =
    let c : CanStore k x = a.0 in
    ap (λ (o : Option ℕ). store_all (record k { holdings = new }) (store_at image o (frame_bytes k x.frame)) xs)
    (still_found size k.holdings new ws (owner_of x.page) (number_of x.page) c.block e c.found ∙ sym c.found)
    ∙ store_same size k new ws xs (store_at image (block_of k.holdings x.page) (frame_bytes k x.frame)) e a.1

-- the end of a write stores the same, whether pieces wait or not
pub waits_image : (size : ℕ) (images : List NamedImage) (m : KernelState) → Invariant size images m
    → image_after (with_found m) m.image ≡ image_after m.kernel m.image
waits_image size images m i = go k.place.transfers refl
  where
    k : Kernel
    k = m.kernel

    f : WereFound size k.holdings m.found
    f = i.found

    st : Stands images k m.flat
    st = i.stands

    go : (ts : List Transfer) → k.place.transfers ≡ ts → image_after_of (with_found m) m.image ts ≡ image_after_of k m.image ts
    go [] h = refl
    go (t ∷ ts) h = by t.errand refl
      where
        by : (e : Errand) → t.errand ≡ e → image_after_by (with_found m) m.image t e ≡ image_after_by k m.image t e
        by Writes e = store_same size k m.found f.pieces t.parts m.image f.placed (oldest_store size k images m.image m.flat t ts i.sound st.texts i.coupled h e)
        by (Reads source demanded) e = refl

-- What a change asks.

asks_steady : (images : List Image) (p q : Placement) (sid next : ℕ) (change : Change) → Steady p q
    → change_asks images q sid next change ≡ change_asks images p sid next change
asks_steady images p q sid next (Resize d t) s = ap₂ (λ (a b : ℕ). further (owners.Data sid) a d ++ further (owners.Stack sid) b t) (s.sizes (Data sid 0)) (s.sizes (Stack sid 0))
asks_steady images p q sid next (Fork child) s =
    ap₂ (λ (a b : ℕ). wanted (owners.Data next) (pieces (2 * a)) ++ (wanted (owners.Stack next) (pieces (2 * b)) ++ wanted (owners.U child) (u_pieces 2)))
    (s.sizes (Data sid 0)) (s.sizes (Stack sid 0))
asks_steady images p q sid next (Exec image top) s = by (facts_numbered images image)
  where
    by : (o : Option Image) → image_asked q next image o ≡ image_asked p next image o
    by None = refl
    by (Some facts) =
        ap₂ (λ (a b : ℕ). text_asked a image (2 * b) ++ (wanted (owners.Data next) (pieces (2 * image_data_pages facts)) ++ wanted (owners.Stack next) (pieces 2))) (s.sharing image)
        (s.sizes (Text image 0))
asks_steady images p q sid next _ s = refl

-- the end of a transfer changes nothing of what a change asks
done_asks : (size : ℕ) (images : List NamedImage) (k : Kernel) (read : List (List ℕ)) (pid : ℕ) (change : Change) → Sound size k
    → asked (facts_of images) (done_step k read) pid change ≡ asked (facts_of images) k pid change
done_asks size images k read pid change so =
    let o : OneOwner size (lives k.processes) k.place k.holdings = so.owner in
    asks_steady (facts_of images) k.place (done k.place) _ k.next_sid change (done_steady k.place o.frames)

pub finds_wait : (size : ℕ) (images : List NamedImage) (m : KernelState) (found : Holdings) (pid : ℕ) (change : Change) → Invariant size images m
    → place_all size m.kernel.holdings (asked (facts_of images) m.kernel pid change) ≡ Ok found
    → Waits size images (kernel_after images m (FindUnit found)) pid change
finds_wait size images m found pid change i e = record { invariant = find_kept size images m found i (record { pieces = asked (facts_of images) m.kernel pid change; placed = e }); pieces = e }

pub dones_wait : (size : ℕ) (images : List NamedImage) (reads : List (List (List ℕ))) (m : KernelState) (pid : ℕ) (change : Change)
    → Waits size images m pid change
    → MayAll size images m (map DoneUnit reads) → Waits size images (states_after images m (map DoneUnit reads)) pid change
dones_wait size images [] m pid change w may = w
dones_wait size images (read ∷ reads) m pid change w may =
    let i : Invariant size images m = w.invariant in
    dones_wait size images reads (kernel_after images m (DoneUnit read)) pid change
    (record { invariant = done_kept size images m read i may.0; pieces = ap (place_all size m.kernel.holdings) (done_asks size images m.kernel read pid change i.sound) ∙ w.pieces }) may.1
