-- A byte of a valid page is read from the page's frame.
use Rattle.std.proofs.Common.{◌≡◌, ℕ, ◌+◌, ◌*◌, ◌/◌, ◌%◌, List, get_or, drop, Option, Some, sym, ap, ◌∙◌, subst, arith}
use Rattle.std.specs.Prelude.{slice_index}
use Rattle.std.proofs.lemmas.List.{get_or-take, get_or-drop}
use Rattle.run_laws.proofs.Touching.{found_process}
use Rattle.vm_facts.specs.declared.page.Page.{Page}
use Rattle.vm_facts.specs.declared.page.Page.TheVariants as pages
use Rattle.vm_facts.specs.declared.page.PageState.TheVariants.{Valid}
use Rattle.vm_facts.specs.declared.memory.ByteRead.TheVariants as reads
use Rattle.aout_image.specs.Image.{page_at}
use Rattle.flat_state.specs.declared.spot.Spot.{Spot}
use Rattle.flat_state.specs.declared.spot.Spot.TheVariants as spots
use Rattle.flat_state.specs.Space.{Space, byte_at}
use Rattle.flat_state.specs.Flat.{Holds, Process, FlatState, Inputs, process_of, image_numbered, spaces_of}
use Rattle.page_model.specs.Pages.{frame_of, numbered}
use Rattle.page_model.specs.Placement.{state_of, is_dirty}
use Rattle.page_model.specs.PageBytes.{IsInFrame}
use Rattle.kernel_model.specs.Kernel.{Kernel, frame_bytes}
use Rattle.kernel_model.specs.Coupled.{Coupled, beside_kernel, memory_of, image_text, data_bytes_in, stack_bytes_in}
use Rattle.flat_model.specs.Touched.{page_read}
use Rattle.run_model.specs.State.{State}
use Rattle.page_laws.proofs.Bytes.Pages.{keeps_at}
use Rattle.page_laws.proofs.Moves.Steps.{page_in}
use Rattle.kernel_laws.proofs.Flat.Lists.{sid_of}
use Rattle.flat_laws.proofs.Asking.{own_space}
use Rattle.run_laws.specs.Standing.{IsText, HasText}
use Rattle.run_laws.specs.Running.{IsRun}
use Rattle.run_laws.specs.Machine.{Keeps, StandsAt, place_in}

-- a byte of a segment is one of its page
byte_there : (bytes : List ℕ) (i : ℕ) → slice_index bytes i ≡ slice_index (page_at (i / 1024) bytes) (i % 1024)
byte_there bytes i =
    let whole : 1024 * (i / 1024) + i % 1024 ≡ i = omega arith in
    sym (get_or-take 1024 (drop (1024 * (i / 1024)) bytes) (i % 1024) 0 (omega arith) ∙ get_or-drop (1024 * (i / 1024)) bytes (i % 1024) 0 ∙ ap (λ n. get_or bytes n 0) whole)

pub byte_read : (A : Inputs) (s : State) (k : Kernel) (image : List ℕ) (pid : ℕ) (q : Process) (x : Space) (spot : Spot) (v : Page) (f : ℕ)
    → IsRun A s → StandsAt A s k image
    → process_of s.point.flat pid ≡ Some q → q.holding ≡ Holds x → page_read x spot ≡ Some v → state_of k.place v ≡ Valid f
    → byte_at x spot ≡ reads.Is (slice_index (frame_bytes k f) (place_in spot))
byte_read A s k image pid q x spot v f run at here holds named valid = go spot named
  where
    flat : FlatState
    flat = s.point.flat

    keeps : Keeps A flat k image
    keeps = at.keeps

    coupled : Coupled k A.images image flat
    coupled = keeps.coupled

    inside : IsInFrame (beside_kernel k A.images image flat) (is_dirty k.place v) f v
    inside = keeps_at k.place (beside_kernel k A.images image flat) v (Valid f) coupled.pages (page_in k.place v f (ap frame_of valid)) valid

    bytes : (w : Page) → w ≡ v → frame_bytes k f ≡ memory_of A.images flat w
    bytes w same = inside.here ∙ ap (memory_of A.images flat) (sym same)

    own : numbered sid_of x.sid (spaces_of flat) ≡ Some x
    own = own_space flat pid q x run.numbers here holds

    text : IsText A.images x
    text = subst (HasText A.images) holds (found_process (λ p. HasText A.images p.holding) flat.processes pid q run.texts here)

    at_byte : (segment : List ℕ) (i : ℕ) → frame_bytes k f ≡ page_at (i / 1024) segment → slice_index segment i ≡ slice_index (frame_bytes k f) (i % 1024)
    at_byte segment i e = byte_there segment i ∙ ap (λ (b : List ℕ). slice_index b (i % 1024)) (sym e)

    go : (spot : Spot) → page_read x spot ≡ Some v → byte_at x spot ≡ reads.Is (slice_index (frame_bytes k f) (place_in spot))
    go (spots.Text i) e =
        let same : pages.Text x.image (i / 1024) ≡ v = cc in
        let whole : image_text (image_numbered A.images x.image) ≡ x.text_bytes = ap image_text text.image ∙ sym text.same in
        ap (λ (n : ℕ). reads.Is n) (at_byte x.text_bytes i (bytes (pages.Text x.image (i / 1024)) same ∙ ap (page_at (i / 1024)) whole))
    go (spots.Data i) e =
        let same : pages.Data x.sid (i / 1024) ≡ v = cc in
        ap (λ (n : ℕ). reads.Is n) (at_byte x.data_bytes i (bytes (pages.Data x.sid (i / 1024)) same ∙ ap (λ (o : Option Space). page_at (i / 1024) (data_bytes_in o)) own))
    go (spots.Stack i) e =
        let same : pages.Stack x.sid (i / 1024) ≡ v = cc in
        ap (λ (n : ℕ). reads.Is n) (at_byte x.stack_bytes i (bytes (pages.Stack x.sid (i / 1024)) same ∙ ap (λ (o : Option Space). page_at (i / 1024) (stack_bytes_in o)) own))
    go spots.Below e = absurd cc
    go spots.Outside e = absurd cc
