-- The memory of a space of a machine that stands for a flat state.
use Rattle.std.proofs.Common.{◌≡◌, ℕ, ◌+◌, ◌*◌, ◌/◌, ◌%◌, ◌⊎◌, inl, inr, List, length, get_or, drop, Option, Some, None, refl, sym, ap, ◌∙◌, subst, arith}
use Rattle.std.specs.Prelude.{slice_index}
use Rattle.std.proofs.lemmas.List.{get_or-take, get_or-drop}
use Rattle.vm_facts.specs.declared.page.Page.{Page}
use Rattle.vm_facts.specs.declared.page.Page.TheVariants as pages
use Rattle.vm_facts.specs.declared.page.PageState.{PageState}
use Rattle.vm_facts.specs.declared.page.PageState.TheVariants.{Unfilled, Valid, Invalid, Coming, Going, OnSwap}
use Rattle.vm_facts.specs.declared.memory.ByteRead.TheVariants as reads
use Rattle.vm_facts.specs.declared.memory.MayWrite.TheVariants as tests
use Rattle.aout_image.specs.Image.{page_at}
use Rattle.flat_model.specs.Laws.{Covers}
use Rattle.flat_state.specs.declared.spot.Spot.{Spot}
use Rattle.flat_state.specs.declared.spot.Spot.TheVariants.{Text, Data, Stack, Below, Outside}
use Rattle.flat_state.specs.Space.{Space, spot_at, address_in, byte_at, may_write_at, answers_of}
use Rattle.flat_state.specs.Flat.{FlatState, NamedImage, image_numbered, spaces_of}
use Rattle.page_model.specs.Pages.{SpacePages, frame_of, numbered, data_in, stack_in}
use Rattle.page_model.specs.Placement.{space_number, image_of, image_in, state_of, is_dirty}
use Rattle.page_model.specs.PageBytes.{IsInFrame}
use Rattle.kernel_model.specs.Kernel.{Kernel, frame_bytes}
use Rattle.kernel_model.specs.Sound.{TextFits}
use Rattle.kernel_model.specs.Coupled.{Coupled, Fits, IsSized, beside_kernel, memory_of, image_text, data_bytes_in, stack_bytes_in}
use Rattle.table_steps.proofs.PageLawsBytesPages.{keeps_at}
use Rattle.table_steps.proofs.PageLawsMovesSteps.{page_in}
use Rattle.table_steps.specs.UserMemory.{bytes_of, text_len, data_len, stack_len, spot_in, read_by_state, read_page, read_spot, may_write_by, may_write_spot, kernel_answers}

-- a byte of a segment is one of its page
byte_there : (bytes : List ℕ) (i : ℕ) → slice_index bytes i ≡ slice_index (page_at (i / 1024) bytes) (i % 1024)
byte_there bytes i =
    let whole : 1024 * (i / 1024) + i % 1024 ≡ i = omega arith in
    sym (get_or-take 1024 (drop (1024 * (i / 1024)) bytes) (i % 1024) 0 (omega arith) ∙ get_or-drop (1024 * (i / 1024)) bytes (i % 1024) 0 ∙ ap (λ n. get_or bytes n 0) whole)

read_or_miss : (k : Kernel) (s : PageState) (at byte : ℕ) → ((f : ℕ) → s ≡ Valid f → slice_index (frame_bytes k f) at ≡ byte)
    → (read_by_state k s at ≡ reads.Miss) ⊎ (read_by_state k s at ≡ reads.Is byte)
read_or_miss k (Valid f) at byte h = inr (ap (λ (n : ℕ). reads.Is n) (h f refl))
read_or_miss k Unfilled at byte h = inl refl
read_or_miss k (Invalid f) at byte h = inl refl
read_or_miss k (Coming f) at byte h = inl refl
read_or_miss k (Going f) at byte h = inl refl
read_or_miss k OnSwap at byte h = inl refl

write_or_miss : (s : PageState) → (may_write_by s ≡ tests.Miss) ⊎ (may_write_by s ≡ tests.May)
write_or_miss (Valid f) = inr refl
write_or_miss Unfilled = inl refl
write_or_miss (Invalid f) = inl refl
write_or_miss (Coming f) = inl refl
write_or_miss (Going f) = inl refl
write_or_miss OnSwap = inl refl

-- a space of the flat state is among the placement's
pub record IsPaged (k : Kernel) (x : Space) : Type 0 where
  pub pages : SpacePages
  pub there : numbered space_number x.sid k.place.spaces ≡ Some pages
  pub sized : IsSized x pages

pub paged : (k : Kernel) (x : Space) (o : Option SpacePages) → numbered space_number x.sid k.place.spaces ≡ o → Fits (Some x) o → IsPaged k x
paged k x None e h = absurd h
paged k x (Some y) e h = record { pages = y; there = e; sized = h }

module _ (images : List NamedImage) (k : Kernel) (image : List ℕ) (flat : FlatState) (x : Space) (coupled : Coupled k images image flat) (fits : TextFits images k.place)
    (own : numbered (λ (s : Space). s.sid) x.sid (spaces_of flat) ≡ Some x) (text : x.text_bytes ≡ image_text (image_numbered images x.image)) where
  there : IsPaged k x
  there = paged k x (numbered space_number x.sid k.place.spaces) refl (subst (λ (o : Option Space). Fits o (numbered space_number x.sid k.place.spaces)) own (coupled.tables.spaces x.sid))

  image_same : image_of k.place x.sid ≡ x.image
  image_same = ap image_in there.there ∙ there.sized.image

  text_same : text_len k.place x.sid ≡ length x.text_bytes
  text_same = ap (λ (n : ℕ). bytes_of k.place (pages.Text n 0)) image_same ∙ sym (fits x.image) ∙ sym (ap length text)

  data_same : data_len k.place x.sid ≡ length x.data_bytes
  data_same = ap (λ (o : Option SpacePages). 1024 * length (data_in o)) there.there ∙ sym there.sized.data_size

  stack_same : stack_len k.place x.sid ≡ length x.stack_bytes
  stack_same = ap (λ (o : Option SpacePages). 1024 * length (stack_in o)) there.there ∙ sym there.sized.stack_size

  spot_same : (a : ℕ) → spot_in k.place x.sid a ≡ address_in x a
  spot_same a =
      ap (λ (t : ℕ). spot_at t (data_len k.place x.sid) (stack_len k.place x.sid) a) text_same
      ∙ ap (λ (d : ℕ). spot_at (length x.text_bytes) d (stack_len k.place x.sid) a) data_same
      ∙ ap (λ (s : ℕ). spot_at (length x.text_bytes) (length x.data_bytes) s a) stack_same

  frame_is : (q : Page) (f : ℕ) → state_of k.place q ≡ Valid f → frame_bytes k f ≡ memory_of images flat q
  frame_is q f e =
      let inside : IsInFrame (beside_kernel k images image flat) (is_dirty k.place q) f q =
      keeps_at k.place (beside_kernel k images image flat) q (Valid f) coupled.pages (page_in k.place q f (ap frame_of e)) e in
      inside.here

  page_reads : (q : Page) (segment : List ℕ) (i : ℕ) → memory_of images flat q ≡ page_at (i / 1024) segment
      → (read_page k q (i % 1024) ≡ reads.Miss) ⊎ (read_page k q (i % 1024) ≡ reads.Is (slice_index segment i))
  page_reads q segment i same =
      read_or_miss k (state_of k.place q) (i % 1024) (slice_index segment i) (λ f e. ap (λ (b : List ℕ). slice_index b (i % 1024)) (frame_is q f e ∙ same) ∙ sym (byte_there segment i))

  spot_reads : (p : Spot) → (read_spot k x.sid p ≡ reads.Miss) ⊎ (read_spot k x.sid p ≡ byte_at x p)
  spot_reads (Text i) =
      page_reads (pages.Text (image_of k.place x.sid) (i / 1024)) x.text_bytes i
      (ap (λ (n : ℕ). page_at (i / 1024) (image_text (image_numbered images n))) image_same ∙ sym (ap (page_at (i / 1024)) text))
  spot_reads (Data i) = page_reads (pages.Data x.sid (i / 1024)) x.data_bytes i (ap (λ (o : Option Space). page_at (i / 1024) (data_bytes_in o)) own)
  spot_reads (Stack i) = page_reads (pages.Stack x.sid (i / 1024)) x.stack_bytes i (ap (λ (o : Option Space). page_at (i / 1024) (stack_bytes_in o)) own)
  spot_reads Below = inr refl
  spot_reads Outside = inr refl

  spot_tests : (p : Spot) → (may_write_spot k.place x.sid p ≡ tests.Miss) ⊎ (may_write_spot k.place x.sid p ≡ may_write_at p)
  spot_tests (Text i) = inr refl
  spot_tests (Data i) = write_or_miss (state_of k.place (pages.Data x.sid (i / 1024)))
  spot_tests (Stack i) = write_or_miss (state_of k.place (pages.Stack x.sid (i / 1024)))
  spot_tests Below = inr refl
  spot_tests Outside = inr refl

  pub memory_covers : Covers (kernel_answers k x.sid) (answers_of x)
  memory_covers = record {
    reads = λ a. subst (λ (p : Spot). (read_spot k x.sid p ≡ reads.Miss) ⊎ (read_spot k x.sid p ≡ byte_at x (address_in x a))) (sym (spot_same a)) (spot_reads (address_in x a));
    tests =
        λ a. subst (λ (p : Spot). (may_write_spot k.place x.sid p ≡ tests.Miss) ⊎ (may_write_spot k.place x.sid p ≡ may_write_at (address_in x a))) (sym (spot_same a)) (spot_tests (address_in x a));
  }
