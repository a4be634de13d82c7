-- Bytes of one page that lie together are so many addresses of its space.
use Rattle.std.proofs.Common.{◌≡◌, ◌∙◌, ℕ, suc, ◌+◌, ◌-◌, ◌*◌, ◌/◌, ◌%◌, ◌^◌, ◌<◌, ◌≤◌, List, [], ◌∷◌, length, length-drop, drop, refl, ap, sym, subst, arith}
use Rattle.std.specs.Prelude.{slice_index, Some}
use Rattle.std.proofs.lemmas.List.{get_or-drop}
use Rattle.vm_facts.specs.Ahead.{AreAhead, MayAhead}
use Rattle.vm_facts.specs.Answers.{writes_from}
use Rattle.vm_facts.specs.declared.memory.ByteRead.{ByteRead}
use Rattle.vm_facts.specs.declared.memory.ByteRead.TheVariants as reads
use Rattle.vm_facts.specs.declared.memory.MayWrite.TheVariants as tests
use Rattle.vm_facts.specs.declared.page.Page.{Page}
use Rattle.vm_facts.specs.declared.page.Page.TheVariants as pages
use Rattle.vm_facts.specs.declared.page.PageState.{PageState}
use Rattle.vm_facts.specs.declared.page.PageState.TheVariants.{Unfilled, Valid, Invalid, Coming, Going, OnSwap}
use Rattle.flat_state.specs.declared.spot.Spot.{Spot}
use Rattle.flat_state.specs.declared.spot.Spot.TheVariants.{Text, Data, Stack}
use Rattle.flat_state.proofs.Spots.{text_spot, data_spot, stack_spot, OfStack}
use Rattle.flat_state.proofs.SpotsBeside.{text_beside, data_beside, stack_beside}
use Rattle.page_model.specs.Placement.{state_of, image_of, slots_of}
use Rattle.page_model.specs.PageBytes.{IsWritable}
use Rattle.page_model.specs.Ownership.{OwnsFrames}
use Rattle.kernel_laws.proofs.PageLawsOwnershipPages.{touch_owner}
use Rattle.kernel_model.specs.Kernel.{Kernel, frame_bytes, write_step, write_by_state}
use Rattle.table_steps.specs.Machine.{Standing}
use Rattle.table_steps.specs.UserMemory.{spot_in, page_at_spot, page_in, text_len, data_len, stack_len, read_by_state, read_page, read_spot, valid_frame, may_write_by, may_write_spot, kernel_answers, write_page, write_spot, writes_in, write_run, AreWhole, AreWritten, Wrote, WroteRun, IsLaidOut}
use Rattle.machine_state.specs.Ahead.{LendsFrom, MayFrom, LieAhead}
use Rattle.machine_state.specs.UserMemoryLaws.{IsTouched, touch_state, spot_same, whole_after}

same_page : (i j : ℕ) → i % 1024 + j < 1024 → (i + j) / 1024 ≡ i / 1024
same_page i j near = omega (arith, near)

same_column : (i j : ℕ) → i % 1024 + j < 1024 → (i + j) % 1024 ≡ i % 1024 + j
same_column i j near = omega (arith, near)

-- a page of a segment of whole pages ends within it
whole_within : (count i j : ℕ) → i < 1024 * count → i % 1024 + j < 1024 → i + j < 1024 * count
whole_within count i j below near = omega (arith, below, near)

no_wrap : (a i j : ℕ) → a + 1024 < 2 ^ 32 → i % 1024 + j < 1024 → (a + j) % 2 ^ 32 ≡ a + j
no_wrap a i j low near = omega (arith, low, near)

-- the addresses from one on name the bytes of its page from the byte that it names on
abbrev pub AreBeside : Kernel → ℕ → ℕ → ℕ → (ℕ → Spot) → Type 0
AreBeside k sid a i make = (j : ℕ) → i % 1024 + j < 1024 → spot_in k.place sid (a + j) ≡ make (i + j)

reads_ahead : (k : Kernel) (sid a i : ℕ) (make : ℕ → Spot) (q : ℕ → Page) → ((x : ℕ) → read_spot k sid (make x) ≡ read_page k (q (x / 1024)) (x % 1024))
    → AreBeside k sid a i make → a + 1024 < 2 ^ 32 → (bytes : List ℕ) → LendsFrom k (q (i / 1024)) (i % 1024) bytes → AreAhead (kernel_answers k sid) a bytes
reads_ahead k sid a i make q by beside low bytes from j below =
    let near : i % 1024 + j < 1024 = (from j below).0 in
    ap (λ (x : ℕ). read_spot k sid (spot_in k.place sid x)) (no_wrap a i j low near)
    ∙ ap (read_spot k sid) (beside j near)
    ∙ by (i + j)
    ∙ ap (λ (v : ℕ). read_page k (q v) ((i + j) % 1024)) (same_page i j near)
    ∙ ap (λ (x : ℕ). read_page k (q (i / 1024)) x) (same_column i j near)
    ∙ (from j below).1

one_page : (k : Kernel) (sid a i : ℕ) (make : ℕ → Spot) (q : ℕ → Page) → ((x : ℕ) → page_at_spot k.place sid (make x) ≡ Some (q (x / 1024)))
    → spot_in k.place sid a ≡ make i → AreBeside k sid a i make → a + 1024 < 2 ^ 32 → (bytes : List ℕ) → LendsFrom k (q (i / 1024)) (i % 1024) bytes
    → (j : ℕ) → j < length bytes → page_in k.place sid ((a + j) % 2 ^ 32) ≡ page_in k.place sid a
one_page k sid a i make q of e beside low bytes from j below =
    let near : i % 1024 + j < 1024 = (from j below).0 in
    ap (λ (x : ℕ). page_in k.place sid x) (no_wrap a i j low near)
    ∙ ap (page_at_spot k.place sid) (beside j near)
    ∙ of (i + j)
    ∙ ap (λ (v : ℕ). Some (q v)) (same_page i j near)
    ∙ sym (of i)
    ∙ sym (ap (page_at_spot k.place sid) e)

may_ahead : (k : Kernel) (sid a i : ℕ) (make : ℕ → Spot) (q : ℕ → Page)
    → ((x : ℕ) → may_write_spot k.place sid (make x) ≡ may_write_by (state_of k.place (q (x / 1024))))
    → AreBeside k sid a i make → a + 1024 < 2 ^ 32 → (count : ℕ) → MayFrom (state_of k.place (q (i / 1024))) (i % 1024) count
    → MayAhead (kernel_answers k sid) a count
may_ahead k sid a i make q by beside low count from j below =
    let near : i % 1024 + j < 1024 = (from j below).0 in
    ap (λ (x : ℕ). may_write_spot k.place sid (spot_in k.place sid x)) (no_wrap a i j low near)
    ∙ ap (may_write_spot k.place sid) (beside j near)
    ∙ by (i + j)
    ∙ ap (λ (v : ℕ). may_write_by (state_of k.place (q v))) (same_page i j near)
    ∙ (from j below).1

-- a valid page, whose bytes the addresses from one on name
pub record IsNamed (k : Kernel) (sid a i : ℕ) (make : ℕ → Spot) (q : Page) (f : ℕ) : Type 0 where
  pub beside : AreBeside k sid a i make
  pub valid : state_of k.place q ≡ Valid f
  pub owner : OwnsFrames k.place
  pub whole : AreWhole k

pub named_after : (k : Kernel) (sid a i : ℕ) (make : ℕ → Spot) (q : Page) (f at byte : ℕ) → IsWritable q → at < 1024
    → IsNamed k sid a i make q f → IsNamed (write_step k q f at byte) sid a i make q f
named_after k sid a i make q f at byte writable within n = record {
  beside = λ j near. spot_same k.place q sid (a + j) ∙ n.beside j near;
  valid = touch_state k.place q q f writable n.valid ∙ n.valid;
  owner = touch_owner k.place q n.owner;
  whole = whole_after k q f at byte (record { writable = writable; valid = n.valid; owner = n.owner; whole = n.whole q f n.valid; within = within }) n.whole;
}

-- writes of bytes from an address on are writes of the bytes of a page from a place on
pub record AreOfPage (k : Kernel) (sid : ℕ) (q : Page) (f at a : ℕ) (bytes : List ℕ) : Type 0 where
  pub kernel : writes_in k sid (writes_from a bytes) ≡ write_run k q f at bytes
  pub each : AreWritten k sid (writes_from a bytes)

pub of_page : (sid a i : ℕ) (make : ℕ → Spot) (q : ℕ → Page) (f : ℕ)
    → ((k : Kernel) (x byte : ℕ) → write_spot k sid (make x) byte ≡ write_page k (q (x / 1024)) (x % 1024) byte)
    → ((k : Kernel) (x : ℕ) → may_write_spot k.place sid (make x) ≡ may_write_by (state_of k.place (q (x / 1024))))
    → IsWritable (q (i / 1024)) → a + 1024 < 2 ^ 32 → (bytes : List ℕ) (j : ℕ) (k : Kernel) → i % 1024 + j + length bytes ≤ 1024
    → IsNamed k sid a i make (q (i / 1024)) f → AreOfPage k sid (q (i / 1024)) f (i % 1024 + j) (a + j) bytes
of_page sid a i make q f by may writable low [] j k fits n = record { kernel = refl; each = tt }
of_page sid a i make q f by may writable low (byte ∷ bytes) j k fits n =
    let near : i % 1024 + j < 1024 = omega (arith, fits) in
    let p : Page = q (i / 1024) in
    let here : spot_in k.place sid (a + j) ≡ make (i + j) = n.beside j near in
    let after : Kernel = write_step k p f (i % 1024 + j) byte in
    let one : write_spot k sid (spot_in k.place sid (a + j)) byte ≡ after =
    ap (λ (s : Spot). write_spot k sid s byte) here
    ∙ by k (i + j) byte
    ∙ ap (λ (v : ℕ). write_page k (q v) ((i + j) % 1024) byte) (same_page i j near)
    ∙ ap (λ (x : ℕ). write_page k p x byte) (same_column i j near)
    ∙ ap (λ (s : PageState). write_by_state k p s (i % 1024 + j) byte) n.valid in
    let test : may_write_spot k.place sid (spot_in k.place sid (a + j)) ≡ tests.May =
    ap (may_write_spot k.place sid) here
    ∙ may k (i + j)
    ∙ ap (λ (v : ℕ). may_write_by (state_of k.place (q v))) (same_page i j near)
    ∙ ap may_write_by n.valid in
    let next : (a + j + 1) % 2 ^ 32 ≡ a + suc j = omega (arith, low, near) in
    let rest : AreOfPage after sid p f (i % 1024 + suc j) (a + suc j) bytes =
    of_page sid a i make q f by may writable low bytes (suc j) after (omega (arith, fits)) (named_after k sid a i make p f (i % 1024 + j) byte writable near n) in
    record {
      kernel =
          ap (λ (x : Kernel). writes_in x sid (writes_from ((a + j + 1) % 2 ^ 32) bytes)) one
          ∙ ap (λ (x : ℕ). writes_in after sid (writes_from x bytes)) next
          ∙ rest.kernel
          ∙ ap (λ (x : ℕ). write_run after p f x bytes) (let e : i % 1024 + suc j ≡ i % 1024 + j + 1 = omega arith in e);
      each = (
        record { may = test; owner = n.owner; whole = n.whole },
        subst (λ (x : Kernel). AreWritten x sid (writes_from ((a + j + 1) % 2 ^ 32) bytes)) (sym one)
            (subst (λ (x : ℕ). AreWritten after sid (writes_from x bytes)) (sym next) rest.each),
      );
    }

-- with the whole machine
wrote_together : (old new : Standing) (sid a i : ℕ) (make : ℕ → Spot) (q : ℕ → Page) (bytes : List ℕ)
    → ((k : Kernel) (x byte : ℕ) → write_spot k sid (make x) byte ≡ write_page k (q (x / 1024)) (x % 1024) byte)
    → ((k : Kernel) (x : ℕ) → may_write_spot k.place sid (make x) ≡ may_write_by (state_of k.place (q (x / 1024))))
    → IsWritable (q (i / 1024)) → a + 1024 < 2 ^ 32 → AreBeside old.kernel sid a i make → WroteRun old new (q (i / 1024)) (i % 1024) bytes
    → Wrote old sid (writes_from a bytes) new
wrote_together old new sid a i make q bytes by may writable low beside w =
    let column : i % 1024 + 0 ≡ i % 1024 = omega arith in
    let place : a + 0 ≡ a = omega arith in
    let n : IsNamed old.kernel sid a i make (q (i / 1024)) w.frame = record { beside = beside; valid = w.valid; owner = w.owner; whole = w.whole } in
    let at : AreOfPage old.kernel sid (q (i / 1024)) w.frame (i % 1024) a bytes =
    subst (λ (x : ℕ). AreOfPage old.kernel sid (q (i / 1024)) w.frame (i % 1024) x bytes) place
    (subst (λ (x : ℕ). AreOfPage old.kernel sid (q (i / 1024)) w.frame x (a + 0) bytes) column
    (of_page sid a i make q w.frame by may writable low bytes 0 old.kernel (omega (arith, w.within)) n)) in
    record { machine = w.machine ∙ ap (λ (x : Kernel). record old { kernel = x }) (sym at.kernel); each = at.each }

module _ (k : Kernel) (index sid image t d s : ℕ) (laid : IsLaidOut k index sid image t d s) where
  below_text : (a i : ℕ) → spot_in k.place sid a ≡ Text i → a + 1024 < 2 ^ 32
  below_text a i e =
      let at : (a ≡ i) × (i < text_len k.place sid) = text_spot (text_len k.place sid) (data_len k.place sid) (stack_len k.place sid) a i e in
      omega (arith, at.0, at.1, laid.low, laid.text_is)

  beside_text : (a i : ℕ) → spot_in k.place sid a ≡ Text i → AreBeside k sid a i (λ x. Text x)
  beside_text a i e j near =
      let at : (a ≡ i) × (i < text_len k.place sid) = text_spot (text_len k.place sid) (data_len k.place sid) (stack_len k.place sid) a i e in
      text_beside (text_len k.place sid) (data_len k.place sid) (stack_len k.place sid) a i j e
      (whole_within (length (slots_of k.place (pages.Text (image_of k.place sid) 0))) i j at.1 near)

  pub text_ahead : (a i : ℕ) (bytes : List ℕ) → spot_in k.place sid a ≡ Text i
      → LendsFrom k (pages.Text (image_of k.place sid) (i / 1024)) (i % 1024) bytes → LieAhead k sid a bytes
  text_ahead a i bytes e from = record {
    ahead = reads_ahead k sid a i (λ x. Text x) (λ v. pages.Text (image_of k.place sid) v) (λ x. refl) (beside_text a i e) (below_text a i e) bytes from;
    page = one_page k sid a i (λ x. Text x) (λ v. pages.Text (image_of k.place sid) v) (λ x. refl) e (beside_text a i e) (below_text a i e) bytes from;
  }

  pub below_data : (a i : ℕ) → spot_in k.place sid a ≡ Data i → a + 1024 < 2 ^ 32
  below_data a i e =
      let at : (a ≡ text_len k.place sid + i) × (i < data_len k.place sid) = data_spot (text_len k.place sid) (data_len k.place sid) (stack_len k.place sid) a i e in
      omega (arith, at.0, at.1, laid.low, laid.text_is, laid.data_is)

  pub beside_data : (a i : ℕ) → spot_in k.place sid a ≡ Data i → AreBeside k sid a i (λ x. Data x)
  beside_data a i e j near =
      let at : (a ≡ text_len k.place sid + i) × (i < data_len k.place sid) = data_spot (text_len k.place sid) (data_len k.place sid) (stack_len k.place sid) a i e in
      data_beside (text_len k.place sid) (data_len k.place sid) (stack_len k.place sid) a i j e (whole_within (length (slots_of k.place (pages.Data sid 0))) i j at.1 near)

  pub data_ahead : (a i : ℕ) (bytes : List ℕ) → spot_in k.place sid a ≡ Data i
      → LendsFrom k (pages.Data sid (i / 1024)) (i % 1024) bytes → LieAhead k sid a bytes
  data_ahead a i bytes e from = record {
    ahead = reads_ahead k sid a i (λ x. Data x) (λ v. pages.Data sid v) (λ x. refl) (beside_data a i e) (below_data a i e) bytes from;
    page = one_page k sid a i (λ x. Data x) (λ v. pages.Data sid v) (λ x. refl) e (beside_data a i e) (below_data a i e) bytes from;
  }

  pub data_writable : (a i count : ℕ) → spot_in k.place sid a ≡ Data i
      → MayFrom (state_of k.place (pages.Data sid (i / 1024))) (i % 1024) count → MayAhead (kernel_answers k sid) a count
  data_writable a i count e from = may_ahead k sid a i (λ x. Data x) (λ v. pages.Data sid v) (λ x. refl) (beside_data a i e) (below_data a i e) count from

  pub below_stack : (a i : ℕ) → spot_in k.place sid a ≡ Stack i → a + 1024 < 2 ^ 32
  below_stack a i e =
      let at : OfStack (stack_len k.place sid) a i = stack_spot (text_len k.place sid) (data_len k.place sid) (stack_len k.place sid) a i e in
      omega (arith, at.below)

  pub beside_stack : (a i : ℕ) → spot_in k.place sid a ≡ Stack i → AreBeside k sid a i (λ x. Stack x)
  beside_stack a i e j near = stack_beside (text_len k.place sid) (data_len k.place sid) (stack_len k.place sid) a i j e near

  pub stack_ahead : (a i : ℕ) (bytes : List ℕ) → spot_in k.place sid a ≡ Stack i
      → LendsFrom k (pages.Stack sid (i / 1024)) (i % 1024) bytes → LieAhead k sid a bytes
  stack_ahead a i bytes e from = record {
    ahead = reads_ahead k sid a i (λ x. Stack x) (λ v. pages.Stack sid v) (λ x. refl) (beside_stack a i e) (below_stack a i e) bytes from;
    page = one_page k sid a i (λ x. Stack x) (λ v. pages.Stack sid v) (λ x. refl) e (beside_stack a i e) (below_stack a i e) bytes from;
  }

  pub stack_writable : (a i count : ℕ) → spot_in k.place sid a ≡ Stack i
      → MayFrom (state_of k.place (pages.Stack sid (i / 1024))) (i % 1024) count → MayAhead (kernel_answers k sid) a count
  stack_writable a i count e from = may_ahead k sid a i (λ x. Stack x) (λ v. pages.Stack sid v) (λ x. refl) (beside_stack a i e) (below_stack a i e) count from

module _ (old new : Standing) (index sid image t d s : ℕ) (laid : IsLaidOut old.kernel index sid image t d s) where
  pub data_together : (a i : ℕ) (bytes : List ℕ) → spot_in old.kernel.place sid a ≡ Data i
      → WroteRun old new (pages.Data sid (i / 1024)) (i % 1024) bytes → Wrote old sid (writes_from a bytes) new
  data_together a i bytes e w =
      wrote_together old new sid a i (λ x. Data x) (λ v. pages.Data sid v) bytes (λ k x byte. refl) (λ k x. refl) tt
      (below_data old.kernel index sid image t d s laid a i e) (beside_data old.kernel index sid image t d s laid a i e) w

  pub stack_together : (a i : ℕ) (bytes : List ℕ) → spot_in old.kernel.place sid a ≡ Stack i
      → WroteRun old new (pages.Stack sid (i / 1024)) (i % 1024) bytes → Wrote old sid (writes_from a bytes) new
  stack_together a i bytes e w =
      wrote_together old new sid a i (λ x. Stack x) (λ v. pages.Stack sid v) bytes (λ k x byte. refl) (λ k x. refl) tt
      (below_stack old.kernel index sid image t d s laid a i e) (beside_stack old.kernel index sid image t d s laid a i e) w

-- bytes of a page that were written may be written
pub run_may : (old new : Standing) (q : Page) (at : ℕ) (bytes : List ℕ) → WroteRun old new q at bytes
    → MayFrom (state_of old.kernel.place q) at (length bytes)
run_may old new q at bytes w i below = let within : at + length bytes ≤ 1024 = w.within in (omega (arith, within, below), ap may_write_by w.valid)

-- a page in this frame is read by the bytes of the frame
in_frame : (k : Kernel) (s : PageState) (f : ℕ) → Some f ≡ valid_frame s → read_by_state k s ≡ (λ (x : ℕ). reads.Is (slice_index (frame_bytes k f) x))
in_frame k (Valid g) f e = let same : g ≡ f = cc in let by : ℕ → ℕ → ByteRead = λ (h x : ℕ). reads.Is (slice_index (frame_bytes k h) x) in ap by same
in_frame k Unfilled f e = absurd cc
in_frame k (Invalid g) f e = absurd cc
in_frame k (Coming g) f e = absurd cc
in_frame k (Going g) f e = absurd cc
in_frame k OnSwap f e = absurd cc

-- the bytes of a frame from a place on are those of its page
pub frame_reads : (k : Kernel) (q : Page) (f at : ℕ) (bytes : List ℕ) → Some f ≡ valid_frame (state_of k.place q)
    → bytes ≡ drop at (frame_bytes k f) → length (frame_bytes k f) ≡ 1024 → at < 1024 → LendsFrom k q at bytes
frame_reads k q f at bytes valid is whole within i below =
    let held : List ℕ = frame_bytes k f in
    let count : length bytes ≡ length (drop at held) = ap length is in
    let cut : length (drop at held) ≡ length held - at = length-drop at held in (
      omega (arith, count, cut, whole, within, below),
      ap (λ (g : ℕ → ByteRead). g (at + i)) (in_frame k (state_of k.place q) f valid)
          ∙ ap (λ (b : ℕ). reads.Is b) (sym (get_or-drop at held i 0) ∙ ap (λ (bs : List ℕ). slice_index bs i) (sym is)),
    )
