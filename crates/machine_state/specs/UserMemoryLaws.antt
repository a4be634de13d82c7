-- Writes to valid pages, and what the space answers afterwards.
use Rattle.std.proofs.Common.{◌≡◌, ◌≢◌, ℕ, zero, suc, ◌*◌, ◌/◌, ◌%◌, ◌<◌, ◌≤◌, ◌==◌, ◌⊎◌, inl, inr, Bool, true, false, List, [], ◌∷◌, ◌++◌, length, length-set, set, refl, sym, ap, ◌∙◌, subst, arith, eq-eqb}
use Rattle.std.specs.Prelude.{slice_index}
use Rattle.std.proofs.lemmas.Bool.{cases_eq}
use Rattle.std.proofs.lemmas.Bool.Decides.{nat_tests}
use Rattle.std.proofs.lemmas.List.{get_or-set_same, get_or-set_other}
use Rattle.vm_facts.specs.Answers.{Answers, ByteWrite, read_by, put_byte, written}
use Rattle.vm_facts.specs.declared.memory.ByteRead.TheVariants as reads
use Rattle.vm_facts.specs.declared.memory.MayWrite.TheVariants as tests
use Rattle.vm_facts.specs.declared.page.Page.{Page}
use Rattle.vm_facts.specs.declared.page.Page.TheVariants as pages
use Rattle.vm_facts.specs.declared.page.PageState.{PageState}
use Rattle.vm_facts.specs.declared.page.PageState.TheVariants.{Unfilled, Valid, Invalid, Coming, Going, OnSwap}
use Rattle.flat_state.specs.PageNames.{number_of}
use Rattle.flat_state.specs.declared.spot.Spot.{Spot}
use Rattle.flat_state.specs.declared.spot.Spot.TheVariants.{Text, Data, Stack, Below, Outside}
use Rattle.flat_state.specs.Space.{spot_at}
use Rattle.flat_state.proofs.Spots.{data_spot, stack_spot, OfStack, stack_index_once}
use Rattle.page_model.specs.Pages.{frame_of}
use Rattle.page_model.specs.Frames.{at_frame}
use Rattle.page_model.specs.Placement.{Placement, state_of, image_of, page_of}
use Rattle.page_model.specs.PageBytes.{IsWritable}
use Rattle.page_model.specs.Moves.{touch, touch_to}
use Rattle.page_model.specs.Ownership.{OwnsFrames}
use Rattle.kernel_model.specs.Kernel.{Kernel, frame_bytes, write_step, write_by_state}
use Rattle.kernel_laws.proofs.Frames.{at_set_same, at_set_other}
use Rattle.std.proofs.lemmas.Option.{same_Some}
use Rattle.kernel_laws.proofs.PageLawsListsPages.{put_state}
use Rattle.kernel_laws.proofs.PageLawsMovesSteps.{page_in, put_other_state}
use Rattle.kernel_laws.proofs.Machine.Shapes.{touch_shaped, image_kept, sizes_kept}
use Rattle.std.specs.Borrow.{MutBor}
use Rattle.machine_state.specs.declared.user_memory.Layout.{Layout}
use Rattle.machine_state.specs.Lent.{WroteThrough}
use Rattle.table_steps.specs.Machine.{Standing}
use Rattle.table_steps.specs.UserMemory.{bytes_of, stack_len, spot_in, read_by_state, read_page, read_spot, may_write_by, may_write_spot, kernel_answers, write_page, write_spot, write_in, writes_in, AreWhole, IsWritten, AreWritten, Wrote}

-- A touch keeps the state of each page.

page_cases : (q r : Page) → (r ≡ q) ⊎ (r ≢ q)
page_cases q r = Rattle.kernel_laws.proofs.PageLawsListsPages.page_cases r q

-- a user write leaves the state of each page as it was
pub touch_state : (p : Placement) (q r : Page) (f : ℕ) → IsWritable q → state_of p q ≡ Valid f → state_of (touch p q) r ≡ state_of p r
touch_state p q r f w e = subst (λ (s : PageState). state_of (touch_to p q s) r ≡ state_of p r) (sym e) (go q w e (page_cases q r))
  where
    go : (q : Page) → IsWritable q → state_of p q ≡ Valid f → (r ≡ q) ⊎ (r ≢ q) → state_of (touch_to p q (Valid f)) r ≡ state_of p r
    go (pages.Data n v) w e (inl h) = subst (λ (x : Page). state_of (touch_to p (pages.Data n v) (Valid f)) x ≡ state_of p x) (sym h)
        (put_state p (pages.Data n v) (Valid f) true (page_in p (pages.Data n v) f (ap frame_of e)) ∙ sym e)
    go (pages.Data n v) w e (inr d) = put_other_state p (pages.Data n v) (Valid f) true r d
    go (pages.Stack n v) w e (inl h) = subst (λ (x : Page). state_of (touch_to p (pages.Stack n v) (Valid f)) x ≡ state_of p x) (sym h)
        (put_state p (pages.Stack n v) (Valid f) true (page_in p (pages.Stack n v) f (ap frame_of e)) ∙ sym e)
    go (pages.Stack n v) w e (inr d) = put_other_state p (pages.Stack n v) (Valid f) true r d
    go (pages.Text n v) w e c = absurd w

-- a space's addresses name the same
pub spot_same : (p : Placement) (q : Page) (sid a : ℕ) → spot_in (touch p q) sid a ≡ spot_in p sid a
spot_same p q sid a =
    let size : (r : Page) → bytes_of (touch p q) r ≡ bytes_of p r = λ r. ap (λ (n : ℕ). 1024 * n) (sizes_kept p (touch p q) (touch_shaped p q) r) in
    let image : image_of (touch p q) sid ≡ image_of p sid = image_kept p (touch p q) (touch_shaped p q) sid in
    ap (λ (i : ℕ). spot_at (bytes_of (touch p q) (pages.Text i 0)) (bytes_of (touch p q) (pages.Data sid 0)) (bytes_of (touch p q) (pages.Stack sid 0)) a) image
    ∙ ap (λ (t : ℕ). spot_at t (bytes_of (touch p q) (pages.Data sid 0)) (bytes_of (touch p q) (pages.Stack sid 0)) a) (size (pages.Text (image_of p sid) 0))
    ∙ ap (λ (d : ℕ). spot_at (bytes_of p (pages.Text (image_of p sid) 0)) d (bytes_of (touch p q) (pages.Stack sid 0)) a) (size (pages.Data sid 0))
    ∙ ap (λ (s : ℕ). spot_at (bytes_of p (pages.Text (image_of p sid) 0)) (bytes_of p (pages.Data sid 0)) s a) (size (pages.Stack sid 0))

-- A byte of a page that is written.
pub record IsTouched (k : Kernel) (q : Page) (f at : ℕ) : Type 0 where
  pub writable : IsWritable q
  pub valid : state_of k.place q ≡ Valid f
  pub owner : OwnsFrames k.place
  pub whole : length (frame_bytes k f) ≡ 1024
  pub within : at < 1024

-- a frame with bytes is there
frame_there : (xs : List (List ℕ)) (f : ℕ) → length (at_frame xs f []) ≡ 1024 → (0 < f) × (f ≤ length xs)
frame_there xs zero e = absurd cc
frame_there [] (suc f) e = absurd cc
frame_there (x ∷ xs) (suc zero) e = (omega arith, omega arith)
frame_there (x ∷ xs) (suc (suc f)) e = let h = frame_there xs (suc f) e in (omega arith, omega (arith, h.1))

-- the frame after the write
frame_after : (k : Kernel) (q : Page) (f at byte : ℕ) → IsTouched k q f at → frame_bytes (write_step k q f at byte) f ≡ set (frame_bytes k f) at byte
frame_after k q f at byte t =
    let there = frame_there k.frames f t.whole in
    at_set_same k.frames f (set (frame_bytes k f) at byte) [] there.0 there.1

-- the frames of valid pages still have the bytes of a page
pub whole_after : (k : Kernel) (q : Page) (f at byte : ℕ) → IsTouched k q f at → AreWhole k → AreWhole (write_step k q f at byte)
whole_after k q f at byte t whole r g e =
    let before : state_of k.place r ≡ Valid g = sym (touch_state k.place q r f t.writable t.valid) ∙ e in
    elim (cases_eq g f) [
      | inl same ↦ subst (λ (n : ℕ). length (frame_bytes (write_step k q f at byte) n) ≡ 1024) (sym same)
          (ap length (frame_after k q f at byte t) ∙ length-set (frame_bytes k f) at byte ∙ t.whole)
      | inr d ↦ ap length (at_set_other k.frames f g (set (frame_bytes k f) at byte) [] d) ∙ whole r g before
    ]

read_there : (k : Kernel) (q : Page) (f at byte : ℕ) → IsTouched k q f at → read_page (write_step k q f at byte) q at ≡ reads.Is byte
read_there k q f at byte t =
    ap (λ (s : PageState). read_by_state (write_step k q f at byte) s at) (touch_state k.place q q f t.writable t.valid ∙ t.valid)
    ∙ ap (λ (bs : List ℕ). reads.Is (slice_index bs at)) (frame_after k q f at byte t)
    ∙ ap (λ (b : ℕ). reads.Is b) (get_or-set_same (frame_bytes k f) at byte 0 (let h = t.whole in let w = t.within in omega arith))

read_beside : (k : Kernel) (q r : Page) (f at byte other : ℕ) → IsTouched k q f at → (r ≡ q → other ≡ at → ⊥)
    → read_page (write_step k q f at byte) r other ≡ read_page k r other
read_beside k q r f at byte other t apart =
    ap (λ (s : PageState). read_by_state (write_step k q f at byte) s other) (touch_state k.place q r f t.writable t.valid) ∙ go (state_of k.place r) refl
  where
    go : (s : PageState) → state_of k.place r ≡ s → read_by_state (write_step k q f at byte) s other ≡ read_by_state k s other
    go (Valid g) e = elim (cases_eq g f) [
      | inl same ↦
          let one : r ≡ q = same_Some r q (sym (t.owner.names r g (ap frame_of e)) ∙ ap (page_of k.place) same ∙ t.owner.names q f (ap frame_of t.valid)) in
          subst (λ (n : ℕ). reads.Is (slice_index (frame_bytes (write_step k q f at byte) n) other) ≡ reads.Is (slice_index (frame_bytes k n) other)) (sym same)
          (ap (λ (bs : List ℕ). reads.Is (slice_index bs other)) (frame_after k q f at byte t)
          ∙ ap (λ (b : ℕ). reads.Is b) (get_or-set_other (frame_bytes k f) at other byte 0 (apart one)))
      | inr d ↦ ap (λ (bs : List ℕ). reads.Is (slice_index bs other)) (at_set_other k.frames f g (set (frame_bytes k f) at byte) [] d)
    ]
    go Unfilled e = refl
    go (Invalid g) e = refl
    go (Coming g) e = refl
    go (Going g) e = refl
    go OnSwap e = refl

-- The spots of a space.

touch_keeps_image : (k : Kernel) (q : Page) (sid : ℕ) → image_of (touch k.place q) sid ≡ image_of k.place sid
touch_keeps_image k q sid = image_kept k.place (touch k.place q) (touch_shaped k.place q) sid

one_place : (i j : ℕ) → i / 1024 ≡ j / 1024 → i % 1024 ≡ j % 1024 → i ≡ j
one_place i j d m = omega arith

number_is : (a b : Page) → a ≡ b → number_of a ≡ number_of b
number_is a b e = ap number_of e

-- A spot of data or stack names a byte of this page, which is read at no other spot.
pub record Names (k : Kernel) (sid : ℕ) (spot : Spot) (q : Page) (at : ℕ) : Type 0 where
  pub within : at < 1024
  pub writable : IsWritable q
  pub may : may_write_spot k.place sid spot ≡ may_write_by (state_of k.place q)
  pub written : (byte : ℕ) → write_spot k sid spot byte ≡ write_page k q at byte
  pub reads : (x : Kernel) → read_spot x sid spot ≡ read_page x q at
  pub others : (f byte : ℕ) (other : Spot) → IsTouched k q f at → other ≢ spot → read_spot (write_step k q f at byte) sid other ≡ read_spot k sid other

text_read : (k : Kernel) (sid : ℕ) (q : Page) (f at byte i : ℕ) → IsTouched k q f at → (pages.Text (image_of k.place sid) (i / 1024) ≡ q → ⊥)
    → read_spot (write_step k q f at byte) sid (Text i) ≡ read_spot k sid (Text i)
text_read k sid q f at byte i t d =
    ap (λ (n : ℕ). read_page (write_step k q f at byte) (pages.Text n (i / 1024)) (i % 1024)) (touch_keeps_image k q sid)
    ∙ read_beside k q (pages.Text (image_of k.place sid) (i / 1024)) f at byte (i % 1024) t (λ e m. d e)

data_names : (k : Kernel) (sid j : ℕ) → Names k sid (Data j) (pages.Data sid (j / 1024)) (j % 1024)
data_names k sid j = record { within = omega arith; writable = tt; may = refl; written = λ byte. refl; reads = λ x. refl; others = others }
  where
    others : (f byte : ℕ) (other : Spot) → IsTouched k (pages.Data sid (j / 1024)) f (j % 1024) → other ≢ Data j
        → read_spot (write_step k (pages.Data sid (j / 1024)) f (j % 1024) byte) sid other ≡ read_spot k sid other
    others f byte (Text i) t d = text_read k sid (pages.Data sid (j / 1024)) f (j % 1024) byte i t (λ e. absurd cc)
    others f byte (Data i) t d = read_beside k (pages.Data sid (j / 1024)) (pages.Data sid (i / 1024)) f (j % 1024) byte (i % 1024) t
        (λ e m. d (ap (λ (n : ℕ). Data n) (one_place i j (number_is _ _ e) m)))
    others f byte (Stack i) t d = read_beside k (pages.Data sid (j / 1024)) (pages.Stack sid (i / 1024)) f (j % 1024) byte (i % 1024) t (λ e m. absurd cc)
    others f byte Below t d = refl
    others f byte Outside t d = refl

stack_names : (k : Kernel) (sid j : ℕ) → Names k sid (Stack j) (pages.Stack sid (j / 1024)) (j % 1024)
stack_names k sid j = record { within = omega arith; writable = tt; may = refl; written = λ byte. refl; reads = λ x. refl; others = others }
  where
    others : (f byte : ℕ) (other : Spot) → IsTouched k (pages.Stack sid (j / 1024)) f (j % 1024) → other ≢ Stack j
        → read_spot (write_step k (pages.Stack sid (j / 1024)) f (j % 1024) byte) sid other ≡ read_spot k sid other
    others f byte (Text i) t d = text_read k sid (pages.Stack sid (j / 1024)) f (j % 1024) byte i t (λ e. absurd cc)
    others f byte (Data i) t d = read_beside k (pages.Stack sid (j / 1024)) (pages.Data sid (i / 1024)) f (j % 1024) byte (i % 1024) t (λ e m. absurd cc)
    others f byte (Stack i) t d = read_beside k (pages.Stack sid (j / 1024)) (pages.Stack sid (i / 1024)) f (j % 1024) byte (i % 1024) t
        (λ e m. d (ap (λ (n : ℕ). Stack n) (one_place i j (number_is _ _ e) m)))
    others f byte Below t d = refl
    others f byte Outside t d = refl

-- the page of a byte that may be written
pub record MayPut (k : Kernel) (sid : ℕ) (spot : Spot) : Type 0 where
  pub page : Page
  pub frame : ℕ
  pub at : ℕ
  pub touched : IsTouched k page frame at
  pub names : Names k sid spot page at

may_valid : (s : PageState) → may_write_by s ≡ tests.May → (f : ℕ) × (s ≡ Valid f)
may_valid (Valid f) e = (f, refl)
may_valid Unfilled e = absurd cc
may_valid (Invalid f) e = absurd cc
may_valid (Coming f) e = absurd cc
may_valid (Going f) e = absurd cc
may_valid OnSwap e = absurd cc

may_put : (k : Kernel) (sid : ℕ) (spot : Spot) → may_write_spot k.place sid spot ≡ tests.May → OwnsFrames k.place → AreWhole k → MayPut k sid spot
may_put k sid spot may owner whole = go spot may
  where
    by : (spot : Spot) (q : Page) (at : ℕ) → Names k sid spot q at → may_write_spot k.place sid spot ≡ tests.May → MayPut k sid spot
    by spot q at n may =
        let v = may_valid (state_of k.place q) (sym n.may ∙ may) in
        record {
          page = q;
          frame = v.0;
          at = at;
          names = n;
          touched = record { writable = n.writable; valid = v.1; owner = owner; whole = whole q v.0 v.1; within = n.within };
        }

    go : (spot : Spot) → may_write_spot k.place sid spot ≡ tests.May → MayPut k sid spot
    go (Data j) may = by (Data j) (pages.Data sid (j / 1024)) (j % 1024) (data_names k sid j) may
    go (Stack j) may = by (Stack j) (pages.Stack sid (j / 1024)) (j % 1024) (stack_names k sid j) may
    go (Text j) may = absurd cc
    go Below may = absurd cc
    go Outside may = absurd cc

-- the write is a step of the machine
written_step : (k : Kernel) (sid : ℕ) (spot : Spot) (byte : ℕ) (m : MayPut k sid spot) → write_spot k sid spot byte ≡ write_step k m.page m.frame m.at byte
written_step k sid spot byte m = m.names.written byte ∙ ap (λ (s : PageState). write_by_state k m.page s m.at byte) m.touched.valid

-- two addresses of one byte that may be written are one
spot_once : (p : Placement) (sid a b : ℕ) (spot : Spot) → may_write_spot p sid spot ≡ tests.May → spot_in p sid a ≡ spot → spot_in p sid b ≡ spot → a ≡ b
spot_once p sid a b (Text k) may e f = absurd cc
spot_once p sid a b (Data k) may e f =
    let x = (data_spot _ _ _ _ _ e).0 in
    let y = (data_spot _ _ _ _ _ f).0 in
    omega (arith, x, y)
spot_once p sid a b (Stack k) may e f =
    let x : OfStack (stack_len p sid) a k = stack_spot _ _ _ _ _ e in
    let y : OfStack (stack_len p sid) b k = stack_spot _ _ _ _ _ f in
    stack_index_once a b x.below y.below (sym x.index ∙ y.index)
spot_once p sid a b Below may e f = absurd cc
spot_once p sid a b Outside may e f = absurd cc

-- after a write the space answers as before, but for the byte that was written
read_after : (k : Kernel) (sid byte a b : ℕ) (m : MayPut k sid (spot_in k.place sid b)) → may_write_spot k.place sid (spot_in k.place sid b) ≡ tests.May
    → read_spot (write_step k m.page m.frame m.at byte) sid (spot_in k.place sid a) ≡ read_by (a == b) byte (read_spot k sid (spot_in k.place sid a))
read_after k sid byte a b m may = go (cases_eq a b)
  where
    go : (a ≡ b) ⊎ (a ≡ b → ⊥) → read_spot (write_step k m.page m.frame m.at byte) sid (spot_in k.place sid a)
        ≡ read_by (a == b) byte (read_spot k sid (spot_in k.place sid a))
    go (inl e) =
        ap (λ (x : ℕ). read_spot (write_step k m.page m.frame m.at byte) sid (spot_in k.place sid x)) e
        ∙ m.names.reads (write_step k m.page m.frame m.at byte) ∙ read_there k m.page m.frame m.at byte m.touched
        ∙ ap (λ (t : Bool). read_by t byte (read_spot k sid (spot_in k.place sid a))) (sym (eq-eqb a b e))
    go (inr d) =
        m.names.others m.frame byte (spot_in k.place sid a) m.touched (λ e. d (spot_once k.place sid a b (spot_in k.place sid b) may e refl))
        ∙ ap (λ (t : Bool). read_by t byte (read_spot k sid (spot_in k.place sid a))) (let test : false ≡ (a == b) = grind (arith, nat_tests) in test)

may_after : (k : Kernel) (sid byte : ℕ) (q : Page) (f at : ℕ) (spot : Spot) → IsTouched k q f at
    → may_write_spot (write_step k q f at byte).place sid spot ≡ may_write_spot k.place sid spot
may_after k sid byte q f at (Text i) t = refl
may_after k sid byte q f at (Data i) t = ap may_write_by (touch_state k.place q (pages.Data sid (i / 1024)) f t.writable t.valid)
may_after k sid byte q f at (Stack i) t = ap may_write_by (touch_state k.place q (pages.Stack sid (i / 1024)) f t.writable t.valid)
may_after k sid byte q f at Below t = refl
may_after k sid byte q f at Outside t = refl

put_answers : (k : Kernel) (sid : ℕ) (w : ByteWrite) → IsWritten k sid w.address → kernel_answers (write_in k sid w) sid ≡ put_byte (kernel_answers k sid) w
put_answers k sid w h =
    let m : MayPut k sid (spot_in k.place sid w.address) = may_put k sid (spot_in k.place sid w.address) h.may h.owner h.whole in
    let n : Kernel = write_step k m.page m.frame m.at w.byte in
    ap (λ (x : Kernel). kernel_answers x sid) (written_step k sid (spot_in k.place sid w.address) w.byte m)
    ∙ (λ i. record {
      read = λ a. (ap (read_spot n sid) (spot_same k.place m.page sid a) ∙ read_after k sid w.byte a w.address m h.may) i;
      may_write = λ a.
          (ap (may_write_spot n.place sid) (spot_same k.place m.page sid a) ∙ may_after k sid w.byte m.page m.frame m.at (spot_in k.place sid a) m.touched) i;
    })

-- so it is after writes in a row
pub writes_answer : (k : Kernel) (sid : ℕ) (ws : List ByteWrite) → AreWritten k sid ws
    → kernel_answers (writes_in k sid ws) sid ≡ written (kernel_answers k sid) ws
writes_answer k sid [] h = refl
writes_answer k sid (w ∷ ws) h = writes_answer (write_in k sid w) sid ws h.1 ∙ ap (λ (x : Answers). written x ws) (put_answers k sid w h.0)

-- writes after writes
pub writes_append : (k : Kernel) (sid : ℕ) (xs ys : List ByteWrite) → writes_in k sid (xs ++ ys) ≡ writes_in (writes_in k sid xs) sid ys
writes_append k sid [] ys = refl
writes_append k sid (x ∷ xs) ys = writes_append (write_in k sid x) sid xs ys

-- each of the writes of two rows, one after the other, is of a byte of a valid page
pub written_append : (k : Kernel) (sid : ℕ) (xs ys : List ByteWrite) → AreWritten k sid xs → AreWritten (writes_in k sid xs) sid ys
    → AreWritten k sid (xs ++ ys)
written_append k sid [] ys h j = j
written_append k sid (x ∷ xs) ys h j = (h.0, written_append (write_in k sid x) sid xs ys h.1 j)

-- The whole machine.

-- with no writes the machine is as it was
pub wrote_none : (m : Standing) (sid : ℕ) → Wrote m sid [] m
wrote_none m sid = record { machine = refl; each = tt }

-- writes and then further ones are the writes of both in a row
pub wrote_more : (a b c : Standing) (sid : ℕ) (xs ys : List ByteWrite) → Wrote a sid xs b → Wrote b sid ys c → Wrote a sid (xs ++ ys) c
wrote_more a b c sid xs ys h j =
    let k : b.kernel ≡ writes_in a.kernel sid xs = ap (λ (s : Standing). s.kernel) h.machine in
    record {
      machine =
          j.machine ∙ ap (λ (s : Standing). record s { kernel = writes_in s.kernel sid ys }) h.machine
          ∙ ap (λ (x : Kernel). record a { kernel = x }) (sym (writes_append a.kernel sid xs ys));
      each = written_append a.kernel sid xs ys h.each (subst (λ (x : Kernel). AreWritten x sid ys) k j.each);
    }

-- after writes the space answers as a memory to which they were made
pub wrote_answers : (a b : Standing) (sid : ℕ) (ws : List ByteWrite) → Wrote a sid ws b → kernel_answers b.kernel sid ≡ written (kernel_answers a.kernel sid) ws
wrote_answers a b sid ws h = ap (λ (s : Standing). kernel_answers s.kernel sid) h.machine ∙ writes_answer a.kernel sid ws h.each

-- Through a reference.

-- with no writes the machine is as it was
pub through_none : (m : MutBor Standing) (l : Layout) → WroteThrough m l [] m l
through_none m l = (refl, refl, wrote_none m.now l.sid)

-- writes and then further ones are the writes of both in a row
pub through_more : (a b c : MutBor Standing) (x y z : Layout) (xs ys : List ByteWrite) → WroteThrough a x xs b y → WroteThrough b y ys c z
    → WroteThrough a x (xs ++ ys) c z
through_more a b c x y z xs ys h j =
    (j.0 ∙ h.0, j.1 ∙ h.1, wrote_more a.now b.now c.now x.sid xs ys h.2 (subst (λ (l : Layout). Wrote b.now l.sid ys c.now) h.1 j.2))

-- after writes the space answers as a memory to which they were made
pub through_answers : (a b : MutBor Standing) (x y : Layout) (ws : List ByteWrite) → WroteThrough a x ws b y
    → kernel_answers b.now.kernel y.sid ≡ written (kernel_answers a.now.kernel x.sid) ws
through_answers a b x y ws h = ap (λ (l : Layout). kernel_answers b.now.kernel l.sid) h.1 ∙ wrote_answers a.now b.now x.sid ws h.2
