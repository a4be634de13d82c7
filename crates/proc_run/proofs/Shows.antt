-- A byte that is written into a page that is shown.
use Rattle.std.proofs.Common.{◌≡◌, ℕ, ◌+◌, ◌*◌, ◌/◌, ◌%◌, ◌^◌, ◌==◌, ◌⊎◌, inl, inr, Bool, true, false, List, [], ◌∷◌, Option, refl, sym, ap, ◌∙◌, arith}
use Rattle.vm_facts.specs.Ahead.{AreAhead}
use Rattle.std.specs.Borrow.{MutBor}
use Rattle.std.proofs.lemmas.Bool.{cases_eq}
use Rattle.std.proofs.lemmas.Bool.Decides.{nat_tests}
use Rattle.vm_facts.specs.Answers.{Answers, ByteWrite, read_by, put_byte}
use Rattle.vm_facts.specs.declared.memory.ByteRead.{ByteRead}
use Rattle.vm_facts.specs.declared.memory.MayWrite.TheVariants as tests
use Rattle.vm_facts.specs.declared.page.Page.{Page}
use Rattle.vm_facts.specs.declared.page.Page.TheVariants as pages
use Rattle.vm_facts.specs.declared.page.PageState.{PageState}
use Rattle.vm_facts.specs.declared.page.PageState.TheVariants.{Unfilled, Valid, Invalid, Coming, Going, OnSwap}
use Rattle.flat_state.specs.declared.spot.Spot.{Spot}
use Rattle.flat_state.specs.declared.spot.Spot.TheVariants as spots
use Rattle.flat_state.specs.Space.{spot_at}
use Rattle.page_model.specs.Placement.{Placement, image_of, state_of}
use Rattle.page_model.specs.Moves.{touch}
use Rattle.kernel_model.specs.Kernel.{Kernel, write_by_state}
use Rattle.kernel_laws.proofs.Machine.Shapes.{touch_shaped, image_kept, sizes_kept}
use Rattle.machine_state.specs.declared.user_memory.Layout.{Layout}
use Rattle.machine_state.specs.Ahead.{LieAhead}
use Rattle.machine_state.specs.Machine.{Standing}
use Rattle.machine_state.specs.UserMemory.{bytes_of, spot_in, page_at_spot, page_in, kernel_answers, write_page, write_spot, write_in}
use Rattle.machine_state.specs.UserMemoryLaws.{through_answers}
use Rattle.machine_state.specs.Lent.{WroteThrough}
use Rattle.user_step.specs.Slots.{may_where}
use Rattle.user_step.proofs.Storing.{may_slot}
use Rattle.flat_model.specs.Shown.{is_shown, read_where}
use Rattle.proc_run.specs.Shown.{only, shown_in, WroteShown}

-- A write leaves the page of each address as it is.

touched_same : (p : Placement) (q : Page) (sid a : ℕ) → page_in (touch p q) sid a ≡ page_in p sid a
touched_same p q sid a =
    ap (page_at_spot (touch p q) sid) spot ∙ named (spot_in p sid a)
  where
    size : (r : Page) → bytes_of (touch p q) r ≡ bytes_of p r
    size r = ap (λ (n : ℕ). 1024 * n) (sizes_kept p (touch p q) (touch_shaped p q) r)

    image : image_of (touch p q) sid ≡ image_of p sid
    image = image_kept p (touch p q) (touch_shaped p q) sid

    spot : spot_in (touch p q) sid a ≡ spot_in p sid a
    spot =
        ap (λ (i : ℕ). spot_at (bytes_of (touch p q) (pages.Text i 0)) (bytes_of (touch p q) (pages.Data sid 0)) (bytes_of (touch p q) (pages.Stack sid 0)) a) image
        ∙ ap (λ (t : ℕ). spot_at t (bytes_of (touch p q) (pages.Data sid 0)) (bytes_of (touch p q) (pages.Stack sid 0)) a) (size (pages.Text (image_of p sid) 0))
        ∙ ap (λ (d : ℕ). spot_at (bytes_of p (pages.Text (image_of p sid) 0)) d (bytes_of (touch p q) (pages.Stack sid 0)) a) (size (pages.Data sid 0))
        ∙ ap (λ (s : ℕ). spot_at (bytes_of p (pages.Text (image_of p sid) 0)) (bytes_of p (pages.Data sid 0)) s a) (size (pages.Stack sid 0))

    named : (s : Spot) → page_at_spot (touch p q) sid s ≡ page_at_spot p sid s
    named (spots.Text i) = ap (λ (n : ℕ). Rattle.std.specs.Prelude.Some (pages.Text n (i / 1024))) image
    named (spots.Data i) = refl
    named (spots.Stack i) = refl
    named spots.Below = refl
    named spots.Outside = refl

page_written : (k : Kernel) (q : Page) (at byte sid a : ℕ) → page_in (write_page k q at byte).place sid a ≡ page_in k.place sid a
page_written k q at byte sid a = go (state_of k.place q)
  where
    go : (s : PageState) → page_in (write_by_state k q s at byte).place sid a ≡ page_in k.place sid a
    go (Valid f) = touched_same k.place q sid a
    go Unfilled = refl
    go (Invalid f) = refl
    go (Coming f) = refl
    go (Going f) = refl
    go OnSwap = refl

spot_written : (k : Kernel) (sid byte a : ℕ) (s : Spot) → page_in (write_spot k sid s byte).place sid a ≡ page_in k.place sid a
spot_written k sid byte a (spots.Text i) = refl
spot_written k sid byte a (spots.Data i) = page_written k (pages.Data sid (i / 1024)) (i % 1024) byte sid a
spot_written k sid byte a (spots.Stack i) = page_written k (pages.Stack sid (i / 1024)) (i % 1024) byte sid a
spot_written k sid byte a spots.Below = refl
spot_written k sid byte a spots.Outside = refl

-- What is shown after such a write is what was shown, with the byte.
only_put : (p : Placement) (sid : ℕ) (ps : List Page) (memory : Answers) (w : ByteWrite) → is_shown ps (page_in p sid w.address) ≡ true
    → only p sid ps (put_byte memory w) ≡ put_byte (only p sid ps memory) w
only_put p sid ps memory w there = λ i. record {
  read = λ a. read_same a (cases_eq a w.address) i;
  may_write = λ a. may_where (is_shown ps (page_in p sid a)) (memory.may_write a);
}
  where
    by : (b c : Bool) (answer : ByteRead) → (c ≡ true → b ≡ true) → read_where b (read_by c w.byte answer) ≡ read_by c w.byte (read_where b answer)
    by b false answer h = refl
    by true true answer h = refl
    by false true answer h = absurd (let e : false ≡ true = h refl in cc)

    read_same : (a : ℕ) → (a ≡ w.address) ⊎ (a ≡ w.address → ⊥)
        → read_where (is_shown ps (page_in p sid a)) (read_by (a == w.address) w.byte (memory.read a)) ≡ read_by (a == w.address) w.byte (read_where (is_shown ps (page_in p sid a)) (memory.read a))
    read_same a (inl e) = by (is_shown ps (page_in p sid a)) (a == w.address) (memory.read a) (λ h. ap (λ (x : ℕ). is_shown ps (page_in p sid x)) e ∙ there)
    read_same a (inr d) = by (is_shown ps (page_in p sid a)) (a == w.address) (memory.read a) (λ h. absurd (let none : false ≡ (a == w.address) = grind (arith, nat_tests) in cc))

-- only the page of each address counts
only_same : (p r : Placement) (sid : ℕ) (ps : List Page) (memory : Answers) → ((a : ℕ) → page_in r sid a ≡ page_in p sid a)
    → only r sid ps memory ≡ only p sid ps memory
only_same p r sid ps memory h = λ i. record {
  read = λ a. read_where (is_shown ps (h a i)) (memory.read a);
  may_write = λ a. may_where (is_shown ps (h a i)) (memory.may_write a);
}

written_shown : (k : Kernel) (sid : ℕ) (ps : List Page) (w : ByteWrite) → kernel_answers (write_in k sid w) sid ≡ put_byte (kernel_answers k sid) w
    → is_shown ps (page_in k.place sid w.address) ≡ true
    → shown_in (write_in k sid w) sid ps ≡ put_byte (shown_in k sid ps) w
written_shown k sid ps w e there =
    only_same k.place (write_in k sid w).place sid ps (kernel_answers (write_in k sid w) sid) (λ a. spot_written k sid w.byte a (spot_in k.place sid w.address))
    ∙ ap (only k.place sid ps) e ∙ only_put k.place sid ps (kernel_answers k sid) w there

-- so it is through a reference
pub wrote_shown : (m n : MutBor Standing) (l k : Layout) (ps : List Page) (w : ByteWrite) → WroteThrough m l (w ∷ []) n k
    → (shown_in m.now.kernel l.sid ps).may_write w.address ≡ tests.May → WroteShown m l ps (w ∷ []) n k ps
wrote_shown m n l k ps w h may = record {
  through = h;
  kept = refl;
  answers =
      let behind : n.now.kernel ≡ write_in m.now.kernel l.sid w = ap (λ (s : Standing). s.kernel) h.2.machine in
      let same : k.sid ≡ l.sid = ap (λ (y : Layout). y.sid) h.1 in
      ap (λ (x : Kernel). shown_in x k.sid ps) behind
      ∙ ap (λ (sid : ℕ). shown_in (write_in m.now.kernel l.sid w) sid ps) same
      ∙ written_shown m.now.kernel l.sid ps w
      (sym (ap (λ (x : Kernel). kernel_answers x l.sid) behind) ∙ sym (ap (λ (sid : ℕ). kernel_answers n.now.kernel sid) same) ∙ through_answers m n l k (w ∷ []) h)
      (may_slot (is_shown ps (page_in m.now.kernel.place l.sid w.address)) ((kernel_answers m.now.kernel l.sid).may_write w.address) may);
}

-- Bytes that lie together in a page that is shown are read as they are.
pub ahead_shown : (k : Kernel) (sid : ℕ) (ps : List Page) (address : ℕ) (bytes : List ℕ) → LieAhead k sid address bytes
    → is_shown ps (page_in k.place sid address) ≡ true → AreAhead (shown_in k sid ps) address bytes
ahead_shown k sid ps address bytes lie there i below =
    ap (λ (o : Option Page). read_where (is_shown ps o) ((kernel_answers k sid).read ((address + i) % 2 ^ 32))) (lie.page i below)
    ∙ ap (λ (s : Bool). read_where s ((kernel_answers k sid).read ((address + i) % 2 ^ 32))) there
    ∙ lie.ahead i below
