-- Longwords of one page that are written downwards are so many writes of its space.
use Rattle.std.proofs.Common.{◌≡◌, ◌∙◌, ℕ, suc, ◌+◌, ◌-◌, ◌*◌, ◌/◌, ◌%◌, ◌^◌, ◌<◌, ◌≤◌, List, [], ◌∷◌, ◌++◌, length, get_or, take, take_all, drop, refl, ap, sym, subst, arith}
use Rattle.std.specs.Prelude.{slice_get}
use Rattle.std.specs.Int.{w32, to_le_bytes}
use Rattle.vm_facts.specs.Ahead.{MayBelow}
use Rattle.vm_facts.specs.Answers.{ByteWrite, longword_below, writes_from, writes_down}
use Rattle.vm_facts.specs.declared.page.Page.{Page}
use Rattle.vm_facts.specs.declared.page.Page.TheVariants as pages
use Rattle.vm_facts.specs.declared.page.PageState.TheVariants.{Valid}
use Rattle.vm_facts.proofs.Below.{may_below}
use Rattle.flat_state.specs.declared.spot.Spot.{Spot}
use Rattle.flat_state.specs.declared.spot.Spot.TheVariants.{Data, Stack}
use Rattle.page_model.specs.Pages.{SpacePages}
use Rattle.page_model.specs.Placement.{space_number, state_of}
use Rattle.page_model.specs.PageBytes.{IsWritable}
use Rattle.kernel_model.specs.Kernel.{Kernel, write_step}
use Rattle.table_steps.specs.Machine.{Standing}
use Rattle.table_steps.specs.UserMemory.{spot_in, may_write_by, may_write_spot, kernel_answers, write_page, write_spot, writes_in, write_run, AreWritten, IsLaidOut, IsOwnPage, Wrote, WroteRun}
use Rattle.machine_state.specs.Ahead.{MayFrom}
use Rattle.machine_state.specs.Down.{write_down, WroteDown}
use Rattle.machine_state.specs.UserMemoryLaws.{touch_state, writes_append, written_append}
use Rattle.machine_state.proofs.Layouts.{touch_kept, layout_after}
use Rattle.machine_state.proofs.Beside.{AreBeside, IsNamed, named_after, AreOfPage, of_page, below_data, beside_data, below_stack, beside_stack, data_writable, stack_writable}

-- ---- the page after some of its bytes were written

pub valid_after : (k : Kernel) (q : Page) (f at : ℕ) (bytes : List ℕ) → IsWritable q → state_of k.place q ≡ Valid f
    → state_of (write_run k q f at bytes).place q ≡ Valid f
valid_after k q f at [] writable valid = valid
valid_after k q f at (byte ∷ bytes) writable valid =
    valid_after (write_step k q f at byte) q f (at + 1) bytes writable (touch_state k.place q q f writable valid ∙ valid)

own_kept : (k : Kernel) (q r : Page) (f at byte index : ℕ) → IsOwnPage k.place index r → IsOwnPage (write_step k q f at byte).place index r
own_kept k q (pages.Data n v) f at byte index own = ap (λ (ns : List ℕ). slice_get ns index) (touch_kept space_number (λ v st m x. (refl, refl)) k.place q) ∙ own
own_kept k q (pages.Stack n v) f at byte index own = ap (λ (ns : List ℕ). slice_get ns index) (touch_kept space_number (λ v st m x. (refl, refl)) k.place q) ∙ own
own_kept k q (pages.Text n v) f at byte index own =
    ap (λ (ns : List ℕ). slice_get ns index) (touch_kept (λ (x : SpacePages). x.image) (λ v st m x. (refl, refl)) k.place q) ∙ own

pub own_after : (k : Kernel) (q r : Page) (f at : ℕ) (bytes : List ℕ) (index : ℕ) → IsOwnPage k.place index r
    → IsOwnPage (write_run k q f at bytes).place index r
own_after k q r f at [] index own = own
own_after k q r f at (byte ∷ bytes) index own = own_after (write_step k q f at byte) q r f (at + 1) bytes index (own_kept k q r f at byte index own)

pub running_after : (k : Kernel) (q : Page) (f at : ℕ) (bytes : List ℕ) → (write_run k q f at bytes).stopped ≡ k.stopped
running_after k q f at [] = refl
running_after k q f at (byte ∷ bytes) = running_after (write_step k q f at byte) q f (at + 1) bytes

named_run : (k : Kernel) (sid a i : ℕ) (make : ℕ → Spot) (q : Page) (f at : ℕ) (bytes : List ℕ) → IsWritable q → at + length bytes ≤ 1024
    → IsNamed k sid a i make q f → IsNamed (write_run k q f at bytes) sid a i make q f
named_run k sid a i make q f at [] writable fits n = n
named_run k sid a i make q f at (byte ∷ bytes) writable fits n =
    named_run (write_step k q f at byte) sid a i make q f (at + 1) bytes writable (omega (arith, fits))
    (named_after k sid a i make q f at byte writable (omega (arith, fits)) n)

-- the layout of each space stays
pub layout_down : (k : Kernel) (q : Page) (f at : ℕ) (longwords : List ℕ) (index sid image t d s : ℕ) → IsLaidOut k index sid image t d s
    → IsLaidOut (write_down k q f at longwords) index sid image t d s
layout_down k q f at [] index sid image t d s h = h
layout_down k q f at (longword ∷ longwords) index sid image t d s h =
    layout_down (write_run k q f (at + 4 * length longwords) (to_le_bytes w32 longword)) q f at longwords index sid image t d s
    (layout_after k q f (at + 4 * length longwords) (to_le_bytes w32 longword) index sid image t d s h)

-- ---- one longword, and those below it

pub first_and_rest : (longwords : List ℕ) (d : ℕ) → 1 ≤ length longwords
    → longwords ≡ get_or longwords 0 d ∷ take (length longwords - 1) (drop 1 longwords)
first_and_rest [] d some = absurd (omega (arith, some))
first_and_rest (longword ∷ longwords) d some =
    ap (λ (rest : List ℕ). longword ∷ rest) (sym (take_all (length (longword ∷ longwords) - 1) longwords (omega arith)))

one_frame : (f g : ℕ) → Valid f ≡ Valid g → f ≡ g
one_frame f g e = cc

-- one longword alone
pub down_one : (old new : Standing) (q : Page) (at longword : ℕ) (longwords : List ℕ) → longwords ≡ []
    → at + 4 * length (longword ∷ longwords) ≤ 1024 → WroteRun old new q (at + 4 * length longwords) (to_le_bytes w32 longword)
    → WroteDown old new q at (longword ∷ longwords)
down_one old new q at longword longwords none fits w = record {
  frame = w.frame;
  valid = w.valid;
  within = fits;
  machine =
      w.machine
      ∙ ap (λ (rest : List ℕ). record old {
        kernel = write_down (write_run old.kernel q w.frame (at + 4 * length longwords) (to_le_bytes w32 longword)) q w.frame at rest;
      }) (sym none);
  owner = w.owner;
  whole = w.whole;
}

pub down_more : (old mid new : Standing) (q : Page) (at longword : ℕ) (longwords : List ℕ) → IsWritable q
    → at + 4 * length (longword ∷ longwords) ≤ 1024 → WroteRun old mid q (at + 4 * length longwords) (to_le_bytes w32 longword)
    → WroteDown mid new q at longwords → WroteDown old new q at (longword ∷ longwords)
down_more old mid new q at longword longwords writable fits w d =
    let bytes : List ℕ = to_le_bytes w32 longword in
    let between : Kernel = write_run old.kernel q w.frame (at + 4 * length longwords) bytes in
    let kernel : mid.kernel ≡ between = ap (λ (s : Standing). s.kernel) w.machine in
    let valid : state_of mid.kernel.place q ≡ Valid w.frame =
    ap (λ (k : Kernel). state_of k.place q) kernel ∙ valid_after old.kernel q w.frame (at + 4 * length longwords) bytes writable w.valid in
    let same : d.frame ≡ w.frame = one_frame d.frame w.frame (sym d.valid ∙ valid) in
    record {
      frame = w.frame;
      valid = w.valid;
      within = fits;
      machine =
          d.machine
          ∙ ap (λ (f : ℕ). record mid { kernel = write_down mid.kernel q f at longwords }) same
          ∙ ap (λ (s : Standing). record s { kernel = write_down s.kernel q w.frame at longwords }) w.machine;
      owner = w.owner;
      whole = w.whole;
    }

-- ---- as writes of the space

-- longwords that are written downwards from an address, so many bytes above another, are so written in a page
record AreDown (k : Kernel) (sid : ℕ) (q : Page) (f at a : ℕ) (longwords : List ℕ) : Type 0 where
  kernel : writes_in k sid (writes_down (a + 4 * length longwords) longwords) ≡ write_down k q f at longwords
  each : AreWritten k sid (writes_down (a + 4 * length longwords) longwords)

of_page_down : (sid a i : ℕ) (make : ℕ → Spot) (q : ℕ → Page) (f : ℕ)
    → ((k : Kernel) (x byte : ℕ) → write_spot k sid (make x) byte ≡ write_page k (q (x / 1024)) (x % 1024) byte)
    → ((k : Kernel) (x : ℕ) → may_write_spot k.place sid (make x) ≡ may_write_by (state_of k.place (q (x / 1024))))
    → IsWritable (q (i / 1024)) → a + 1024 < 2 ^ 32 → (longwords : List ℕ) (k : Kernel) → i % 1024 + 4 * length longwords ≤ 1024
    → IsNamed k sid a i make (q (i / 1024)) f → AreDown k sid (q (i / 1024)) f (i % 1024) a longwords
of_page_down sid a i make q f by may writable low [] k fits n = record { kernel = refl; each = tt }
of_page_down sid a i make q f by may writable low (longword ∷ longwords) k fits n =
    let p : Page = q (i / 1024) in
    let bytes : List ℕ = to_le_bytes w32 longword in
    let count : ℕ = 4 * length longwords in
    let after : Kernel = write_run k p f (i % 1024 + count) bytes in
    let near : i % 1024 + count + 4 ≤ 1024 = omega (arith, fits) in
    let place : longword_below (a + 4 * suc (length longwords)) ≡ a + count = omega (arith, low, near) in
    let first : AreOfPage k sid p f (i % 1024 + count) (a + count) bytes = of_page sid a i make q f by may writable low bytes count k near n in
    let rest : AreDown after sid p f (i % 1024) a longwords =
    of_page_down sid a i make q f by may writable low longwords after (omega (arith, near)) (named_run k sid a i make p f (i % 1024 + count) bytes writable near n) in
    let here : List ByteWrite = writes_from (a + count) bytes in
    let below : List ByteWrite = writes_down (a + count) longwords in
    let all : writes_down (a + 4 * suc (length longwords)) (longword ∷ longwords) ≡ here ++ below =
    ap (λ (x : ℕ). writes_from x bytes ++ writes_down x longwords) place in
    record {
      kernel =
          ap (writes_in k sid) all ∙ writes_append k sid here below ∙ ap (λ (x : Kernel). writes_in x sid below) first.kernel ∙ rest.kernel;
      each = subst (AreWritten k sid) (sym all)
          (written_append k sid here below first.each (subst (λ (x : Kernel). AreWritten x sid below) (sym first.kernel) rest.each));
    }

-- with the whole machine
wrote_down : (old new : Standing) (sid a i : ℕ) (make : ℕ → Spot) (q : ℕ → Page) (longwords : List ℕ)
    → ((k : Kernel) (x byte : ℕ) → write_spot k sid (make x) byte ≡ write_page k (q (x / 1024)) (x % 1024) byte)
    → ((k : Kernel) (x : ℕ) → may_write_spot k.place sid (make x) ≡ may_write_by (state_of k.place (q (x / 1024))))
    → IsWritable (q (i / 1024)) → a + 1024 < 2 ^ 32 → AreBeside old.kernel sid a i make → WroteDown old new (q (i / 1024)) (i % 1024) longwords
    → Wrote old sid (writes_down (a + 4 * length longwords) longwords) new
wrote_down old new sid a i make q longwords by may writable low beside w =
    let n : IsNamed old.kernel sid a i make (q (i / 1024)) w.frame = record { beside = beside; valid = w.valid; owner = w.owner; whole = w.whole } in
    let down : AreDown old.kernel sid (q (i / 1024)) w.frame (i % 1024) a longwords =
    of_page_down sid a i make q w.frame by may writable low longwords old.kernel w.within n in
    record { machine = w.machine ∙ ap (λ (x : Kernel). record old { kernel = x }) (sym down.kernel); each = down.each }

down_may : (old new : Standing) (q : Page) (at : ℕ) (longwords : List ℕ) → WroteDown old new q at longwords
    → MayFrom (state_of old.kernel.place q) at (4 * length longwords)
down_may old new q at longwords w i below = let within : at + 4 * length longwords ≤ 1024 = w.within in (omega (arith, within, below), ap may_write_by w.valid)

-- so many bytes below an address, and above it again
raised : (a address count at : ℕ) → a ≡ (address + (2 ^ 32 - count)) % 2 ^ 32 → address < 2 ^ 32 → a + 1024 < 2 ^ 32 → at + count ≤ 1024
    → a + count ≡ address
raised a address count at e small low fits = omega (arith, e, small, low, fits)

-- longwords below an address, of which this is the lowest
abbrev pub lowest_of : ℕ → List ℕ → ℕ
lowest_of address longwords = (address + (2 ^ 32 - 4 * length longwords)) % 2 ^ 32

module _ (old new : Standing) (index sid image t d s : ℕ) (laid : IsLaidOut old.kernel index sid image t d s) where
  pub data_down : (address i : ℕ) (longwords : List ℕ) → address < 2 ^ 32 → spot_in old.kernel.place sid (lowest_of address longwords) ≡ Data i
      → WroteDown old new (pages.Data sid (i / 1024)) (i % 1024) longwords → Wrote old sid (writes_down address longwords) new
  data_down address i longwords small e w =
      let low : lowest_of address longwords + 1024 < 2 ^ 32 = below_data old.kernel index sid image t d s laid (lowest_of address longwords) i e in
      subst (λ (x : ℕ). Wrote old sid (writes_down x longwords) new) (raised (lowest_of address longwords) address (4 * length longwords) (i % 1024) refl small low w.within)
      (wrote_down old new sid (lowest_of address longwords) i (λ x. Data x) (λ v. pages.Data sid v) longwords (λ k x byte. refl) (λ k x. refl) tt low
      (beside_data old.kernel index sid image t d s laid (lowest_of address longwords) i e) w)

  pub data_below : (address i : ℕ) (longwords : List ℕ) → address < 2 ^ 32 → spot_in old.kernel.place sid (lowest_of address longwords) ≡ Data i
      → WroteDown old new (pages.Data sid (i / 1024)) (i % 1024) longwords → MayBelow (kernel_answers old.kernel sid) address (4 * length longwords)
  data_below address i longwords small e w =
      let low : lowest_of address longwords + 1024 < 2 ^ 32 = below_data old.kernel index sid image t d s laid (lowest_of address longwords) i e in
      may_below (kernel_answers old.kernel sid) (lowest_of address longwords) (4 * length longwords) address
      (raised (lowest_of address longwords) address (4 * length longwords) (i % 1024) refl small low w.within) small
      (data_writable old.kernel index sid image t d s laid (lowest_of address longwords) i (4 * length longwords) e
      (down_may old new (pages.Data sid (i / 1024)) (i % 1024) longwords w))

  pub stack_down : (address i : ℕ) (longwords : List ℕ) → address < 2 ^ 32 → spot_in old.kernel.place sid (lowest_of address longwords) ≡ Stack i
      → WroteDown old new (pages.Stack sid (i / 1024)) (i % 1024) longwords → Wrote old sid (writes_down address longwords) new
  stack_down address i longwords small e w =
      let low : lowest_of address longwords + 1024 < 2 ^ 32 = below_stack old.kernel index sid image t d s laid (lowest_of address longwords) i e in
      subst (λ (x : ℕ). Wrote old sid (writes_down x longwords) new) (raised (lowest_of address longwords) address (4 * length longwords) (i % 1024) refl small low w.within)
      (wrote_down old new sid (lowest_of address longwords) i (λ x. Stack x) (λ v. pages.Stack sid v) longwords (λ k x byte. refl) (λ k x. refl) tt low
      (beside_stack old.kernel index sid image t d s laid (lowest_of address longwords) i e) w)

  pub stack_below : (address i : ℕ) (longwords : List ℕ) → address < 2 ^ 32 → spot_in old.kernel.place sid (lowest_of address longwords) ≡ Stack i
      → WroteDown old new (pages.Stack sid (i / 1024)) (i % 1024) longwords → MayBelow (kernel_answers old.kernel sid) address (4 * length longwords)
  stack_below address i longwords small e w =
      let low : lowest_of address longwords + 1024 < 2 ^ 32 = below_stack old.kernel index sid image t d s laid (lowest_of address longwords) i e in
      may_below (kernel_answers old.kernel sid) (lowest_of address longwords) (4 * length longwords) address
      (raised (lowest_of address longwords) address (4 * length longwords) (i % 1024) refl small low w.within) small
      (stack_writable old.kernel index sid image t d s laid (lowest_of address longwords) i (4 * length longwords) e
      (down_may old new (pages.Stack sid (i / 1024)) (i % 1024) longwords w))
