-- A user write of one byte, into a frame and into the flat space, keeps the whole machine coupled.
use Rattle.std.proofs.Common.{◌≡◌, ◌≢◌, ◌⊎◌, inl, inr, ℕ, ◌+◌, ◌-◌, ◌*◌, ◌/◌, ◌%◌, ◌<◌, ◌≤◌, Bool, List, [], ◌∷◌, length, set, take, drop, Option, Some, refl, sym, ap, ◌∙◌, subst, arith}
use Rattle.std.proofs.lemmas.List.{length-set, drop-set-lt, drop-set-add, take-set-le}
use Rattle.std.proofs.Math.Seq.{take-set-lt}
use Rattle.std.proofs.lemmas.Bool.{cases_eq}
use Rattle.vm_facts.specs.Answers.{ByteWrite}
use Rattle.flat_state.specs.Space.{Space, address_in, put_at, put_in_space, puts}
use Rattle.flat_state.specs.Flat.{Holding, Holds, Process, FlatState, NamedImage, process_of, spaces_of}
use Rattle.vm_facts.specs.declared.page.Page.{Page}
use Rattle.vm_facts.specs.declared.page.Page.TheVariants.{Data, Stack, Text}
use Rattle.vm_facts.specs.declared.page.PageState.TheVariants.{Valid}
use Rattle.aout_image.specs.Image.{page_at}
use Rattle.flat_state.specs.declared.spot.Spot.{Spot}
use Rattle.flat_state.specs.declared.spot.Spot.TheVariants as spots
use Rattle.flat_state.specs.Change.{with_process, replaced, apply_writes, wrote_if, wrote_by}
use Rattle.page_model.specs.Pages.{numbered, frame_of}
use Rattle.page_model.specs.Frames.{set_frame}
use Rattle.page_model.specs.Placement.{Placement, state_of, is_dirty, space_number, IsThere}
use Rattle.page_model.specs.Moves.{touch}
use Rattle.page_model.specs.Place.{space_of_holding}
use Rattle.page_model.specs.Swapper.{is_out, residence_of}
use Rattle.page_model.specs.Ownership.{OwnsFrames, OneOwner}
use Rattle.page_model.specs.PageBytes.{Bytes, IsInFrame, WritesBoth, IsWritable}
use Rattle.flat_state.specs.Writes.{IsByteOf}
use Rattle.flat_state.specs.Numbers.{IsNumbered}
use Rattle.kernel_model.specs.Coupled.{Fits, AllFit, Coupled, SameTables, KeepsRegs, Outline, memory_of, data_bytes_in, stack_bytes_in, beside_kernel}
use Rattle.kernel_model.specs.Kernel.{Kernel, frame_bytes, write_step}
use Rattle.kernel_model.specs.Sound.{Sound, lives}
use Rattle.std.proofs.lemmas.Option.{same_Some}
use Rattle.page_laws.proofs.Moves.Steps.{page_in}
use Rattle.page_laws.proofs.Bytes.Pages.{keeps_at, touch_coupled}
use Rattle.page_laws.proofs.Lists.Pages.{numbered_hit, numbered_miss}
use Rattle.kernel_laws.proofs.Flat.Lists.{pid_of, sid_of, replaced_at, replaced_not, HeldAt, held_at, held_own, held_other, held_now, found_is}
use Rattle.flat_state.proofs.Processes.{replaced_twice}
use Rattle.kernel_laws.proofs.Machine.Shapes.{fit_shaped, Shaped, touch_shaped, sizes_kept}
use Rattle.kernel_laws.proofs.Machine.Moves.{alike_coupled, file_same}
use Rattle.kernel_laws.proofs.Machine.Tables.{all_fit, tables_of, RegsAt, regs_at, regs_carry, coupled_of, fit_bytes}
use Rattle.kernel_laws.proofs.Machine.Swaps.{found_at, found_self, replaced_outlines}

-- One byte of a page.

parts : (i : ℕ) → 1024 * (i / 1024) + i % 1024 ≡ i
parts i = omega arith

own_page : (i byte : ℕ) (xs : List ℕ) → page_at (i / 1024) (set xs i byte) ≡ set (page_at (i / 1024) xs) (i % 1024) byte
own_page i byte xs =
    subst (λ (n : ℕ). take 1024 (drop (1024 * (i / 1024)) (set xs n byte)) ≡ set (take 1024 (drop (1024 * (i / 1024)) xs)) (i % 1024) byte) (parts i)
    (ap (take 1024) (drop-set-add (1024 * (i / 1024)) xs (i % 1024) byte) ∙ take-set-lt 1024 (drop (1024 * (i / 1024)) xs) (i % 1024) byte (omega arith))

other_page : (i v byte : ℕ) (xs : List ℕ) → v ≢ i / 1024 → page_at v (set xs i byte) ≡ page_at v xs
other_page i v byte xs n =
    let lt_or : (a b : ℕ) → (a < b) ⊎ (b ≤ a) = λ a b. grind arith in
    let beyond : (i v : ℕ) → 1024 * v ≤ i → v ≢ i / 1024 → (j : ℕ) × (1024 * v + j ≡ i) × (1024 ≤ j) = λ i v l n. (i - 1024 * v, omega arith, omega arith) in
    let above : (j : ℕ) × (1024 * v + j ≡ i) × (1024 ≤ j) → page_at v (set xs i byte) ≡ page_at v xs = λ j.
    subst (λ (m : ℕ). take 1024 (drop (1024 * v) (set xs m byte)) ≡ take 1024 (drop (1024 * v) xs)) j.1
    (ap (take 1024) (drop-set-add (1024 * v) xs j.0 byte) ∙ take-set-le 1024 (drop (1024 * v) xs) j.0 byte j.2) in
    elim (lt_or i (1024 * v)) [
      | inl l ↦ ap (take 1024) (drop-set-lt (1024 * v) xs i byte l)
      | inr l ↦ above (beyond i v l n)
    ]

-- One byte of a space.

-- what a space is once a byte of one of its pages was written
record PutIn (s z : Space) (v : Page) (at byte : ℕ) : Type 0 where
  pub sid : z.sid ≡ s.sid
  pub image : z.image ≡ s.image
  pub data_length : length z.data_bytes ≡ length s.data_bytes
  pub stack_length : length z.stack_bytes ≡ length s.stack_bytes
  pub writable : IsWritable v
  pub own_data : (n : ℕ) → v ≡ Data s.sid n → page_at n z.data_bytes ≡ set (page_at n s.data_bytes) at byte
  pub own_stack : (n : ℕ) → v ≡ Stack s.sid n → page_at n z.stack_bytes ≡ set (page_at n s.stack_bytes) at byte
  pub other_data : (n : ℕ) → Data s.sid n ≢ v → page_at n z.data_bytes ≡ page_at n s.data_bytes
  pub other_stack : (n : ℕ) → Stack s.sid n ≢ v → page_at n z.stack_bytes ≡ page_at n s.stack_bytes
  pub kind : ((n : ℕ) × (v ≡ Data s.sid n)) ⊎ ((n : ℕ) × (v ≡ Stack s.sid n))

put_in : (s : Space) (w : ByteWrite) (v : Page) (at : ℕ) → IsByteOf s (address_in s w.address) v at → PutIn s (put_in_space s w) v at w.byte
put_in s w v at h = go (address_in s w.address) h
  where
    data_number : (a m n : ℕ) → Data a m ≡ Data a n → m ≡ n
    data_number a m n e = cc

    stack_number : (a m n : ℕ) → Stack a m ≡ Stack a n → m ≡ n
    stack_number a m n e = cc

    go : (spot : Spot) → IsByteOf s spot v at → PutIn s (put_at s spot w.byte) v at w.byte
    go (spots.Data i) h = record {
      sid = refl;
      image = refl;
      data_length = length-set s.data_bytes i w.byte;
      stack_length = refl;
      writable = subst IsWritable (sym h.0) tt;
      own_data = λ n e. let m : i / 1024 ≡ n = data_number s.sid (i / 1024) n (sym h.0 ∙ e) in
          subst (λ (x : ℕ). page_at x (set s.data_bytes i w.byte) ≡ set (page_at x s.data_bytes) at w.byte) m
          (own_page i w.byte s.data_bytes ∙ ap (λ (x : ℕ). set (page_at (i / 1024) s.data_bytes) x w.byte) (sym h.1));
      own_stack = λ n e. absurd (let k : Data s.sid (i / 1024) ≡ Stack s.sid n = sym h.0 ∙ e in cc);
      other_data = λ n d. other_page i n w.byte s.data_bytes (λ e. d (ap (Data s.sid) e ∙ sym h.0));
      other_stack = λ n d. refl;
      kind = inl (i / 1024, h.0);
    }
    go (spots.Stack i) h = record {
      sid = refl;
      image = refl;
      data_length = refl;
      stack_length = length-set s.stack_bytes i w.byte;
      writable = subst IsWritable (sym h.0) tt;
      own_data = λ n e. absurd (let k : Stack s.sid (i / 1024) ≡ Data s.sid n = sym h.0 ∙ e in cc);
      own_stack = λ n e. let m : i / 1024 ≡ n = stack_number s.sid (i / 1024) n (sym h.0 ∙ e) in
          subst (λ (x : ℕ). page_at x (set s.stack_bytes i w.byte) ≡ set (page_at x s.stack_bytes) at w.byte) m
          (own_page i w.byte s.stack_bytes ∙ ap (λ (x : ℕ). set (page_at (i / 1024) s.stack_bytes) x w.byte) (sym h.1));
      other_data = λ n d. refl;
      other_stack = λ n d. other_page i n w.byte s.stack_bytes (λ e. d (ap (Stack s.sid) e ∙ sym h.0));
      kind = inr (i / 1024, h.0);
    }
    go (spots.Text i) h = absurd h
    go spots.Below h = absurd h
    go spots.Outside h = absurd h

pub written : (flat : FlatState) (pid : ℕ) (w : ByteWrite) (q : Process) (s : Space) → process_of flat pid ≡ Some q → q.holding ≡ Holds s
    → apply_writes flat pid (w ∷ []) ≡ with_process flat (record q { holding = Holds (put_in_space s w) })
unfolding apply_writes
written flat pid w q s e h = ap (wrote_if flat (w ∷ [])) e ∙ ap (wrote_by flat q (w ∷ [])) h

pub write_coupled : (size : ℕ) (k : Kernel) (images : List NamedImage) (image : List ℕ) (flat : FlatState) (pid : ℕ) (q : Process) (s : Space)
    (w : ByteWrite) (v : Page) (f at : ℕ)
    → Sound size k → k.place.due ≡ [] → IsNumbered flat
    → process_of flat pid ≡ Some q → q.holding ≡ Holds s → IsByteOf s (address_in s w.address) v at → state_of k.place v ≡ Valid f → Coupled k images image flat
    → Coupled (write_step k v f at w.byte) images image (apply_writes flat pid (w ∷ []))
write_coupled size k images image flat pid q s w v f at so due nums fq hq is e c =
    let t : SameTables k flat = c.tables in
    let o : OwnsFrames k.place =
    let x : OneOwner size (lives k.processes) k.place k.holdings = so.owner in x.frames in
    let outline : ℕ → Outline = λ n. record { pid = q.pid; parent = q.parent; life = Rattle.kernel_model.specs.Kernel.HoldsSpace n; asleep = q.asleep } in
    let outline_held : Holding → Outline = λ h. record { pid = q.pid; parent = q.parent; life = Rattle.kernel_model.specs.Kernel.life_of h; asleep = q.asleep } in
    let fits : AllFit after l.place = λ n. fit_shaped k.place l.place (numbered sid_of n (spaces_of after)) n shaped (elim (cases_eq n s.sid) [
      | inl h ↦ subst (λ (m : ℕ). Fits (numbered sid_of m (spaces_of after)) (numbered space_number m k.place.spaces)) (sym h)
          (subst (λ (x : Option Space). Fits x (numbered space_number s.sid k.place.spaces)) (sym own)
          (fit_bytes s z (numbered space_number s.sid k.place.spaces) i.image i.data_length i.stack_length
          (subst (λ (x : Option Space). Fits x (numbered space_number s.sid k.place.spaces)) was (all_fit k flat t s.sid))))
      | inr d ↦ subst (λ (x : Option Space). Fits x (numbered space_number n k.place.spaces)) (sym (other n d)) (all_fit k flat t n)
    ]) in
    -- what the bytes are
    let b : Bytes = beside_kernel k images image flat in
    let bytes : List ℕ = set (frame_bytes k f) at w.byte in
    let c1 : Bytes = record b { frames = set_frame k.frames f bytes; memory = memory_of images after } in
    let in_frame : frame_bytes k f ≡ memory_of images flat v =
    let x : IsInFrame b (is_dirty k.place v) f v = keeps_at k.place b v (Valid f) c.pages (page_in k.place v f (ap frame_of e)) e in x.here in
    let own_memory : memory_of images after v ≡ bytes = elim i.kind [
      | inl h ↦ ap (memory_of images after) h.1 ∙ data_at h.0 ∙ i.own_data h.0 h.1 ∙ ap (λ (x : List ℕ). set x at w.byte) (sym (data_was h.0) ∙ ap (memory_of images flat) (sym h.1) ∙ sym in_frame)
      | inr h ↦ ap (memory_of images after) h.1 ∙ stack_now h.0 ∙ i.own_stack h.0 h.1 ∙ ap (λ (x : List ℕ). set x at w.byte) (sym (stack_was h.0) ∙ ap (memory_of images flat) (sym h.1) ∙ sym in_frame)
    ] in
    let both : WritesBoth b c1 v f bytes = record { frames = refl; own = own_memory; others = other_memory; swap = λ x. refl; file = λ x. refl; start = λ x. refl } in
    subst (Coupled l images image) (sym (written flat pid w q s fq hq))
    (coupled_of l images image after
    (tables_of l after (t.processes ∙ sym (replaced_outlines flat.processes q p found (ap (λ (n : ℕ). outline n) i.sid ∙ sym (ap outline_held hq)))) t.next_pid t.next_sid fits)
    (alike_coupled (touch k.place v) c1 (beside_kernel l images image after)
    (λ x. record { frames = refl; swap = refl; file = file_same images k.place (touch k.place v) shaped x; start = refl; memory = refl })
    (touch_coupled k.place v f b c1 bytes o e i.writable due so.tokens both c.pages))
    regs_now)
  where
    z : Space
    z = put_in_space s w

    i : PutIn s z v at w.byte
    i = put_in s w v at is

    p : Process
    p = record q { holding = Holds z }

    after : FlatState
    after = with_process flat p

    l : Kernel
    l = write_step k v f at w.byte

    shaped : Shaped k.place (touch k.place v)
    shaped = touch_shaped k.place v

    found : numbered pid_of p.pid flat.processes ≡ Some q
    found = found_self flat pid q fq

    place_of : HeldAt flat.processes p s
    place_of = held_at flat.processes q p s found hq nums.sids

    -- what the spaces are
    own : numbered sid_of s.sid (spaces_of after) ≡ Some z
    own = held_now flat.processes p s place_of ∙ numbered_hit sid_of s.sid z [] i.sid

    other : (n : ℕ) → n ≢ s.sid → numbered sid_of n (spaces_of after) ≡ numbered sid_of n (spaces_of flat)
    other n d = held_other flat.processes p s n place_of d (numbered_miss sid_of n z [] (λ h. d (sym h ∙ i.sid)))

    was : numbered sid_of s.sid (spaces_of flat) ≡ Some s
    was = held_own flat.processes p s place_of

    data_at : (n : ℕ) → memory_of images after (Data s.sid n) ≡ page_at n z.data_bytes
    data_at n = ap (λ (x : Option Space). page_at n (data_bytes_in x)) own

    data_was : (n : ℕ) → memory_of images flat (Data s.sid n) ≡ page_at n s.data_bytes
    data_was n = ap (λ (x : Option Space). page_at n (data_bytes_in x)) was

    stack_now : (n : ℕ) → memory_of images after (Stack s.sid n) ≡ page_at n z.stack_bytes
    stack_now n = ap (λ (x : Option Space). page_at n (stack_bytes_in x)) own

    stack_was : (n : ℕ) → memory_of images flat (Stack s.sid n) ≡ page_at n s.stack_bytes
    stack_was n = ap (λ (x : Option Space). page_at n (stack_bytes_in x)) was

    other_memory : (x : Page) → x ≢ v → memory_of images after x ≡ memory_of images flat x
    other_memory (Data sid n) d = elim (cases_eq sid s.sid) [
      | inl h ↦ ap (λ (m : ℕ). memory_of images after (Data m n)) h ∙ data_at n ∙ i.other_data n (λ g. d (ap (λ (m : ℕ). Data m n) h ∙ g)) ∙ sym (data_was n)
          ∙ ap (λ (m : ℕ). memory_of images flat (Data m n)) (sym h)
      | inr m ↦ ap (λ (x : Option Space). page_at n (data_bytes_in x)) (other sid m)
    ]
    other_memory (Stack sid n) d = elim (cases_eq sid s.sid) [
      | inl h ↦ ap (λ (m : ℕ). memory_of images after (Stack m n)) h ∙ stack_now n ∙ i.other_stack n (λ g. d (ap (λ (m : ℕ). Stack m n) h ∙ g)) ∙ sym (stack_was n)
          ∙ ap (λ (m : ℕ). memory_of images flat (Stack m n)) (sym h)
      | inr m ↦ ap (λ (x : Option Space). page_at n (stack_bytes_in x)) (other sid m)
    ]
    other_memory (Text j n) d = refl

    regs_now : (n : ℕ) → RegsAt l image after n
    regs_now n x y ex ey = subst (λ (out : Bool). KeepsRegs l image out x y.regs (space_of_holding x.holding))
        (sym (ap (λ (rs : List Rattle.page_model.specs.Placement.Residence). (residence_of rs n).out) shaped.residents)) (elim (cases_eq n q.pid) [
          | inl h ↦ (let same : p ≡ x = same_Some p x (sym (replaced_at flat.processes q p found) ∙ ap (λ (m : ℕ). numbered pid_of m (replaced flat.processes p)) (sym h) ∙ ex) in
              subst (λ (r : Process). KeepsRegs l image (is_out k.place n) r y.regs (space_of_holding r.holding)) same
              (regs_carry k l image image (is_out k.place n) q p y.regs y.regs (space_of_holding q.holding) z.sid refl refl
              (λ out. (refl, size_at (λ m. Data m 0), size_at (λ m. Stack m 0))) (regs_at k images image flat c n q y (ap (λ (m : ℕ). numbered pid_of m flat.processes) h ∙ found) ey)))
          | inr d ↦ regs_carry k l image image (is_out k.place n) x x y.regs y.regs (space_of_holding x.holding) (space_of_holding x.holding) refl refl
              (λ out. (refl, sizes_kept k.place l.place shaped (Data (space_of_holding x.holding) 0), sizes_kept k.place l.place shaped (Stack (space_of_holding x.holding) 0)))
              (regs_at k images image flat c n x y (sym (replaced_not flat.processes p n d) ∙ ex) ey)
        ])
      where
        size_at : (page : ℕ → Page) → length (Rattle.page_model.specs.Placement.slots_of l.place (page z.sid))
            ≡ length (Rattle.page_model.specs.Placement.slots_of k.place (page (space_of_holding q.holding)))
        size_at page = ap (λ (m : ℕ). length (Rattle.page_model.specs.Placement.slots_of l.place (page m))) (i.sid ∙ sym (ap space_of_holding hq))
            ∙ sizes_kept k.place l.place shaped (page (space_of_holding q.holding))

written_all : (flat : FlatState) (pid : ℕ) (ws : List ByteWrite) (q : Process) (s : Space) → process_of flat pid ≡ Some q → q.holding ≡ Holds s
    → apply_writes flat pid ws ≡ with_process flat (record q { holding = Holds (puts s ws) })
unfolding apply_writes
written_all flat pid ws q s e h = ap (wrote_if flat ws) e ∙ ap (wrote_by flat q ws) h

-- Bytes are written one after another.
pub writes_one : (flat : FlatState) (pid : ℕ) (w : ByteWrite) (ws : List ByteWrite) (q : Process) (s : Space) → process_of flat pid ≡ Some q
    → q.holding ≡ Holds s
    → apply_writes flat pid (w ∷ ws) ≡ apply_writes (apply_writes flat pid (w ∷ [])) pid ws
writes_one flat pid w ws q s e h =
    let p : Process = record q { holding = Holds (put_in_space s w) } in
    let r : Process = record q { holding = Holds (puts (put_in_space s w) ws) } in
    let at : process_of (with_process flat p) pid ≡ Some p = found_is (replaced flat.processes p) pid ∙ ap (λ (n : ℕ). numbered pid_of n (replaced flat.processes p)) (sym (found_at flat pid q e).0)
    ∙ replaced_at flat.processes q p (found_self flat pid q e) in
    written_all flat pid (w ∷ ws) q s e h ∙ ap (λ (l : List Process). let x : FlatState = record flat { processes = l } in x) (sym (replaced_twice flat.processes p r refl))
    ∙ sym (written_all (with_process flat p) pid ws p (put_in_space s w) at refl) ∙ ap (λ (x : FlatState). apply_writes x pid ws) (sym (written flat pid w q s e h))
