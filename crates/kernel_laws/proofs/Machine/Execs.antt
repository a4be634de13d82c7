-- A new image keeps the whole machine coupled.
use Rattle.std.proofs.Common.{◌≡◌, ◌≢◌, ◌⊎◌, inl, inr, ℕ, ◌+◌, ◌*◌, ◌<◌, ◌≤◌, ◌==◌, ◌||◌, Bool, true, false, cond, List, [], ◌∷◌, ◌++◌, length, map, Option, Some, None, refl, sym, ap, ◌∙◌, subst, arith}
use Rattle.std.specs.Prelude.{nat_lt}
use Rattle.std.proofs.lemmas.Bool.{cases_eq, cases_Bool}
use Rattle.std.proofs.lemmas.Bool.Decides.{nat_tests}
use Rattle.std.proofs.lemmas.List.{take_all}
use Rattle.flat_state.specs.Space.{Space}
use Rattle.flat_state.specs.Flat.{Holding, Holds, Lends, Zombie, Process, FlatState, NamedImage, process_of, image_numbered, space_with, cleared, spaces_of}
use Rattle.vm_facts.specs.declared.page.Page.{Page}
use Rattle.vm_facts.specs.declared.page.Page.TheVariants.{Data, Stack, Text}
use Rattle.vm_facts.specs.declared.regs.Regs.{Regs}
use Rattle.vm_facts.specs.declared.entry.Entry.{Entry}
use Rattle.aout_image.specs.declared.Image.{Image}
use Rattle.aout_image.specs.Image.{page_at, data_given, image_data_pages}
use Rattle.swap_book.specs.Holdings.{Holdings}
use Rattle.flat_state.specs.declared.change.Change.TheVariants.{Exec}
use Rattle.flat_state.specs.Change.{with_process, replaced, replaced_by, returned, returned_by, entered, apply_change, is_borrower}
use Rattle.flat_state.specs.Journal.{append}
use Rattle.page_model.specs.Pages.{Zeros, OfImage, SpacePages, numbered, data_in, stack_in}
use Rattle.flat_state.specs.PageNames.{same_page}
use Rattle.page_model.specs.Placement.{Placement, Residence, Due, Start, due_of_page, space_number, slots_of, image_in, image_of, sharers, data_filling, new_pages, IsThere}
use Rattle.page_model.specs.Place.{enter_space, enter_image, give_up_unless, place_change, facts_of}
use Rattle.page_model.specs.Swapper.{is_out, residence_of}
use Rattle.page_model.specs.Conditions.{IsNew, IsSettled, MayForget}
use Rattle.page_model.specs.Ownership.{OwnsFrames, OneOwner, TextAside}
use Rattle.page_model.specs.PageBytes.{zeros, Bytes, SameBytes, FillsBy, CouplesPages}
use Rattle.flat_state.specs.Numbers.{IsNumbered}
use Rattle.kernel_model.specs.Stands.{OutHold}
use Rattle.kernel_model.specs.Coupled.{IsSized, Fits, AllFit, Coupled, outline_kept, outline_of, memory_of, file_of, data_of, data_bytes_in, stack_bytes_in, beside_kernel}
use Rattle.kernel_model.specs.Kernel.{Kernel, Proc, StartBytes, HoldsSpace, start_bytes}
use Rattle.kernel_model.specs.Sound.{Sound, KeepsStarts, DataFits, is_start, has_start, lives}
use Rattle.page_model.specs.Stored.{stored, stored_at}
use Rattle.kernel_model.specs.ChangeStep.{with_proc, given_back_unless, change_step}
use Rattle.flat_state.proofs.PageNames.{same_page_self}
use Rattle.page_laws.proofs.Ownership.Changes.{added_other, added_same}
use Rattle.page_laws.proofs.Ownership.Entries.{enter_image_owner, enter_settled}
use Rattle.page_laws.proofs.Blocks.Changes.{place_change_aside}
use Rattle.page_laws.proofs.Bytes.Couples.{NoCopy}
use Rattle.page_laws.proofs.Bytes.Spaces.{apart_page, unfilled_length, enter_coupled}
use Rattle.kernel_laws.proofs.Flat.Numbered.{pushed_new, pushed_old}
use Rattle.page_laws.proofs.Lists.Pages.{numbered_hit, numbered_miss}
use Rattle.kernel_laws.proofs.Flat.Lists.{pid_of, sid_of, held, held-append, replaced_at, replaced_not, HeldAt, held_at, held_other, held_now, held_new}
use Rattle.kernel_laws.proofs.Machine.Shapes.{fit_shapes, image_by_shape, sizes_by_shape}
use Rattle.kernel_laws.proofs.Machine.Tables.{kept_pid, tables_of, RegsAt, coupled_of}
use Rattle.kernel_laws.proofs.Machine.Swaps.{applied}
use Rattle.kernel_laws.proofs.Machine.Still.{outline_is}
use Rattle.kernel_laws.proofs.Machine.Forks.{next_new, next_sid_none}
use Rattle.kernel_laws.proofs.Machine.Gone.{Gone, gone_unless, gone_data, gone_stack, unless_coupled, unless_blocks, unless_u, OtherBytes, other_coupled}
use Rattle.kernel_laws.proofs.Machine.Processes.{with_at, with_not, with_replaced, other_space, holds_there, Stepping, stepping, by_life, step_is, regs_carried, regs_in_record}
use Rattle.kernel_laws.proofs.Machine.Images.{facts_found, image_known}

-- What is kept for a new stack page.

start_old : (ss : List StartBytes) (s : StartBytes) (w : Page) → s.page ≢ w → start_bytes (ss ++ s ∷ []) w ≡ start_bytes ss w
start_old [] s w d = ap (λ (b : Bool). cond b s.bytes zeros) (apart_page s.page w d)
start_old (x ∷ ss) s w d = ap (λ (l : List ℕ). cond (same_page x.page w) x.bytes l) (start_old ss s w d)

start_new : (ss : List StartBytes) (s : StartBytes) → has_start ss s.page ≡ false → start_bytes (ss ++ s ∷ []) s.page ≡ s.bytes
start_new [] s e = ap (λ (b : Bool). cond b s.bytes zeros) (same_page_self s.page)
start_new (x ∷ ss) s e = go (same_page x.page s.page) e (start_new ss s)
  where
    go : (b : Bool) → (b || has_start ss s.page) ≡ false → (has_start ss s.page ≡ false → start_bytes (ss ++ s ∷ []) s.page ≡ s.bytes) → cond b x.bytes (start_bytes (ss ++ s ∷ []) s.page) ≡ s.bytes
    go true h ih = absurd cc
    go false h ih = ih h

-- the machine in which a process entered a new image, and gave up its space unless it had borrowed that
abbrev pub exec_kernel : Kernel → ℕ → ℕ → Bool → ℕ → Option Image → List ℕ → List Proc → List Entry → Kernel
exec_kernel k next sid borrowed number o top ps journal =
    let place = give_up_unless borrowed (enter_image k.place next number o) sid in
    record k {
      place = place;
      holdings = given_back_unless borrowed k.holdings sid (image_of k.place sid) (sharers place (image_of k.place sid));
      processes = ps;
      next_sid = next + 1;
      starts = k.starts ++ record { page = Stack next 0; bytes = top } ∷ [];
      journal = journal;
    }

-- what is asked of the new image and of the flat state after it, of the tables alone
pub record EntersTables (k : Kernel) (flat after : FlatState) (next sid number : ℕ) (borrowed : Bool) (named : NamedImage) (top : List ℕ) : Type 0 where
  pub new : IsNew k.place next
  pub apart : borrowed ≡ false → next ≢ sid
  pub fits : DataFits named.image
  pub whole : length top ≡ 1024
  pub own : numbered sid_of next (spaces_of after) ≡ Some (space_with next number named.image top)
  pub other : (m : ℕ) → m ≢ next → (borrowed ≡ false → m ≢ sid) → numbered sid_of m (spaces_of after) ≡ numbered sid_of m (spaces_of flat)
  pub gone : borrowed ≡ false → numbered sid_of sid (spaces_of after) ≡ None

-- A new image, where the old space goes unless it was borrowed.
pub enter_fits : (k : Kernel) (flat after : FlatState) (next sid number : ℕ) (borrowed : Bool) (named : NamedImage) (top : List ℕ)
    (ps : List Proc) (journal : List Entry)
    → EntersTables k flat after next sid number borrowed named top → AllFit flat k.place
    → AllFit after (exec_kernel k next sid borrowed number (Some named.image.facts) top ps journal).place
enter_fits k flat after next sid number borrowed named top ps journal a all =
    let l : Kernel = exec_kernel k next sid borrowed number (Some named.image.facts) top ps journal in
    let facts : Image = named.image.facts in
    let z : Space = space_with next number named.image top in
    let x : SpacePages = new_pages next number facts in
    let p1 : Placement = enter_space k.place next number facts in
    let g : Gone p1 l.place borrowed sid = gone_unless borrowed p1 sid in
    let place_own : numbered space_number next p1.spaces ≡ Some x = added_same next k.place.spaces x refl a.new in
    let place_other : (m : ℕ) → m ≢ next → numbered space_number m p1.spaces ≡ numbered space_number m k.place.spaces = λ m d. added_other m k.place.spaces x (λ i. d (sym i)) in
    let sized : IsSized z x = record {
      image = refl;
      data_size = let f : DataFits named.image = a.fits in f.size ∙ ap (λ (m : ℕ). 1024 * m) (sym (unfilled_length facts 0 (image_data_pages facts)));
      stack_size = a.whole;
    } in
    let kept_fits : (m : ℕ) → m ≢ next → (borrowed ≡ false → m ≢ sid) → Fits (numbered sid_of m (spaces_of after)) (numbered space_number m l.place.spaces) = λ m n d.
    subst (λ (o : Option Space). Fits o (numbered space_number m l.place.spaces)) (sym (a.other m n d))
    (fit_shapes (numbered sid_of m (spaces_of flat)) (numbered space_number m p1.spaces) (numbered space_number m l.place.spaces) (g.other m d)
    (subst (Fits (numbered sid_of m (spaces_of flat))) (sym (place_other m n)) (all m))) in
    let new_fits : Fits (numbered sid_of next (spaces_of after)) (numbered space_number next l.place.spaces) =
    subst (λ (o : Option Space). Fits o (numbered space_number next l.place.spaces)) (sym a.own)
    (fit_shapes (Some z) (numbered space_number next p1.spaces) (numbered space_number next l.place.spaces) (g.other next a.apart) (subst (Fits (Some z)) (sym place_own) sized)) in
    let gone_fits : borrowed ≡ false → Fits (numbered sid_of sid (spaces_of after)) (numbered space_number sid l.place.spaces) = λ e.
    subst (λ (o : Option Space). Fits o (numbered space_number sid l.place.spaces)) (sym (a.gone e)) (subst (Fits None) (sym (g.own e)) tt) in
    let fits : AllFit after l.place = λ m. elim (cases_eq m next) [
      | inl i ↦ subst (λ (n : ℕ). Fits (numbered sid_of n (spaces_of after)) (numbered space_number n l.place.spaces)) (sym i) new_fits
      | inr n ↦ elim (cases_Bool borrowed) [
        | inl t ↦ kept_fits m n (λ e. absurd (let j : true ≡ false = sym t ∙ e in cc))
        | inr t ↦ elim (cases_eq m sid) [
          | inl i ↦ subst (λ (n : ℕ). Fits (numbered sid_of n (spaces_of after)) (numbered space_number n l.place.spaces)) (sym i) (gone_fits t)
          | inr d ↦ kept_fits m n (λ e. d)
        ]
      ]
    ] in
    fits

-- what is asked of the new image and of the flat state after it
pub record Entering (k : Kernel) (images : List NamedImage) (flat after : FlatState) (next sid number : ℕ) (borrowed : Bool) (named : NamedImage)
    (top : List ℕ) : Type 0 where
  pub frames : OwnsFrames k.place
  pub due : k.place.due ≡ []
  pub starts : KeepsStarts k
  pub flat_new : numbered sid_of next (spaces_of flat) ≡ None
  pub settled : borrowed ≡ false → IsSettled k.place sid
  pub aside : TextAside (give_up_unless borrowed (enter_image k.place next number (Some named.image.facts)) sid)
  pub image : image_numbered images number ≡ Some named
  pub tables : EntersTables k flat after next sid number borrowed named top

pub exec_core : (k : Kernel) (images : List NamedImage) (image : List ℕ) (flat after : FlatState) (next sid number : ℕ) (borrowed : Bool) (named : NamedImage)
    (top : List ℕ) (ps : List Proc) (journal : List Entry)
    → Entering k images flat after next sid number borrowed named top
    → AllFit flat k.place → CouplesPages k.place (beside_kernel k images image flat)
    → AllFit after (exec_kernel k next sid borrowed number (Some named.image.facts) top ps journal).place
    × CouplesPages (exec_kernel k next sid borrowed number (Some named.image.facts) top ps journal).place
    (beside_kernel (exec_kernel k next sid borrowed number (Some named.image.facts) top ps journal) images image after)
exec_core k images image flat after next sid number borrowed named top ps journal a all pages =
    let entered_pages : CouplesPages p1 c1 = enter_coupled k.place next number facts b c1 pages a.tables.new a.due same datas start (λ i v. refl) in
    -- without the old space
    let left_pages : CouplesPages l.place c1 =
    unless_coupled borrowed p1 sid c1 (enter_image_owner k.place next number (Some named.image.facts) a.frames a.tables.new)
    (λ e. enter_settled k.place next number sid (Some named.image.facts) a.frames a.tables.new (a.settled e)) entered_pages in
    let coupled : CouplesPages l.place (beside_kernel l images image after) = other_coupled l.place c1 (beside_kernel l images image after) left_pages no_copy refl others (λ i v. refl) in
    (enter_fits k flat after next sid number borrowed named top ps journal a.tables all, coupled)
  where
    l : Kernel
    l = exec_kernel k next sid borrowed number (Some named.image.facts) top ps journal

    facts : Image
    facts = named.image.facts

    z : Space
    z = space_with next number named.image top

    x : SpacePages
    x = new_pages next number facts

    p1 : Placement
    p1 = enter_space k.place next number facts

    g : Gone p1 l.place borrowed sid
    g = gone_unless borrowed p1 sid

    place_own : numbered space_number next p1.spaces ≡ Some x
    place_own = added_same next k.place.spaces x refl a.tables.new

    place_other : (m : ℕ) → m ≢ next → numbered space_number m p1.spaces ≡ numbered space_number m k.place.spaces
    place_other m d = added_other m k.place.spaces x (λ i. d (sym i))

    -- the flat memory with both spaces
    both : FlatState
    both = record flat { processes = flat.processes ++ record { pid = 0; parent = 0; regs = cleared; holding = Holds z; asleep = false } ∷ [] }

    list : spaces_of both ≡ held flat.processes ++ z ∷ []
    list = held-append flat.processes (record { pid = 0; parent = 0; regs = cleared; holding = Holds z; asleep = false } ∷ [])

    both_own : numbered sid_of next (spaces_of both) ≡ Some z
    both_own = ap (numbered sid_of next) list ∙ pushed_new sid_of next (held flat.processes) z a.flat_new refl

    both_other : (m : ℕ) → m ≢ next → numbered sid_of m (spaces_of both) ≡ numbered sid_of m (spaces_of flat)
    both_other m d = ap (numbered sid_of m) list ∙ pushed_old sid_of m (held flat.processes) z (λ i. d (sym i))

    c1 : Bytes
    c1 = record { frames = k.frames; swap = stored k.holdings image; file = file_of images p1; start = start_bytes l.starts; memory = memory_of images both }

    b : Bytes
    b = beside_kernel k images image flat

    old_data : (m v : ℕ) → IsThere k.place (Data m v) → m ≢ next
    old_data m v there i = absurd (let w : v < length (slots_of k.place (Data next v)) = subst (λ (y : ℕ). IsThere k.place (Data y v)) i there in
        let n = ap (λ (o : Option SpacePages). length (data_in o)) a.tables.new in omega arith)

    old_stack : (m v : ℕ) → IsThere k.place (Stack m v) → m ≢ next
    old_stack m v there i = absurd (let w : v < length (slots_of k.place (Stack next v)) = subst (λ (y : ℕ). IsThere k.place (Stack y v)) i there in
        let n = ap (λ (o : Option SpacePages). length (stack_in o)) a.tables.new in omega arith)

    stack_sid : (m n v w : ℕ) → Stack m v ≡ Stack n w → m ≡ n
    stack_sid m n v w e = cc

    same : (w : Page) → IsThere k.place w → SameBytes b c1 w
    same (Data m v) there = let d = old_data m v there in record {
      frames = refl;
      swap = refl;
      file = ap (λ (o : Option SpacePages). page_at v (data_of (image_numbered images (image_in o)))) (place_other m d);
      start = start_old k.starts (record { page = Stack next 0; bytes = top }) (Data m v) (λ i. cc);
      memory = ap (λ (o : Option Space). page_at v (data_bytes_in o)) (both_other m d);
    }
    same (Stack m v) there = let d = old_stack m v there in record {
      frames = refl;
      swap = refl;
      file = refl;
      start = start_old k.starts (record { page = Stack next 0; bytes = top }) (Stack m v) (λ i. d (sym (stack_sid next m 0 v i)));
      memory = ap (λ (o : Option Space). page_at v (stack_bytes_in o)) (both_other m d);
    }
    same (Text m v) there = record { frames = refl; swap = refl; file = refl; start = start_old k.starts (record { page = Stack next 0; bytes = top }) (Text m v) (λ i. cc); memory = refl }

    new_data : (v : ℕ) → c1.memory (Data next v) ≡ page_at v named.image.data
    new_data v = ap (λ (o : Option Space). page_at v (data_bytes_in o)) both_own

    new_file : (v : ℕ) → c1.file (Data next v) ≡ page_at v named.image.data
    new_file v = ap (λ (o : Option SpacePages). page_at v (data_of (image_numbered images (image_in o)))) place_own ∙ ap (λ (o : Option NamedImage). page_at v (data_of o)) a.image

    not_lt : (m n : ℕ) → nat_lt m n ≡ false → n ≤ m
    not_lt m n e = grind (arith, nat_tests)

    datas : (v : ℕ) → v < image_data_pages facts → FillsBy c1 (Data next v) (data_filling facts v)
    datas v w = go (nat_lt (1024 * v) (data_given facts)) refl
      where
        go : (t : Bool) → nat_lt (1024 * v) (data_given facts) ≡ t → FillsBy c1 (Data next v) (cond t OfImage Zeros)
        go true e = new_file v ∙ sym (new_data v)
        go false e = let f : DataFits named.image = a.tables.fits in sym (new_data v ∙ f.rest v (not_lt (1024 * v) (data_given facts) e) w)

    start : c1.start (Stack next 0) ≡ c1.memory (Stack next 0)
    start = start_new k.starts (record { page = Stack next 0; bytes = top }) (a.starts (Stack next 0) (ap (λ (ds : List Due). is_start (due_of_page ds (Stack next 0))) a.due))
        ∙ sym (ap (λ (o : Option Space). page_at 0 (stack_bytes_in o)) both_own ∙ take_all 1024 top (let h = a.tables.whole in omega arith))

    no_copy : (w : Page) → NoCopy (due_of_page l.place.due w)
    no_copy w = subst (λ (ds : List Due). NoCopy (due_of_page ds w)) (sym g.due) (go (same_page (Stack next 0) w))
      where
        go : (t : Bool) → NoCopy (cond t (Some (Start (Stack next 0))) None)
        go true = tt
        go false = tt

    spaces_same : (m : ℕ) → (borrowed ≡ false → m ≢ sid) → numbered sid_of m (spaces_of after) ≡ numbered sid_of m (spaces_of both)
    spaces_same m d = elim (cases_eq m next) [
      | inl i ↦ subst (λ (n : ℕ). numbered sid_of n (spaces_of after) ≡ numbered sid_of n (spaces_of both)) (sym i) (a.tables.own ∙ sym both_own)
      | inr n ↦ a.tables.other m n d ∙ sym (both_other m n)
    ]

    swap_of : (w : Page) → IsThere l.place w → (stored l.holdings image w ≡ stored k.holdings image w) ⊎ Rattle.kernel_laws.proofs.Machine.Gone.AsideText l.place w
    swap_of w there = elim (unless_blocks borrowed k.holdings p1 l.place sid (image_of k.place sid) w g a.aside there) [
      | inl e ↦ inl (ap (stored_at image) e)
      | inr e ↦ inr e
    ]

    others : (w : Page) → IsThere l.place w → OtherBytes l.place c1 (beside_kernel l images image after) w
    others (Data m v) there = record {
      file = ap (λ (i : ℕ). page_at v (data_of (image_numbered images i)))
          (image_by_shape (numbered space_number m p1.spaces) (numbered space_number m l.place.spaces) (g.other m (gone_data p1 l.place borrowed sid m v g there)));
      start = refl;
      memory = ap (λ (o : Option Space). page_at v (data_bytes_in o)) (spaces_same m (gone_data p1 l.place borrowed sid m v g there));
      swap = swap_of (Data m v) there;
    }
    others (Stack m v) there = record {
      file = refl;
      start = refl;
      memory = ap (λ (o : Option Space). page_at v (stack_bytes_in o)) (spaces_same m (gone_stack p1 l.place borrowed sid m v g there));
      swap = swap_of (Stack m v) there;
    }
    others (Text m v) there = record { file = refl; start = refl; memory = refl; swap = swap_of (Text m v) there }

-- Spaces that nobody lent.

-- a process that nobody lends to gives nothing back
pub returned_none : (ps : List Process) (pid : ℕ) (s : Space) → is_borrower ps pid ≡ false → returned pid s ps ≡ ps
unfolding returned
returned_none [] pid s e = refl
returned_none (q ∷ ps) pid s e = go q.holding e (returned_none ps pid s)
  where
    by : (b : Bool) → (b || is_borrower ps pid) ≡ false → (is_borrower ps pid ≡ false → returned pid s ps ≡ ps) → returned_by b s q ps (returned pid s ps) ≡ q ∷ ps
    by true h ih = absurd cc
    by false h ih = ap (λ (l : List Process). q ∷ l) (ih h)

    go : (x : Holding) → (Rattle.flat_state.specs.Change.lends_to pid x || is_borrower ps pid) ≡ false → (is_borrower ps pid ≡ false → returned pid s ps ≡ ps)
        → returned_by (Rattle.flat_state.specs.Change.lends_to pid x) s q ps (returned pid s ps) ≡ q ∷ ps
    go (Holds t) h ih = by false h ih
    go (Lends sid child) h ih = by (child == pid) h ih
    go (Zombie status) h ih = by false h ih

pub borrower_replaced : (ps : List Process) (p : Process) (pid : ℕ) → Rattle.flat_state.specs.Change.lends_to pid p.holding ≡ false
    → is_borrower ps pid ≡ false → is_borrower (replaced ps p) pid ≡ false
unfolding replaced
borrower_replaced [] p pid h e = refl
borrower_replaced (q ∷ ps) p pid h e = go (q.pid == p.pid) (borrower_replaced ps p pid h)
  where
    rest : (b c : Bool) → (b || c) ≡ false → (b ≡ false) × (c ≡ false)
    rest true c i = absurd cc
    rest false c i = (refl, i)

    go : (b : Bool) → (is_borrower ps pid ≡ false → is_borrower (replaced ps p) pid ≡ false) → is_borrower (replaced_by b p q ps (replaced ps p)) pid ≡ false
    go true ih = ap (λ (b : Bool). b || is_borrower ps pid) h ∙ (rest (Rattle.flat_state.specs.Change.lends_to pid q.holding) (is_borrower ps pid) e).1
    go false ih = ap (λ (b : Bool). b || is_borrower (replaced ps p) pid) (rest (Rattle.flat_state.specs.Change.lends_to pid q.holding) (is_borrower ps pid) e).0
        ∙ ih (rest (Rattle.flat_state.specs.Change.lends_to pid q.holding) (is_borrower ps pid) e).1

-- A process that holds its own space enters an image.
pub exec_coupled_step : (size : ℕ) (before : Holdings) (k : Kernel) (images : List NamedImage) (image : List ℕ) (flat : FlatState) (pid : ℕ) (regs : Regs)
    (e : Entry) (number : ℕ) (top : List ℕ) (named : NamedImage) (q : Process) (s : Space)
    → Sound size (record k { holdings = before }) → IsNumbered flat → OutHold k.place flat
    → k.place.due ≡ [] → KeepsStarts k → process_of flat pid ≡ Some q → q.holding ≡ Holds s → is_borrower flat.processes pid ≡ false
    → is_out k.place pid ≡ false → IsSettled k.place s.sid
    → MayForget (facts_of images) k.place s.sid false k.next_sid (Exec number top)
    → image_numbered images number ≡ Some named → DataFits named.image → length top ≡ 1024 → Coupled k images image flat
    → Coupled (change_step (facts_of images) k pid regs e (Exec number top)) images image (apply_change images flat pid regs (Exec number top))
exec_coupled_step size before k images image flat pid regs e number top named q s so nums outs due starts f h own_space out settled forget im fit whole c =
    let g : Stepping k flat pid q s = stepping k flat pid q s c.tables f h in
    let n : ℕ = flat.next_sid in
    let z : Space = space_with n number named.image top in
    let kp : Proc = record g.proc { regs = regs; life = HoldsSpace n } in
    let fp : Process = record q { regs = regs; holding = Holds z } in
    let after : FlatState = record flat { processes = replaced flat.processes fp; next_sid = n + 1 } in
    let l : Kernel = exec_kernel k n s.sid false number (Some named.image.facts) top (with_proc k.processes kp) (append k.journal e) in
    let pids : kp.pid ≡ fp.pid = g.pid_is ∙ sym g.pid_was in
    let found : numbered pid_of fp.pid flat.processes ≡ Some q = ap (λ (m : ℕ). numbered pid_of m flat.processes) g.pid_was ∙ g.found in
    let kept_found : numbered kept_pid kp.pid k.processes ≡ Some g.proc = ap (λ (m : ℕ). numbered kept_pid m k.processes) g.pid_is ∙ g.kept in
    let outlines : map outline_kept l.processes ≡ map outline_of after.processes =
    with_replaced k.processes flat.processes kp fp c.tables.processes nums.pids
    (outline_is g.proc.pid q.pid g.proc.parent q.parent (HoldsSpace n) (HoldsSpace n) g.proc.asleep q.asleep pids g.parent refl g.asleep) in
    let held_here : HeldAt flat.processes fp s = held_at flat.processes q fp s found h nums.sids in
    let apart : n ≢ s.sid = λ i. holds_there flat.processes q.pid q s found h (ap (λ (m : ℕ). numbered sid_of m (held flat.processes)) (sym i) ∙ next_sid_none flat nums) in
    let o : OneOwner size (lives k.processes) k.place before = so.owner in
    let enters : Entering k images flat after n s.sid number false named top = record {
      frames = o.frames;
      due = due;
      starts = starts;
      flat_new = next_sid_none flat nums;
      settled = λ i. settled;
      aside = subst (λ (x : Option Image). TextAside (give_up_unless false (enter_image k.place n number x) s.sid)) (facts_found images number named im)
          (subst (λ (m : ℕ). TextAside (place_change (record { images = (facts_of images); pid = pid; sid = s.sid; borrowed = false; next_sid = m; at = 0 }) k.place (Exec number top)))
          c.tables.next_sid
          (place_change_aside (record { images = (facts_of images); pid = pid; sid = s.sid; borrowed = false; next_sid = k.next_sid; at = 0 }) k.place (Exec number top) o.aside forget));
      image = im;
      tables = record {
        new = next_new flat k.place nums c.tables.spaces;
        apart = λ i. apart;
        fits = fit;
        whole = whole;
        own = held_new flat.processes fp s n held_here (next_sid_none flat nums) ∙ numbered_hit sid_of n z [] refl;
        other = λ m a b. held_other flat.processes fp s m held_here (b refl) (numbered_miss sid_of m z [] (λ i. a (sym i)));
        gone = λ i. held_now flat.processes fp s held_here ∙ numbered_miss sid_of s.sid z [] apart;
      };
    } in
    let core : AllFit after l.place × CouplesPages l.place (beside_kernel l images image after) =
    exec_core k images image flat after n s.sid number false named top (with_proc k.processes kp) (append k.journal e) enters c.tables.spaces c.pages in
    let p1 : Placement = enter_space k.place n number named.image.facts in
    let left : Gone p1 l.place false s.sid = gone_unless false p1 s.sid in
    let out_same : (m : ℕ) → is_out l.place m ≡ is_out k.place m = λ m. ap (λ (rs : List Residence). (residence_of rs m).out) left.residents in
    let regs_now : (m : ℕ) → RegsAt l image after m = λ m. elim (cases_eq m q.pid) [
      | inl i ↦ subst (RegsAt l image after) (sym i) (regs_in_record l image after q.pid fp kp (out_same q.pid ∙ ap (is_out k.place) g.pid_was ∙ out) (replaced_at flat.processes q fp found)
          (ap (λ (y : ℕ). numbered kept_pid y (with_proc k.processes kp)) (sym pids) ∙ with_at k.processes kp g.proc kept_found) refl)
      | inr d ↦ regs_carried k l images image image flat after m c outs (record {
        flat_was = λ a ea. (a, sym (replaced_not flat.processes fp m d) ∙ ea, refl, refl);
        kept_was = λ b eb. (b, sym (with_not k.processes kp m (λ y. d (y ∙ pids))) ∙ eb, refl);
        out = out_same m;
        held_by = λ a t ea ht.
            let not_s : t.sid ≢ s.sid = other_space flat q.pid m q a s t nums (λ y. d (sym y)) found ea h ht in
            let not_n : t.sid ≢ n = λ y. holds_there flat.processes m a t ea ht (ap (λ (u : ℕ). numbered sid_of u (held flat.processes)) y ∙ next_sid_none flat nums) in
            let sizes = sizes_by_shape (numbered space_number t.sid p1.spaces) (numbered space_number t.sid l.place.spaces) (left.other t.sid (λ y. not_s)) in
            let old : numbered space_number t.sid p1.spaces ≡ numbered space_number t.sid k.place.spaces =
            added_other t.sid k.place.spaces (new_pages n number named.image.facts) (λ y. not_n (sym y)) in (
              ap (stored_at image) (unless_u false k.holdings s.sid (image_of k.place s.sid) (sharers l.place (image_of k.place s.sid)) m),
              sizes.0 ∙ ap (λ (x : Option SpacePages).
                  length (data_in x)) old,
              sizes.1 ∙ ap (λ (x : Option SpacePages). length (stack_in x)) old,
            );
      })
    ] in
    subst (λ (x : Kernel). Coupled x images image (apply_change images flat pid regs (Exec number top)))
    (sym (step_is (facts_of images) k pid regs e (Exec number top) g.proc (HoldsSpace s.sid) g.kept g.life))
    (subst (Coupled (by_life (facts_of images) k (record g.proc { regs = regs }) (HoldsSpace s.sid) e (Exec number top)) images image) (sym (applied images flat pid regs (Exec number top) q s f h))
    (image_known images number named (λ (f : Option Image) (o : Option NamedImage). Coupled (exec_kernel k k.next_sid s.sid false number f top
    (with_proc k.processes (record g.proc { regs = regs; life = HoldsSpace k.next_sid })) (append k.journal e)) images image (entered flat (record q { regs = regs }) s number o top)) im
    (subst (λ (m : ℕ). Coupled (exec_kernel k m s.sid false number (Some named.image.facts) top (with_proc k.processes (record g.proc { regs = regs; life = HoldsSpace m })) (append k.journal e))
    images image (entered flat (record q { regs = regs }) s number (Some named) top)) (sym c.tables.next_sid)
    (subst (λ (xs : List Process). Coupled l images image (record flat { processes = xs; next_sid = n + 1 }))
    (sym (returned_none (replaced flat.processes fp) q.pid s (borrower_replaced flat.processes fp q.pid refl (ap (is_borrower flat.processes) g.pid_was ∙ own_space))))
    (coupled_of l images image after (tables_of l after outlines c.tables.next_pid refl core.0) core.1 regs_now)))))
