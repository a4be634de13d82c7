-- Growth and break keep the whole machine coupled.
use Rattle.std.proofs.Common.{◌≡◌, ◌≢◌, ◌⊎◌, inl, inr, ℕ, ◌+◌, ◌-◌, ◌*◌, ◌<◌, ◌≤◌, min, Bool, true, false, List, [], ◌∷◌, ◌++◌, length, take, drop, map, Option, Some, None, refl, sym, ap, ◌∙◌, subst, arith, length-append}
use Rattle.std.specs.Prelude.{replicate}
use Rattle.std.proofs.lemmas.Bool.{cases_eq, cases_Bool}
use Rattle.std.proofs.lemmas.List.{take_all, drop-append-le, take-append-le, drop-replicate, take-replicate}
use Rattle.std.proofs.Math.Seq.{drop-append-add}
use Rattle.vm_facts.proofs.Tests.{cases_le}
use Rattle.flat_state.proofs.SpaceLaws.{length-resized_bytes}
use Rattle.flat_state.specs.Space.{Space}
use Rattle.flat_state.specs.Flat.{Holds, Process, FlatState, NamedImage, process_of, image_numbered, spaces_of}
use Rattle.vm_facts.specs.declared.page.Page.{Page}
use Rattle.vm_facts.specs.declared.page.Page.TheVariants.{Data, Stack, Text}
use Rattle.vm_facts.specs.declared.regs.Regs.{Regs}
use Rattle.vm_facts.specs.declared.entry.Entry.{Entry}
use Rattle.aout_image.specs.Image.{page_at}
use Rattle.swap_book.specs.Chunks.{pieces}
use Rattle.swap_book.proofs.PieceLaws.{spot_chunk}
use Rattle.swap_book.specs.declared.Owner.{Owner}
use Rattle.swap_book.specs.declared.Owner.TheVariants as owners
use Rattle.swap_book.specs.Owners.{same_owner, spot_of}
use Rattle.swap_book.specs.Holdings.{Holdings, block_in, kept}
use Rattle.swap_book.proofs.OwnerLaws.{same_owner_gives}
use Rattle.swap_book.proofs.KeptLaws.{of_owner-kept_other, block_in_same, block_in_kept}
use Rattle.flat_state.specs.declared.change.Change.TheVariants.{Resize}
use Rattle.flat_state.specs.Change.{with_process, resized_bytes, resized, apply_change}
use Rattle.page_model.specs.Pages.{SpacePages, numbered, data_in, stack_in}
use Rattle.flat_state.specs.PageNames.{number_of}
use Rattle.page_model.specs.Placement.{Placement, Residence, space_number, slots_of, image_in, image_of, IsThere}
use Rattle.page_model.specs.Moves.{drop_all}
use Rattle.page_model.specs.Place.{resize, facts_of}
use Rattle.page_model.specs.Swapper.{is_out, residence_of}
use Rattle.page_model.specs.Ownership.{block_of}
use Rattle.page_model.specs.PageBytes.{zeros, SameBytes}
use Rattle.flat_state.specs.Numbers.{IsNumbered}
use Rattle.kernel_model.specs.Stands.{OutHold}
use Rattle.kernel_model.specs.Coupled.{Fits, AllFit, Coupled, outline_kept, outline_of, memory_of, file_of, data_of, data_bytes_in, stack_bytes_in, beside_kernel}
use Rattle.kernel_model.specs.Kernel.{Kernel, Proc, HoldsSpace}
use Rattle.page_model.specs.Stored.{stored_at}
use Rattle.kernel_model.specs.ChangeStep.{change_step}
use Rattle.page_laws.proofs.Lists.Pages.{mapped, changed_same, changed_other, numbered_hit, numbered_miss}
use Rattle.vm_facts.proofs.Swap.{before}
use Rattle.page_laws.proofs.Ownership.Changes.{dropped_pages, cut}
use Rattle.page_laws.proofs.Bytes.Changes.{length_sized, data_bound, stack_bound, resize_coupled}
use Rattle.kernel_laws.proofs.Flat.Lists.{pid_of, sid_of, replaced_at, replaced_not, HeldAt, held_at, held_own, held_other, held_now}
use Rattle.kernel_laws.proofs.Machine.Shapes.{Shaped, fit_shaped, drop_all_shaped, image_kept, sizes_kept}
use Rattle.kernel_laws.proofs.Machine.Moves.{u_stored}
use Rattle.kernel_laws.proofs.Machine.Done.{fit_data, fit_stack}
use Rattle.kernel_laws.proofs.Machine.Tables.{kept_pid, tables_of, RegsAt, coupled_of}
use Rattle.kernel_laws.proofs.Machine.Swaps.{applied}
use Rattle.kernel_laws.proofs.Machine.Still.{outline_is}
use Rattle.kernel_laws.proofs.Machine.Processes.{with_at, with_not, with_replaced, other_space, Stepping, stepping, by_life, step_is, regs_carried, regs_in_record}

-- Bytes of a segment of another size.

pub resized_old : (v m n : ℕ) (bytes : List ℕ) → length bytes ≡ 1024 * n → v < n → v < m → page_at v (resized_bytes m bytes) ≡ page_at v bytes
resized_old v m n bytes l a b = elim (cases_le m n) [
  | inl h ↦ before bytes (replicate (1024 * m - length bytes) 0) (1024 * m) (1024 * v) 1024 (omega arith) (omega arith)
  | inr h ↦ ap (λ (xs : List ℕ). take 1024 (drop (1024 * v) (xs ++ replicate (1024 * m - length bytes) 0))) (take_all (1024 * m) bytes (omega arith))
      ∙ ap (take 1024) (drop-append-le (1024 * v) bytes (replicate (1024 * m - length bytes) 0) (omega arith))
      ∙ take-append-le 1024 (drop (1024 * v) bytes) (replicate (1024 * m - length bytes) 0) (omega (arith, Rattle.std.proofs.Common.length-drop (1024 * v) bytes))
]

pub resized_new : (v m n : ℕ) (bytes : List ℕ) → length bytes ≡ 1024 * n → n ≤ v → v < m → page_at v (resized_bytes m bytes) ≡ zeros
unfolding zeros
resized_new v m n bytes l a b =
    let at : length bytes + (1024 * v - length bytes) ≡ 1024 * v = omega arith in
    ap (λ (xs : List ℕ). take 1024 (drop (1024 * v) (xs ++ replicate (1024 * m - length bytes) 0))) (take_all (1024 * m) bytes (omega arith))
    ∙ subst (λ (x : ℕ). take 1024 (drop x (bytes ++ replicate (1024 * m - length bytes) 0)) ≡ replicate 1024 0) at
    (ap (take 1024) (drop-append-add bytes (replicate (1024 * m - length bytes) 0) (1024 * v - length bytes) ∙ drop-replicate (1024 * v - length bytes) (1024 * m - length bytes) 0)
    ∙ take-replicate 1024 (1024 * m - length bytes - (1024 * v - length bytes)) 0 (omega arith))

-- Blocks that are given back.

-- an owner that keeps so many pieces keeps the pages in them, and another owner keeps all
pub block_kept : (owner other : Owner) (keep v : ℕ) (hs : Holdings) → (owner ≡ other → (spot_of other v).0 < keep)
    → block_in (kept owner keep hs) other v ≡ block_in hs other v
block_kept owner other keep v hs h = elim (cases_Bool (same_owner owner other)) [
  | inl e ↦ (let same : owner ≡ other = same_owner_gives owner other e in
      subst (λ (o : Owner). block_in (kept o keep hs) other v ≡ block_in hs other v) (sym same) (block_in_kept hs other keep v (h same)))
  | inr e ↦ block_in_same hs (kept owner keep hs) other v (of_owner-kept_other owner other keep hs e)
]

-- Spaces of the placement.

pub resized_other : (p : Placement) (sid d t n : ℕ) → n ≢ sid
    → numbered space_number n (resize p sid d t).spaces ≡ numbered space_number n (drop_all p (dropped_pages p sid d t)).spaces
resized_other p sid d t n e = changed_other space_number sid n (cut d t) (λ x. refl) e (drop_all p (dropped_pages p sid d t)).spaces

pub resized_own : (p : Placement) (sid d t : ℕ)
    → numbered space_number sid (resize p sid d t).spaces ≡ mapped (cut d t) (numbered space_number sid (drop_all p (dropped_pages p sid d t)).spaces)
resized_own p sid d t = changed_same space_number sid (cut d t) (λ x. refl) (drop_all p (dropped_pages p sid d t)).spaces

cut_image : (d t : ℕ) (o : Option SpacePages) → image_in (mapped (cut d t) o) ≡ image_in o
cut_image d t None = refl
cut_image d t (Some x) = refl

pub resized_image : (p : Placement) (sid d t n : ℕ) → image_of (resize p sid d t) n ≡ image_of p n
resized_image p sid d t n =
    let now : image_of (resize p sid d t) n ≡ image_of (drop_all p (dropped_pages p sid d t)) n = elim (cases_eq n sid) [
      | inl e ↦ subst (λ (m : ℕ). image_of (resize p sid d t) m ≡ image_of (drop_all p (dropped_pages p sid d t)) m) (sym e)
          (ap image_in (resized_own p sid d t) ∙ cut_image d t (numbered space_number sid (drop_all p (dropped_pages p sid d t)).spaces))
      | inr m ↦ ap image_in (resized_other p sid d t n m)
    ] in
    now ∙ image_kept p (drop_all p (dropped_pages p sid d t)) (drop_all_shaped (dropped_pages p sid d t) p) n

resized_file : (images : List NamedImage) (p : Placement) (sid d t : ℕ) (w : Page) → file_of images (resize p sid d t) w ≡ file_of images p w
resized_file images p sid d t (Data n v) = ap (λ (i : ℕ). page_at v (data_of (image_numbered images i))) (resized_image p sid d t n)
resized_file images p sid d t _ = refl

-- a space of another number has as many pages
resized_sizes : (p : Placement) (sid d t n : ℕ) → n ≢ sid
    → (length (slots_of (resize p sid d t) (Data n 0)) ≡ length (slots_of p (Data n 0)))
    × (length (slots_of (resize p sid d t) (Stack n 0)) ≡ length (slots_of p (Stack n 0)))
resized_sizes p sid d t n e = (
  ap (λ (o : Option SpacePages). length (data_in o)) (resized_other p sid d t n e) ∙ sizes_kept p (drop_all p (dropped_pages p sid d t)) (drop_all_shaped (dropped_pages p sid d t) p) (Data n 0),
  ap (λ (o : Option SpacePages). length (stack_in o)) (resized_other p sid d t n e) ∙ sizes_kept p (drop_all p (dropped_pages p sid d t)) (drop_all_shaped (dropped_pages p sid d t) p) (Stack n 0),
)

pub fit_cut : (s : Space) (o : Option SpacePages) (d t : ℕ) → Fits (Some s) o → Fits (Some (resized s d t)) (mapped (cut d t) o)
fit_cut s None d t f = absurd f
fit_cut s (Some x) d t f = record {
  image = f.image;
  data_size = length-resized_bytes d s.data_bytes ∙ ap (λ (n : ℕ). 1024 * n) (sym (length_sized d x.data_pages));
  stack_size = length-resized_bytes t s.stack_bytes ∙ ap (λ (n : ℕ). 1024 * n) (sym (length_sized t x.stack_pages));
}

-- Growth and break.
pub resize_coupled_step : (k : Kernel) (images : List NamedImage) (image : List ℕ) (flat : FlatState) (pid : ℕ) (regs : Regs) (e : Entry) (d t : ℕ)
    (q : Process) (s : Space)
    → IsNumbered flat → OutHold k.place flat → k.place.due ≡ []
    → process_of flat pid ≡ Some q → q.holding ≡ Holds s → is_out k.place pid ≡ false → Coupled k images image flat
    → Coupled (change_step (facts_of images) k pid regs e (Resize d t)) images image (apply_change images flat pid regs (Resize d t))
resize_coupled_step k images image flat pid regs e d t q s nums outs due f h out c =
    let kept_found : numbered kept_pid kp.pid k.processes ≡ Some g.proc = ap (λ (n : ℕ). numbered kept_pid n k.processes) g.pid_is ∙ g.kept in
    let outline : outline_kept kp ≡ outline_of fp =
    outline_is g.proc.pid q.pid g.proc.parent q.parent g.proc.life (HoldsSpace s.sid) g.proc.asleep q.asleep (g.pid_is ∙ sym g.pid_was) g.parent g.life g.asleep in
    let fits : AllFit after l.place = λ n. elim (cases_eq n s.sid) [
      | inl i ↦ subst (λ (m : ℕ). Fits (numbered sid_of m (spaces_of after)) (numbered space_number m l.place.spaces)) (sym i)
          (subst (λ (x : Option Space). Fits x (numbered space_number s.sid l.place.spaces)) (sym own)
          (subst (Fits (Some z)) (sym (resized_own k.place s.sid d t)) (fit_cut s (numbered space_number s.sid dropped.spaces) d t (fit_shaped k.place dropped (Some s) s.sid shaped own_fits))))
      | inr m ↦ subst (λ (x : Option Space). Fits x (numbered space_number n l.place.spaces)) (sym (other n m))
          (subst (Fits (numbered sid_of n (spaces_of flat))) (sym (resized_other k.place s.sid d t n m)) (fit_shaped k.place dropped (numbered sid_of n (spaces_of flat)) n shaped (all n)))
    ] in
    let u_same : (n : ℕ) → u_stored l image n ≡ u_stored k image n = λ n.
    ap (stored_at image) (block_kept (owners.Stack s.sid) (owners.U n) (length (pieces (2 * t))) 0 (kept (owners.Data s.sid) (length (pieces (2 * d))) k.holdings) (λ i. absurd cc)
    ∙ block_kept (owners.Data s.sid) (owners.U n) (length (pieces (2 * d))) 0 k.holdings (λ i. absurd cc)) in
    let same : (w : Page) → IsThere l.place w → IsThere k.place w → SameBytes (beside_kernel k images image flat) (beside_kernel l images image after) w = λ w there then'.
    record { frames = refl; swap = ap (stored_at image) (block w there); file = resized_file images k.place s.sid d t w; start = refl; memory = memory w there then' } in
    let residents : l.place.residents ≡ k.place.residents = shaped.residents in
    let out_same : (n : ℕ) → is_out l.place n ≡ is_out k.place n = λ n. ap (λ (rs : List Residence). (residence_of rs n).out) residents in
    let regs_now : (n : ℕ) → RegsAt l image after n = λ n. elim (cases_eq n q.pid) [
      | inl i ↦ subst (RegsAt l image after) (sym i) (regs_in_record l image after q.pid fp kp (out_same q.pid ∙ ap (is_out k.place) g.pid_was ∙ out) (replaced_at flat.processes q fp found)
          (ap (λ (m : ℕ). numbered kept_pid m l.processes) (g.pid_was ∙ sym g.pid_is) ∙ with_at k.processes kp g.proc kept_found) refl)
      | inr m ↦ regs_carried k l images image image flat after n c outs (record {
        flat_was = λ a ea. (a, sym (replaced_not flat.processes fp n m) ∙ ea, refl, refl);
        kept_was = λ b eb. (b, sym (with_not k.processes kp n (λ i. m (i ∙ g.pid_is ∙ sym g.pid_was))) ∙ eb, refl);
        out = out_same n;
        held_by = λ x y ex hx. let d' : y.sid ≢ s.sid = other_space flat q.pid n q x s y nums (λ i. m (sym i)) found ex h hx in
            let z = resized_sizes k.place s.sid d t y.sid d' in
            (u_same n, z.0, z.1);
      })
    ] in
    subst (λ (x : Kernel). Coupled x images image (apply_change images flat pid regs (Resize d t))) (sym (step_is (facts_of images) k pid regs e (Resize d t) g.proc (HoldsSpace s.sid) g.kept g.life))
    (subst (Coupled l images image) (sym (applied images flat pid regs (Resize d t) q s f h))
    (coupled_of l images image after (tables_of l after (with_replaced k.processes flat.processes kp fp c.tables.processes nums.pids outline) c.tables.next_pid c.tables.next_sid fits)
    (resize_coupled k.place s.sid d t (beside_kernel k images image flat) (beside_kernel l images image after) c.pages due same new (λ i v. refl)) regs_now))
  where
    g : Stepping k flat pid q s
    g = stepping k flat pid q s c.tables f h

    kp : Proc
    kp = record g.proc { regs = regs }

    z : Space
    z = resized s d t

    fp : Process
    fp = record q { regs = regs; holding = Holds z }

    after : FlatState
    after = with_process flat fp

    l : Kernel
    l = by_life (facts_of images) k kp (HoldsSpace s.sid) e (Resize d t)

    found : numbered pid_of fp.pid flat.processes ≡ Some q
    found = ap (λ (n : ℕ). numbered pid_of n flat.processes) g.pid_was ∙ g.found

    held_here : HeldAt flat.processes fp s
    held_here = held_at flat.processes q fp s found h nums.sids

    own : numbered sid_of s.sid (spaces_of after) ≡ Some z
    own = held_now flat.processes fp s held_here ∙ numbered_hit sid_of s.sid z [] refl

    other : (n : ℕ) → n ≢ s.sid → numbered sid_of n (spaces_of after) ≡ numbered sid_of n (spaces_of flat)
    other n m = held_other flat.processes fp s n held_here m (numbered_miss sid_of n z [] (λ i. m (sym i)))

    was : numbered sid_of s.sid (spaces_of flat) ≡ Some s
    was = held_own flat.processes fp s held_here

    all : AllFit flat k.place
    all = c.tables.spaces

    own_fits : Fits (Some s) (numbered space_number s.sid k.place.spaces)
    own_fits = subst (λ (x : Option Space). Fits x (numbered space_number s.sid k.place.spaces)) was (all s.sid)

    dropped : Placement
    dropped = drop_all k.place (dropped_pages k.place s.sid d t)

    shaped : Shaped k.place dropped
    shaped = drop_all_shaped (dropped_pages k.place s.sid d t) k.place

    -- bytes
    data_length : length s.data_bytes ≡ 1024 * length (slots_of k.place (Data s.sid 0))
    data_length = fit_data (Some s) (numbered space_number s.sid k.place.spaces) own_fits

    stack_length : length s.stack_bytes ≡ 1024 * length (slots_of k.place (Stack s.sid 0))
    stack_length = fit_stack (Some s) (numbered space_number s.sid k.place.spaces) own_fits

    in_data : (v : ℕ) → IsThere l.place (Data s.sid v) → v < d
    in_data v there = data_bound dropped s.sid d t v there

    in_stack : (v : ℕ) → IsThere l.place (Stack s.sid v) → v < t
    in_stack v there = stack_bound dropped s.sid d t v there

    data_owner : (a b : ℕ) → owners.Data a ≡ owners.Data b → a ≡ b
    data_owner a b i = cc

    stack_owner : (a b : ℕ) → owners.Stack a ≡ owners.Stack b → a ≡ b
    stack_owner a b i = cc

    -- the blocks of what stays
    block : (w : Page) → IsThere l.place w → block_of l.holdings w ≡ block_of k.holdings w
    block (Data n v) there = block_kept (owners.Stack s.sid) (owners.Data n) (length (pieces (2 * t))) v (kept (owners.Data s.sid) (length (pieces (2 * d))) k.holdings) (λ i. absurd cc)
        ∙ block_kept (owners.Data s.sid) (owners.Data n) (length (pieces (2 * d))) v k.holdings
        (λ i. let m : n ≡ s.sid = sym (data_owner s.sid n i) in let w = in_data v (subst (λ (x : ℕ). IsThere l.place (Data x v)) m there) in spot_chunk v (2 * d) false (omega arith))
    block (Stack n v) there = block_kept (owners.Stack s.sid) (owners.Stack n) (length (pieces (2 * t))) v (kept (owners.Data s.sid) (length (pieces (2 * d))) k.holdings)
        (λ i. let m : n ≡ s.sid = sym (stack_owner s.sid n i) in let w = in_stack v (subst (λ (x : ℕ). IsThere l.place (Stack x v)) m there) in spot_chunk v (2 * t) true (omega arith))
        ∙ block_kept (owners.Data s.sid) (owners.Stack n) (length (pieces (2 * d))) v k.holdings (λ i. absurd cc)
    block (Text n v) there = block_kept (owners.Stack s.sid) (owners.Text n) (length (pieces (2 * t))) v (kept (owners.Data s.sid) (length (pieces (2 * d))) k.holdings) (λ i. absurd cc)
        ∙ block_kept (owners.Data s.sid) (owners.Text n) (length (pieces (2 * d))) v k.holdings (λ i. absurd cc)

    memory : (w : Page) → IsThere l.place w → IsThere k.place w → memory_of images after w ≡ memory_of images flat w
    memory (Data n v) there then' = elim (cases_eq n s.sid) [
      | inl i ↦ ap (λ (m : ℕ). memory_of images after (Data m v)) i ∙ ap (λ (x : Option Space). page_at v (data_bytes_in x)) own
          ∙ resized_old v d (length (slots_of k.place (Data s.sid 0))) s.data_bytes data_length (subst (λ (m : ℕ). IsThere k.place (Data m v)) i then')
          (in_data v (subst (λ (m : ℕ). IsThere l.place (Data m v)) i there))
          ∙ sym (ap (λ (x : Option Space). page_at v (data_bytes_in x)) was) ∙ ap (λ (m : ℕ). memory_of images flat (Data m v)) (sym i)
      | inr m ↦ ap (λ (x : Option Space). page_at v (data_bytes_in x)) (other n m)
    ]
    memory (Stack n v) there then' = elim (cases_eq n s.sid) [
      | inl i ↦ ap (λ (m : ℕ). memory_of images after (Stack m v)) i ∙ ap (λ (x : Option Space). page_at v (stack_bytes_in x)) own
          ∙ resized_old v t (length (slots_of k.place (Stack s.sid 0))) s.stack_bytes stack_length (subst (λ (m : ℕ). IsThere k.place (Stack m v)) i then')
          (in_stack v (subst (λ (m : ℕ). IsThere l.place (Stack m v)) i there))
          ∙ sym (ap (λ (x : Option Space). page_at v (stack_bytes_in x)) was) ∙ ap (λ (m : ℕ). memory_of images flat (Stack m v)) (sym i)
      | inr m ↦ ap (λ (x : Option Space). page_at v (stack_bytes_in x)) (other n m)
    ]
    memory (Text n v) there then' = refl

    new : (w : Page) → IsThere l.place w → length (slots_of k.place w) ≤ number_of w → zeros ≡ memory_of images after w
    new (Data n v) there past = elim (cases_eq n s.sid) [
      | inl i ↦ sym (ap (λ (m : ℕ). memory_of images after (Data m v)) i ∙ ap (λ (x : Option Space). page_at v (data_bytes_in x)) own
          ∙ resized_new v d (length (slots_of k.place (Data s.sid 0))) s.data_bytes data_length (subst (λ (m : ℕ). length (slots_of k.place (Data m 0)) ≤ v) i past)
          (in_data v (subst (λ (m : ℕ). IsThere l.place (Data m v)) i there)))
      | inr m ↦ absurd
          (let w : v < length (slots_of l.place (Data n 0)) = there in let z = (resized_sizes k.place s.sid d t n m).0 in let p : length (slots_of k.place (Data n 0)) ≤ v = past in omega arith)
    ]
    new (Stack n v) there past = elim (cases_eq n s.sid) [
      | inl i ↦ sym (ap (λ (m : ℕ). memory_of images after (Stack m v)) i ∙ ap (λ (x : Option Space). page_at v (stack_bytes_in x)) own
          ∙ resized_new v t (length (slots_of k.place (Stack s.sid 0))) s.stack_bytes stack_length (subst (λ (m : ℕ). length (slots_of k.place (Stack m 0)) ≤ v) i past)
          (in_stack v (subst (λ (m : ℕ). IsThere l.place (Stack m v)) i there)))
      | inr m ↦ absurd
          (let w : v < length (slots_of l.place (Stack n 0)) = there in let z = (resized_sizes k.place s.sid d t n m).1 in let p : length (slots_of k.place (Stack n 0)) ≤ v = past in omega arith)
    ]
    new (Text n v) there past = absurd
        (let w : v < length (slots_of l.place (Text n v)) = there in
        let z : length (slots_of dropped (Text n v)) ≡ length (slots_of k.place (Text n v)) = sizes_kept k.place dropped shaped (Text n v) in
        let y : length (slots_of l.place (Text n v)) ≡ length (slots_of dropped (Text n v)) = refl in omega arith)
