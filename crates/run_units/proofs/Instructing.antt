-- An instruction over the frames of a machine that stands at a state of a run.
use Rattle.std.proofs.Common.{◌≡◌, ◌⊎◌, inl, inr, ℕ, ◌*◌, ◌/◌, Bool, true, false, List, [], ◌∷◌, ◌++◌, length, filter_map, Option, Some, None, Result, Ok, Err, ℤ, refl, sym, ap, ◌∙◌, subst}
use Rattle.std.specs.List.{cons_option}
use Rattle.std.proofs.lemmas.List.Elements.{filter_map-append}
use Rattle.vm_facts.specs.SwapImages.{SwapImage}
use Rattle.vm_facts.specs.Answers.{Answers, ByteWrite}
use Rattle.vm_facts.specs.declared.page.Page.{Page}
use Rattle.vm_facts.specs.declared.page.Page.TheVariants as pages
use Rattle.user_vax.specs.Program.{Program, run, ByteAccess, ReadOf, TestOf, accesses}
use Rattle.user_vax.specs.Laws.{refusal, AllGranted, EndsRefused, Covers, SameOrMisses, read_refusal, test_refusal}
use Rattle.user_vax.specs.Effects.{Effect}
use Rattle.user_vax.specs.Instruction.{instruction}
use Rattle.user_vax.specs.declared.refused.Refused.{Refused}
use Rattle.user_vax.specs.declared.refused.Refused.TheVariants.{Miss, Below, Signal}
use Rattle.user_vax.proofs.Order.{keeps_order, same_or_misses}
use Rattle.vm_facts.specs.declared.memory.ByteRead.{ByteRead}
use Rattle.vm_facts.specs.declared.memory.ByteRead.TheVariants as reads
use Rattle.vm_facts.specs.declared.memory.MayWrite.{MayWrite}
use Rattle.vm_facts.specs.declared.memory.MayWrite.TheVariants as tests
use Rattle.flat_state.specs.declared.spot.Spot.{Spot}
use Rattle.flat_state.specs.declared.spot.Spot.TheVariants as spots
use Rattle.fault_fill.specs.declared.access.Access.TheVariants as accesses
use Rattle.fault_fill.specs.Access.{access_at}
use Rattle.fault_fill.specs.Growth.{access_to}
use Rattle.flat_state.specs.Space.{Space, spot_at, address_in, answers_of, puts}
use Rattle.flat_state.specs.Flat.{Holds, Process, FlatState, NamedImage, Inputs, process_of, is_ready, ready_if, spaces_of, image_numbered}
use Rattle.page_model.specs.Pages.{SpacePages, is_valid, numbered, data_in, stack_in}
use Rattle.page_model.specs.Placement.{Placement, space_number, image_in, image_of, state_of}
use Rattle.page_model.specs.Conditions.{EachPage}
use Rattle.kernel_model.specs.Kernel.{Kernel}
use Rattle.kernel_model.specs.Coupled.{Coupled, Fits, IsSized, image_text}
use Rattle.fault_fill.specs.UserMemory.{bytes_of, text_len, data_len, stack_len, spot_in, read_spot, may_write_spot, page_at_spot, page_in, kernel_answers}
use Rattle.fault_fill.proofs.FlatMemory.{memory_covers}
use Rattle.flat_model.specs.declared.calls.Reply.{Reply}
use Rattle.flat_model.specs.declared.calls.SystemCall.{SystemCall}
use Rattle.flat_model.specs.Step.{reply_asked}
use Rattle.economy_laws.specs.Shown.{IsCallOf}
use Rattle.flat_model.specs.Instruction.{instruction_in}
use Rattle.flat_model.specs.Touched.{page_of_access, step_accesses, accesses_after, distinct, touched, touched_by, touched_in, touched_if}
use Rattle.run_model.specs.State.{State}
use Rattle.run_model.specs.Wanted.{touched_next, wanted, AllValid}
use Rattle.run_model.specs.Kinds.{ProcessRuns}
use Rattle.run_model.proofs.Wanting.{all_unwanted}
use Rattle.economy_laws.proofs.FlatLawsAsking.{own_space}
use Rattle.economy_laws.specs.Standing.{IsText, HasText}
use Rattle.economy_laws.proofs.Flows.{on_running, on_steps}
use Rattle.economy_laws.proofs.RunLawsTouching.{found_process}
use Rattle.economy_laws.proofs.Left.{next_on}
use Rattle.run_units.specs.Serving.{At}
use Rattle.run_units.specs.Touching.{RunsInSpace, WantsPage, MakesNone, IsWhole, IsReadyFor, IsAnswered, IsCalledFor}
use Rattle.run_units.proofs.Calling.{calls_write_none}
use Rattle.run_units.proofs.Touching.{IsHit, AllHit, NotMissed, all_hit, granted_hit, Missing, read_missing, test_missing, SameSpots, pages_valid, each_distinct, Parts, parts}

-- The process's space, and what the machine answers of it.
record Lent (A : Inputs) (k : Kernel) (x : Space) : Type 0 where
  spots : SameSpots k x
  covers : Covers (kernel_answers k x.sid) (answers_of x)

sized_in : (k : Kernel) (x : Space) (o : Option SpacePages) → numbered space_number x.sid k.place.spaces ≡ o → Fits (Some x) o
    → (y : SpacePages) × (numbered space_number x.sid k.place.spaces ≡ Some y) × IsSized x y
sized_in k x None e h = absurd h
sized_in k x (Some y) e h = (y, e, h)

lent : (A : Inputs) (s : State) (k : Kernel) (image : SwapImage) (pid : ℕ) (p : Process) (x : Space) → At A s k image
    → process_of s.point.flat pid ≡ Some p → p.holding ≡ Holds x → Lent A k x
lent A s k image pid p x at here holds = record {
  spots = record { image = same_image; spots = spot_same };
  covers = memory_covers A.images k image.bytes flat x keeps.coupled keeps.stands.texts own same_text;
}
  where
    flat : FlatState
    flat = s.point.flat

    keeps : Rattle.economy_laws.specs.Machine.Keeps A flat k image.bytes
    keeps = at.stands.keeps

    own : numbered (λ (y : Space). y.sid) x.sid (spaces_of flat) ≡ Some x
    own = own_space flat pid p x at.run.numbers here holds

    text : IsText A.images x
    text = subst (HasText A.images) holds (found_process (λ y. HasText A.images y.holding) flat.processes pid p at.run.texts here)

    same_text : x.text_bytes ≡ image_text (image_numbered A.images x.image)
    same_text = text.same ∙ sym (ap image_text text.image)

    sized : (y : SpacePages) × (numbered space_number x.sid k.place.spaces ≡ Some y) × IsSized x y
    sized =
        sized_in k x (numbered space_number x.sid k.place.spaces) refl
        (subst (λ (o : Option Space). Fits o (numbered space_number x.sid k.place.spaces)) own (keeps.coupled.tables.spaces x.sid))

    same_image : image_of k.place x.sid ≡ x.image
    same_image = ap image_in sized.1 ∙ sized.2.image

    text_same : text_len k.place x.sid ≡ length x.text_bytes
    text_same = ap (λ (n : ℕ). bytes_of k.place (pages.Text n 0)) same_image ∙ sym (keeps.stands.texts x.image) ∙ sym (ap length same_text)

    data_same : data_len k.place x.sid ≡ length x.data_bytes
    data_same = ap (λ (o : Option SpacePages). 1024 * length (data_in o)) sized.1 ∙ sym sized.2.data_size

    stack_same : stack_len k.place x.sid ≡ length x.stack_bytes
    stack_same = ap (λ (o : Option SpacePages). 1024 * length (stack_in o)) sized.1 ∙ sym sized.2.stack_size

    spot_same : (a : ℕ) → spot_in k.place x.sid a ≡ address_in x a
    spot_same a =
        ap (λ (t : ℕ). spot_at t (data_len k.place x.sid) (stack_len k.place x.sid) a) text_same
        ∙ ap (λ (d : ℕ). spot_at (length x.text_bytes) d (stack_len k.place x.sid) a) data_same
        ∙ ap (λ (z : ℕ). spot_at (length x.text_bytes) (length x.data_bytes) z a) stack_same

pub same_spots : (A : Inputs) (s : State) (k : Kernel) (image : SwapImage) (pid : ℕ) (p : Process) (x : Space) → At A s k image
    → process_of s.point.flat pid ≡ Some p → p.holding ≡ Holds x → SameSpots k x
same_spots A s k image pid p x at here holds = (lent A s k image pid p x at here holds).spots

-- What a process that runs touches.

touched_ready : (A : Inputs) (flat : FlatState) (pid : ℕ) (p : Process) (x : Space) → process_of flat pid ≡ Some p → is_ready p ≡ true → p.holding ≡ Holds x
    → touched A flat pid ≡ distinct (filter_map (page_of_access x) (step_accesses A.images flat p x))
unfolding touched
touched_ready A flat pid p x here ready holds =
    ap (touched_if A.images flat) here ∙ ap (λ (b : Bool). touched_by b A.images flat p) ready ∙ ap (touched_in A.images flat p) holds

ready_of : (A : Inputs) (s : State) (pid : ℕ) (now : Bool) (p : Process) → ProcessRuns A s pid now → process_of s.point.flat pid ≡ Some p → is_ready p ≡ true
ready_of A s pid now p r here = ap ready_if (sym here) ∙ on_steps A s s.mark pid now r.on

runs_touch : (A : Inputs) (s : State) (pid : ℕ) (now : Bool) (p : Process) (x : Space) → RunsInSpace A s pid now p x
    → touched_next A s ≡ distinct (filter_map (page_of_access x) (step_accesses A.images s.point.flat p x))
runs_touch A s pid now p x r =
    next_on A s pid (on_running A s s.mark pid now r.runs.on) ∙ touched_ready A s.point.flat pid p x r.here (ready_of A s pid now p r.runs r.here) r.holds

-- A byte that misses.

missing_at : (k : Kernel) (x : Space) (e : SameSpots k x) (a : ByteAccess) (address : ℕ) (write : Bool)
    → refusal (kernel_answers k x.sid) a ≡ Some (Miss address write)
    → (spot : Spot) × (page_in k.place x.sid address ≡ page_at_spot k.place x.sid spot) × Missing k x (page_of_access x a) spot
missing_at k x e (ReadOf b) address write h =
    let same : b ≡ address = read_same (read_spot k x.sid (spot_in k.place x.sid b)) h in (
      address_in x b,
      ap (λ (n : ℕ). page_in k.place x.sid n) (sym same) ∙ ap (page_at_spot k.place x.sid) (e.spots b),
      read_missing k x e.image (address_in x b) b address write (subst (λ (z : Spot). read_refusal (read_spot k x.sid z) b ≡ Some (Miss address write)) (e.spots b) h),
    )
  where
    read_same : (r : ByteRead) → read_refusal r b ≡ Some (Miss address write) → b ≡ address
    read_same (reads.Is byte) m = absurd cc
    read_same reads.Miss m = cc
    read_same reads.Below m = absurd cc
    read_same reads.Outside m = absurd cc
missing_at k x e (TestOf b) address write h =
    let same : b ≡ address = test_same (may_write_spot k.place x.sid (spot_in k.place x.sid b)) h in (
      address_in x b,
      ap (λ (n : ℕ). page_in k.place x.sid n) (sym same) ∙ ap (page_at_spot k.place x.sid) (e.spots b),
      test_missing k x (address_in x b) b address write (subst (λ (z : Spot). test_refusal (may_write_spot k.place x.sid z) b ≡ Some (Miss address write)) (e.spots b) h),
    )
  where
    test_same : (r : MayWrite) → test_refusal r b ≡ Some (Miss address write) → b ≡ address
    test_same tests.May m = absurd cc
    test_same tests.Miss m = cc
    test_same tests.Below m = absurd cc
    test_same tests.Text m = absurd cc
    test_same tests.Outside m = absurd cc

-- What an access of that byte asks for.

read_asks : (k : Kernel) (x : Space) (spot : Spot) (address : ℕ) (page : Page) → page_at_spot k.place x.sid spot ≡ Some page
    → access_at x.sid (image_of k.place x.sid) address spot false ≡ accesses.Page page
read_asks k x (spots.Text i) address page e = ap (λ (q : Page). accesses.Page q) (let z : pages.Text (image_of k.place x.sid) (i / 1024) ≡ page = cc in z)
read_asks k x (spots.Data i) address page e = ap (λ (q : Page). accesses.Page q) (let z : pages.Data x.sid (i / 1024) ≡ page = cc in z)
read_asks k x (spots.Stack i) address page e = ap (λ (q : Page). accesses.Page q) (let z : pages.Stack x.sid (i / 1024) ≡ page = cc in z)
read_asks k x spots.Below address page e = absurd cc
read_asks k x spots.Outside address page e = absurd cc

test_asks : (k : Kernel) (x : Space) (spot : Spot) (b address : ℕ) (write : Bool) (page : Page)
    → test_refusal (may_write_spot k.place x.sid spot) b ≡ Some (Miss address write)
    → page_at_spot k.place x.sid spot ≡ Some page → access_at x.sid (image_of k.place x.sid) address spot true ≡ accesses.Page page
test_asks k x (spots.Text i) b address write page m e = absurd cc
test_asks k x (spots.Data i) b address write page m e = ap (λ (q : Page). accesses.Page q) (let z : pages.Data x.sid (i / 1024) ≡ page = cc in z)
test_asks k x (spots.Stack i) b address write page m e = ap (λ (q : Page). accesses.Page q) (let z : pages.Stack x.sid (i / 1024) ≡ page = cc in z)
test_asks k x spots.Below b address write page m e = absurd cc
test_asks k x spots.Outside b address write page m e = absurd cc

asks_page : (k : Kernel) (x : Space) (e : SameSpots k x) (a : ByteAccess) (address : ℕ) (write : Bool) (page : Page)
    → refusal (kernel_answers k x.sid) a ≡ Some (Miss address write)
    → page_in k.place x.sid address ≡ Some page → access_to k.place x.sid address write ≡ accesses.Page page
asks_page k x e (ReadOf b) address write page m h = go (read_spot k x.sid (spot_in k.place x.sid b)) m
  where
    go : (r : ByteRead) → read_refusal r b ≡ Some (Miss address write) → access_to k.place x.sid address write ≡ accesses.Page page
    go (reads.Is byte) n = absurd cc
    go reads.Miss n =
        let w : false ≡ write = cc in
        ap (access_at x.sid (image_of k.place x.sid) address (spot_in k.place x.sid address)) (sym w) ∙ read_asks k x (spot_in k.place x.sid address) address page h
    go reads.Below n = absurd cc
    go reads.Outside n = absurd cc
asks_page k x e (TestOf b) address write page m h = go (may_write_spot k.place x.sid (spot_in k.place x.sid b)) refl m
  where
    go : (r : MayWrite) → may_write_spot k.place x.sid (spot_in k.place x.sid b) ≡ r → test_refusal r b ≡ Some (Miss address write)
        → access_to k.place x.sid address write ≡ accesses.Page page
    go tests.May i n = absurd cc
    go tests.Miss i n =
        let w : true ≡ write = cc in
        let same : b ≡ address = cc in
        let here : test_refusal (may_write_spot k.place x.sid (spot_in k.place x.sid address)) b ≡ Some (Miss address write) =
        subst (λ (c : ℕ). test_refusal (may_write_spot k.place x.sid (spot_in k.place x.sid c)) b ≡ Some (Miss address write)) same m in
        ap (access_at x.sid (image_of k.place x.sid) address (spot_in k.place x.sid address)) (sym w)
        ∙ test_asks k x (spot_in k.place x.sid address) b address write page here h
    go tests.Below i n = absurd cc
    go tests.Text i n = absurd cc
    go tests.Outside i n = absurd cc

pub append_one : (xs ys zs : List ByteAccess) → (xs ++ ys) ++ zs ≡ xs ++ (ys ++ zs)
append_one [] ys zs = refl
append_one (x ∷ xs) ys zs = ap (λ (list : List ByteAccess). x ∷ list) (append_one xs ys zs)

found_first : (x : Space) (a : ByteAccess) (q : Page) (list : List ByteAccess) → page_of_access x a ≡ Some q
    → filter_map (page_of_access x) (a ∷ list) ≡ q ∷ filter_map (page_of_access x) list
found_first x a q list e = ap (λ (o : Option Page). cons_option o (filter_map (page_of_access x) list)) e

-- the byte of an access that misses, after others that don't, is of the page that the process waits for
wanted_at : (A : Inputs) (s : State) (k : Kernel) (image : SwapImage) (pid : ℕ) (now : Bool) (p : Process) (x : Space)
    (front rest : List ByteAccess) (last : ByteAccess)
    (address : ℕ) (write : Bool)
    → At A s k image → RunsInSpace A s pid now p x → step_accesses A.images s.point.flat p x ≡ front ++ last ∷ rest → AllHit (kernel_answers k x.sid) front
    → refusal (kernel_answers k x.sid) last ≡ Some (Miss address write) → WantsPage A s k x address write
wanted_at A s k image pid now p x front rest last address write at r e hits miss =
    let l : Lent A k x = lent A s k image pid p x at r.here r.holds in
    let z = missing_at k x l.spots last address write miss in
    let g : Missing k x (page_of_access x last) z.0 = z.2 in
    let whole : filter_map (page_of_access x) (step_accesses A.images s.point.flat p x) ≡ filter_map (page_of_access x) front ++ g.page ∷ filter_map (page_of_access x) rest =
    ap (filter_map (page_of_access x)) e ∙ filter_map-append (page_of_access x) front (last ∷ rest)
    ∙ ap (λ (qs : List Page). filter_map (page_of_access x) front ++ qs) (found_first x last g.page rest g.of_access) in
    let here : k.place ≡ s.place = at.stands.place in
    let valid : AllValid s.place (filter_map (page_of_access x) front) =
    subst (λ (y : Placement). AllValid y (filter_map (page_of_access x) front)) here (pages_valid k x l.spots front hits) in
    let absent : is_valid (state_of s.place g.page) ≡ false = subst (λ (y : Placement). is_valid (state_of y g.page) ≡ false) here g.absent in
    let w : Parts s.place (distinct (filter_map (page_of_access x) front ++ g.page ∷ filter_map (page_of_access x) rest)) g.page =
    parts s.place (filter_map (page_of_access x) front) (filter_map (page_of_access x) rest) g.page valid absent in
    record {
      before = w.before;
      page = g.page;
      rest = w.rest;
      touched = runs_touch A s pid now p x r ∙ ap distinct whole ∙ w.whole;
      valid = w.valid;
      absent = absent;
      at = z.1 ∙ g.of_spot;
      asks = asks_page k x l.spots last address write g.page miss (z.1 ∙ g.of_spot);
    }

-- where no access misses the process waits for none
ready_at : (A : Inputs) (s : State) (k : Kernel) (image : SwapImage) (pid : ℕ) (now : Bool) (p : Process) (x : Space) (list : List ByteAccess)
    → At A s k image → RunsInSpace A s pid now p x
    → step_accesses A.images s.point.flat p x ≡ list → AllHit (kernel_answers k x.sid) list → wanted A s ≡ None
ready_at A s k image pid now p x list at r e hits =
    let l : Lent A k x = lent A s k image pid p x at r.here r.holds in
    let valid : AllValid s.place (distinct (filter_map (page_of_access x) list)) =
    each_distinct (λ q. is_valid (state_of s.place q) ≡ true) (filter_map (page_of_access x) list)
    (subst (λ (y : Placement). AllValid y (filter_map (page_of_access x) list)) at.stands.place (pages_valid k x l.spots list hits)) in
    all_unwanted A s r.runs.clear (subst (AllValid s.place) (sym (runs_touch A s pid now p x r ∙ ap (λ (qs : List ByteAccess). distinct (filter_map (page_of_access x) qs)) e)) valid)

pub append_none : (list : List ByteAccess) → list ++ [] ≡ list
append_none [] = refl
append_none (a ∷ list) = ap (λ (others : List ByteAccess). a ∷ others) (append_none list)

-- A computation over the frames, and over the flat memory.

others : {B : Type 0} (memory flat : Answers) (q : Program B) → Covers memory flat → (more : List ByteAccess) × (accesses flat q ≡ accesses memory q ++ more)
others memory flat q c = elim (same_or_misses memory flat q c) [
  | inl e ↦ ([], sym e.1 ∙ sym (append_none (accesses memory q)))
  | inr h ↦ (h.3, h.4)
]

same : {B : Type 0} (memory flat : Answers) (q : Program B) → Covers memory flat → NotMissed (run memory q)
    → (run memory q ≡ run flat q) × (accesses memory q ≡ accesses flat q)
same memory flat q c n = elim (same_or_misses memory flat q c) [
  | inl e ↦ e
  | inr h ↦ absurd (subst NotMissed h.2 n)
]

-- its accesses end with one that misses, after others that don't
record EndsMissed (memory : Answers) (list : List ByteAccess) (address : ℕ) (write : Bool) : Type 0 where
  front : List ByteAccess
  last : ByteAccess
  rest : List ByteAccess
  whole : list ≡ front ++ last ∷ rest
  hits : AllHit memory front
  misses : refusal memory last ≡ Some (Miss address write)

missed : {B : Type 0} (memory flat : Answers) (q : Program B) (address : ℕ) (write : Bool) (after : List ByteAccess) → Covers memory flat
    → run memory q ≡ Err (Miss address write)
    → EndsMissed memory (accesses flat q ++ after) address write
missed memory flat q address write after c m =
    let ends : EndsRefused memory (accesses memory q) (Miss address write) = (keeps_order memory q).misses address write m in
    let more = others memory flat q c in
    record {
      front = ends.0;
      last = ends.1;
      rest = more.0 ++ after;
      whole = ap (λ (list : List ByteAccess). list ++ after) (more.1 ∙ ap (λ (list : List ByteAccess). list ++ more.0) ends.2)
          ∙ append_one (ends.0 ++ ends.1 ∷ []) more.0 after ∙ append_one ends.0 (ends.1 ∷ []) (more.0 ++ after);
      hits = granted_hit memory ends.0 ends.3;
      misses = ends.4;
    }

pub hit_both : (memory : Answers) (xs ys : List ByteAccess) → AllHit memory xs → AllHit memory ys → AllHit memory (xs ++ ys)
hit_both memory [] ys h k = k
hit_both memory (x ∷ xs) ys h k = (h.0, hit_both memory xs ys h.1 k)

-- An instruction.

stepped : (A : Inputs) (s : State) (p : Process) (x : Space) → step_accesses A.images s.point.flat p x
    ≡ accesses (answers_of x) (instruction p.regs) ++ accesses_after A.images s.point.flat p x (instruction_in x p.regs)
unfolding step_accesses
stepped A s p x = refl

pub miss_wanted : (A : Inputs) (s : State) (k : Kernel) (image : SwapImage) (pid : ℕ) (now : Bool) (p : Process) (x : Space) (address : ℕ) (write : Bool)
    → At A s k image
    → RunsInSpace A s pid now p x → run (kernel_answers k x.sid) (instruction p.regs) ≡ Err (Miss address write) → WantsPage A s k x address write
miss_wanted A s k image pid now p x address write at r m =
    let after : List ByteAccess = accesses_after A.images s.point.flat p x (instruction_in x p.regs) in
    let l : Lent A k x = lent A s k image pid p x at r.here r.holds in
    let e : EndsMissed (kernel_answers k x.sid) (accesses (answers_of x) (instruction p.regs) ++ after) address write =
    missed (kernel_answers k x.sid) (answers_of x) (instruction p.regs) address write after l.covers m in
    wanted_at A s k image pid now p x e.front e.rest e.last address write at r (stepped A s p x ∙ e.whole) e.hits e.misses

whole_hits : (r : Result Effect Refused) → IsWhole r → NotMissed r
whole_hits (Ok effect) h = tt
whole_hits (Err (Miss address write)) h = absurd h
whole_hits (Err (Below address)) h = tt
whole_hits (Err (Signal number)) h = tt

none_after : (images : List NamedImage) (F : FlatState) (p : Process) (x : Space) (r : Result Effect Refused) → IsWhole r → accesses_after images F p x r ≡ []
none_after images F p x (Ok effect) h = go effect.call h
  where
    go : (o : Option ℤ) → MakesNone o → Rattle.flat_model.specs.Touched.accesses_behind images F p x effect o ≡ []
    go None h = refl
    go (Some number) h = ap (Rattle.flat_model.specs.Touched.call_accesses images F p x effect) h
none_after images F p x (Err refused) h = refl

pub hit_ready : (A : Inputs) (s : State) (k : Kernel) (image : SwapImage) (pid : ℕ) (now : Bool) (p : Process) (x : Space) → At A s k image
    → RunsInSpace A s pid now p x
    → IsWhole (run (kernel_answers k x.sid) (instruction p.regs)) → IsReadyFor A s p x (run (kernel_answers k x.sid) (instruction p.regs))
hit_ready A s k image pid now p x at r w =
    let memory : Answers = kernel_answers k x.sid in
    let l : Lent A k x = lent A s k image pid p x at r.here r.holds in
    let n : NotMissed (run memory (instruction p.regs)) = whole_hits (run memory (instruction p.regs)) w in
    let both = same memory (answers_of x) (instruction p.regs) l.covers n in
    let none : accesses_after A.images s.point.flat p x (instruction_in x p.regs) ≡ [] =
    ap (accesses_after A.images s.point.flat p x) (sym both.0) ∙ none_after A.images s.point.flat p x (run memory (instruction p.regs)) w in
    record {
      unwanted = ready_at A s k image pid now p x (accesses memory (instruction p.regs)) at r
          (stepped A s p x ∙ ap (λ (list : List ByteAccess). accesses (answers_of x) (instruction p.regs) ++ list) none ∙ append_none (accesses (answers_of x) (instruction p.regs)) ∙ sym both.1)
          (all_hit memory (instruction p.regs) n);
      same = sym both.0;
    }

-- A call.

-- the accesses of a call, whose instruction wrote nothing
call_after : (images : List NamedImage) (F : FlatState) (p : Process) (x : Space) (effect : Effect) (call : SystemCall) → IsCallOf effect call
    → effect.writes ≡ []
    → accesses_after images F p x (Ok effect) ≡ accesses (answers_of x) (reply_asked images F p x call effect)
call_after images F p x effect call c w =
    ap (Rattle.flat_model.specs.Touched.accesses_behind images F p x effect) c.is_number ∙ ap (Rattle.flat_model.specs.Touched.call_accesses images F p x effect) c.names
    ∙ ap (λ (ws : List ByteWrite). accesses (answers_of (puts x ws)) (reply_asked images F p x call effect)) w

pub call_wanted : (A : Inputs) (s : State) (k : Kernel) (image : SwapImage) (pid : ℕ) (now : Bool) (p : Process) (x : Space) (effect : Effect)
    (call : SystemCall)
    (address : ℕ) (write : Bool)
    → At A s k image → RunsInSpace A s pid now p x → run (kernel_answers k x.sid) (instruction p.regs) ≡ Ok effect → IsCallOf effect call
    → run (kernel_answers k x.sid) (reply_asked A.images s.point.flat p x call effect) ≡ Err (Miss address write) → WantsPage A s k x address write
call_wanted A s k image pid now p x effect call address write at r i c m =
    let memory : Answers = kernel_answers k x.sid in
    let l : Lent A k x = lent A s k image pid p x at r.here r.holds in
    let n : NotMissed (run memory (instruction p.regs)) = subst NotMissed (sym i) tt in
    let both = same memory (answers_of x) (instruction p.regs) l.covers n in
    let w : effect.writes ≡ [] = calls_write_none memory p.regs effect c.number i c.is_number in
    let q : Program Reply = reply_asked A.images s.point.flat p x call effect in
    let e : EndsMissed memory (accesses (answers_of x) q ++ []) address write = missed memory (answers_of x) q address write [] l.covers m in
    let after : accesses_after A.images s.point.flat p x (instruction_in x p.regs) ≡ e.front ++ e.last ∷ e.rest =
    ap (accesses_after A.images s.point.flat p x) (sym both.0 ∙ i) ∙ call_after A.images s.point.flat p x effect call c w ∙ sym (append_none (accesses (answers_of x) q)) ∙ e.whole in
    wanted_at A s k image pid now p x (accesses memory (instruction p.regs) ++ e.front) e.rest e.last address write at r
    (stepped A s p x ∙ ap (λ (list : List ByteAccess). list ++ accesses_after A.images s.point.flat p x (instruction_in x p.regs)) (sym both.1)
    ∙ ap (λ (list : List ByteAccess). accesses memory (instruction p.regs) ++ list) after ∙ sym (append_one (accesses memory (instruction p.regs)) e.front (e.last ∷ e.rest)))
    (hit_both memory (accesses memory (instruction p.regs)) e.front (all_hit memory (instruction p.regs) n) e.hits) e.misses

pub call_ready : (A : Inputs) (s : State) (k : Kernel) (image : SwapImage) (pid : ℕ) (now : Bool) (p : Process) (x : Space) (effect : Effect)
    (call : SystemCall)
    → At A s k image → RunsInSpace A s pid now p x → run (kernel_answers k x.sid) (instruction p.regs) ≡ Ok effect → IsCallOf effect call
    → IsAnswered (run (kernel_answers k x.sid) (reply_asked A.images s.point.flat p x call effect))
    → IsCalledFor A s p x call effect (run (kernel_answers k x.sid) (reply_asked A.images s.point.flat p x call effect))
call_ready A s k image pid now p x effect call at r i c answered =
    let memory : Answers = kernel_answers k x.sid in
    let l : Lent A k x = lent A s k image pid p x at r.here r.holds in
    let n : NotMissed (run memory (instruction p.regs)) = subst NotMissed (sym i) tt in
    let both = same memory (answers_of x) (instruction p.regs) l.covers n in
    let w : effect.writes ≡ [] = calls_write_none memory p.regs effect c.number i c.is_number in
    let q : Program Reply = reply_asked A.images s.point.flat p x call effect in
    let replied : NotMissed (run memory q) = not_missed (run memory q) answered in
    let read = same memory (answers_of x) q l.covers replied in
    let after : accesses_after A.images s.point.flat p x (instruction_in x p.regs) ≡ accesses memory q =
    ap (accesses_after A.images s.point.flat p x) (sym both.0 ∙ i) ∙ call_after A.images s.point.flat p x effect call c w ∙ sym read.1 in
    record {
      unwanted = ready_at A s k image pid now p x (accesses memory (instruction p.regs) ++ accesses memory q) at r
          (stepped A s p x ∙ ap (λ (list : List ByteAccess). list ++ accesses_after A.images s.point.flat p x (instruction_in x p.regs)) (sym both.1)
          ∙ ap (λ (list : List ByteAccess). accesses memory (instruction p.regs) ++ list) after)
          (hit_both memory (accesses memory (instruction p.regs)) (accesses memory q) (all_hit memory (instruction p.regs) n) (all_hit memory q replied));
      same = sym both.0 ∙ i;
      writes = w;
      replies = sym read.0;
    }
  where
    not_missed : (z : Result Reply Refused) → IsAnswered z → NotMissed z
    not_missed (Ok reply) h = tt
    not_missed (Err (Miss a b)) h = absurd h
    not_missed (Err (Below a)) h = tt
    not_missed (Err (Signal a)) h = tt
