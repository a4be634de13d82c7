-- The swap image after a run's units is the one after a machine's.
use Rattle.std.proofs.Common.{◌≡◌, ◌⊎◌, inl, inr, ℕ, ◌*◌, ◌≤◌, Bool, true, false, List, [], ◌∷◌, ◌++◌, length, map, replicate, Option, Some, None, refl, sym, ap, ◌∙◌, subst}
use Rattle.std.proofs.lemmas.List.{length-replicate}
use Rattle.flat_state.specs.Flat.{Process, Inputs, process_of}
use Rattle.vm_facts.specs.SwapImages.{StoreRequest, SwapImage, with_requests}
use Rattle.vm_facts.proofs.Requests.{with_requests-append}
use Rattle.vm_facts.specs.declared.page.Page.{Page}
use Rattle.vm_facts.specs.declared.page.Page.TheVariants.{Data, Stack}
use Rattle.vm_facts.specs.declared.page.PageState.TheVariants.{Going, OnSwap}
use Rattle.vm_facts.specs.declared.regs.Regs.{Regs}
use Rattle.vm_facts.specs.declared.entry.Entry.{Entry}
use Rattle.vm_facts.specs.declared.entry.Entry.TheVariants as entries
use Rattle.swap_book.specs.declared.Owner.TheVariants as owners
use Rattle.swap_book.specs.Holdings.{Holdings, block_in}
use Rattle.flat_state.specs.Journal.{appended, units_of}
use Rattle.page_model.specs.Pages.{frame_of}
use Rattle.page_model.specs.Placement.{Placement, Transfer, Part, Errand, Writes, Reads, Moving, moving, parts_of, state_of, mark_of, slots_of}
use Rattle.page_model.specs.Place.{space_of_holding}
use Rattle.page_model.specs.Swapper.{is_out}
use Rattle.page_model.specs.Ownership.{Each, IsMoving, OwnsFrames, OneOwner, block_of}
use Rattle.page_model.specs.PageBytes.{bytes_in, IfSaved}
use Rattle.kernel_model.specs.Kernel.{Kernel, Proc, store_all, image_after_by, image_after_of}
use Rattle.kernel_model.specs.Requests.{image_files, unit_asks}
use Rattle.kernel_model.specs.Coupled.{Outline, KeepsRegs, Coupled, SameTables, memory_of, beside_kernel}
use Rattle.kernel_model.specs.Sound.{lives, Sound}
use Rattle.kernel_model.specs.UPage.{AreRegs, u_page}
use Rattle.page_model.specs.Stored.{store_at, stored}
use Rattle.kernel_model.specs.ChangeStep.{space_of_life}
use Rattle.kernel_model.specs.Start.{ImagesFit, start_kernel}
use Rattle.kernel_model.specs.Stands.{holds_some}
use Rattle.std.proofs.lemmas.Option.{same_Some}
use Rattle.page_laws.proofs.Bytes.Others.{each_front}
use Rattle.page_laws.proofs.Moves.Steps.{page_in}
use Rattle.page_laws.proofs.Bytes.Pages.{keeps_at}
use Rattle.kernel_laws.proofs.Machine.Tables.{outline_at, regs_at, space_same}
use Rattle.kernel_laws.proofs.Machine.Swaps.{found_at}
use Rattle.flat_model.specs.Run.{process_of_entry}
use Rattle.flat_model.specs.Asked.{or_before}
use Rattle.run_model.specs.State.{State, start}
use Rattle.run_model.specs.Snapshot.{starting}
use Rattle.run_model.specs.After.{after}
use Rattle.run_model.specs.Lawful.{Follows}
use Rattle.run_model.specs.Swapped.{pages_stored, done_stored, oldest_stored, u_stored, image_behind, swapped_from, swapped, requests_from, left_from, swap_left}
use Rattle.run_model.proofs.NextUnits.{kind_of}
use Rattle.run_laws.specs.Running.{IsRun, CanRun}
use Rattle.kernel_model.specs.Unit.{u_bytes}
use Rattle.run_laws.specs.Machine.{unit_step, unit_image, unit_swap, IsGiven, Keeps, StandsAt, Makes, MakesSwap, Next}
use Rattle.run_laws.specs.Images.{AreFlat, WritesFlat, AllFlat, HasSwapped}
use Rattle.run_laws.proofs.Wholes.{unit_run}
use Rattle.run_laws.proofs.Lawful.{all_units}
use Rattle.flat_state.proofs.Joins.{appended_units}
use Rattle.run_laws.proofs.Beginning.{run_start}
use Rattle.run_laws.proofs.Sorts.{IsSaying, Sort, Pages, GoesIn, GoesOff, Says, Makes as StepMakes, sort_of}
use Rattle.run_laws.proofs.MachineUnits.{Leaves, leaves, brought, are_brought}
use Rattle.run_laws.proofs.Machines.{unit_keeps, units_keep, start_keeps}

-- What is in flight to swap.

parts_flat : (A : Inputs) (s : State) (k : Kernel) (image : List ℕ) (xs : List Part) → Coupled k A.images image s.point.flat
    → Each (IsMoving k.place) (map (moving Writes) xs) → AreFlat A s k xs
parts_flat A s k image [] c m = tt
parts_flat A s k image (x ∷ xs) c m =
    let here : (bytes_in (beside_kernel k A.images image s.point.flat) x.frame ≡ memory_of A.images s.point.flat x.page)
    × IfSaved (beside_kernel k A.images image s.point.flat) x.page (mark_of k.place x.page) =
    keeps_at k.place (beside_kernel k A.images image s.point.flat) x.page (Going x.frame) c.pages (page_in k.place x.page x.frame (ap frame_of m.0)) m.0 in
    (here.0, parts_flat A s k image xs c m.1)

each_back : (P : Moving → Type 0) (xs ys : List Moving) → Each P (xs ++ ys) → Each P ys
each_back P [] ys e = e
each_back P (x ∷ xs) ys e = each_back P xs ys e.1

module _ (A : Inputs) (s : State) (k : Kernel) (image : List ℕ) where
  transfers_flat : (ts : List Transfer) → Coupled k A.images image s.point.flat → Each (IsMoving k.place) (parts_of ts) → AllFlat A s k ts
  transfers_flat [] c m = tt
  transfers_flat (t ∷ ts) c m = (
    by t.errand (each_front (IsMoving k.place) (map (moving t.errand) t.parts) (parts_of ts) m),
    transfers_flat ts c (each_back (IsMoving k.place)
        (map (moving t.errand) t.parts) (parts_of ts) m),
  )
    where
      by : (e : Errand) → Each (IsMoving k.place) (map (moving e) t.parts) → WritesFlat A s k e t.parts
      by Writes m = parts_flat A s k image t.parts c m
      by (Reads source demanded) m = tt

  moves_at : StandsAt A s k image → Each (IsMoving k.place) (parts_of k.place.transfers)
  moves_at at =
      let kp : Keeps A s.point.flat k image = at.keeps in
      let so : Sound A.swap_blocks k = kp.sound in
      let o : OneOwner A.swap_blocks (lives k.processes) k.place k.holdings = so.owner in
      let f : OwnsFrames k.place = o.frames in
      f.moves

  pub writes_flat : StandsAt A s k image → AllFlat A s k s.place.transfers
  writes_flat at =
      let kp : Keeps A s.point.flat k image = at.keeps in
      subst (λ (p : Placement). AllFlat A s k p.transfers) at.place (transfers_flat k.place.transfers kp.coupled (moves_at at))

-- The image after `Done`.

store_same : (A : Inputs) (s : State) (k : Kernel) (image : List ℕ) (xs : List Part) → k.holdings ≡ s.holdings → AreFlat A s k xs
    → store_all k image xs ≡ pages_stored A s xs image
store_same A s k image [] h a = refl
store_same A s k image (x ∷ xs) h a =
    ap (λ (bytes : List ℕ). store_all k (store_at image (block_of k.holdings x.page) bytes) xs) a.0
    ∙ ap (λ (hs : Holdings). store_all k (store_at image (block_of hs x.page) (memory_of A.images s.point.flat x.page)) xs) h
    ∙ store_same A s k (store_at image (block_of s.holdings x.page) (memory_of A.images s.point.flat x.page)) xs h a.1

done_same : (A : Inputs) (s : State) (k : Kernel) (image : List ℕ) (ts : List Transfer) → k.holdings ≡ s.holdings → AllFlat A s k ts
    → image_after_of k image ts ≡ oldest_stored A s ts image
done_same A s k image [] h a = refl
done_same A s k image (t ∷ ts) h a = go t.errand a.0
  where
    go : (e : Errand) → WritesFlat A s k e t.parts → image_after_by k image t e ≡ done_stored A s t.parts e image
    go Writes w = store_same A s k image t.parts h w
    go (Reads source demanded) w = refl

-- The u page of a process that goes out.

pub record SameOut (A : Inputs) (s : State) (k : Kernel) (image : List ℕ) (pid : ℕ) : Type 0 where
  pub there : Leaves k s.point.flat pid
  pub regs : there.proc.regs ≡ there.process.regs
  pub space : space_of_life there.proc.life ≡ space_of_holding there.process.holding

pub same_out : (A : Inputs) (s : State) (k : Kernel) (image : List ℕ) (pid : ℕ) → StandsAt A s k image → is_out s.place pid ≡ false
    → holds_some (process_of s.point.flat pid) ≡ true → SameOut A s k image pid
same_out A s k image pid at out h =
    let kp : Keeps A s.point.flat k image = at.keeps in
    let c : Coupled k A.images image s.point.flat = kp.coupled in
    let t : SameTables k s.point.flat = c.tables in
    let x : Leaves k s.point.flat pid = leaves k s.point.flat pid t h in
    let f : (x.process.pid ≡ pid) × (Rattle.page_model.specs.Pages.numbered (λ (y : Process). y.pid) pid s.point.flat.processes ≡ Some x.process) =
    found_at s.point.flat pid x.process x.here in
    record {
      there = x;
      regs = subst (λ (z : Bool). KeepsRegs k image z x.process x.proc.regs (space_of_holding x.process.holding)) (ap (λ (p : Placement). is_out p pid) at.place ∙ out)
          (regs_at k A.images image s.point.flat c pid x.process x.proc f.1 x.kept);
      space = ap (λ (o : Outline). space_of_life o.life) (outline_at k.processes s.point.flat.processes t.processes pid x.proc x.process x.kept f.1) ∙ space_same x.process.holding;
    }

off_same : (A : Inputs) (s : State) (k : Kernel) (image : List ℕ) (pid : ℕ) → StandsAt A s k image → SameOut A s k image pid
    → unit_image k image (entries.SwapOut pid) ≡ image_behind A s (entries.SwapOut pid) image
off_same A s k image pid at y =
    let x : Leaves k s.point.flat pid = y.there in
    ap (λ (o : Option Proc). store_at image (block_in k.holdings (owners.U pid) 0) (u_bytes k o)) x.kept
    ∙ ap (λ (hs : Holdings). store_at image (block_in hs (owners.U pid) 0) (u_bytes k (Some x.proc))) at.holdings
    ∙ ap (λ (p : Placement). store_at image (block_in s.holdings (owners.U pid) 0)
    (u_page x.proc.regs (length (slots_of p (Data (space_of_life x.proc.life) 0))) (length (slots_of p (Stack (space_of_life x.proc.life) 0))))) at.place
    ∙ ap (λ (r : Regs). store_at image (block_in s.holdings (owners.U pid) 0)
    (u_page r (length (slots_of s.place (Data (space_of_life x.proc.life) 0))) (length (slots_of s.place (Stack (space_of_life x.proc.life) 0))))) y.regs
    ∙ ap (λ (n : ℕ). store_at image (block_in s.holdings (owners.U pid) 0) (u_page x.process.regs (length (slots_of s.place (Data n 0))) (length (slots_of s.place (Stack n 0))))) y.space
    ∙ sym (ap (λ (o : Option Process). u_stored s pid o image) x.here)

-- Each unit.

plain_same : (A : Inputs) (s : State) (k : Kernel) (image : List ℕ) (u : Entry) → (u ≡ entries.Done → ⊥) → ((pid : ℕ) → u ≡ entries.SwapOut pid → ⊥)
    → unit_image k image u ≡ image_behind A s u image
plain_same A s k image entries.Done n o = absurd (n refl)
plain_same A s k image (entries.SwapOut p) n o = absurd (o p refl)
plain_same A s k image _ n o = refl

done_or : (u : Entry) → (u ≡ entries.Done) ⊎ (((pid : ℕ) × (u ≡ entries.SwapOut pid)) ⊎ ((u ≡ entries.Done → ⊥) × ((pid : ℕ) → u ≡ entries.SwapOut pid → ⊥)))
done_or entries.Done = inl refl
done_or (entries.SwapOut p) = inr (inl (p, refl))
done_or (entries.Turn p) = inr (inr ((λ e. cc), (λ p e. cc)))
done_or (entries.Ran p m) = inr (inr ((λ e. cc), (λ p e. cc)))
done_or (entries.Out p bytes) = inr (inr ((λ e. cc), (λ p e. cc)))
done_or (entries.Grew p m) = inr (inr ((λ e. cc), (λ p e. cc)))
done_or (entries.Call p m c r0 r1) = inr (inr ((λ e. cc), (λ p e. cc)))
done_or (entries.Refused p) = inr (inr ((λ e. cc), (λ p e. cc)))
done_or (entries.Sleeps p) = inr (inr ((λ e. cc), (λ p e. cc)))
done_or (entries.Ended p m) = inr (inr ((λ e. cc), (λ p e. cc)))
done_or (entries.SwapIn p) = inr (inr ((λ e. cc), (λ p e. cc)))
done_or _ = inr (inr ((λ e. cc), (λ p e. cc)))

-- who goes out is in, and holds a space
pub goes_off : (A : Inputs) (s : State) (k : Kernel) (image : List ℕ) (u : Entry) (pid : ℕ) → Next A s k image u → u ≡ entries.SwapOut pid
    → SameOut A s k image pid
goes_off A s k image u pid x i = go (let r : IsRun A s = x.run in sort_of A s u r.mark (kind_of A s u x.next))
  where
    go : Sort A s u → SameOut A s k image pid
    go (Pages n y) = absurd (subst Rattle.run_laws.proofs.CoupledKinds.Stays i y)
    go (GoesIn p j o) = absurd (let z : entries.SwapIn p ≡ entries.SwapOut pid = sym j ∙ i in cc)
    go (GoesOff p j o h) = let same : p ≡ pid = (let z : entries.SwapOut p ≡ entries.SwapOut pid = sym j ∙ i in cc) in subst (SameOut A s k image) same (same_out A s k image p x.at o h)
    go (Says e y) = absurd (subst IsSaying i y)
    go (StepMakes h w) = absurd (let z : None ≡ Some h.pid = ap process_of_entry (sym i) ∙ Rattle.run_laws.proofs.Flows.steps_own A s.point h.pid u h.next in cc)

pub image_same : (A : Inputs) (s : State) (k : Kernel) (image : List ℕ) (u : Entry) → Next A s k image u → unit_image k image u ≡ image_behind A s u image
image_same A s k image u x = let at : StandsAt A s k image = x.at in elim (done_or u) [
  | inl i ↦ subst (λ (e : Entry). unit_image k image e ≡ image_behind A s e image) (sym i)
      (ap (λ (p : Placement). image_after_of k image p.transfers) at.place ∙ done_same A s k image s.place.transfers at.holdings (writes_flat A s k image at))
  | inr y ↦ elim y [
    | inl o ↦ subst (λ (e : Entry). unit_image k image e ≡ image_behind A s e image) (sym o.1) (off_same A s k image o.0 at (goes_off A s k image u o.0 x o.1))
    | inr n ↦ plain_same A s k image u n.0 n.1
  ]
]

-- All units.

pub images_same : (A : Inputs) (us : List Entry) (s t : State) (k l : Kernel) (image behind : List ℕ) → ImagesFit A.images → IsRun A s
    → StandsAt A s k image → Makes A s k image us t l behind → behind ≡ swapped_from A s us image
unfolding swapped_from
images_same A [] s t k l image behind images r at m = sym m.2
images_same A (u ∷ us) s t k l image behind images r at m =
    let x : Next A s k image u = record { images = images; run = r; at = at; next = m.0 } in
    images_same A us (after A s u) t (unit_step A s k image m.1.0 u) l (unit_image k image u) behind images (unit_run A s u images r m.0) (unit_keeps A s k image m.1.0 u x m.1.1) m.1.2
    ∙ ap (swapped_from A (after A s u) us) (image_same A s k image u x)

-- with the swap device as it is told: the requests made of it are those of the units
pub images_left : (A : Inputs) (us : List Entry) (s t : State) (k l : Kernel) (image behind : SwapImage) → ImagesFit A.images → IsRun A s
    → StandsAt A s k image.bytes → MakesSwap A s k image us t l behind → behind ≡ left_from A s us image
unfolding swapped_from requests_from
images_left A [] s t k l image behind images r at m = sym m.2
images_left A (u ∷ us) s t k l image behind images r at m =
    let x : Next A s k image.bytes u = record { images = images; run = r; at = at; next = m.0 } in
    let next : State = after A s u in
    let rest : List StoreRequest = requests_from A next us in
    let bytes : List ℕ = swapped_from A next us (image_behind A s u image.bytes) in
    images_left A us next t (unit_step A s k image.bytes m.1.0 u) l (unit_swap A k image u) behind images (unit_run A s u images r m.0)
    (unit_keeps A s k image.bytes m.1.0 u x m.1.1) m.1.2
    ∙ ap (λ (put : List ℕ). with_requests rest (record (unit_swap A k image u) { bytes = swapped_from A next us put })) (image_same A s k image.bytes u x)
    ∙ ap (λ (p : Placement). with_requests rest (with_requests (unit_asks (image_files A) p k.holdings u) (record image { bytes = bytes }))) at.place
    ∙ ap (λ (hs : Holdings). with_requests rest (with_requests (unit_asks (image_files A) s.place hs u) (record image { bytes = bytes }))) at.holdings
    ∙ sym (with_requests-append (unit_asks (image_files A) s.place s.holdings u) rest (record image { bytes = bytes }))

-- Each run has a machine, where who goes out has registers of longwords.

-- who goes out has sixteen registers of longwords
abbrev pub OutFits : State → Entry → Type 0
OutFits s (entries.SwapOut pid) = (q : Process) → process_of s.point.flat pid ≡ Some q → AreRegs q.regs
OutFits s u = Unit {0}

abbrev pub OutsFit : Inputs → State → List Entry → Type 0
OutsFit A s [] = Unit {0}
OutsFit A s (u ∷ us) = OutFits s u × OutsFit A (after A s u) us

-- what a machine and its image come to
pub record Made (A : Inputs) (s : State) (k : Kernel) (image : List ℕ) (us : List Entry) (t : State) : Type 0 where
  pub machine : Kernel
  pub behind : List ℕ
  pub makes : Makes A s k image us t machine behind

pub given_at : (A : Inputs) (s : State) (k : Kernel) (image : List ℕ) (u : Entry) → Next A s k image u → OutFits s u
    → IsGiven A s k image (brought (beside_kernel k A.images image s.point.flat) k.place.transfers) u
given_at A s k image entries.Done x f = are_brought (beside_kernel k A.images image s.point.flat) k.place.transfers
given_at A s k image (entries.SwapOut pid) x f = λ p e.
    let y : SameOut A s k image pid = goes_off A s k image (entries.SwapOut pid) pid x refl in
    let z : Leaves k s.point.flat pid = y.there in
    subst AreRegs (sym y.regs ∙ ap (λ (r : Proc). r.regs) (same_Some z.proc p (sym z.kept ∙ e))) (f z.process z.here)
given_at A s k image _ x f = tt

pub made : (A : Inputs) (us : List Entry) (s t : State) (k : Kernel) (image : List ℕ) → ImagesFit A.images → IsRun A s → StandsAt A s k image
    → Follows A s us t → OutsFit A s us → Made A s k image us t
made A [] s t k image images r at f o = record { machine = k; behind = image; makes = (f, refl, refl) }
made A (u ∷ us) s t k image images r at f o =
    let x : Next A s k image u = record { images = images; run = r; at = at; next = f.0 } in
    let read : List (List ℕ) = brought (beside_kernel k A.images image s.point.flat) k.place.transfers in
    let g : IsGiven A s k image read u = given_at A s k image u x o.0 in
    let m : Made A (after A s u) (unit_step A s k image read u) (unit_image k image u) us t =
    made A us (after A s u) t (unit_step A s k image read u) (unit_image k image u) images (unit_run A s u images r f.0) (unit_keeps A s k image read u x g) f.1 o.1 in
    record { machine = m.machine; behind = m.behind; makes = (f.0, (read, g, m.makes)) }

-- what is on swap
pub on_swap : (A : Inputs) (s : State) (k : Kernel) (image : List ℕ) → StandsAt A s k image → HasSwapped A s image
on_swap A s k image at q e =
    let there : (p : Placement) (q : Page) → state_of p q ≡ OnSwap → Rattle.page_model.specs.Placement.IsThere p q = λ p q e.
    Rattle.page_laws.proofs.Ownership.Serve.state_there p q (λ z. absurd (let y : OnSwap ≡ Rattle.vm_facts.specs.declared.page.PageState.TheVariants.Unfilled = sym e ∙ z in cc)) in
    let kp : Keeps A s.point.flat k image = at.keeps in
    let c : Coupled k A.images image s.point.flat = kp.coupled in
    let st : state_of k.place q ≡ OnSwap = ap (λ (p : Placement). state_of p q) at.place ∙ e in
    subst (λ (hs : Holdings). stored hs image q ≡ memory_of A.images s.point.flat q) at.holdings
    (keeps_at k.place (beside_kernel k A.images image s.point.flat) q OnSwap c.pages (there k.place q st) st)

-- A whole run, by its journal.

pub swapped_same : (A : Inputs) (hs : Holdings) (us journal : List Entry) (t : State) (image : List ℕ) → CanRun A hs → Follows A (start A hs) us t
    → appended [] us ≡ journal → swapped_from A (start A hs) us image ≡ swapped A journal image
swapped_same A hs us journal t image c f j =
    sym (ap (λ (h : Holdings). swapped_from A (start A h) (units_of journal) image) (ap (or_before []) c.pieces)
    ∙ ap (λ (vs : List Entry). swapped_from A (start A hs) vs image) (ap units_of (sym j) ∙ appended_units [] us (all_units A us (start A hs) t f)))

pub left_same : (A : Inputs) (hs : Holdings) (us journal : List Entry) (t : State) (image : SwapImage) → CanRun A hs → Follows A (start A hs) us t
    → appended [] us ≡ journal → left_from A (start A hs) us image ≡ swap_left A journal image
left_same A hs us journal t image c f j =
    sym (ap (λ (h : Holdings). left_from A (start A h) (units_of journal) image) (ap (or_before []) c.pieces)
    ∙ ap (λ (vs : List Entry). left_from A (start A hs) vs image) (ap units_of (sym j) ∙ appended_units [] us (all_units A us (start A hs) t f)))

pub run_swaps : (A : Inputs) (hs : Holdings) (us journal : List Entry) (t : State) (image : List ℕ) → CanRun A hs → Follows A (start A hs) us t
    → appended [] us ≡ journal → OutsFit A (start A hs) us
    → 512 * A.swap_blocks ≤ length image → HasSwapped A t (swapped A journal image)
run_swaps A hs us journal t image c f j o room =
    let frames : List (List ℕ) = replicate A.frames [] in
    let k : Kernel = start_kernel A (starting A.images A.first) hs frames in
    let at : StandsAt A (start A hs) k image = start_keeps A hs frames image c (length-replicate A.frames []) room in
    let r : IsRun A (start A hs) = run_start A hs c.images c.first c.frames c.pieces in
    let m : Made A (start A hs) k image us t = made A us (start A hs) t k image c.images r at f o in
    let same : m.behind ≡ swapped_from A (start A hs) us image = images_same A us (start A hs) t k m.machine image m.behind c.images r at m.makes in
    subst (HasSwapped A t) (same ∙ swapped_same A hs us journal t image c f j) (on_swap A t m.machine m.behind (units_keep A us (start A hs) t k m.machine image m.behind c.images r at m.makes))
