-- Each next unit that is no step of a process, and takes none out or in, keeps the machine coupled.
use Rattle.std.proofs.Common.{◌≡◌, ℕ, ◌<◌, Bool, true, false, ◌&&◌, List, [], ◌∷◌, length, Some, None, refl, sym, ap, ◌∙◌, subst, arith}
use Rattle.vm_facts.specs.declared.page.Page.{Page}
use Rattle.vm_facts.specs.declared.page.PageState.TheVariants.{Valid}
use Rattle.vm_facts.specs.declared.entry.Entry.{Entry}
use Rattle.vm_facts.specs.declared.entry.Entry.TheVariants as entries
use Rattle.flat_state.specs.Flat.{Inputs, process_of}
use Rattle.page_model.specs.Pages.{frame_of, is_valid}
use Rattle.page_model.specs.Placement.{Placement, Transfer, Due, Start, CopyOf, IsThere, due_of_page, state_of}
use Rattle.page_model.specs.Runs.{run_put}
use Rattle.page_model.specs.Place.{space_of_process, pages_of_space}
use Rattle.page_model.specs.Serve.{force_entry, is_full, serve_unit, serve_entry, unit_of_serving}
use Rattle.page_model.specs.Swapper.{put_out_unit}
use Rattle.page_model.specs.Conditions.{HasSeat}
use Rattle.page_model.specs.Dues.{DueStand, IsDue, NotDue}
use Rattle.kernel_model.specs.Kernel.{Kernel}
use Rattle.flat_state.specs.Numbers.{IsNumbered}
use Rattle.kernel_laws.proofs.Machine.Moves.{note_coupled}
use Rattle.kernel_laws.proofs.Stands.Steps.{note_stands}
use Rattle.page_laws.proofs.Ownership.Runs.{seated_seat}
use Rattle.page_laws.proofs.Swapper.PuttingOut.{unit_case, seated_first, run_seats}
use Rattle.page_laws.proofs.Moves.Units.{unit_is}
use Rattle.page_laws.proofs.Moves.Cases.{serving_cases}
use Rattle.flat_model.specs.Run.{process_of_entry}
use Rattle.run_model.specs.State.{State}
use Rattle.run_model.specs.Wanted.{touched_next, locked, Splits}
use Rattle.run_model.specs.Snapshot.{touched_of}
use Rattle.run_model.proofs.Wanting.{wanted_splits}
use Rattle.run_model.specs.Next.{fill_by, fill_unit, begins_write, move_by, owners_entry}
use Rattle.run_model.specs.Kinds.{Kind, Fills, Brings, Copies, ServesWanted, Acts, ProcessComes, Interrupts, HandsMove, ProcessGoes, Notes, Begins}
use Rattle.run_laws.specs.Standing.{TextsHeld}
use Rattle.run_laws.proofs.Allowed.{first_due}
use Rattle.run_laws.proofs.Units.{Stood, not_due}
use Rattle.run_laws.proofs.Flows.{on_running, act_plain}
use Rattle.run_laws.proofs.Settling.{IsMark, begins_is}
use Rattle.run_laws.proofs.Touching.{Present, touched_present, each_split}
use Rattle.run_laws.proofs.CoupledUnits.{Machine, Goes, goes_done, goes_hand, goes_put, goes_start, goes_copy, serve_goes}

-- a machine with bytes stands at a state: it has the state's placement, each frame and block has one owner, and its
-- memory and swap image are the flat state's; and this was read for the oldest transfer
pub record StandsAt (A : Inputs) (s : State) (k : Kernel) (image : List ℕ) (read : List (List ℕ)) : Type 0 where
  pub same : k.place ≡ s.place
  pub machine : Machine A.swap_blocks k A.images image s.point.flat read

-- the machine after the unit
abbrev pub Couples : Inputs → State → Kernel → List ℕ → List (List ℕ) → Entry → Type 0
Couples A s k image read u = Goes k A.images image s.point.flat (locked A s) read u

-- a unit that takes no process out or in
abbrev pub Stays : Entry → Type 0
Stays (entries.SwapOut pid) = ⊥
Stays (entries.SwapIn pid) = ⊥
Stays _ = Unit {0}

served_none : (p : Placement) (q : Page) → serve_unit p q true ≡ None → (f : ℕ) × (state_of p q ≡ Valid f)
served_none p q h = serving_cases (λ x. unit_of_serving x true ≡ None → (f : ℕ) × (state_of p q ≡ Valid f)) p q (λ f s k. (f, s)) (λ f s k. absurd cc)
    (λ f s k. absurd cc) (λ n l k. absurd cc) (λ f fs l s x k. absurd cc) (λ f fs l r b k. absurd cc) (λ f fs l r b k. absurd cc) h

module _ (A : Inputs) (s : State) (k : Kernel) (image : List ℕ) (read : List (List ℕ)) where
  finish : StandsAt A s k image read → Couples A s k image read entries.Done
  finish x = goes_done A.swap_blocks k A.images image s.point.flat (locked A s) read x.machine

  forced : StandsAt A s k image read → (ts : List Transfer) → Couples A s k image read (force_entry ts)
  forced x [] = goes_hand A.swap_blocks k A.images image s.point.flat (locked A s) read x.machine
  forced x (t ∷ ts) = finish x

  filled : (e : Entry) → StandsAt A s k image read → (0 < length k.place.free → Couples A s k image read e) → Couples A s k image read (fill_unit s.place e)
  filled e x make = subst (λ (p : Placement). Couples A s k image read (fill_unit p e)) x.same (go k.place.free refl)
    where
      go : (fr : List ℕ) → k.place.free ≡ fr → Couples A s k image read (fill_by k.place e fr)
      go [] l = forced x k.place.transfers
      go (f ∷ fs) l = make (subst (λ (fr : List ℕ). 0 < length fr) (sym l) (omega arith))

  served : (u : Entry) (q : Page) (now : Bool) → StandsAt A s k image read → IsThere s.place q → NotDue s.place.due q → serve_unit s.place q now ≡ Some u
      → Couples A s k image read u
  served u q now x there n h =
      let e = unit_is s.place q now u h in
      subst (Couples A s k image read) (sym e.1)
      (subst (λ (p : Placement). Couples A s k image read (serve_entry p q)) x.same
      (serve_goes A.swap_blocks k A.images image s.point.flat (locked A s) read q x.machine
      (subst (λ (p : Placement). IsThere p q) (sym x.same) there) (subst (λ (p : Placement). NotDue p.due q) (sym x.same) n) (ap (λ (p : Placement). is_valid (state_of p q)) x.same ∙ e.0)))

-- what is due at the machine
due_here : (A : Inputs) (s : State) (k : Kernel) (q : Page) (d : Due) (ds : List Due) → k.place ≡ s.place
    → Rattle.page_model.specs.Placement.due_page d ≡ q → s.place.due ≡ d ∷ ds → due_of_page k.place.due q ≡ Some d
due_here A s k q d ds same i e = ap (λ (p : Placement). due_of_page p.due q) same ∙ ap (λ (l : List Due). due_of_page l q) e ∙ ap (due_of_page (d ∷ ds)) (sym i) ∙ first_due d ds

pub kind_goes : (A : Inputs) (s : State) (k : Kernel) (image : List ℕ) (read : List (List ℕ)) (u : Entry) → StandsAt A s k image read → Stood A s
    → IsNumbered s.point.flat
    → TextsHeld A.images s.point.flat → Kind A s u → process_of_entry u ≡ None → Stays u → Couples A s k image read u
kind_goes A s k image read u x st nums texts (Fills q due e i) n y =
    let make : 0 < length k.place.free → Couples A s k image read (entries.Zero q) = λ some.
    let h : due_of_page k.place.due q ≡ Some (Start q) = due_here A s k q (Start q) due x.same refl e in
    let d : IsDue k.place q (Start q) = subst DueStand (sym x.same) st.dues q (Start q) h in
    goes_start A.swap_blocks k A.images image s.point.flat (locked A s) read q q x.machine (record { there = d.there; frameless = ap frame_of d.unfilled }) d.writable some d.unfilled h in
    subst (Couples A s k image read) (sym i) (filled A s k image read (entries.Zero q) x make)
kind_goes A s k image read u x st nums texts (Brings q parent due e i) n y =
    let d : IsDue s.place q (CopyOf q parent) = st.dues q (CopyOf q parent) (ap (λ (l : List Due). due_of_page l q) e ∙ first_due (CopyOf q parent) due) in
    served A s k image read u parent true x (Rattle.page_laws.proofs.Ownership.Serve.state_there s.place parent (d.source).1) (not_due s.place parent st.dues (d.source).1) i
kind_goes A s k image read u x st nums texts (Copies q parent due e none i) n y =
    let make : 0 < length k.place.free → Couples A s k image read (entries.Copy q) = λ some.
    let h : due_of_page k.place.due q ≡ Some (CopyOf q parent) = due_here A s k q (CopyOf q parent) due x.same refl e in
    let d : IsDue k.place q (CopyOf q parent) = subst DueStand (sym x.same) st.dues q (CopyOf q parent) h in
    let v : (f : ℕ) × (state_of s.place parent ≡ Valid f) = served_none s.place parent none in
    goes_copy A.swap_blocks k A.images image s.point.flat (locked A s) read q q parent v.0 x.machine (record { there = d.there; frameless = ap frame_of d.unfilled }) d.writable some d.unfilled h
    (ap (λ (p : Placement). state_of p parent) x.same ∙ v.1) in
    subst (Couples A s k image read) (sym i) (filled A s k image read (entries.Copy q) x make)
kind_goes A s k image read u x st nums texts (ServesWanted pid now q r w i) n y =
    let j : Splits s.place (touched_next A s) (locked A s) q = wanted_splits A s q r.clear w in
    let all = subst (Rattle.page_model.specs.Conditions.EachPage (Present s.place)) (ap (touched_of A s.point.flat) (sym (on_running A s s.mark pid now r.on)))
    (touched_present A s.point.flat s.place s.holdings pid nums texts st) in
    let here : Present s.place q = each_split (Present s.place) (locked A s) q j.behind (subst (Rattle.page_model.specs.Conditions.EachPage (Present s.place)) j.whole all) in
    served A s k image read u q now x here.there (ap (λ (l : List Due). due_of_page l q) r.clear) i
kind_goes A s k image read u x st nums texts (Acts pid now r w a) n y = subst (Couples A s k image read) (sym (act_plain A s pid u a n)) (finish A s k image read x)
kind_goes A s k image read u x st nums texts (ProcessComes pid e c i) n y = absurd (subst Stays i y)
kind_goes A s k image read u x st nums texts (Interrupts e m i) n y = subst (Couples A s k image read) (sym i) (finish A s k image read x)
kind_goes A s k image read u x st nums texts (HandsMove count e m l w i) n y = subst (Couples A s k image read) (sym i) (move (begins_write s.place (locked A s) && is_full s.place))
  where
    move : (b : Bool) → Couples A s k image read (move_by b)
    move true = finish A s k image read x
    move false = goes_hand A.swap_blocks k A.images image s.point.flat (locked A s) read x.machine
kind_goes A s k image read u x st nums texts (ProcessGoes pid e m i) n y =
    let sid : ℕ = space_of_process (process_of s.point.flat pid) in
    subst (λ (e : Entry). Stays e → Couples A s k image read e) (sym i)
    (subst (λ (p : Placement). Stays (put_out_unit p pid sid) → Couples A s k image read (put_out_unit p pid sid)) x.same
    (unit_case (λ (e : Entry). Stays e → Couples A s k image read e) k.place pid sid (λ t ts h z. finish A s k image read x)
    (λ v h j d z. let c : HasSeat k.place v = seated_seat k.place v (seated_first k.place (pages_of_space k.place sid) v j) in
    goes_put A.swap_blocks k A.images image s.point.flat (locked A s) read v (run_put k.place v).n x.machine c (run_seats k.place v c))
    (λ h j z. absurd z))) y
kind_goes A s k image read u x st nums texts (Notes e m i) n y = let m : Machine A.swap_blocks k A.images image s.point.flat read = x.machine in subst (Couples A s k image read) (sym i)
    (record { coupled = note_coupled k A.images image s.point.flat (owners_entry s) m.coupled; stands = note_stands A.images k s.point.flat (owners_entry s) m.stands; tokens = refl })
kind_goes A s k image read u x st nums texts (Begins e m i) n y = begins_is (Couples A s k image read) A s u i marked
  where
    marked : (z : Entry) → IsMark z → Couples A s k image read z
    marked (entries.Event line) j = let m : Machine A.swap_blocks k A.images image s.point.flat read = x.machine in
        record { coupled = note_coupled k A.images image s.point.flat (entries.Event line) m.coupled; stands = note_stands A.images k s.point.flat (entries.Event line) m.stands; tokens = refl }
    marked (entries.Turn p) j = let m : Machine A.swap_blocks k A.images image s.point.flat read =
        x.machine in record { coupled = note_coupled k A.images image s.point.flat (entries.Turn p) m.coupled; stands = note_stands A.images k s.point.flat (entries.Turn p) m.stands; tokens = refl }
    marked _ j = absurd j
