-- Lines and turns come in their order, and who steps does so in memory.
use Rattle.std.proofs.Common.{◌≡◌, ◌≢◌, inl, inr, ℕ, ◌+◌, ◌<◌, ◌≤◌, ◌&&◌, nat_lt, Bool, true, false, List, [], ◌∷◌, find, length, Option, Some, None, refl, sym, ap, ◌∙◌, subst, arith}
use Rattle.std.proofs.lemmas.Bool.{and_parts}
use Rattle.std.proofs.lemmas.Bool.Decides.{nat_tests}
use Rattle.vm_facts.specs.Lists.{times}
use Rattle.vm_facts.specs.declared.page.Page.{Page}
use Rattle.vm_facts.specs.declared.page.PageState.{PageState}
use Rattle.vm_facts.specs.declared.page.PageState.TheVariants.{Unfilled, Valid, Invalid, Coming, Going, OnSwap}
use Rattle.vm_facts.specs.declared.entry.Entry.{Entry}
use Rattle.vm_facts.specs.declared.entry.Entry.TheVariants as entries
use Rattle.flat_state.specs.Flat.{Process, FlatState, Inputs, process_of, can_step, is_ready, ready_if}
use Rattle.flat_state.specs.Numbers.{IsNumbered, AllDistinct, pids_of}
use Rattle.page_model.specs.Pages.{is_valid, frame_of}
use Rattle.page_model.specs.Place.{space_of_process}
use Rattle.page_model.specs.Placement.{Placement, Errand, Writes, Reads, Moving, state_of, page_of, parts_of, flying, moving_state}
use Rattle.page_model.specs.Conditions.{EachPage}
use Rattle.page_model.specs.Ownership.{OneOwner, OwnsFrames, Each, IsMoving, seats}
use Rattle.page_laws.proofs.Moves.Steps.{once_at}
use Rattle.page_laws.proofs.Moves.Units.{unit_is}
use Rattle.page_laws.proofs.Swapper.PuttingOut.{unit_case}
use Rattle.kernel_model.specs.Sound.{Sound, lives}
use Rattle.kernel_model.specs.Start.{kept_of}
use Rattle.flat_model.specs.Run.{process_of_entry}
use Rattle.flat_model.specs.Touched.{touched}
use Rattle.run_model.specs.State.{State}
use Rattle.run_model.specs.Wanted.{AllValid, locked}
use Rattle.run_model.specs.After.{snapshot_of}
use Rattle.run_model.specs.Next.{when, or_else, line_or_turn, turn_of, pid_if, next_ready, next_turned, last_turned, next_mark, next_unit}
use Rattle.run_model.specs.Kinds.{Kind, Fills, Brings, Copies, ServesWanted, Acts, ProcessComes, Interrupts, HandsMove, ProcessGoes, Notes, Begins}
use Rattle.run_model.proofs.NextUnits.{kind_of}
use Rattle.run_laws.specs.Standing.{Placed, machine_of}
use Rattle.run_laws.specs.Running.{IsRun, ReadyToStep}
use Rattle.run_laws.specs.Turns.{HasItsFrame, StepsInMemory, ComesInTurn}
use Rattle.run_laws.proofs.Finding.{found_by_number, found_passes}
use Rattle.run_laws.proofs.Flows.{Acted, Settles, Refuses, Steps, acted, steps_own}
use Rattle.run_laws.proofs.Plain.{IsPaging, zero_paging, copy_paging, serve_paging, move_paging}
use Rattle.run_laws.proofs.Settling.{IsMark}
use Rattle.run_laws.proofs.Noting.{noted_are}
use Rattle.run_laws.proofs.Wholes.{unit_ready}

-- Lines and turns.

mark_pages : (u : Entry) → IsMark u → IsPaging u → ⊥
mark_pages (entries.Event line) k p = p
mark_pages (entries.Turn pid) k p = p
mark_pages _ k p = k

mark_own : (u : Entry) → IsMark u → process_of_entry u ≡ None
mark_own (entries.Event line) k = refl
mark_own (entries.Turn pid) k = refl
mark_own _ k = absurd k

mark_begins : (A : Inputs) (s : State) (u : Entry) → IsMark u → Kind A s u → next_mark A s ≡ Some u
mark_begins A s u k (Fills q ds e i) = absurd (mark_pages u k (subst IsPaging (sym i) (zero_paging s.place q)))
mark_begins A s u k (Brings q parent ds e i) = absurd (mark_pages u k (subst IsPaging (sym (unit_is s.place parent true u i).1) (serve_paging s.place parent)))
mark_begins A s u k (Copies q parent ds e v i) = absurd (mark_pages u k (subst IsPaging (sym i) (copy_paging s.place q)))
mark_begins A s u k (ServesWanted pid now q r w i) = absurd (mark_pages u k (subst IsPaging (sym (unit_is s.place q now u i).1) (serve_paging s.place q)))
mark_begins A s u k (Acts pid now r w a) = by (acted A s pid u a)
  where
    by : Acted A s pid u → next_mark A s ≡ Some u
    by (Settles i) = absurd (subst IsMark i k)
    by (Refuses i) = absurd (subst IsMark i k)
    by (Steps f g i) = absurd (let z : None ≡ Some pid = sym (mark_own u k) ∙ steps_own A s.point pid u i in cc)
mark_begins A s u k (ProcessComes pid e c i) = absurd (subst IsMark i k)
mark_begins A s u k (Interrupts e m i) = absurd (subst IsMark i k)
mark_begins A s u k (HandsMove count e m l w i) = absurd (mark_pages u k (subst IsPaging (sym i) (move_paging s.place (locked A s))))
mark_begins A s u k (ProcessGoes pid e m i) = absurd (unit_case (λ (x : Entry). IsMark x → ⊥) s.place pid (space_of_process (process_of s.point.flat pid))
    (λ t ts h z. z) (λ v a h w z. z) (λ a h z. z) (subst IsMark i k))
mark_begins A s u k (Notes e m i) = absurd (subst IsMark i k)
mark_begins A s u k (Begins e m i) = i

-- a line or a turn that is the next unit is the next mark
pub mark_is_next : (A : Inputs) (s : State) (u : Entry) → IsMark u → next_unit A s ≡ Some u → next_mark A s ≡ Some u
mark_is_next A s u k n = mark_begins A s u k (kind_of A s u n)

-- a line is the next one, and there; before a turn all lines are taken, and its process is the next one in turn
abbrev pub BeginsSo : Inputs → State → Entry → Type 0
BeginsSo A s (entries.Event line) = (line ≡ s.lines + 1) × (s.lines < length A.lines)
BeginsSo A s (entries.Turn pid) = (length A.lines ≤ s.lines) × (next_turned s.point.flat (last_turned s.mark) ≡ Some pid)
BeginsSo A s _ = ⊥

begins_so : (A : Inputs) (s : State) (u : Entry) → next_mark A s ≡ Some u → BeginsSo A s u
begins_so A s u h = go (nat_lt s.count A.limit) (nat_lt s.lines (length A.lines)) refl h
  where
    behind : nat_lt s.lines (length A.lines) ≡ false → length A.lines ≤ s.lines
    behind e = grind (arith, nat_tests)

    before : nat_lt s.lines (length A.lines) ≡ true → s.lines < length A.lines
    before e = grind (arith, nat_tests)

    turn : (o : Option ℕ) → next_turned s.point.flat (last_turned s.mark) ≡ o → length A.lines ≤ s.lines → turn_of o ≡ Some u → BeginsSo A s u
    turn None is l e = absurd cc
    turn (Some pid) is l e = subst (BeginsSo A s) (let same : entries.Turn pid ≡ u = cc in same) (l, is)

    go : (a b : Bool) → nat_lt s.lines (length A.lines) ≡ b → when a (line_or_turn s b) ≡ Some u → BeginsSo A s u
    go false b x e = absurd cc
    go true true x e = subst (BeginsSo A s) (let same : entries.Event (s.lines + 1) ≡ u = cc in same) (refl, before x)
    go true false x e = turn (next_turned s.point.flat (last_turned s.mark)) refl (behind x) e

pub next_begins : (A : Inputs) (s : State) (u : Entry) → IsMark u → next_unit A s ≡ Some u → BeginsSo A s u
next_begins A s u k n = begins_so A s u (mark_is_next A s u k n)

-- who is turned to can step

ready_found : (F : FlatState) (above p : ℕ) → AllDistinct (pids_of F) → next_ready F above ≡ Some p → can_step F p ≡ true
ready_found F above p distinct h = go (find (λ (q : Process). is_ready q && nat_lt above q.pid) F.processes) refl h
  where
    number : (z : Process) → Some z.pid ≡ Some p → z.pid ≡ p
    number z e = cc

    go : (o : Option Process) → find (λ (q : Process). is_ready q && nat_lt above q.pid) F.processes ≡ o → pid_if o ≡ Some p → can_step F p ≡ true
    go None e k = absurd cc
    go (Some z) e k = subst (λ (n : ℕ). can_step F n ≡ true) (number z k)
        (ap ready_if (found_by_number (λ (q : Process). is_ready q && nat_lt above q.pid) F.processes z distinct e)
        ∙ (and_parts (is_ready z) (nat_lt above z.pid) (found_passes (λ (q : Process). is_ready q && nat_lt above q.pid) F.processes z e)).0)

pub turned_ready : (F : FlatState) (last p : ℕ) → AllDistinct (pids_of F) → next_turned F last ≡ Some p → can_step F p ≡ true
turned_ready F last p distinct h = go (next_ready F last) refl h
  where
    go : (o : Option ℕ) → next_ready F last ≡ o → or_else o (next_ready F 0) ≡ Some p → can_step F p ≡ true
    go None e k = ready_found F 0 p distinct k
    go (Some q) e k = ready_found F last p distinct (e ∙ k)

-- Who steps.

module _ (p : Placement) (o : OwnsFrames p) (q : Page) where
  valid_in : (s : PageState) → state_of p q ≡ s → is_valid s ≡ true → (f : ℕ) × (state_of p q ≡ Valid f)
  valid_in (Valid f) e k = (f, e)
  valid_in Unfilled e k = absurd cc
  valid_in (Invalid f) e k = absurd cc
  valid_in (Coming f) e k = absurd cc
  valid_in (Going f) e k = absurd cc
  valid_in OnSwap e k = absurd cc

  moves_not : (f g : ℕ) (errand : Errand) → state_of p q ≡ Valid f → state_of p q ≡ moving_state errand g → ⊥
  moves_not f g Writes v m = let z : Valid f ≡ Going g = sym v ∙ m in cc
  moves_not f g (Reads source demanded) v m = let z : Valid f ≡ Coming g = sym v ∙ m in cc

  still_among : (f : ℕ) (ms : List Moving) → state_of p q ≡ Valid f → Each (IsMoving p) ms → Each (λ (m : Moving). m.page ≢ q) ms
  still_among f [] v each = tt
  still_among f (m ∷ ms) v each =
      ((λ same. moves_not f m.frame m.errand v (sym (ap (state_of p) same) ∙ each.0)), still_among f ms v each.1)

  pub in_frame : is_valid (state_of p q) ≡ true → HasItsFrame p q
  in_frame valid =
      let found = valid_in (state_of p q) refl valid in
      let f : ℕ = found.0 in
      let is : state_of p q ≡ Valid f = found.1 in
      let named : frame_of (state_of p q) ≡ Some f = ap frame_of is in
      let once : times f p.free + times f (flying (parts_of p.transfers)) + seats (times f p.free) (state_of p q) ≡ 1 = once_at p q f o named in
      let seat : seats (times f p.free) (state_of p q) ≡ 1 = ap (seats (times f p.free)) is in
      record {
        frame = f;
        valid = is;
        own = o.names q f named;
        unlisted = omega (arith, once, seat);
        unmoved = omega (arith, once, seat);
        still = still_among f (parts_of p.transfers) is o.moves;
      }

all_in_frames : (p : Placement) → OwnsFrames p → (qs : List Page) → AllValid p qs → EachPage (HasItsFrame p) qs
all_in_frames p o [] valid = tt
all_in_frames p o (q ∷ qs) valid = (in_frame p o q valid.0, all_in_frames p o qs valid.1)

frames_owned : (A : Inputs) (s : State) → IsRun A s → OwnsFrames s.place
frames_owned A s r =
    let placed : Placed A s.point.flat s.place s.holdings = r.placed in
    let sound : Sound A.swap_blocks (machine_of s.point.flat s.place s.holdings) = placed.sound in
    let owner : OneOwner A.swap_blocks (lives (Rattle.std.proofs.Common.map kept_of s.point.flat.processes)) s.place s.holdings = sound.owner in
    owner.frames

pub steps_in_memory : (A : Inputs) (s : State) (u : Entry) (pid : ℕ) → IsRun A s → next_unit A s ≡ Some u → process_of_entry u ≡ Some pid
    → StepsInMemory A (snapshot_of s) pid
steps_in_memory A s u pid r h e =
    let ready : ReadyToStep A s pid = unit_ready A s u pid h e in
    record {
      runs = ready.runs;
      steps = ready.steps;
      resident = ready.resident;
      clear = ready.clear;
      pages = all_in_frames s.place (frames_owned A s r) (touched A s.point.flat pid) ready.pages;
    }

pub comes_in_turn : (A : Inputs) (s : State) (u : Entry) → IsRun A s → next_unit A s ≡ Some u → ComesInTurn A (snapshot_of s) u
comes_in_turn A s (entries.Event line) r h = next_begins A s (entries.Event line) tt h
comes_in_turn A s (entries.Turn pid) r h =
    let so = next_begins A s (entries.Turn pid) tt h in
    let numbers : IsNumbered s.point.flat = r.numbers in
    (so.0, turned_ready s.point.flat (last_turned s.mark) pid numbers.pids so.1)
comes_in_turn A s (entries.Owners free used moving held) r h = noted_are A s free used moving held h
comes_in_turn A s u r h = λ pid e. steps_in_memory A s u pid r h e
