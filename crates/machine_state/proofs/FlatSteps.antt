-- The step of an entry of a process with its change: what it asks, what it leaves, and that the machine stands for it.
use Rattle.std.proofs.Common.{◌≡◌, ℕ, ◌+◌, ◌<◌, ◌≤◌, ◌==◌, Bool, true, false, cond, List, [], ◌∷◌, ◌++◌, length, map}
use Rattle.std.proofs.Common.{Option, Some, None, IsSome, Result, Ok, Err, Vec, refl, sym, ap, ap₂, ◌∙◌, subst, arith}
use Rattle.std.specs.Prelude.{OnOk}
use Rattle.std.proofs.lemmas.Bool.{eqb-true}
use Rattle.std.proofs.lemmas.List.{length-append}
use Rattle.vm_facts.specs.declared.regs.Regs.{Regs}
use Rattle.vm_facts.specs.declared.params.Params.{Params}
use Rattle.vm_facts.specs.declared.entry.Entry.{Entry}
use Rattle.vm_facts.specs.declared.entry.Entry.TheVariants as entries
use Rattle.aout_image.specs.declared.Image.{Image}
use Rattle.core_map.specs.Frames.{IsSoundMap}
use Rattle.swap_book.specs.Holdings.{Holdings}
use Rattle.swap_book.specs.Book.{Book, with_holdings}
use Rattle.swap_book.specs.Placing.{place_all}
use Rattle.proc_table.specs.Records.{find}
use Rattle.transfer_ring.specs.declared.transfer.Transfer.{Transfer as Flight}
use Rattle.flat_state.specs.Journal.{append}
use Rattle.flat_state.specs.Numbers.{AllBelow, AllDistinct}
use Rattle.flat_state.specs.declared.change.Change.{Change}
use Rattle.flat_state.specs.declared.change.Change.TheVariants.{Keep, Resize, Fork, Lend, Exec, Reap, Sleep, End}
use Rattle.page_model.specs.Pages.{numbered}
use Rattle.page_model.specs.Placement.{Placement, Residence, image_of}
use Rattle.page_model.specs.Place.{Changing, place_change}
use Rattle.page_model.specs.Conditions.{CanChange, MayForget, ApartFrom}
use Rattle.page_model.specs.Ownership.{OwnsFrames, OneOwner}
use Rattle.page_model.specs.Dues.{DueStand}
use Rattle.table_steps.proofs.PageLawsDueChanges.{change_due}
use Rattle.kernel_model.specs.Kernel.{Kernel, Proc, Life}
use Rattle.kernel_model.specs.Sound.{Sound, lives, lives_in}
use Rattle.kernel_model.specs.ChangeStep.{changing_of, space_of_life, gave_back, life_of_proc, with_proc, holdings_after, procs_after, change_by}
use Rattle.kernel_model.specs.ChangeStep.{change_if, change_step}
use Rattle.kernel_model.specs.Numbers.{Numbered, TakesNext, ReadySpace, ReadyFor}
use Rattle.kernel_model.specs.Taken.{MayReap, MayChange}
use Rattle.kernel_model.specs.Asks.{asked, MayAsk, WantsThese}
use Rattle.kernel_model.specs.Unit.{has_lender}
use Rattle.table_steps.proofs.KernelLawsSoundAllowed.{new_number, may_change, wants_these, ready_sound}
use Rattle.table_steps.proofs.NumbersApart.{flat_numbered}
use Rattle.table_steps.proofs.KernelLawsSoundChanges.{Unhanded, change_unhanded}
use Rattle.table_steps.specs.Tables.{Tables}
use Rattle.table_steps.specs.Named.{Named}
use Rattle.machine_state.specs.declared.machine.Machine.TheInside.{Inside}
use Rattle.machine_state.specs.Fields.{standing_of, RunsInside}
use Rattle.table_steps.specs.DueFill.{DueFill}
use Rattle.table_steps.specs.View.{Lists, due_shown, placement_of, frames_of}
use Rattle.table_steps.specs.Known.{Known}
use Rattle.table_steps.specs.Sourced.{ImageNamed, AreNames, AreSourced}
use Rattle.table_steps.specs.Moves.{LeftRegs}
use Rattle.table_steps.specs.Calls.{life_in}
use Rattle.table_steps.specs.Machine.{Standing, WereFound, Stands, lists_of, kernel_by, images_of, image_shown, image_at}
use Rattle.table_steps.specs.Machine.{before_of}
use Rattle.table_steps.specs.Changing.{processes_in, process_in}
use Rattle.table_steps.specs.Applying.{facts_named, IsEntryOf, MayAct, CanApply}
use Rattle.table_steps.specs.Applied.{changing_tables, placement_in, NamesNext, MayApply, Applied, AppliesAs}
use Rattle.table_steps.proofs.Shows.{sids_shown}
use Rattle.table_steps.proofs.Lives.{pid_of, HasRecord, record_of}
use Rattle.table_steps.proofs.Records.{regs_are, residents_are}
use Rattle.table_steps.proofs.Recorded.{regs_records}
use Rattle.table_steps.proofs.UserFrames.{known_by}
use Rattle.table_steps.proofs.Kernels.{kernel_ext}
use Rattle.machine_state.proofs.FirstBegins.{shown_facts}
use Rattle.machine_state.specs.Holders.{HoldersStand}
use Rattle.machine_state.proofs.HoldingSteps.{change_keeps}
use Rattle.machine_state.proofs.Standings.{stands_now, holders_by, all_before, found_none}
use Rattle.machine_state.proofs.FlightsStay.{Behind, sourced_behind}
use Rattle.table_steps.proofs.ProcessLists.{OnlyOne, only_one, found_number, regs_after, regs_lender, regs_count, regs_pids, regs_there}
use Rattle.table_steps.proofs.ProcessLists.{regs_lives}

-- The entry.

-- it isn't joined to the last one
pub entry_append : (pid : ℕ) (journal : List Entry) (e : Entry) (change : Change) → IsEntryOf pid e change
    → append journal e ≡ journal ++ e ∷ []
entry_append pid journal (entries.Out p bytes) change h = refl
entry_append pid journal (entries.Grew p pages) change h = refl
entry_append pid journal (entries.Call p number carry r0 r1) change h = refl
entry_append pid journal (entries.Sleeps p) change h = refl
entry_append pid journal (entries.Ended p status) change h = refl
entry_append pid journal _ change h = absurd h

-- The process.

alive_process : (ps : List Proc) (n : ℕ) → lives ps n ≡ true → (p : Proc) × (numbered pid_of n ps ≡ Some p)
alive_process ps n a = go (numbered pid_of n ps) refl a
  where
    go : (o : Option Proc) → numbered pid_of n ps ≡ o → lives_in o ≡ true → (p : Proc) × (numbered pid_of n ps ≡ Some p)
    go None e l = absurd cc
    go (Some p) e l = (p, e)

pub flat_record : (t : Tables) (j : List Entry) (b : Bool) (pid : ℕ) (change : Change) → ReadyFor (kernel_by t j b) pid change
    → IsSome (find pid t.processes)
flat_record t j b pid change r =
    let p = alive_process (processes_in t) pid r.alive in
    let h : HasRecord t.processes pid p.0 = record_of t.processes t.next_pid pid p.0 p.1 in
    subst IsSome (sym h.there) refl

map_with : (ps : List Proc) (p : Proc) (regs : Regs) → OnlyOne p ps
    → map (λ (q : Proc). cond (q.pid == p.pid) (record q { regs = regs }) q) ps ≡ with_proc ps (record p { regs = regs })
map_with [] p regs o = refl
map_with (q ∷ qs) p regs o = ap₂ (λ (x : Proc) (xs : List Proc). x ∷ xs) (go (q.pid == p.pid) refl) (map_with qs p regs o.1)
  where
    go : (b : Bool) → (q.pid == p.pid) ≡ b → cond b (record q { regs = regs }) q ≡ cond b (record p { regs = regs }) q
    go true e = ap (λ (x : Proc). record x { regs = regs }) (o.0 (eqb-true q.pid p.pid e))
    go false e = refl

-- What is due and what is numbered.

no_fills : (ds : List DueFill) → map due_shown ds ≡ [] → ds ≡ []
no_fills [] e = refl
no_fills (d ∷ ds) e = absurd cc

names_next : (k : Kernel) (next : ℕ) (change : Change) → k.next_pid ≡ next → TakesNext k change → NamesNext next change
names_next k next Keep e h = tt
names_next k next (Resize d s) e h = tt
names_next k next (Fork child) e h = h ∙ e
names_next k next (Lend child) e h = h ∙ e
names_next k next (Exec image top) e h = tt
names_next k next (Reap child) e h = tt
names_next k next Sleep e h = tt
names_next k next (End status) e h = tt

reaps_same : (ps qs : List Proc) (change : Change) → ((n : ℕ) → lives qs n ≡ lives ps n) → MayReap ps change → MayReap qs change
reaps_same ps qs Keep k h = tt
reaps_same ps qs (Resize d s) k h = tt
reaps_same ps qs (Fork child) k h = tt
reaps_same ps qs (Lend child) k h = tt
reaps_same ps qs (Exec image top) k h = tt
reaps_same ps qs (Reap child) k h = k child ∙ h
reaps_same ps qs Sleep k h = tt
reaps_same ps qs (End status) k h = tt

-- a new space isn't the one that goes
apart_of : (p : Placement) (ps : List Proc) (sid : ℕ) (b : Bool) (next : ℕ) (change : Change) → MayAsk p ps sid b next change
    → ApartFrom sid b next change
apart_of p ps sid b next Keep m = tt
apart_of p ps sid b next (Resize d s) m = tt
apart_of p ps sid b next (Fork child) m = tt
apart_of p ps sid b next (Lend child) m = tt
apart_of p ps sid b next (Exec image top) m = m
apart_of p ps sid b next (Reap child) m = tt
apart_of p ps sid b next Sleep m = tt
apart_of p ps sid b next (End status) m = tt

-- What the change asks, with the registers that were left.

-- a machine that runs, before the change, with the pieces that were found
pub record Ready (t : Tables) (j : List Entry) (b : Bool) (pid : ℕ) (e : Entry) (change : Change) : Type 0 where
  pub room : Option ℕ
  pub can : CanApply (record { kernel = kernel_by t j b; params = t.params; images = images_of t; before = before_of t; room = room }) pid e change
  pub core : IsSoundMap t.core.free t.core.slots
  pub stands : Stands t j b

pub ready_of : (m : Inside) (s : Standing) (pid : ℕ) (e : Entry) (change : Change) → RunsInside m → standing_of m ≡ s
    → s.kernel.stopped ≡ false → CanApply s pid e change
    → IsSoundMap m.tables.core.free m.tables.core.slots → Ready m.tables m.journal.items m.stopped pid e change
ready_of m s pid e change h view run can core = record {
  room = m.room;
  can = subst (λ (x : Standing). CanApply x pid e change) (sym view) can;
  core = core;
  stands = (stands_now m s h view run).stands;
}

-- what was made, where it was
pub made_of : {A E P : Type 0} (r : Result A E) (x : A) → r ≡ Ok x → OnOk r P → P
made_of (Ok y) x e h = h
made_of (Err y) x e h = absurd cc

module _ (t u : Tables) (j : List Entry) (b : Bool) (pid : ℕ) (regs : Regs) (e : Entry) (change : Change) (r : Ready t j b pid e change) (left : LeftRegs t u pid regs) where
  ready : ReadyFor (kernel_by t j b) pid change
  ready = r.can.ready

  process : Proc
  process = (alive_process (processes_in t) pid r.can.ready.alive).0

  there : numbered pid_of pid (processes_in t) ≡ Some process
  unfolding process
  there = (alive_process (processes_in t) pid r.can.ready.alive).1

  life : life_in (kernel_by t j b) pid ≡ process.life
  life = ap life_of_proc there

  number : process.pid ≡ pid
  number = found_number (processes_in t) pid process there

  before : Kernel
  before = record (kernel_by t j b) { holdings = before_of t }

  is_numbered : Numbered (kernel_by t j b)
  is_numbered =
      let n : Numbered (record (kernel_by t j b) { holdings = before_of t }) = r.stands.runs.numbered in
      record { spaces_differ = n.spaces_differ; spaces_below = n.spaces_below; pids_differ = n.pids_differ; pids_below = n.pids_below; residents = n.residents }

  sound : Sound t.book.size (record (kernel_by t j b) { holdings = before_of t })
  sound = r.stands.runs.sound

  owns : OwnsFrames (placement_in t)
  owns = sound.owner.frames

  may : MayChange (lists_of t).facts (kernel_by t j b) pid change
  may = may_change (lists_of t).facts (kernel_by t j b) pid change owns is_numbered r.can.ready

  only : OnlyOne process (processes_in t)
  only = only_one (processes_in t) pid process there is_numbered.pids_differ

  -- the tables with the registers
  abbrev left_tables : Tables
  left_tables = record t { processes = u.processes }

  left_lists : lists_of left_tables ≡ lists_of t
  left_lists = ap (λ (rs : List Residence). let x : Lists = record (lists_of t) { residents = rs } in x) (residents_are t.processes u.processes pid regs left.was t.next_pid left.there left.changes)

  left_processes : processes_in left_tables ≡ with_proc (processes_in t) (record process { regs = regs })
  left_processes =
      regs_are t.processes u.processes pid regs left.was t.next_pid left.there left.changes
      ∙ ap (λ (n : ℕ). map (λ (q : Proc). cond (q.pid == n) (record q { regs = regs }) q) (processes_in t)) (sym number)
      ∙ map_with (processes_in t) process regs only

  left_there : process_in left_tables pid ≡ Some (record process { regs = regs })
  left_there =
      ap (λ (ps : List Proc). numbered pid_of pid ps) left_processes
      ∙ subst (λ (n : ℕ). numbered pid_of n (with_proc (processes_in t) (record process { regs = regs })) ≡ Some (record process { regs = regs })) number
      (regs_there (processes_in t) process regs only (ap (λ (n : ℕ). numbered pid_of n (processes_in t)) number ∙ there))

  -- it may be applied
  left_may : MayApply left_tables pid change
  left_may = record {
    known = subst Known (sym left_lists) (known_by t j b r.core r.stands);
    clear = no_fills t.fills.items r.can.clear;
    below = subst (AllBelow t.next_sid) (sids_shown t.core.slots t.spaces) is_numbered.spaces_below;
    records = regs_records t.processes u.processes t.next_pid pid regs left.was left.there left.changes left.still_sound r.stands.records;
    differ = subst (λ (ps : List Proc). AllDistinct (map pid_of ps)) (sym left_processes) (subst AllDistinct (sym (regs_pids (processes_in t) process regs only)) is_numbered.pids_differ);
    process = record process { regs = regs };
    there = left_there;
    acts = subst (λ (l : Life). MayAct l change) life r.can.acts;
    space = subst (λ (x : Lists). ReadySpace (placement_of x) (space_of_life process.life) (gave_back process.life) change) (sym left_lists)
        (subst (λ (l : Life). ReadySpace (placement_in t) (space_of_life l) (gave_back l) change) life r.can.ready.space);
    can = subst (λ (x : Lists). CanChange (placement_of x) (space_of_life process.life) (gave_back process.life) t.next_sid change) (sym left_lists)
        (subst (λ (l : Life). CanChange (placement_in t) (space_of_life l) (gave_back l) t.next_sid change) life may.can);
    forgets = subst (λ (x : Lists). MayForget (lists_of t).facts (placement_of x) (space_of_life process.life) (gave_back process.life) t.next_sid change) (sym left_lists)
        (subst (λ (l : Life). MayForget (lists_of t).facts (placement_in t) (space_of_life l) (gave_back l) t.next_sid change) life may.forgets);
    next = names_next (kernel_by t j b) t.next_pid change refl r.can.ready.next;
    reaps = reaps_same (processes_in t) (processes_in left_tables) change
        (λ n. ap (λ (ps : List Proc). lives ps n) left_processes ∙ regs_lives (processes_in t) process regs only (ap (λ (m : ℕ). numbered pid_of m (processes_in t)) number ∙ there) n)
        r.can.ready.reaps;
    alone = λ l. ap (λ (ps : List Proc). has_lender ps pid) left_processes ∙ regs_lender (processes_in t) process regs only pid ∙ r.can.returned l;
    whole = r.can.whole;
    few = λ l. subst (λ (n : ℕ). n < 64) (sym (ap (λ (ps : List Proc). length ps) left_processes ∙ regs_count (processes_in t) process regs only)) (r.can.few l);
  }

  pub flat_may : MayApply u pid change
  flat_may = subst (λ (x : Tables). MayApply x pid change) (sym left.rest) left_may

  -- What it leaves. No pieces wait then.
  module _ (w : Tables) (since : ℕ) (applies : AppliesAs u w pid since change) (counts : since ≡ length j + 1) where
    made : Applied left_tables w (record process { regs = regs }) since change
    made =
        let a : AppliesAs left_tables w pid since change = subst (λ (x : Tables). AppliesAs x w pid since change) left.rest applies in
        a (record process { regs = regs }) left_there

    abbrev after : Tables
    after = record w { found = 0 }

    -- the kernel's own step
    abbrev who : Changing
    who = changing_of (facts_named (images_of t)) (kernel_by t j b) process e

    abbrev next_place : Placement
    next_place = place_change who (placement_in t) change

    entry_added : append j e ≡ j ++ e ∷ []
    entry_added = entry_append pid j e change r.can.entry

    since_is : since ≡ length (append j e)
    since_is = counts ∙ sym (ap (λ (es : List Entry). length es) entry_added ∙ length-append j (e ∷ []))

    who_is : changing_tables t process since ≡ who
    who_is =
        ap (λ (fs : List Image). let x : Changing = record (changing_tables t process since) { images = fs } in x) (sym (shown_facts t.images.items))
        ∙ ap (λ (n : ℕ). let x : Changing = record who { at = n } in x) since_is

    place_is : placement_in w ≡ next_place
    place_is =
        made.place
        ∙ ap (λ (x : Lists). place_change (changing_tables t process since) (placement_of x) change) left_lists
        ∙ ap (λ (c : Changing). place_change c (placement_in t) change) who_is

    book_is : w.book ≡ with_holdings t.book (holdings_after who t.book.holdings (placement_in t) next_place change)
    book_is =
        made.book
        ∙ ap (λ (x : Lists). with_holdings t.book (holdings_after (changing_tables t process since) t.book.holdings (placement_of x) (placement_in w) change)) left_lists
        ∙ ap (λ (q : Placement). with_holdings t.book (holdings_after (changing_tables t process since) t.book.holdings (placement_in t) q change)) place_is
        ∙ ap (λ (c : Changing). with_holdings t.book (holdings_after c t.book.holdings (placement_in t) next_place change)) who_is

    step_is : change_by (facts_named (images_of t)) (kernel_by t j b) (record process { regs = regs }) e change ≡ change_step (facts_named (images_of t)) (kernel_by t j b) pid regs e change
    step_is = ap (change_if (facts_named (images_of t)) (kernel_by t j b) regs e change) (sym there)

    flat_kernel : (journal : List Entry) (stopped : Bool) → journal ≡ j ++ e ∷ [] → stopped ≡ b
        → kernel_by after journal stopped ≡ change_step (facts_named (images_of t)) (kernel_by t j b) pid regs e change
    flat_kernel journal stopped ej es =
        kernel_ext (kernel_by after journal stopped) (change_by (facts_named (images_of t)) (kernel_by t j b) (record process { regs = regs }) e change)
        place_is
        (ap (λ (x : Book). x.holdings) book_is)
        (made.processes ∙ ap (λ (ps : List Proc). procs_after ps (record process { regs = regs }) t.next_sid change) left_processes ∙ regs_after (processes_in t) process regs only t.next_sid change)
        made.next_pid
        made.next_sid
        made.starts
        (made.frames ∙ ap frames_of left_lists)
        (ej ∙ sym entry_added)
        es
        ∙ step_is

    flat_images : images_of w ≡ images_of t
    flat_images = ap (λ (x : Vec Named _). map image_shown x.items) made.images

    -- all that stands after it
    size_is : w.book.size ≡ t.book.size
    size_is = ap (λ (x : Book). x.size) book_is

    placed : place_all t.book.size (before_of t) (asked (facts_named (images_of t)) (kernel_by t j b) pid change) ≡ Ok t.book.holdings
    placed = ap (λ (n : ℕ). place_all n (before_of t) (asked (facts_named (images_of t)) (kernel_by t j b) pid change)) r.stands.book ∙ r.can.found

    step_sound : Sound t.book.size (change_step (facts_named (images_of t)) (kernel_by t j b) pid regs e change)
    step_sound = ready_sound t.book.size (facts_named (images_of t)) (kernel_by t j b) (before_of t) pid regs e change sound is_numbered r.can.ready placed

    step_numbered : Numbered (change_step (facts_named (images_of t)) (kernel_by t j b) pid regs e change)
    step_numbered = flat_numbered (facts_named (images_of t)) (kernel_by t j b) pid regs e change r.can.ready.next r.can.ready.alive is_numbered

    wants : WantsThese (kernel_by t j b) pid change
    wants = wants_these (kernel_by t j b) pid change is_numbered r.can.ready

    step_due : DueStand next_place
    step_due = change_due who (placement_in t) change r.can.clear
        (subst (λ (l : Life). CanChange (placement_in t) (space_of_life l) (gave_back l) t.next_sid change) life may.can)
        (apart_of (placement_in t) (processes_in t) (space_of_life process.life) (gave_back process.life) t.next_sid change
        (subst (λ (l : Life). MayAsk (placement_in t) (processes_in t) (space_of_life l) (gave_back l) t.next_sid change) life wants.may))

    module _ (journal : List Entry) (stopped : Bool) (ej : journal ≡ j ++ e ∷ []) (es : stopped ≡ b) where
      now_sound : Sound w.book.size (kernel_by after journal stopped)
      now_sound = subst (λ (n : ℕ). Sound n (kernel_by after journal stopped)) (sym size_is)
          (subst (Sound t.book.size) (sym (flat_kernel journal stopped ej es)) step_sound)

      before_now : before_of after ≡ w.book.holdings
      before_now = all_before w.book.holdings

      kernel_now : (let x : Kernel = record (kernel_by after journal stopped) { holdings = before_of after } in x) ≡ kernel_by after journal stopped
      kernel_now = ap (λ (hs : Holdings). let x : Kernel = record (kernel_by after journal stopped) { holdings = hs } in x) before_now

      behind :
          let holds : ℕ → Bool = lives (processes_in w) in
          Behind who t.book.size holds (placement_in t) change (before_of t) t.book.holdings w.book.holdings
      behind =
          let s : Sound w.book.size (kernel_by after journal stopped) = now_sound in
          let o : OneOwner t.book.size (lives (processes_in w)) (placement_in w) w.book.holdings =
          subst (λ (n : ℕ). OneOwner n (lives (processes_in w)) (placement_in w) w.book.holdings) size_is s.owner in
          let h : Unhanded (placement_in t) next_place = change_unhanded who (placement_in t) change in
          record {
            owns = subst (λ (q : Placement). OneOwner t.book.size (lives (processes_in w)) q w.book.holdings) place_is o;
            same = h.transfers;
            new = new_number (kernel_by t j b) is_numbered;
            pieces = asked (facts_named (images_of t)) (kernel_by t j b) pid change;
            found = placed;
            given = ap (λ (x : Book). x.holdings) book_is;
          }

      now_ring : AreSourced (images_of w) (image_at w) w.book.holdings w.book.size w.ring
      now_ring =
          let s : AreSourced (images_of t) (image_of next_place) w.book.holdings t.book.size t.ring =
          sourced_behind (images_of t) who t.book.size (lives (processes_in w)) (placement_in t) change (before_of t) t.book.holdings w.book.holdings t.ring behind refl owns r.stands.ring in
          subst (λ (ts : List Flight). AreSourced (images_of w) (image_at w) w.book.holdings w.book.size ts) (sym made.ring)
          (subst (λ (n : ℕ). AreSourced (images_of w) (image_at w) w.book.holdings n t.ring) (sym size_is)
          (subst (λ (ns : List ImageNamed). AreSourced ns (image_at w) w.book.holdings t.book.size t.ring) (sym flat_images)
          (subst (λ (q : Placement). AreSourced (images_of t) (image_of q) w.book.holdings t.book.size t.ring) (sym place_is) s)))

      flat_stands : length journal ≤ t.params.journal → Stands after journal stopped
      flat_stands within = record {
        runs = record {
          sound = subst (Sound w.book.size) (sym kernel_now) now_sound;
          numbered = subst Numbered (sym kernel_now) (subst Numbered (sym (flat_kernel journal stopped ej es)) step_numbered);
          due = subst DueStand (sym place_is) step_due;
          tied = made.tied;
        };
        ring = subst (λ (hs : Holdings). AreSourced (images_of w) (image_at w) hs w.book.size w.ring) (sym before_now) now_ring;
        within = subst (λ (p : Params). length journal ≤ p.journal) (sym made.params) within;
        book = size_is ∙ r.stands.book ∙ sym (ap (λ (p : Params). p.swap_blocks) made.params);
        found = subst (λ (hs : Holdings). WereFound w.book.size hs w.book.holdings) (sym before_now) (found_none w.book.size w.book.holdings);
        records = made.records;
        named = subst AreNames (sym flat_images) r.stands.named;
        numbers = λ h. absurd (let x : length journal ≡ 0 = ap (λ (es : List Entry). length es) h in
            let y : length journal ≡ length j + 1 = ap (λ (es : List Entry). length es) ej ∙ length-append j (e ∷ []) in omega arith);
      }

-- what it leaves of the machine, with the kernel of the step
pub record Made (t w : Tables) (journal : List Entry) (stopped : Bool) (k : Kernel) : Type 0 where
  pub stands : Stands w journal stopped
  pub holders : HoldersStand (kernel_by t [] false) → HoldersStand (kernel_by w [] false)
  pub is : kernel_by w journal stopped ≡ k
  pub whole : before_of w ≡ w.book.holdings

pub made_by : (t u w : Tables) (j journal : List Entry) (b stopped : Bool) (pid : ℕ) (regs : Regs) (e : Entry) (change : Change) (since : ℕ)
    (r : Ready t j b pid e change)
    (left : LeftRegs t u pid regs) (applies : AppliesAs u w pid since change) → since ≡ length j + 1 → journal ≡ j ++ e ∷ [] → stopped ≡ b
    → length journal ≤ t.params.journal
    → Made t (record w { found = 0 }) journal stopped (change_step (facts_named (images_of t)) (kernel_by t j b) pid regs e change)
made_by t u w j journal b stopped pid regs e change since r left applies counts ej es within =
    let is = flat_kernel t u j b pid regs e change r left w since applies counts journal stopped ej es in
    record {
      stands = flat_stands t u j b pid regs e change r left w since applies counts journal stopped ej es within;
      holders = holders_by t (record w { found = 0 }) j journal b stopped _ is
          (change_keeps (images_of t) (kernel_by t j b) pid regs e change (is_numbered t u j b pid regs e change r left) r.can.acts r.can.whole);
      is = is;
      whole = all_before w.book.holdings;
    }
