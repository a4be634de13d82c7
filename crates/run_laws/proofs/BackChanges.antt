-- Execve and the end of a borrower leave what stands.
use Rattle.std.proofs.Common.{◌≡◌, ℕ, true, false, List, [], length, map, Option, Some, Ok, refl, sym, ap, ◌∙◌, subst}
use Rattle.flat_state.specs.Space.{Space}
use Rattle.flat_state.specs.Flat.{Holds, Process, FlatState, Inputs, process_of}
use Rattle.vm_facts.specs.declared.regs.Regs.{Regs}
use Rattle.vm_facts.specs.declared.entry.Entry.{Entry}
use Rattle.swap_book.specs.Holdings.{Holdings}
use Rattle.swap_book.specs.Placing.{place_all}
use Rattle.flat_state.specs.declared.change.Change.{Change}
use Rattle.flat_state.specs.declared.change.Change.TheVariants.{Exec, End}
use Rattle.flat_state.specs.Change.{apply_change, is_borrower}
use Rattle.flat_state.specs.Journal.{append}
use Rattle.page_model.specs.Pages.{numbered}
use Rattle.page_model.specs.Placement.{Placement, space_number}
use Rattle.page_model.specs.Place.{Changing, place_change, facts_of, facts_numbered}
use Rattle.page_model.specs.Dues.{DueStand}
use Rattle.page_model.specs.Conditions.{HaveParts, CanChange, ApartFrom}
use Rattle.page_model.specs.Swapper.{is_out}
use Rattle.kernel_model.specs.Kernel.{Kernel, New}
use Rattle.kernel_model.specs.Coupled.{Fits, SameTables}
use Rattle.kernel_model.specs.Sound.{Sound, lives, lives_in, has_life}
use Rattle.kernel_model.specs.ChangeStep.{change_step, pass_step, holdings_after}
use Rattle.kernel_model.specs.Asks.{asked}
use Rattle.kernel_model.specs.Numbers.{Numbered, ReadyFor}
use Rattle.kernel_model.specs.Start.{ImageFits, ImagesFit}
use Rattle.flat_state.specs.Numbers.{IsNumbered}
use Rattle.flat_state.specs.Lenders.{LendsStand, IsLender}
use Rattle.kernel_model.specs.Stands.{Stands}
use Rattle.kernel_laws.proofs.Sound.Steps.{pass_sound}
use Rattle.kernel_laws.proofs.Sound.NumbersApart.{flat_numbered, pass_numbered}
use Rattle.kernel_laws.proofs.Sound.Allowed.{ready_sound}
use Rattle.kernel_laws.proofs.Sound.Changes.{Unhanded, change_unhanded}
use Rattle.page_laws.proofs.Ends.Hands.{SameHands}
use Rattle.page_laws.proofs.Due.Changes.{change_due}
use Rattle.kernel_laws.proofs.Machine.Forks.{fit_image, next_new}
use Rattle.kernel_laws.proofs.Flat.Lenders.{lender_found}
use Rattle.kernel_laws.proofs.Machine.Returns.{passes, Borrowing, borrowing, back_kernel, back_proc}
use Rattle.kernel_laws.proofs.Stands.Changes.{exec_back_stands, end_back_stands}
use Rattle.kernel_laws.proofs.Machine.Processes.{changing_with, Stepping, by_life, step_is}
use Rattle.kernel_laws.proofs.Machine.Through.{exec_back_tables, end_back_tables}
use Rattle.flat_laws.proofs.Asking.{own_space, change_same}
use Rattle.flat_model.specs.Asked.{given_up}
use Rattle.kernel_laws.proofs.Kept.Changes.{GivesBack, takes_none, back_ready}
use Rattle.run_laws.specs.Standing.{machine_of, EachOnce, Placed}
use Rattle.kernel_model.specs.Invariant.{EntersImage}
use Rattle.run_laws.proofs.Bridge.{from_machine}
use Rattle.run_laws.proofs.Changes.{given_same, change_once}
use Rattle.run_laws.proofs.OwnChanges.{ReadyChange, with_found}
use Rattle.aout_image.specs.declared.Image.{Image}

pub record Told (A : Inputs) (l : Kernel) (after : FlatState) : Type 0 where
  pub tables : SameTables l after
  pub stands : Stands A.images l after

pub back_told : (A : Inputs) (k : Kernel) (flat : FlatState) (pid : ℕ) (regs : Regs) (e : Entry) (q m : Process) (s : Space) (change : Change)
    → GivesBack change → ImagesFit A.images → IsNumbered flat
    → process_of flat pid ≡ Some q → q.holding ≡ Holds s → IsLender flat pid s.sid m
    → is_out k.place pid ≡ false → k.place.due ≡ [] → EntersImage A.images change → SameTables k flat → Stands A.images k flat
    → Told A (change_step (facts_of A.images) (pass_step k pid m.pid) pid regs e change) (apply_change A.images flat pid regs change)
back_told A k flat pid regs e q m s (Exec number top) gb fit nums f h is out due (named, im, whole) t st =
    let i : ImageFits named = fit number named im in
    record {
      tables = exec_back_tables k A.images flat pid regs e number top named q m s nums f h is im i.«data» whole t;
      stands = exec_back_stands A.images k flat pid regs e number top named q m s t due f h is out im st;
    }
back_told A k flat pid regs e q m s (End status) gb fit nums f h is out due x t st =
    record { tables = end_back_tables k A.images flat pid regs e status q m s nums f h is t; stands = end_back_stands A.images k flat pid regs e status q m s t f h is st }
back_told A k flat pid regs e q m s _ gb fit nums f h is out due x t st = absurd gb

-- where the change lands
pub record Lands (A : Inputs) (k : Kernel) (pid sid : ℕ) (e : Entry) (change : Change) (l : Kernel) : Type 0 where
  pub place : l.place ≡ place_change (changing_with (facts_of A.images) k pid sid true e) k.place change
  pub holdings : l.holdings ≡ holdings_after (changing_with (facts_of A.images) k pid sid true e) k.holdings k.place l.place change
  pub journal : l.journal ≡ append k.journal e

pub lands_any : (A : Inputs) (k : Kernel) (pid : ℕ) (sid : ℕ) (e : Entry) (change : Change) (l : Kernel) → GivesBack change
    → Lands A k pid 0 e change l → Lands A k pid sid e change l
lands_any A k pid sid e (Exec image top) l gb x = record { place = x.place; holdings = x.holdings; journal = x.journal }
lands_any A k pid sid e (End status) l gb x = record { place = x.place; holdings = x.holdings; journal = x.journal }
lands_any A k pid sid e _ l gb x = absurd gb

pub back_lands : (A : Inputs) (k : Kernel) (flat : FlatState) (pid : ℕ) (regs : Regs) (e : Entry) (q m : Process) (s : Space) (change : Change)
    (a : Borrowing k flat pid q m s)
    → GivesBack change
    → Lands A k pid s.sid e change (change_step (facts_of A.images) (pass_step k pid m.pid) pid regs e change)
back_lands A k flat pid regs e q m s change a gb =
    let g : Stepping k flat pid q s = a.step in
    let k1 : Kernel = record k { processes = map (passes s.sid pid m.pid) k.processes } in
    lands_any A k pid s.sid e change (change_step (facts_of A.images) (pass_step k pid m.pid) pid regs e change) gb
    (subst (λ (x : Kernel). Lands A k pid 0 e change (change_step (facts_of A.images) x pid regs e change)) (sym (back_kernel k flat pid q m s a))
    (subst (Lands A k pid 0 e change) (sym (step_is (facts_of A.images) k1 pid regs e change (record g.proc { life = New }) New (back_proc k flat pid q m s a) refl))
    (subst (λ (n : ℕ). Lands A k n 0 e change (by_life (facts_of A.images) k1 (record g.proc { regs = regs; life = New }) New e change)) g.pid_is
    (record { place = refl; holdings = refl; journal = refl }))))

pub asks_same : (images : List Image) (k l : Kernel) (pid : ℕ) (change : Change) → GivesBack change → l.place ≡ k.place → l.next_sid ≡ k.next_sid
    → asked images l pid change ≡ asked images k pid change
asks_same images k l pid (Exec image top) gb p n = ap (λ (x : Placement). Rattle.kernel_model.specs.Asks.image_asked x l.next_sid image (facts_numbered images image)) p
    ∙ ap (λ (m : ℕ). Rattle.kernel_model.specs.Asks.image_asked k.place m image (facts_numbered images image)) n
asks_same images k l pid (End status) gb p n = refl
asks_same images k l pid _ gb p n = absurd gb

pub back_change : (A : Inputs) (flat : FlatState) (p : Placement) (hs found : Holdings) (pid : ℕ) (regs : Regs) (j : List Entry) (e : Entry) (q : Process)
    (s : Space) (change : Change)
    → ReadyChange A flat p hs found pid q s change → LendsStand flat → is_borrower flat.processes pid ≡ true → GivesBack change
    → Placed A flat p hs
    → Placed A (apply_change A.images flat pid regs change)
    (place_change (changing_with (facts_of A.images) (with_found flat p found j) pid s.sid true e) p change)
    (given_up flat (apply_change A.images flat pid regs change) pid s change found)
back_change A flat p hs found pid regs j e q s change c lend w gb st =
    let after : FlatState = apply_change A.images flat pid regs change in
    let k : Kernel = with_found flat p found j in
    let who : Changing = changing_with (facts_of A.images) k pid s.sid true e in
    let so : Sound A.swap_blocks (machine_of flat p hs) = st.sound in
    let before : Sound A.swap_blocks (record k { holdings = hs }) = record { owner = so.owner; tokens = so.tokens; hands = so.hands; few_transfers = so.few_transfers } in
    let nb : Numbered (machine_of flat p hs) = st.numbered in
    let n : Numbered k = record { spaces_differ = nb.spaces_differ; spaces_below = nb.spaces_below; pids_differ = nb.pids_differ; pids_below = nb.pids_below; residents = nb.residents } in
    let t : SameTables k flat = record { processes = tb.processes; next_pid = refl; next_sid = refl; spaces = tb.spaces } in
    let sb : Stands A.images (machine_of flat p hs) flat = st.stands in
    let stands : Stands A.images k flat = record { starts = λ x h. refl; texts = sb.texts; out = sb.out } in
    let lender : (m : Process) × IsLender flat pid s.sid m = lender_found flat pid q s c.found_process c.holds w c.numbers lend in
    let m : Process = lender.0 in
    let a : Borrowing k flat pid q m s = borrowing k flat pid q m s t c.found_process c.holds lender.1 in
    let g : Stepping k flat pid q s = a.step in
    let own_lives : lives k.processes pid ≡ true = ap lives_in g.kept ∙ ap has_life g.life in
    let lender_lives : lives k.processes m.pid ≡ true = ap lives_in a.kept ∙ ap has_life a.life in
    let k1 : Kernel = pass_step k pid m.pid in
    let sound1 : Sound A.swap_blocks (record k1 { holdings = hs }) = pass_sound A.swap_blocks (record k { holdings = hs }) pid m.pid own_lives lender_lives before in
    let n1 : Numbered k1 = pass_numbered k pid m.pid own_lives lender_lives n in
    let ready : ReadyFor k1 pid change = back_ready k flat pid q m s change a gb in
    let pieces : place_all A.swap_blocks hs (asked (facts_of A.images) k1 pid change) ≡ Ok found =
    ap (place_all A.swap_blocks hs) (asks_same (facts_of A.images) k k1 pid change gb refl refl ∙ change_same A.images k flat pid q s change c.images sb.texts n c.numbers t c.found_process c.holds)
    ∙ c.pieces in
    let l : Kernel = change_step (facts_of A.images) k1 pid regs e change in
    let sound : Sound A.swap_blocks l = ready_sound A.swap_blocks (facts_of A.images) k1 hs pid regs e change sound1 n1 ready pieces in
    let numbered_now : Numbered l = flat_numbered (facts_of A.images) k1 pid regs e change (takes_none k1 change gb) ready.alive n1 in
    let told : Told A l after = back_told A k flat pid regs e q m s change gb c.images c.numbers c.found_process c.holds lender.1 c.resident c.clear c.execs t stands in
    let lands : Lands A k pid s.sid e change l = back_lands A k flat pid regs e q m s change a gb in
    let un : Unhanded p (place_change who p change) = change_unhanded who p change in
    let hands : SameHands p (place_change who p change) = un.hands in
    let dues : DueStand l.place = subst DueStand (sym lands.place) (change_due who p change c.clear (can change gb) (is_apart change gb)) in
    let once : EachOnce l.place.due = subst (λ (x : Placement). EachOnce x.due) (sym lands.place) (change_once who p change c.clear) in
    let parts : HaveParts l.place.transfers = subst (λ (x : Placement). HaveParts x.transfers) (sym lands.place) (subst HaveParts (sym un.transfers) st.parts) in
    let frames : length l.place.holds ≡ A.frames = subst (λ (x : Placement). length x.holds ≡ A.frames) (sym lands.place) (hands.frames ∙ st.frames) in
    let fits : Fits (Some s) (numbered space_number s.sid p.spaces) =
    subst (λ (x : Option Space). Fits x (numbered space_number s.sid p.spaces)) (own_space flat pid q s c.numbers c.found_process c.holds) (tb.spaces s.sid) in
    let back : given_up flat after pid s change found ≡ holdings_after who found p l.place change =
    given_same flat after pid s change who found p l.place true w (fit_image s (numbered space_number s.sid p.spaces) fits) (λ z. absurd cc) in
    subst (Placed A after (place_change who p change)) (sym back)
    (subst (λ (x : Placement). Placed A after x (holdings_after who found p l.place change)) lands.place
    (subst (Placed A after l.place) lands.holdings
    (from_machine A after l sound numbered_now told.tables told.stands dues once parts frames)))
  where
    tb : SameTables (machine_of flat p hs) flat
    tb = st.tables

    can : (x : Change) → GivesBack x → CanChange p s.sid true flat.next_sid x
    can (Exec image top) gb = (next_new flat p c.numbers tb.spaces, λ z. absurd cc)
    can (End status) gb = λ z. absurd cc
    can _ gb = absurd gb

    is_apart : (x : Change) → GivesBack x → ApartFrom s.sid true flat.next_sid x
    is_apart (Exec image top) gb = λ z. absurd cc
    is_apart (End status) gb = tt
    is_apart _ gb = absurd gb
