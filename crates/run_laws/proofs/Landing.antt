-- A change of a process keeps the machine with its bytes, and lands where the state of the run does.
use Rattle.std.proofs.Common.{◌≡◌, ℕ, Bool, true, false, List, [], Option, Some, Ok, refl, sym, ap, ◌∙◌, subst}
use Rattle.flat_state.specs.Space.{Space}
use Rattle.flat_state.specs.Flat.{Process, FlatState, Inputs}
use Rattle.vm_facts.specs.declared.regs.Regs.{Regs}
use Rattle.vm_facts.specs.declared.entry.Entry.{Entry}
use Rattle.swap_book.specs.Holdings.{Holdings}
use Rattle.swap_book.specs.Placing.{place_all}
use Rattle.flat_state.specs.declared.change.Change.{Change}
use Rattle.flat_state.specs.declared.change.Change.TheVariants.{Keep, Resize, Fork, Lend, Exec, Reap, Sleep, End}
use Rattle.flat_state.specs.Change.{apply_change, is_borrower}
use Rattle.flat_state.specs.Journal.{append}
use Rattle.page_model.specs.Pages.{numbered}
use Rattle.page_model.specs.Placement.{space_number, image_of, sharers}
use Rattle.page_model.specs.Place.{place_change, facts_of}
use Rattle.page_model.specs.Conditions.{MayForget}
use Rattle.page_model.specs.Ownership.{OneOwner}
use Rattle.kernel_model.specs.Kernel.{Kernel, Life}
use Rattle.kernel_model.specs.Coupled.{Fits, SameTables, Coupled}
use Rattle.kernel_model.specs.Sound.{Sound, lives, lives_in, has_life}
use Rattle.kernel_model.specs.ChangeStep.{change_step, pass_step, holdings_after, space_of_life, gave_back, life_of_proc}
use Rattle.kernel_model.specs.Asks.{asked}
use Rattle.kernel_model.specs.Numbers.{Numbered, SettlesFor, ReadyFor}
use Rattle.kernel_model.specs.Start.{ImageFits}
use Rattle.flat_state.specs.Numbers.{IsNumbered}
use Rattle.flat_state.specs.Lenders.{LendsStand, IsLender}
use Rattle.kernel_model.specs.Stands.{Stands}
use Rattle.page_laws.proofs.Bytes.Others.{settled_rests}
use Rattle.kernel_laws.proofs.Sound.Steps.{pass_sound}
use Rattle.kernel_laws.proofs.Sound.NumbersApart.{flat_numbered, pass_numbered}
use Rattle.kernel_laws.proofs.Sound.Allowed.{ready_sound, may_change}
use Rattle.kernel_laws.proofs.Machine.Ready.{coupled_ready}
use Rattle.kernel_laws.proofs.Machine.Forks.{fit_image, fork_coupled_step}
use Rattle.kernel_laws.proofs.Machine.Still.{keep_coupled, sleep_coupled, reap_coupled}
use Rattle.kernel_laws.proofs.Machine.Breaks.{resize_coupled_step}
use Rattle.kernel_laws.proofs.Machine.Lends.{lend_coupled_step}
use Rattle.kernel_laws.proofs.Machine.Execs.{exec_coupled_step}
use Rattle.kernel_laws.proofs.Machine.Ends.{end_coupled_step}
use Rattle.kernel_laws.proofs.Machine.Returns.{Borrowing, borrowing, exec_back, end_back}
use Rattle.kernel_laws.proofs.Flat.Lenders.{lender_found}
use Rattle.kernel_laws.proofs.Flat.Numbers.{changes_numbered}
use Rattle.kernel_laws.proofs.Machine.Processes.{changing_with, Stepping, stepping}
use Rattle.flat_laws.proofs.Asking.{own_space, shared_same, no_sharers, some_sharers, change_same}
use Rattle.flat_model.specs.Asked.{is_shared, given_up}
use Rattle.kernel_laws.proofs.Kept.Changes.{takes_next, may_reap, GivesBack, takes_none, back_ready, enters_own, ends_own}
use Rattle.run_laws.specs.Standing.{Own}
use Rattle.kernel_model.specs.Unit.{lender_among, passing_change}
use Rattle.kernel_laws.proofs.Kept.Borrowed.{lender_is}
use Rattle.run_laws.proofs.Changes.{given_same}
use Rattle.run_laws.proofs.OwnChanges.{ReadyChange, keeps_place, keeps_holdings, own_told, own_kept, own_lands}
use Rattle.run_laws.proofs.OwnChanges as own
use Rattle.run_laws.proofs.BackChanges.{back_told, back_lands, asks_same}
use Rattle.run_laws.proofs.BackChanges as back
use Rattle.run_laws.proofs.Acts.{none_found}
use Rattle.run_laws.proofs.Written.{Mid}

-- the machine after a change
pub record Landed (A : Inputs) (after : FlatState) (k l : Kernel) (image : List ℕ) (pid sid : ℕ) (b : Bool) (e : Entry) (change : Change)
    (held : Holdings) : Type 0 where
  pub mid : Mid A after l image
  pub place : l.place ≡ place_change (changing_with (facts_of A.images) k pid sid b e) k.place change
  pub holdings : l.holdings ≡ held
  pub journal : l.journal ≡ append k.journal e

-- a machine that found the pieces of a change
pub record Found (A : Inputs) (flat : FlatState) (k : Kernel) (image : List ℕ) (before : Holdings) : Type 0 where
  pub sound : Sound A.swap_blocks (record k { holdings = before })
  pub numbered : Numbered k
  pub coupled : Coupled k A.images image flat
  pub stands : Stands A.images k flat

-- with no pieces it is as sound as it was
found_none : (A : Inputs) (flat : FlatState) (k : Kernel) (image : List ℕ) (before : Holdings) → Found A flat k image before
    → place_all A.swap_blocks before [] ≡ Ok k.holdings → Sound A.swap_blocks k
found_none A flat k image before x e = subst (λ (hs : Holdings). Sound A.swap_blocks (record k { holdings = hs })) (none_found A before k.holdings [] refl e) x.sound

-- Who keeps its space, or has one of its own.

own_coupled : (A : Inputs) (k : Kernel) (flat : FlatState) (image : List ℕ) (before : Holdings) (pid : ℕ) (regs : Regs) (e : Entry) (q : Process) (s : Space)
    (b : Bool) (change : Change)
    → ReadyChange A flat k.place before k.holdings pid q s change → is_borrower flat.processes pid ≡ b
    → Own b change → SettlesFor k.place s.sid change → MayForget (facts_of A.images) k.place s.sid false k.next_sid change → Found A flat k image before
    → Coupled (passing_change false (facts_of A.images) k pid regs e change) A.images image (apply_change A.images flat pid regs change)
own_coupled A k flat image before pid regs e q s b Keep c w o z y x = keep_coupled k A.images image flat pid regs e q s c.numbers c.found_process c.holds c.resident x.coupled
own_coupled A k flat image before pid regs e q s b (Resize d r) c w o z y x =
    let st : Stands A.images k flat = x.stands in resize_coupled_step k A.images image flat pid regs e d r q s c.numbers st.out c.clear c.found_process c.holds c.resident x.coupled
own_coupled A k flat image before pid regs e q s b (Fork child) c w o z y x = let st : Stands A.images k flat = x.stands in
    subst (λ (n : ℕ). Coupled (passing_change false (facts_of A.images) k pid regs e (Fork n)) A.images image (apply_change A.images flat pid regs (Fork n))) (sym c.may)
    (fork_coupled_step k A.images image flat pid regs e q s c.numbers st.out c.clear c.found_process c.holds c.resident x.coupled)
own_coupled A k flat image before pid regs e q s b (Lend child) c w o z y x = let st : Stands A.images k flat = x.stands in
    subst (λ (n : ℕ). Coupled (passing_change false (facts_of A.images) k pid regs e (Lend n)) A.images image (apply_change A.images flat pid regs (Lend n))) (sym c.may)
    (lend_coupled_step k A.images image flat pid regs e q s c.numbers st.out c.found_process c.holds c.resident x.coupled)
own_coupled A k flat image before pid regs e q s b (Exec number top) c w o z y x =
    let st : Stands A.images k flat = x.stands in
    let so : Sound A.swap_blocks (record k { holdings = before }) = x.sound in
    let ow : OneOwner A.swap_blocks (lives k.processes) k.place before = so.owner in
    let i : ImageFits c.execs.0 = c.images number c.execs.0 c.execs.1 in
    exec_coupled_step A.swap_blocks before k A.images image flat pid regs e number top c.execs.0 q s so c.numbers st.out c.clear st.starts c.found_process c.holds
    (w ∙ enters_own b number top o) c.resident (settled_rests k.place s.sid ow.frames z) y c.execs.1 i.«data» c.execs.2 x.coupled
own_coupled A k flat image before pid regs e q s b (Reap child) c w o z y x =
    reap_coupled k A.images image flat pid regs e child c.may.1 q c.may.0 s c.numbers c.found_process c.holds c.resident c.may.2 c.may.3 x.coupled
own_coupled A k flat image before pid regs e q s b Sleep c w o z y x = sleep_coupled k A.images image flat pid regs e q s c.numbers c.found_process c.holds c.resident x.coupled
own_coupled A k flat image before pid regs e q s b (End status) c w o z y x =
    let st : Stands A.images k flat = x.stands in
    let so : Sound A.swap_blocks k = found_none A flat k image before x c.pieces in
    let ow : OneOwner A.swap_blocks (lives k.processes) k.place k.holdings = so.owner in
    end_coupled_step A.swap_blocks k A.images image flat pid regs e status q s so c.numbers st.out c.clear c.found_process c.holds (w ∙ ends_own b status o)
    (settled_rests k.place s.sid ow.frames z) y x.coupled

pub own_landed : (A : Inputs) (k : Kernel) (flat : FlatState) (image : List ℕ) (before : Holdings) (pid : ℕ) (regs : Regs) (e : Entry) (q : Process) (s : Space)
    (b : Bool) (change : Change)
    → ReadyChange A flat k.place before k.holdings pid q s change → is_borrower flat.processes pid ≡ b
    → Own b change → SettlesFor k.place s.sid change → Found A flat k image before
    → Landed A (apply_change A.images flat pid regs change) k (passing_change false (facts_of A.images) k pid regs e change) image pid s.sid b e change
    (given_up flat (apply_change A.images flat pid regs change) pid s change k.holdings)
own_landed A k flat image before pid regs e q s b change c w o settles x =
    let after : FlatState = apply_change A.images flat pid regs change in
    let cp : Coupled k A.images image flat = x.coupled in
    let t : SameTables k flat = cp.tables in
    let st : Stands A.images k flat = x.stands in
    let so : Sound A.swap_blocks (record k { holdings = before }) = x.sound in
    let ready : ReadyFor k pid change = coupled_ready k flat pid q s change t c.found_process c.holds (takes_next k flat change t c.may) (may_reap k flat change t c.may) settles in
    let pieces : place_all A.swap_blocks before (asked (facts_of A.images) k pid change) ≡ Ok k.holdings =
    ap (place_all A.swap_blocks before) (change_same A.images k flat pid q s change c.images st.texts x.numbered c.numbers t c.found_process c.holds) ∙ c.pieces in
    let l : Kernel = passing_change false (facts_of A.images) k pid regs e change in
    let kept : own.Kept A l =
    own_kept A k flat pid regs e q s change c.numbers c.found_process c.holds t c.may (ready_sound A.swap_blocks (facts_of A.images) k before pid regs e change so x.numbered ready pieces)
    (flat_numbered (facts_of A.images) k pid regs e change (takes_next k flat change t c.may) ready.alive x.numbered) in
    let told : own.Told A l after = own_told A k flat pid regs e q s b change c.images c.numbers c.found_process c.holds w o c.resident c.clear c.may c.execs t st in
    let lands : own.Lands A k pid s.sid e change l = own_lands A k flat pid regs e q s change c.found_process c.holds t in
    let g : Stepping k flat pid q s = stepping k flat pid q s t c.found_process c.holds in
    let ow : OneOwner A.swap_blocks (lives k.processes) k.place before = so.owner in
    let forgets : MayForget (facts_of A.images) k.place s.sid false k.next_sid change =
    subst (λ (y : Life). MayForget (facts_of A.images) k.place (space_of_life y) (gave_back y) k.next_sid change) (ap life_of_proc g.kept ∙ g.life)
    (may_change (facts_of A.images) k pid change ow.frames x.numbered ready).forgets in
    let coupled : Coupled l A.images image after = own_coupled A k flat image before pid regs e q s b change c w o settles forgets x in
    let fits : Fits (Some s) (numbered space_number s.sid k.place.spaces) =
    subst (λ (y : Option Space). Fits y (numbered space_number s.sid k.place.spaces)) (own_space flat pid q s c.numbers c.found_process c.holds) (t.spaces s.sid) in
    let numbers : IsNumbered after = changes_numbered A.images flat pid regs change q s c.found_process c.holds c.may c.numbers in
    let shared : is_shared after s.image ≡ Rattle.flat_laws.proofs.Asking.is_some_of Rattle.flat_laws.proofs.Asking.image_of_pages s.image l.place.spaces =
    shared_same l after s.image kept.numbered numbers told.tables in
    let same_image : image_of k.place s.sid ≡ s.image = fit_image s (numbered space_number s.sid k.place.spaces) fits in
    let back : given_up flat after pid s change k.holdings ≡ holdings_after (changing_with (facts_of A.images) k pid s.sid false e) k.holdings k.place l.place change =
    given_same flat after pid s change (changing_with (facts_of A.images) k pid s.sid b e) k.holdings k.place l.place b w same_image
    (λ z. (
      (λ i. shared ∙ no_sharers s.image l.place.spaces (ap (sharers l.place) (sym same_image) ∙ i)),
      (λ m i. shared
          ∙ some_sharers s.image m l.place.spaces (ap (sharers l.place) (sym same_image) ∙ i)),
    ))
    ∙ keeps_holdings (changing_with (facts_of A.images) k pid s.sid b e) k.holdings k.place l.place change o in
    record {
      mid = record { sound = kept.sound; numbered = kept.numbered; coupled = coupled; stands = told.stands };
      place = lands.place ∙ keeps_place (changing_with (facts_of A.images) k pid s.sid b e) k.place change o;
      holdings = lands.holdings ∙ sym back;
      journal = lands.journal;
    }

-- Who borrowed its space, and gives it back.

back_coupled : (A : Inputs) (k : Kernel) (flat : FlatState) (image : List ℕ) (before : Holdings) (pid : ℕ) (regs : Regs) (e : Entry) (q m : Process)
    (s : Space) (change : Change)
    → ReadyChange A flat k.place before k.holdings pid q s change → IsLender flat pid s.sid m → GivesBack change
    → Found A flat k image before → Coupled (change_step (facts_of A.images) (pass_step k pid m.pid) pid regs e change) A.images image
    (apply_change A.images flat pid regs change)
back_coupled A k flat image before pid regs e q m s (Exec number top) c is gb x =
    let st : Stands A.images k flat = x.stands in
    let i : ImageFits c.execs.0 = c.images number c.execs.0 c.execs.1 in
    exec_back A.swap_blocks before k A.images image flat pid regs e number top c.execs.0 q m s x.sound c.numbers st.out c.clear st.starts c.found_process c.holds is c.resident c.execs.1
    i.«data» c.execs.2 x.coupled
back_coupled A k flat image before pid regs e q m s (End status) c is gb x =
    let st : Stands A.images k flat = x.stands in
    end_back A.swap_blocks k A.images image flat pid regs e status q m s (found_none A flat k image before x c.pieces) c.numbers st.out c.clear c.found_process c.holds is x.coupled
back_coupled A k flat image before pid regs e q m s _ c is gb x = absurd gb

back_is : (A : Inputs) (k : Kernel) (pid n : ℕ) (regs : Regs) (e : Entry) (change : Change) → GivesBack change → lender_among k.processes pid ≡ n
    → passing_change true (facts_of A.images) k pid regs e change ≡ change_step (facts_of A.images) (pass_step k pid n) pid regs e change
back_is A k pid n regs e (Exec number top) gb i = ap (λ (m : ℕ). change_step (facts_of A.images) (pass_step k pid m) pid regs e (Exec number top)) i
back_is A k pid n regs e (End status) gb i = ap (λ (m : ℕ). change_step (facts_of A.images) (pass_step k pid m) pid regs e (End status)) i
back_is A k pid n regs e _ gb i = absurd gb

pub back_landed : (A : Inputs) (k : Kernel) (flat : FlatState) (image : List ℕ) (before : Holdings) (pid : ℕ) (regs : Regs) (e : Entry) (q : Process)
    (s : Space) (change : Change)
    → ReadyChange A flat k.place before k.holdings pid q s change → LendsStand flat → is_borrower flat.processes pid ≡ true → GivesBack change
    → Found A flat k image before
    → Landed A (apply_change A.images flat pid regs change) k (passing_change true (facts_of A.images) k pid regs e change) image pid s.sid true e change
    (given_up flat (apply_change A.images flat pid regs change) pid s change k.holdings)
back_landed A k flat image before pid regs e q s change c lend w gb x =
    let after : FlatState = apply_change A.images flat pid regs change in
    let cp : Coupled k A.images image flat = x.coupled in
    let t : SameTables k flat = cp.tables in
    let st : Stands A.images k flat = x.stands in
    let lender : (m : Process) × IsLender flat pid s.sid m = lender_found flat pid q s c.found_process c.holds w c.numbers lend in
    let m : Process = lender.0 in
    let a : Borrowing k flat pid q m s = borrowing k flat pid q m s t c.found_process c.holds lender.1 in
    let g : Stepping k flat pid q s = a.step in
    let k1 : Kernel = pass_step k pid m.pid in
    let sound1 : Sound A.swap_blocks (record k1 { holdings = before }) =
    pass_sound A.swap_blocks (record k { holdings = before }) pid m.pid (ap lives_in g.kept ∙ ap has_life g.life) (ap lives_in a.kept ∙ ap has_life a.life) x.sound in
    let n1 : Numbered k1 = pass_numbered k pid m.pid (ap lives_in g.kept ∙ ap has_life g.life) (ap lives_in a.kept ∙ ap has_life a.life) x.numbered in
    let ready : ReadyFor k1 pid change = back_ready k flat pid q m s change a gb in
    let pieces : place_all A.swap_blocks before (asked (facts_of A.images) k1 pid change) ≡ Ok k.holdings =
    ap (place_all A.swap_blocks before)
    (asks_same (facts_of A.images) k k1 pid change gb refl refl ∙ change_same A.images k flat pid q s change c.images st.texts x.numbered c.numbers t c.found_process c.holds) ∙ c.pieces in
    let l : Kernel = change_step (facts_of A.images) k1 pid regs e change in
    let sound : Sound A.swap_blocks l = ready_sound A.swap_blocks (facts_of A.images) k1 before pid regs e change sound1 n1 ready pieces in
    let told : back.Told A l after = back_told A k flat pid regs e q m s change gb c.images c.numbers c.found_process c.holds lender.1 c.resident c.clear c.execs t st in
    let lands : back.Lands A k pid s.sid e change l = back_lands A k flat pid regs e q m s change a gb in
    let fits : Fits (Some s) (numbered space_number s.sid k.place.spaces) =
    subst (λ (y : Option Space). Fits y (numbered space_number s.sid k.place.spaces)) (own_space flat pid q s c.numbers c.found_process c.holds) (t.spaces s.sid) in
    subst (λ (y : Kernel). Landed A after k y image pid s.sid true e change (given_up flat after pid s change k.holdings))
    (sym (back_is A k pid m.pid regs e change gb (lender_is k flat pid s.sid m t c.numbers lender.1))) (record {
      mid = record {
        sound = sound;
        numbered = flat_numbered (facts_of A.images) k1 pid regs e change (takes_none k1 change gb) ready.alive n1;
        coupled = back_coupled A k flat image before pid regs e q m s change c lender.1 gb x;
        stands = told.stands;
      };
      place = lands.place;
      holdings = lands.holdings ∙ sym (given_same flat after pid s change (changing_with (facts_of A.images) k pid s.sid true e) k.holdings k.place l.place true w
          (fit_image s (numbered space_number s.sid k.place.spaces) fits) (λ z. absurd cc));
      journal = lands.journal;
    })

-- Either, by whether the process borrowed.

pub step_landed : (A : Inputs) (k : Kernel) (flat : FlatState) (image : List ℕ) (before : Holdings) (pid : ℕ) (regs : Regs) (e : Entry) (q : Process)
    (s : Space) (b : Bool) (change : Change)
    → ReadyChange A flat k.place before k.holdings pid q s change → LendsStand flat → is_borrower flat.processes pid ≡ b
    → (Own b change → SettlesFor k.place s.sid change) → Found A flat k image before
    → Landed A (apply_change A.images flat pid regs change) k (passing_change b (facts_of A.images) k pid regs e change) image pid s.sid b e change
    (given_up flat (apply_change A.images flat pid regs change) pid s change k.holdings)
step_landed A k flat image before pid regs e q s false change c lend w settles x = own_landed A k flat image before pid regs e q s false change c w (own_of change) (settles (own_of change)) x
  where
    own_of : (y : Change) → Own false y
    own_of Keep = tt
    own_of (Resize d t) = tt
    own_of (Fork child) = tt
    own_of (Lend child) = tt
    own_of (Exec number top) = tt
    own_of (Reap child) = tt
    own_of Sleep = tt
    own_of (End status) = tt
step_landed A k flat image before pid regs e q s true Keep c lend w settles x = own_landed A k flat image before pid regs e q s true Keep c w tt (settles tt) x
step_landed A k flat image before pid regs e q s true (Resize d r) c lend w settles x = own_landed A k flat image before pid regs e q s true (Resize d r) c w tt (settles tt) x
step_landed A k flat image before pid regs e q s true (Fork child) c lend w settles x = own_landed A k flat image before pid regs e q s true (Fork child) c w tt (settles tt) x
step_landed A k flat image before pid regs e q s true (Lend child) c lend w settles x = own_landed A k flat image before pid regs e q s true (Lend child) c w tt (settles tt) x
step_landed A k flat image before pid regs e q s true (Exec number top) c lend w settles x = back_landed A k flat image before pid regs e q s (Exec number top) c lend w tt x
step_landed A k flat image before pid regs e q s true (Reap child) c lend w settles x = own_landed A k flat image before pid regs e q s true (Reap child) c w tt (settles tt) x
step_landed A k flat image before pid regs e q s true Sleep c lend w settles x = own_landed A k flat image before pid regs e q s true Sleep c w tt (settles tt) x
step_landed A k flat image before pid regs e q s true (End status) c lend w settles x = back_landed A k flat image before pid regs e q s (End status) c lend w tt x
