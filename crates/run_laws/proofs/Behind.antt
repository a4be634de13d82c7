-- A process's own step keeps the machine with its bytes at the state of the run.
use Rattle.kernel_laws.proofs.Machine.Processes.{changing_with}
use Rattle.std.proofs.Common.{◌≡◌, ℕ, ◌/◌, Bool, true, ◌||◌, nat_lt, List, [], ◌∷◌, length, Option, Some, None, Result, Ok, refl, sym, ap, ap₂, ◌∙◌, subst}
use Rattle.std.specs.Prelude.{filter_map}
use Rattle.vm_facts.specs.Answers.{ByteWrite}
use Rattle.flat_state.specs.Space.{Space, address_in, puts}
use Rattle.flat_state.specs.Flat.{Holding, Holds, Process, FlatState, Inputs, process_of, can_step, is_ready, ready_if}
use Rattle.vm_facts.specs.declared.page.Page.{Page}
use Rattle.vm_facts.specs.declared.entry.Entry.{Entry}
use Rattle.vm_facts.specs.declared.entry.Entry.TheVariants as entries
use Rattle.swap_book.specs.Holdings.{Holdings}
use Rattle.swap_book.specs.Placing.{place_all}
use Rattle.flat_state.specs.declared.change.Change.{Change}
use Rattle.flat_state.specs.declared.change.Change.TheVariants.{Keep, Resize, Fork, Lend, Exec, Reap, Sleep, End}
use Rattle.flat_state.specs.Change.{apply_writes, apply_change, NamesChild, is_borrower}
use Rattle.flat_state.specs.Journal.{append}
use Rattle.page_model.specs.Pages.{numbered}
use Rattle.page_model.specs.Placement.{Placement, space_number}
use Rattle.page_model.specs.Moves.{touch_all}
use Rattle.page_model.specs.Place.{changing_in, place_change, space_of_holding, space_of_process, facts_of}
use Rattle.page_model.specs.Swapper.{is_out, is_settled}
use Rattle.kernel_model.specs.Kernel.{Kernel}
use Rattle.kernel_model.specs.Coupled.{Fits, SameTables, Coupled}
use Rattle.kernel_model.specs.Sound.{Sound}
use Rattle.kernel_model.specs.ChangeStep.{ran_by}
use Rattle.kernel_model.specs.Numbers.{Numbered}
use Rattle.kernel_model.specs.Start.{ImagesFit}
use Rattle.flat_state.specs.Numbers.{IsNumbered}
use Rattle.flat_state.specs.Lenders.{LendsStand}
use Rattle.kernel_model.specs.Stands.{Stands}
use Rattle.kernel_laws.proofs.Machine.Swaps.{found_at, found_self, ran_coupled}
use Rattle.kernel_laws.proofs.Stands.Changes.{ran_stands}
use Rattle.kernel_laws.proofs.Machine.Takes.{takes_coupled}
use Rattle.kernel_laws.proofs.Sound.Steps.{ran_sound}
use Rattle.kernel_laws.proofs.Sound.NumbersApart.{ran_numbered}
use Rattle.kernel_laws.proofs.Flat.Numbers.{writes_numbered}
use Rattle.kernel_laws.proofs.Flat.Lenders.{writes_lent}
use Rattle.flat_laws.specs.Shown.{IsOneOf, AreOf}
use Rattle.flat_laws.proofs.Shown.{writes_shown}
use Rattle.flat_laws.proofs.Asking.{own_space, change_same}
use Rattle.flat_model.specs.Touched.{touched, page_tested}
use Rattle.flat_model.specs.Step.{Step}
use Rattle.flat_model.specs.Run.{is_refused, step_at, process_of_entry}
use Rattle.flat_model.specs.Asked.{given_up, change_wanted, wanted_in, wanted_if, with_pieces, or_before, held_entry}
use Rattle.run_model.specs.State.{State}
use Rattle.run_model.specs.Wanted.{AllValid}
use Rattle.run_model.specs.After.{place_at, after}
use Rattle.run_model.specs.Snapshot.{written_by, written_in, pages_written}
use Rattle.run_model.specs.Act.{loses_pages}
use Rattle.run_model.specs.Kinds.{ProcessRuns}
use Rattle.kernel_model.specs.Unit.{passing_change}
use Rattle.run_laws.specs.Machine.{write_bytes, write_held, process_written, written_step, taken_step, takes_step, process_step, ran_step, OutRegs, Keeps, StandsAt}
use Rattle.run_laws.proofs.Writing.{SameSpace, space_tables}
use Rattle.run_laws.proofs.Written.{Mid, Rest, IsValidAt, AllWritable, WroteAll, write_all}
use Rattle.run_laws.proofs.Landing.{Landed, Found, step_landed}
use Rattle.run_laws.proofs.OwnChanges.{ReadyChange}
use Rattle.run_laws.proofs.Flows.{steps_own, on_steps, valid_among}
use Rattle.flat_laws.proofs.Forms.{Suits, Formed}
use Rattle.run_laws.proofs.Stepping.{Wrote, wrote, wrote_process, borrows_same, touched_out, touched_settled, settles_for, given_written}
use Rattle.run_laws.proofs.Acts.{Stepper, stepper, Completes, completes, Arrives, arrives, held_is, found_pieces, settled_when, Stepped, ExecsFit, stepped_flat, stepped_form}
use Rattle.run_laws.proofs.Outs.{change_out, regs_stay}

-- Bytes of touched pages are of valid ones.

one_valid : (p : Placement) (qs : List Page) (o : Option Page) → AllValid p qs → IsOneOf qs o → IsValidAt p o
one_valid p qs None a h = h
one_valid p qs (Some q) a h = valid_among p qs q a h

all_writable : (p : Placement) (s : Space) (qs : List Page) (ws : List ByteWrite) → AllValid p qs → AreOf s qs ws → AllWritable p s ws
all_writable p s qs [] a h = tt
all_writable p s qs (w ∷ ws) a h = (one_valid p qs (page_tested s (address_in s w.address)) a h.0, all_writable p s qs ws a h.1)

space_self : (s : Space) → SameSpace s s
space_self s = record { sid = refl; image = refl; text = refl; data_size = refl; stack_size = refl }

ready_here : (flat : FlatState) (pid : ℕ) (q : Process) → can_step flat pid ≡ true → process_of flat pid ≡ Some q → is_ready q ≡ true
ready_here flat pid q c f = ap ready_if (sym f) ∙ c

-- A machine after a step.
pub record Reaches (A : Inputs) (s : State) (u : Entry) (l : Kernel) (image : List ℕ) : Type 0 where
  pub mid : Mid A (after A s u).point.flat l image
  pub place : l.place ≡ (after A s u).place
  pub holdings : l.holdings ≡ (after A s u).holdings
  pub journal : l.journal ≡ append s.journal u

-- The step of a process, and what is known of it.
pub record Whole (A : Inputs) (s : State) (k : Kernel) (u : Entry) (image : List ℕ) (h : Stepped A s u) : Type 0 where
  pub changes : Reaches A s u (process_step A s k h.pid u) image
  pub runs : (n : ℕ) → u ≡ entries.Ran h.pid n → Reaches A s u (ran_step A s k h.pid n) image
  pub out_regs : OutRegs (after A s u).place (after A s u).point.flat
  pub written : Mid A (apply_writes s.point.flat h.pid (step_at A s.point h.pid).writes) (written_step A s k h.pid) image
  pub taken : Coupled (taken_step A s k h.pid) A.images image (apply_writes s.point.flat h.pid (step_at A s.point h.pid).writes)

pub step_reaches : (A : Inputs) (s : State) (k : Kernel) (image : List ℕ) (u : Entry) → ImagesFit A.images → ExecsFit A → IsNumbered s.point.flat
    → LendsStand s.point.flat → StandsAt A s k image
    → (h : Stepped A s u) → AllValid s.place (touched A s.point.flat h.pid)
    → Whole A s k u image h
step_reaches A s k image u images execs numbers lenders at h valid =
    let written : List Page = pages_written flat pid step in
    let own : process_of_entry u ≡ Some pid = steps_own A s.point pid u h.next in
    let r : Arrives A s pid u = arrives A s pid u h.ends own in
    let c : Completes A s.point pid u = completes A s.point pid u h.ends h.next in
    let form : Formed A.images flat x.process x.space (is_refused s.point.last pid) step = stepped_form A s u h x numbers in
    let number : x.process.pid ≡ pid = (found_at flat pid x.process x.here).0 in
    let form_after : step.after ≡ apply_change A.images flat1 pid step.regs step.change =
    form.after ∙ ap (λ (n : ℕ). apply_change A.images (apply_writes flat n step.writes) n step.regs step.change) number in
    let flat_is : (after A s u).point.flat ≡ apply_change A.images flat1 pid step.regs step.change = stepped_flat A s u h ∙ form_after in
    let may : NamesChild flat1 step.change = subst (λ (n : ℕ). NamesChild (apply_writes flat n step.writes) step.change) number form.may in
    let found : (found : Holdings) × (place_all A.swap_blocks s.holdings (change_wanted A.images flat x.space step.change) ≡ Ok found) =
    found_pieces A s pid x.process x.space can x.here x.holds h.unrefused form.wants in
    -- bytes
    let kp : Keeps A flat k image = at.keeps in
    let mid0 : Mid A flat k image = record { sound = kp.sound; numbered = kp.numbered; coupled = kp.coupled; stands = kp.stands } in
    let st0 : Stands A.images k flat = kp.stands in
    let outs : Rattle.kernel_model.specs.Stands.OutHold s.place flat = subst (λ (p : Placement). Rattle.kernel_model.specs.Stands.OutHold p flat) at.place st0.out in
    let pages : List Page = filter_map (λ (w : ByteWrite). page_tested x.space (address_in x.space w.address)) step.writes in
    let k1 : Kernel = write_bytes k x.space step.writes in
    let bytes : WroteAll A flat1 k k1 image pages =
    write_all step.writes A flat k image pid x.process x.space x.space mid0 (ap (λ (p : Placement). p.due) at.place ∙ runs.clear) numbers x.here x.holds (space_self x.space)
    (all_writable k.place x.space (touched A flat pid) step.writes (subst (λ (p : Placement). AllValid p (touched A flat pid)) (sym at.place) valid)
    (writes_shown A flat pid x.process x.space (is_refused s.point.last pid) x.here (ready_here flat pid x.process can x.here) x.holds)) in
    let rest : Rest k k1 = bytes.rest in
    let k1_is : written_step A s k pid ≡ k1 = ap (λ (o : Option Process). process_written k o step.writes) x.here ∙ ap (λ (y : Holding). write_held k y step.writes) x.holds in
    let written_is : written ≡ pages = ap (λ (o : Option Process). written_by o step.writes) x.here ∙ ap (λ (y : Holding). written_in y step.writes) x.holds in
    let p1 : Placement = touch_all s.place written in
    let place1 : k1.place ≡ p1 = bytes.place ∙ ap₂ (λ (p : Placement) (qs : List Page). touch_all p qs) at.place (sym written_is) in
    let still_out : (n : ℕ) → is_out p1 n ≡ true → is_out s.place n ≡ true = λ n e. sym (touched_out written s.place n) ∙ e in
    let q1 : Process = record x.process { holding = Holds z } in
    let here : process_of flat1 pid ≡ Some q1 = subst (λ (y : FlatState). process_of y pid ≡ Some q1) (sym w.is) (wrote_process flat pid x.process z x.here) in
    let numbers1 : IsNumbered flat1 = writes_numbered flat pid step.writes x.process x.space x.here x.holds numbers in
    let lenders1 : LendsStand flat1 = writes_lent flat pid step.writes x.process x.space x.here x.holds lenders in
    let mid1 : Mid A flat1 k1 image = bytes.mid in
    let c0 : Coupled k A.images image flat = kp.coupled in
    let c1 : Coupled k1 A.images image flat1 = mid1.coupled in
    let t0 : SameTables k flat = c0.tables in
    let t1 : SameTables k1 flat1 = c1.tables in
    let st1 : Stands A.images k1 flat1 = mid1.stands in
    let borrows : is_borrower flat1.processes pid ≡ is_borrower flat.processes pid =
    borrows_same flat1.processes flat.processes pid
    (sym t1.processes ∙ ap (λ (ps : List Rattle.kernel_model.specs.Kernel.Proc). Rattle.std.specs.Prelude.map Rattle.kernel_model.specs.Coupled.outline_kept ps) rest.processes ∙ t0.processes) in
    let next : k1.next_sid ≡ flat.next_sid = rest.next_sid ∙ t0.next_sid in
    -- with the pieces
    let k2 : Kernel = record k1 { holdings = found.0 } in
    let held1 : k1.holdings ≡ s.holdings = rest.holdings ∙ at.holdings in
    let k2_is : taken_step A s k pid ≡ k2 =
    ap (λ (y : Kernel). takes_step A y (wanted_if A.images flat step.change (process_of flat pid))) k1_is
    ∙ ap (λ (o : Option Process). takes_step A k1 (wanted_if A.images flat step.change o)) x.here
    ∙ ap (λ (y : Holding). takes_step A k1 (wanted_in A.images flat step.change y)) x.holds
    ∙ ap (λ (hs : Holdings). let y : Kernel = record k1 { holdings = with_pieces A (change_wanted A.images flat x.space step.change) hs } in y) held1
    ∙ ap (λ (o : Result Holdings ℕ). let y : Kernel = record k1 { holdings = or_before s.holdings o } in y) found.1 in
    let wanted1 : change_wanted A.images flat1 z step.change ≡ change_wanted A.images flat x.space step.change =
    let t01 : SameTables k flat1 = subst (SameTables k) (sym w.is) (space_tables k flat x.process x.space z numbers (found_self flat pid x.process x.here) x.holds same t0) in
    sym (change_same A.images k flat1 pid q1 z step.change images st0.texts kp.numbered numbers1 t01 here refl)
    ∙ change_same A.images k flat pid x.process x.space step.change images st0.texts kp.numbered numbers t0 x.here x.holds in
    let pieces1 : place_all A.swap_blocks s.holdings (change_wanted A.images flat1 z step.change) ≡ Ok found.0 = ap (place_all A.swap_blocks s.holdings) wanted1 ∙ found.1 in
    let ready : Found A flat1 k2 image s.holdings = record {
      sound = subst (λ (hs : Holdings). Sound A.swap_blocks (record k1 { holdings = hs })) held1 mid1.sound;
      numbered = let n1 : Numbered k1 =
          mid1.numbered in record { spaces_differ = n1.spaces_differ; spaces_below = n1.spaces_below; pids_differ = n1.pids_differ; pids_below = n1.pids_below; residents = n1.residents };
      coupled = takes_coupled A.swap_blocks k1 A.images image flat1 (change_wanted A.images flat1 z step.change) found.0 st1.texts
          (ap (λ (hs : Holdings). place_all A.swap_blocks hs (change_wanted A.images flat1 z step.change)) held1 ∙ pieces1) c1;
      stands = record { starts = st1.starts; texts = st1.texts; out = st1.out };
    } in
    let changing : ReadyChange A flat1 k1.place s.holdings found.0 pid q1 z step.change = record {
      images = images;
      numbers = numbers1;
      found_process = here;
      holds = refl;
      resident = ap (λ (p : Placement). is_out p pid) place1 ∙ touched_out written s.place pid ∙ runs.resident;
      clear = rest.due ∙ ap (λ (p : Placement). p.due) at.place ∙ runs.clear;
      may = may;
      execs = execs flat pid (is_refused s.point.last pid);
      pieces = pieces1;
    } in
    let fits1 : Fits (Some z) (numbered space_number z.sid k1.place.spaces) =
    subst (λ (o : Option Space). Fits o (numbered space_number z.sid k1.place.spaces)) (own_space flat1 pid q1 z numbers1 here refl) (t1.spaces z.sid) in
    let settled : loses_pages z (is_borrower flat.processes pid) step.change ≡ true → is_settled k1.place z.sid ≡ true = λ l.
    ap (λ (p : Placement). is_settled p z.sid) place1 ∙ ap (is_settled p1) same.sid ∙ touched_settled written s.place x.space.sid
    ∙ settled_when A s pid x.process x.space x.here x.holds h.unsettling (sym (loses step.change (is_borrower flat.processes pid)) ∙ l) in
    let landed : Landed A (apply_change A.images flat1 pid step.regs step.change) k2 (passing_change (is_borrower flat.processes pid) (facts_of A.images) k2 pid step.regs u step.change) image pid
    z.sid (is_borrower flat.processes pid) u step.change (given_up flat1 (apply_change A.images flat1 pid step.regs step.change) pid z step.change found.0) =
    step_landed A k2 flat1 image s.holdings pid step.regs u q1 z (is_borrower flat.processes pid) step.change changing lenders1 borrows
    (λ o. settles_for k1.place z (is_borrower flat.processes pid) step.change o fits1 settled) ready in
    let sid_is : z.sid ≡ space_of_process (process_of flat pid) = same.sid ∙ sym (ap space_of_process x.here ∙ ap space_of_holding x.holds) in
    let journal1 : k1.journal ≡ s.journal = rest.journal ∙ at.journal in
    let changes : Reaches A s u (process_step A s k pid u) image =
    subst (λ (y : Kernel). Reaches A s u (passing_change (is_borrower flat.processes pid) (facts_of A.images) y pid step.regs u step.change) image) (sym k2_is) (record {
      mid = subst (λ (y : FlatState). Mid A y (passing_change (is_borrower flat.processes pid) (facts_of A.images) k2 pid step.regs u step.change) image) (sym flat_is) landed.mid;
      place = landed.place
          ∙ ap (λ (p : Placement). place_change (changing_with (facts_of A.images) k1 pid z.sid (is_borrower flat.processes pid) u) p step.change) place1
          ∙ ap (λ (n : ℕ). place_change (changing_with (facts_of A.images) k1 pid n (is_borrower flat.processes pid) u) p1 step.change) sid_is
          ∙ ap (λ (n : ℕ). place_change (record (changing_in (facts_of A.images) flat pid (length (append k1.journal u))) { next_sid = n }) p1 step.change) next
          ∙ ap (λ (j : List Entry). place_change (changing_in (facts_of A.images) flat pid (length (append j u))) p1 step.change)
          journal1
          ∙ sym r.place;
      holdings = landed.holdings ∙ given_written flat flat1 (apply_change A.images flat1 pid step.regs step.change) pid x.space z step.change found.0 same.sid same.image borrows
          ∙ ap (λ (y : FlatState). given_up flat y pid x.space step.change found.0) (sym form_after)
          ∙ sym (r.holdings ∙ held_is A s pid u x.process x.space found.0 h.ends own x.here x.holds (c.suits step.change form.suits) found.1);
      journal = landed.journal ∙ ap (λ (j : List Entry). append j u) journal1;
    }) in
    let runs_on : (n : ℕ) → u ≡ entries.Ran pid n → Reaches A s u (ran_step A s k pid n) image = λ n i.
    let keep : step.change ≡ Keep = subst (λ (y : Entry). Suits (y ∷ []) step.change) i (c.suits step.change form.suits) in
    subst (λ (y : Kernel). Reaches A s u (ran_by y pid step.regs (entries.Ran pid n)) image) (sym k1_is)
    (subst (λ (y : Entry). Reaches A s u (ran_by k1 pid step.regs y) image) i (record {
      mid = subst (λ (y : FlatState). Mid A y (ran_by k1 pid step.regs u) image) (sym (flat_is ∙ ap (apply_change A.images flat1 pid step.regs) keep)) (record {
        sound = ran_sound A.swap_blocks k1 pid step.regs u mid1.sound;
        numbered = ran_numbered k1 pid step.regs u mid1.numbered;
        coupled = ran_coupled k1 A.images image flat1 pid step.regs u q1 z here refl changing.resident c1;
        stands = ran_stands A.images k1 flat1 pid step.regs u q1 z here refl changing.resident st1;
      });
      place = place1
          ∙ sym (r.place ∙ ap (λ (y : Change). place_change (changing_in (facts_of A.images) flat pid (place_at s u)) p1 y) keep);
      holdings = held1 ∙ sym (r.holdings ∙ ap (λ (y : Entry). held_entry A s.point y s.holdings) i);
      journal = ap (λ (j : List Entry). append j u) journal1;
    })) in
    record {
      changes = changes;
      runs = runs_on;
      written = subst (λ (y : Kernel). Mid A flat1 y image) (sym k1_is) mid1;
      taken = subst (λ (y : Kernel). Coupled y A.images image flat1) (sym k2_is) ready.coupled;
      out_regs = subst (λ (x : FlatState). OutRegs (after A s u).place x) (sym flat_is)
          (regs_stay A.images flat s.place (after A s u).place pid step.writes step.regs step.change runs.resident outs may
          (λ n e. still_out n (change_out (changing_in (facts_of A.images) flat pid (place_at s u)) (touch_all s.place written) step.change n (ap (λ (p : Placement). is_out p n) (sym r.place) ∙ e)))
          (subst (λ (p : Placement). OutRegs p flat) at.place kp.out_regs));
    }
  where
    pid : ℕ
    pid = h.pid

    flat : FlatState
    flat = s.point.flat

    step : Step
    step = step_at A s.point pid

    runs : ProcessRuns A s pid h.now
    runs = h.runs

    can : can_step flat pid ≡ true
    can = on_steps A s s.mark pid h.now runs.on

    x : Stepper flat pid
    x = stepper flat pid can

    flat1 : FlatState
    flat1 = apply_writes flat pid step.writes

    -- the flat state with them
    z : Space
    z = puts x.space step.writes

    w : Wrote flat flat1 pid x.process x.space z
    w = wrote flat pid step.writes x.process x.space x.here x.holds

    same : SameSpace x.space z
    same = w.same

    loses : (y : Change) (b : Bool) → loses_pages z b y ≡ loses_pages x.space b y
    loses Keep b = refl
    loses (Resize d t) b = ap₂ (λ (i k : ℕ). nat_lt d (i / 1024) || nat_lt t (k / 1024)) same.data_size same.stack_size
    loses (Fork child) b = refl
    loses (Lend child) b = refl
    loses (Exec image top) b = refl
    loses (Reap child) b = refl
    loses Sleep b = refl
    loses (End status) b = refl
