-- The pages that the hands pass over, by what the machine tells.
use Rattle.std.proofs.Common.{◌≡◌, ℕ, ◌+◌, Bool, true, false, not, ◌&&◌, List, [], ◌∷◌, slice_get, option_map, Option, Some, None, refl, sym, ap, ◌∙◌, arith}
use Rattle.std.proofs.lemmas.Option.{same_Some}
use Rattle.vm_facts.specs.SwapImages.{SwapImage}
use Rattle.vm_facts.specs.declared.entry.Entry.{Entry}
use Rattle.vm_facts.specs.declared.entry.Entry.TheVariants as entries
use Rattle.vm_facts.specs.declared.page.Page.{Page}
use Rattle.vm_facts.specs.declared.regs.Regs.{Regs}
use Rattle.io_edge.specs.FileHolding.{NamedFile}
use Rattle.flat_state.specs.Flat.{Process, FlatState, Inputs, can_step}
use Rattle.flat_state.specs.Space.{Space}
use Rattle.flat_model.specs.Touched.{touched}
use Rattle.page_model.specs.Placement.{Placement, Due, Start, CopyOf}
use Rattle.page_model.specs.Swapper.{is_out}
use Rattle.flat_model.proofs.Idle.{idle_touches}
use Rattle.machine_state.specs.Calls.{due_and_parent}
use Rattle.machine_state.specs.Machine.{Standing}
use Rattle.step_judge.specs.Callers.{regs_of}
use Rattle.run_model.specs.declared.mark.Mark.{Mark}
use Rattle.run_model.specs.declared.mark.Mark.TheVariants as marks
use Rattle.run_model.specs.Act.{LastSays}
use Rattle.run_model.specs.Snapshot.{touched_of, before_absent, passed_over}
use Rattle.run_model.specs.State.{State}
use Rattle.run_model.specs.Wanted.{running, touched_next, locked}
use Rattle.run_laws.specs.Machine.{Keeps, StandsAt}
use Rattle.run_laws.specs.Running.{IsRun}
use Rattle.run_laws.specs.Standing.{Placed}
use Rattle.run_laws.specs.Flowing.{WaitsBy}
use Rattle.step_judge.specs.Serving.{At}
use Rattle.step_judge.specs.RunUnitsTouching.{RunsInSpace}
use Rattle.step_judge.specs.Touching.{RunsWith}
use Rattle.step_judge.proofs.Tables.{regs_is, is_kept}
use Rattle.paged_laws.specs.Led.{with_others}
use Rattle.paged_laws.specs.Paged.{Steady, under_dispatch, IsPaged}
use Rattle.step_judge.specs.Choosing.{steps_by, may_run}
use Rattle.step_judge.specs.Rests.{begun_by}
use Rattle.step_judge.specs.Running.{AsksRun}
use Rattle.step_judge.proofs.Marks.{steps_same, runs}
use Rattle.step_judge.specs.At.{JudgedAt}
use Rattle.repage_check.specs.declared.past.Past.{Past}
use Rattle.repage_check.specs.Past.{turn_of, MarkIsIn, PastAt}
use Rattle.repage_check.specs.Locking.{AreLocked}

-- By what is due first.

first_copied : (p : Placement) (qs : List Page) (ds : List Due) (child parent : Page) → Some (child, Some parent) ≡ option_map due_and_parent (slice_get ds 0)
    → parent ∷ [] ≡ passed_over p qs ds
first_copied p qs [] child parent e = absurd cc
first_copied p qs (Start q ∷ ds) child parent e =
    absurd (let z : Some parent ≡ None = ap (λ (x : Page × Option Page). x.1) (same_Some (child, Some parent) (q, None) e) in cc)
first_copied p qs (CopyOf q w ∷ ds) child parent e =
    ap (λ (x : Page). x ∷ []) (same_Some parent w (ap (λ (x : Page × Option Page). x.1) (same_Some (child, Some parent) (q, Some w) e)))

first_started : (p : Placement) (qs : List Page) (ds : List Due) (q : Page) → Some (q, None) ≡ option_map due_and_parent (slice_get ds 0)
    → [] ≡ passed_over p qs ds
first_started p qs [] q e = absurd cc
first_started p qs (Start r ∷ ds) q e = refl
first_started p qs (CopyOf r w ∷ ds) q e = absurd (let z : None ≡ Some w = ap (λ (x : Page × Option Page). x.1) (same_Some (q, None) (r, Some w) e) in cc)

pub none_first : (ds : List Due) → None ≡ option_map due_and_parent (slice_get ds 0) → ds ≡ []
none_first [] e = refl
none_first (Start r ∷ ds) e = absurd cc
none_first (CopyOf r w ∷ ds) e = absurd cc

place_of : (p : Past) (m : Standing) (holds : Option (List NamedFile)) (i : Option SwapImage) (A : Inputs) (s : State) (image : SwapImage)
    → PastAt p m holds i A s image → m.kernel.place ≡ s.place
place_of p m holds i A s image at = let x : JudgedAt m p.counted p.begun holds i A s image = at.judged in x.stands.place

pub copy_locked : (p : Past) (m : Standing) (child parent : Page) → Some (child, Some parent) ≡ option_map due_and_parent (slice_get m.kernel.place.due 0)
    → AreLocked p m (parent ∷ [])
copy_locked p m child parent e holds i A s image at =
    first_copied s.place (touched_next A s) s.place.due child parent
    (e ∙ ap (λ (x : Placement). option_map due_and_parent (slice_get x.due 0)) (place_of p m holds i A s image at))

pub start_locked : (p : Past) (m : Standing) (q : Page) → Some (q, None) ≡ option_map due_and_parent (slice_get m.kernel.place.due 0) → AreLocked p m []
start_locked p m q e holds i A s image at =
    first_started s.place (touched_next A s) s.place.due q
    (e ∙ ap (λ (x : Placement). option_map due_and_parent (slice_get x.due 0)) (place_of p m holds i A s image at))

-- By the mark, where nothing is due.

clear_locked : (A : Inputs) (s : State) → s.place.due ≡ [] → locked A s ≡ before_absent s.place (touched_of A s.point.flat (running s.mark))
clear_locked A s e = ap (λ (ds : List Due). passed_over s.place (touched_next A s) ds) e

due_there : (p : Past) (m : Standing) (holds : Option (List NamedFile)) (i : Option SwapImage) (A : Inputs) (s : State) (image : SwapImage)
    → PastAt p m holds i A s image → m.kernel.place.due ≡ [] → s.place.due ≡ []
due_there p m holds i A s image at e = ap (λ (x : Placement). x.due) (sym (place_of p m holds i A s image at)) ∙ e

none_runs : (p : Placement) (m : Mark) → turn_of m ≡ None → MarkIsIn p m → running m ≡ None
none_runs p (marks.Dispatch pid count since) e h = absurd h
none_runs p (marks.Turn pid since) e h = absurd cc
none_runs p _ e h = refl

turn_runs : (m : Mark) (pid : ℕ) → turn_of m ≡ Some pid → running m ≡ Some pid
turn_runs (marks.Turn p since) pid e = e
turn_runs _ pid e = absurd cc

turn_in : (p : Placement) (m : Mark) (pid : ℕ) → turn_of m ≡ Some pid → MarkIsIn p m → is_out p pid ≡ false
turn_in p (marks.Turn q since) pid e h = ap (is_out p) (let same : pid ≡ q = cc in same) ∙ h
turn_in p _ pid e h = absurd cc

pub over_locked : (p : Past) (m : Standing) → m.kernel.place.due ≡ [] → turn_of p.mark ≡ None → AreLocked p m []
over_locked p m clear e holds i A s image at =
    sym (clear_locked A s (due_there p m holds i A s image at clear)
    ∙ ap (λ (o : Option ℕ). before_absent s.place (touched_of A s.point.flat o)) (none_runs s.place s.mark (ap turn_of at.mark ∙ e) at.turn))

turn_locked : (p : Past) (m : Standing) (holds : Option (List NamedFile)) (i : Option SwapImage) (A : Inputs) (s : State) (image : SwapImage) (pid : ℕ)
    → PastAt p m holds i A s image → m.kernel.place.due ≡ [] → turn_of p.mark ≡ Some pid → locked A s ≡ before_absent s.place (touched A s.point.flat pid)
turn_locked p m holds i A s image pid at clear e =
    clear_locked A s (due_there p m holds i A s image at clear)
    ∙ ap (λ (o : Option ℕ). before_absent s.place (touched_of A s.point.flat o)) (turn_runs s.mark pid (ap turn_of at.mark ∙ e))

not_both : (a b : Bool) → b ≡ false → (a && not b) ≡ false → a ≡ false
not_both true false e f = absurd cc
not_both true true e f = absurd cc
not_both false b e f = refl

pub stuck_locked : (p : Past) (m : Standing) (pid : ℕ) → m.kernel.place.due ≡ [] → turn_of p.mark ≡ Some pid → may_run m.kernel pid ≡ false → AreLocked p m []
stuck_locked p m pid clear e f holds i A s image at =
    let x : JudgedAt m p.counted p.begun holds i A s image = at.judged in
    let in_now : is_out m.kernel.place pid ≡ false = ap (λ (y : Placement). is_out y pid) x.stands.place ∙ turn_in s.place s.mark pid (ap turn_of at.mark ∙ e) at.turn in
    let cannot : can_step s.point.flat pid ≡ false =
    steps_same m.kernel s.point.flat pid x.stands.keeps.coupled.tables ∙ not_both (steps_by _) (is_out m.kernel.place pid) in_now f in
    sym (turn_locked p m holds i A s image pid at clear e ∙ ap (before_absent s.place) (idle_touches A s.point.flat pid cannot))

-- Who can step does so as under a dispatch of one instruction, with a limit that allows for it.

between_says : (A B : Inputs) (F : FlatState) (o : Option Entry) → begun_by o ≡ None → LastSays B F o
between_says A B F (Some (entries.Refused p)) e = absurd cc
between_says A B F (Some (entries.Out p bytes)) e = absurd cc
between_says A B F _ e = tt

between_waits : (B : Inputs) (v : State) (o : Option Entry) → begun_by o ≡ None → WaitsBy B v o
between_waits B v (Some (entries.Refused p)) e = absurd cc
between_waits B v (Some (entries.Out p bytes)) e = absurd cc
between_waits B v _ e = tt

module _ (p : Past) (m : Standing) (holds : Option (List NamedFile)) (i : Option SwapImage) (A : Inputs) (s : State) (image : SwapImage) (pid : ℕ)
    (at : PastAt p m holds i A s image) (clear : m.kernel.place.due ≡ []) (none : p.begun ≡ None) (may : may_run m.kernel pid ≡ true) where
  -- the same inputs with room for one instruction more
  abbrev B : Inputs
  B = with_others A A.lines (s.count + 1)

  abbrev v : State
  v = under_dispatch s pid

  here : JudgedAt m p.counted p.begun holds i A s image
  here = at.judged

  steady : Steady A s
  steady = let x : IsPaged A s = here.paged in x.steady

  placed : Placed A s.point.flat s.place s.holdings
  placed = steady.placed

  between : begun_by s.point.last ≡ None
  between = here.begun ∙ none

  run_then : IsRun B v
  run_then = record {
    placed = record {
      sound = placed.sound;
      numbered = placed.numbered;
      tables = placed.tables;
      stands = placed.stands;
      dues = placed.dues;
      once = placed.once;
      parts = placed.parts;
      frames = placed.frames;
    };
    numbers = steady.numbers;
    lenders = steady.lenders;
    texts = steady.texts;
    sized = steady.sized;
    flows = record { says = between_says A B s.point.flat s.point.last between; waits = between_waits B v s.point.last between };
    mark = tt;
  }

  stands_then : StandsAt B v m.kernel image.bytes
  stands_then =
      let x : StandsAt A s m.kernel image.bytes = here.stands in
      let k : Keeps A s.point.flat m.kernel image.bytes = x.keeps in
      record {
        place = x.place;
        holdings = x.holdings;
        journal = x.journal;
        keeps = record {
          sound = k.sound;
          numbered = k.numbered;
          coupled = k.coupled;
          stands = k.stands;
          room = k.room;
          out_regs = k.out_regs;
        };
      }

  at_then : At B v m.kernel image
  at_then = record { fit = here.fit; run = run_then; stands = stands_then }

  asks_then : AsksRun B v pid false (s.count + 1)
  asks_then = (1, s.count, refl, omega arith)

  runner : (q : Process) × (x : Space) × RunsInSpace B v pid false q x
  runner = runs B v m.kernel image pid (s.count + 1) at_then false asks_then (due_there p m holds i A s image at clear) (omega arith) may

  -- it touches the same pages
  same_locked : locked B v ≡ before_absent s.place (touched A s.point.flat pid)
  unfolding touched
  same_locked = clear_locked B v (due_there p m holds i A s image at clear)

  runs_with : (regs : Regs) → regs ≡ regs_of m.kernel pid → RunsWith B v false m pid regs
  runs_with regs e = record {
    image = image;
    process = runner.0;
    space = runner.1;
    named = here.named;
    at = at_then;
    running = runner.2;
    has = sym (e ∙ regs_is m.kernel pid runner.0 runner.1 (is_kept B v m.kernel image pid false runner.0 runner.1 at_then runner.2));
  }

-- what is found of it at each such state is what it touches before the first page that isn't valid
pub ready_locked : (p : Past) (m : Standing) (pid : ℕ) (regs : Regs) (found : List Page) → m.kernel.place.due ≡ [] → p.begun ≡ None → turn_of p.mark ≡ Some pid
    → may_run m.kernel pid ≡ true → regs ≡ regs_of m.kernel pid
    → ((A : Inputs) (s : State) (now : Bool) → RunsWith A s now m pid regs → found ≡ locked A s) → AreLocked p m found
ready_locked p m pid regs found clear none e may same f holds i A s image at =
    f (with_others A A.lines (s.count + 1)) (under_dispatch s pid) false (runs_with p m holds i A s image pid at clear none may regs same)
    ∙ same_locked p m holds i A s image pid at clear none may
    ∙ sym (turn_locked p m holds i A s image pid at clear e)
