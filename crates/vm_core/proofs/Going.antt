-- Lines one after another, and what stands after them.
use Rattle.std.proofs.Common.{◌≡◌, inl, inr, ℕ, zero, suc, ◌+◌, ◌<◌, ◌≤◌, nat_lt, Bool, false, List, [], ◌∷◌, ◌++◌, length, slice_get, Option, Some, None, sym, ap, ◌∙◌, subst, arith}
use Rattle.std.proofs.lemmas.Bool.{cases_lt}
use Rattle.std.proofs.lemmas.Bool.Decides.{nat_tests}
use Rattle.std.proofs.lemmas.Option.{same_Some}
use Rattle.std.specs.Prelude.{◌↔◌}
use Rattle.vm_facts.specs.SwapImages.{SwapImage}
use Rattle.vm_facts.specs.declared.entry.Entry.{Entry}
use Rattle.vm_facts.specs.declared.event.Event.{Event}
use Rattle.vm_facts.specs.declared.stop.Stop.{Stop}
use Rattle.io_edge.specs.FileHolding.{NamedFile}
use Rattle.flat_state.specs.Flat.{Inputs}
use Rattle.page_model.specs.Placement.{Due}
use Rattle.run_model.specs.State.{State}
use Rattle.run_model.specs.Next.{due_unit, or_else, under, when, line_or_turn, next_mark, next_unit}
use Rattle.proc_run.specs.Leads.{Leads}
use Rattle.proc_run.proofs.Units.{none_leads, both_lead}
use Rattle.proc_run.specs.Lines.{IsOver}
use Rattle.proc_run.specs.Stepped.{LeadsFrom, StopsFrom}
use Rattle.vm_core.specs.declared.events.Went.{Went}
use Rattle.vm_core.specs.declared.events.Went.TheVariants as wents
use Rattle.vm_core.specs.Cores.{Underway, LineDue, LineTaken, LineDueAt}
use Rattle.vm_core.specs.Steady.{HasFewMoves}
use Rattle.vm_core.proofs.Standing.{leads_to_stop}
use Rattle.vm_core.specs.Schedules.{HaveFewMoves, IsBeforeLines, LinesTaken, LinesWent, LinesFinished}
use Rattle.vm_core.specs.Closing.{AllTaken, Closed}
use Rattle.vm_core.specs.Accounts.{StopsAccountedFrom}

pub few_at : (lines : List Event) (k : ℕ) (e : Event) → HaveFewMoves lines → slice_get lines k ≡ Some e → HasFewMoves e
few_at [] k e few at = absurd cc
few_at (d ∷ ds) zero e few at = subst HasFewMoves (same_Some d e at) few.0
few_at (d ∷ ds) (suc k) e few at = few_at ds k e few.1 at

-- a call that goes on doesn't stand at its limit
pub goes_below : (went : Went) (limit counted : ℕ) → went ≡ wents.Next → ((went ≡ wents.LimitReached) ↔ (limit ≤ counted)) → counted < limit
goes_below went limit counted e iff =
    elim (cases_lt counted limit) [
      | inl below ↦ below
      | inr over ↦ absurd (let same : wents.Next ≡ wents.LimitReached = sym e ∙ iff.1 over in let never : wents.Next ≡ wents.LimitReached → ⊥ = λ it. cc in never same)
    ]

-- so many of these lines were taken
abbrev pub HasTaken : Underway → Underway → ℕ → List Event → Option (List NamedFile) → Option SwapImage → Option SwapImage → Type 0
HasTaken old now taken lines holds i j =
    (A : Inputs) (s : State) (image : SwapImage) → IsBeforeLines old lines holds i A s image → LinesTaken old now holds j taken A s image

pub none_taken : (old : Underway) (lines : List Event) (holds : Option (List NamedFile)) (i : Option SwapImage) → HasTaken old old 0 lines holds i i
none_taken old lines holds i A s image b = record {
  units = [];
  state = s;
  behind = image;
  leads = subst (λ (o : Option SwapImage). Leads A s old.machine.kernel image [] s old.machine.kernel o) (sym b.at.stands.told) (none_leads A s old.machine.kernel image);
  at = b.at;
  lines = b.none;
}

-- their units, with the swap image that is told
told_leads : (A : Inputs) (s : State) (old mid : Underway) (holds : Option (List NamedFile)) (h : Option SwapImage) (image : SwapImage) (taken : ℕ)
    (c : LinesTaken old mid holds h taken A s image)
    → Leads A s old.machine.kernel image c.units c.state mid.machine.kernel (Some c.behind)
told_leads A s old mid holds h image taken c = subst (λ (o : Option SwapImage). Leads A s old.machine.kernel image c.units c.state mid.machine.kernel o) c.at.stands.told c.leads

module _ (A : Inputs) (s : State) (old mid : Underway) (lines : List Event) (holds : Option (List NamedFile)) (i h : Option SwapImage) (image : SwapImage)
    (taken : ℕ) (e : Event)
    (b : IsBeforeLines old lines holds i A s image)
    (c : LinesTaken old mid holds h taken A s image) where
  due : slice_get lines taken ≡ Some e → mid.counted < mid.machine.params.limit → LineDue A c.state (taken + 1) e
  due at below = record {
    number = ap (λ (n : ℕ). n + 1) c.lines;
    event = ap (λ (n : ℕ). slice_get A.lines n) c.lines ∙ ap (λ (es : List Event). slice_get es taken) b.are ∙ at;
    below = let same = c.at.stands.count in let limit = c.at.stands.inputs.limit in omega arith;
  }

  on : (new : Underway) (j : Option SwapImage) → LineTaken mid new holds j A c.state c.behind → LinesTaken old new holds j (taken + 1) A s image
  on new j d = record {
    units = c.units ++ d.units;
    state = d.state;
    behind = d.behind;
    leads = both_lead A s c.state d.state old.machine.kernel mid.machine.kernel new.machine.kernel image (Some c.behind) j c.units d.units (told_leads A s old mid holds h image taken c)
        (λ between same. subst (λ (y : SwapImage). Leads A c.state mid.machine.kernel y d.units d.state new.machine.kernel j) (same_Some c.behind between same) d.leads);
    at = d.at;
    lines = d.lines ∙ ap (λ (n : ℕ). n + 1) c.lines;
  }

-- One line more is taken, or the run stops at it.

pub line_taken : (old mid new : Underway) (taken : ℕ) (e : Event) (lines : List Event) (holds : Option (List NamedFile)) (i h j : Option SwapImage)
    → HasTaken old mid taken lines holds i h → slice_get lines taken ≡ Some e
    → mid.counted < mid.machine.params.limit → LeadsFrom (LineDueAt mid (taken + 1) e holds h) (LineTaken mid new holds j)
    → HasTaken old new (taken + 1) lines holds i j
line_taken old mid new taken e lines holds i h j f at below t A s image b =
    let c = f A s image b in
    on A s old mid lines holds i h image taken e b c new j (t A c.state c.behind (c.at, due A s old mid lines holds i h image taken e b c at below))

pub line_stops : (old mid new : Underway) (taken : ℕ) (e : Event) (lines : List Event) (holds : Option (List NamedFile)) (i h j : Option SwapImage)
    (stop : Stop)
    → HasTaken old mid taken lines holds i h
    → slice_get lines taken ≡ Some e → mid.counted < mid.machine.params.limit
    → StopsAccountedFrom (LineDueAt mid (taken + 1) e holds h) mid.machine new.machine j stop
    → StopsFrom (IsBeforeLines old lines holds i) old.machine new.machine j stop
line_stops old mid new taken e lines holds i h j stop f at below x A s image b =
    let c = f A s image b in
    leads_to_stop A s c.state old.machine.kernel mid.machine.kernel image c.behind c.units stop new.machine j (told_leads A s old mid holds h image taken c)
    (x A c.state c.behind (c.at, due A s old mid lines holds i h image taken e b c at below)).led

-- after a line as many instructions are counted as may
pub limit_taken : (old new : Underway) (taken : ℕ) (lines : List Event) (holds : Option (List NamedFile)) (i j : Option SwapImage)
    → HasTaken old new taken lines holds i j → new.machine.params.limit ≤ new.counted
    → LeadsFrom (IsBeforeLines old lines holds i) (LinesWent old new wents.LimitReached (length lines) holds j)
limit_taken old new taken lines holds i j f over A s image b =
    let c = f A s image b in
    (taken, c, (let limit = c.at.stands.inputs.limit in omega arith))

-- The run ends after the lines.

-- as many instructions are counted as may
limit_ends : (A : Inputs) (t : State) → IsOver A t → A.limit ≤ t.count → next_unit A t ≡ None
unfolding next_unit
limit_ends A t o l =
    ap (λ (ds : List Due). or_else (due_unit t.place ds) (or_else (under A t t.mark) (next_mark A t))) o.clear
    ∙ ap (λ (x : Option Entry). or_else x (next_mark A t)) o.over
    ∙ ap (λ (more : Bool). when more (line_or_turn t (nat_lt t.lines (length A.lines)))) full
  where
    full : nat_lt t.count A.limit ≡ false
    full = grind (arith, nat_tests)

pub limit_finishes : (old new : Underway) (lines : List Event) (holds : Option (List NamedFile)) (i j : Option SwapImage)
    → LeadsFrom (IsBeforeLines old lines holds i) (LinesWent old new wents.LimitReached (length lines) holds j)
    → LeadsFrom (IsBeforeLines old lines holds i) (LinesFinished old new j)
limit_finishes old new lines holds i j f A s image b =
    let w = f A s image b in
    let c = w.1 in
    record { units = c.units; state = c.state; leads = c.leads; none = limit_ends A c.state c.at.over (let same = c.at.stands.count in let full = w.2 in omega arith) }

pub closing_finishes : (old mid new : Underway) (lines : List Event) (holds : Option (List NamedFile)) (i h j : Option SwapImage)
    → LeadsFrom (IsBeforeLines old lines holds i) (LinesWent old mid wents.Next (length lines) holds h)
    → LeadsFrom (AllTaken mid holds h) (Closed mid.machine new.machine holds j new.counted)
    → LeadsFrom (IsBeforeLines old lines holds i) (LinesFinished old new j)
closing_finishes old mid new lines holds i h j f close A s image b =
    let c : LinesTaken old mid holds h (length lines) A s image = f A s image b in
    let d = close A c.state c.behind (c.at, ap length b.are ∙ sym c.lines) in
    record {
      units = c.units ++ d.units;
      state = d.state;
      leads = both_lead A s c.state d.state old.machine.kernel mid.machine.kernel new.machine.kernel image (Some c.behind) j c.units d.units (told_leads A s old mid holds h image (length lines) c)
          (λ between same. subst (λ (y : SwapImage). Leads A c.state mid.machine.kernel y d.units d.state new.machine.kernel j) (same_Some c.behind between same) d.leads);
      none = d.none;
    }

pub closing_stops : (old mid new : Underway) (lines : List Event) (holds : Option (List NamedFile)) (i h j : Option SwapImage) (stop : Stop)
    → LeadsFrom (IsBeforeLines old lines holds i) (LinesWent old mid wents.Next (length lines) holds h)
    → StopsAccountedFrom (AllTaken mid holds h) mid.machine new.machine j stop
    → StopsFrom (IsBeforeLines old lines holds i) old.machine new.machine j stop
closing_stops old mid new lines holds i h j stop f x A s image b =
    let c : LinesTaken old mid holds h (length lines) A s image = f A s image b in
    leads_to_stop A s c.state old.machine.kernel mid.machine.kernel image c.behind c.units stop new.machine j (told_leads A s old mid holds h image (length lines) c)
    (x A c.state c.behind (c.at, ap length b.are ∙ sym c.lines)).led
