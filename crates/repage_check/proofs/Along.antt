-- Units and lines, judged one after another: what is left of them from the state so far.
use Rattle.std.proofs.Common.{◌≡◌, ℕ, suc, ◌+◌, ◌-◌, ◌<◌, List, [], ◌∷◌, drop, Option, Some, None, refl, sym, ap, ◌∙◌, subst, arith}
use Rattle.vm_facts.specs.SwapImages.{SwapImage}
use Rattle.vm_facts.specs.declared.entry.Entry.{Entry}
use Rattle.io_edge.specs.FileHolding.{NamedFile}
use Rattle.flat_state.specs.Flat.{Inputs}
use Rattle.flat_state.specs.Journal.{repeated, units_with}
use Rattle.machine_state.specs.Machine.{Standing}
use Rattle.run_model.specs.State.{State}
use Rattle.paged_model.specs.declared.line.Line.{Line}
use Rattle.paged_model.specs.declared.line.Line.TheVariants as lines
use Rattle.paged_model.specs.declared.reason.Reason.{Reason}
use Rattle.paged_model.specs.Reasons.{or_reason}
use Rattle.paged_model.specs.Runs.{paged_after, paged_state, unit_reason, units_reason, misstep_or}
use Rattle.paged_model.specs.Traces.{trace_line_reason, trace_line_after, trace_state, trace_misstep}
use Rattle.repage_check.specs.declared.past.Past.{Past}
use Rattle.repage_check.specs.Past.{turn_out, past_next, PastAt}
use Rattle.repage_check.specs.Units.{StandsPast, UnitTold}
use Rattle.repage_check.specs.Lines.{past_behind, UnitsTold, LineTold}

-- One unit.

alone : (o : Option Reason) → or_reason o None ≡ o
alone None = refl
alone (Some r) = refl

one_reason : (A : Inputs) (s : State) (u : Entry) → units_reason A s (u ∷ []) ≡ unit_reason A s u
unfolding units_reason
one_reason A s u = alone (unit_reason A s u)

one_state : (A : Inputs) (s : State) (u : Entry) → paged_state A s (u ∷ []) ≡ paged_after A s u
unfolding paged_state
one_state A s u = refl

-- what is told of a unit is told of it as of units
pub one_told : (reason : Option Reason) (u : Entry) (p : Past) (old new : Standing) (holds : Option (List NamedFile)) (j : Option SwapImage) (A : Inputs)
    (s : State)
    (image : SwapImage)
    → UnitTold reason u p old new holds j A s image → UnitsTold reason (u ∷ []) (past_behind reason (turn_out old.kernel u) p u) new holds j A s image
one_told None u p old new holds j A s image t = record {
  exact = t.exact ∙ sym (one_reason A s u);
  stands = λ none. subst (StandsPast (past_next (turn_out old.kernel u) p u) new holds j A) (sym (one_state A s u)) (t.stands refl);
}
one_told (Some r) u p old new holds j A s image t = record { exact = t.exact ∙ sym (one_reason A s u); stands = λ none. absurd cc }

-- Units.

-- what is left of these units, from this state on, gives the same reason and leads to the same state
pub record Left (A : Inputs) (s : State) (whole : List Entry) (t : State) (left : List Entry) : Type 0 where
  pub reason : units_reason A s whole ≡ units_reason A t left
  pub state : paged_state A s whole ≡ paged_state A t left

pub all_left : (A : Inputs) (s : State) (whole : List Entry) → Left A s whole s whole
all_left A s whole = record { reason = refl; state = refl }

pub first_reason : (A : Inputs) (t : State) (u : Entry) (left : List Entry)
    → units_reason A t (u ∷ left) ≡ or_reason (unit_reason A t u) (units_reason A (paged_after A t u) left)
unfolding units_reason
first_reason A t u left = refl

first_state : (A : Inputs) (t : State) (u : Entry) (left : List Entry) → paged_state A t (u ∷ left) ≡ paged_state A (paged_after A t u) left
unfolding paged_state
first_state A t u left = refl

none_left : (A : Inputs) (t : State) → (units_reason A t [] ≡ None) × (paged_state A t [] ≡ t)
unfolding units_reason paged_state
none_left A t = (refl, refl)

-- The machine stands at a state from which this is left of these units.
pub record AlongUnits (whole left : List Entry) (p : Past) (m : Standing) (holds : Option (List NamedFile)) (j : Option SwapImage) (A : Inputs) (s : State)
    (image : SwapImage) : Type 0 where
  pub state : State
  pub stands : StandsPast p m holds j A state
  pub is_left : Left A s whole state left

pub units_begun : (whole : List Entry) (p : Past) (m : Standing) (holds : Option (List NamedFile)) (i : Option SwapImage) (A : Inputs) (s : State)
    (image : SwapImage)
    → PastAt p m holds i A s image → AlongUnits whole whole p m holds i A s image
units_begun whole p m holds i A s image at = record { state = s; stands = record { image = image; at = at }; is_left = all_left A s whole }

-- after a unit that may come, and after one that can't
module _ (A : Inputs) (s : State) (whole : List Entry) (t : State) (u : Entry) (left : List Entry) (is : Left A s whole t (u ∷ left)) (reason : Option Reason)
    (exact : reason ≡ unit_reason A t u) where
  pub left_on : reason ≡ None → Left A s whole (paged_after A t u) left
  left_on none = record {
    reason = is.reason ∙ first_reason A t u left ∙ ap (λ (o : Option Reason). or_reason o (units_reason A (paged_after A t u) left)) (sym exact ∙ none);
    state = is.state ∙ first_state A t u left;
  }

  pub left_bad : (r : Reason) → reason ≡ Some r → Some r ≡ units_reason A s whole
  left_bad r some = sym (is.reason ∙ first_reason A t u left ∙ ap (λ (o : Option Reason). or_reason o (units_reason A (paged_after A t u) left)) (sym exact ∙ some))

pub exactly : (A : Inputs) (s : State) (u : Entry) (p : Past) (m : Standing) (holds : Option (List NamedFile)) (j : Option SwapImage) (image : SwapImage)
    (reason : Option Reason)
    → UnitsTold reason (u ∷ []) p m holds j A s image → reason ≡ unit_reason A s u
exactly A s u p m holds j image reason told = told.exact ∙ one_reason A s u

pub stands_on : (A : Inputs) (s : State) (u : Entry) (p : Past) (m : Standing) (holds : Option (List NamedFile)) (j : Option SwapImage) (image : SwapImage)
    (reason : Option Reason)
    → UnitsTold reason (u ∷ []) p m holds j A s image → reason ≡ None → StandsPast p m holds j A (paged_after A s u)
stands_on A s u p m holds j image reason told none = subst (StandsPast p m holds j A) (one_state A s u) (told.stands none)

module _ (whole left : List Entry) (u : Entry) (p : Past) (m : Standing) (holds : Option (List NamedFile)) (i j : Option SwapImage) (A : Inputs) (s : State)
    (image : SwapImage) (along : AlongUnits whole (u ∷ left) p m holds i A s image) (q : Past) (n : Standing) (reason : Option Reason)
    (told : UnitsTold reason (u ∷ []) q n holds j A along.state along.stands.image) where
  exact : reason ≡ unit_reason A along.state u
  exact = exactly A along.state u q n holds j along.stands.image reason told

  -- after a unit that may come
  pub units_on : reason ≡ None → AlongUnits whole left q n holds j A s image
  units_on none = record {
    state = paged_after A along.state u;
    stands = stands_on A along.state u q n holds j along.stands.image reason told none;
    is_left = left_on A s whole along.state u left along.is_left reason exact none;
  }

  -- after one that can't
  pub units_bad : (r : Reason) → reason ≡ Some r → UnitsTold (Some r) whole q n holds j A s image
  units_bad r some = record { exact = left_bad A s whole along.state u left along.is_left reason exact r some; stands = λ none. absurd cc }

-- after all of them
pub units_over : (whole : List Entry) (p : Past) (m : Standing) (holds : Option (List NamedFile)) (i : Option SwapImage) (A : Inputs) (s : State)
    (image : SwapImage)
    → AlongUnits whole [] p m holds i A s image → UnitsTold None whole p m holds i A s image
units_over whole p m holds i A s image along = record {
  exact = sym (along.is_left.reason ∙ (none_left A along.state).0);
  stands = λ none. subst (StandsPast p m holds i A) (sym (along.is_left.state ∙ (none_left A along.state).1)) along.stands;
}

-- So many units of one kind.

pub one_more : (u : Entry) (k n : ℕ) → k < n → repeated u (n - k) [] ≡ u ∷ repeated u (n - (k + 1)) []
one_more u k n l = ap (λ (m : ℕ). repeated u m []) (let e : n - k ≡ suc (n - (k + 1)) = omega (arith, l) in e)

-- Lines.

-- what is told of the units of an entry is told of its line
pub entry_told : (reason : Option Reason) (e : Entry) (p : Past) (m : Standing) (holds : Option (List NamedFile)) (j : Option SwapImage) (A : Inputs)
    (s : State)
    (image : SwapImage)
    → UnitsTold reason (units_with e []) p m holds j A s image → LineTold reason (lines.RunLine e) p m holds j A s image
entry_told reason e p m holds j A s image told = record { exact = told.exact; stands = told.stands }

-- The machine stands at a state from which what is left of a trace has the same first misstep, and leads to the same state.
pub record AlongLines (whole : List Line) (count : ℕ) (p : Past) (m : Standing) (holds : Option (List NamedFile)) (j : Option SwapImage) (A : Inputs) (s : State)
    (image : SwapImage) : Type 0 where
  pub state : State
  pub stands : StandsPast p m holds j A state
  pub same : trace_misstep A s 1 whole ≡ trace_misstep A state (count + 1) (drop count whole)
  pub leads : trace_state A s whole ≡ trace_state A state (drop count whole)

pub lines_begun : (whole : List Line) (p : Past) (m : Standing) (holds : Option (List NamedFile)) (i : Option SwapImage) (A : Inputs) (s : State)
    (image : SwapImage)
    → PastAt p m holds i A s image → AlongLines whole 0 p m holds i A s image
lines_begun whole p m holds i A s image at = record { state = s; stands = record { image = image; at = at }; same = refl; leads = refl }

pub first_line : (A : Inputs) (t : State) (n : ℕ) (l : Line) (ls : List Line)
    → trace_misstep A t n (l ∷ ls) ≡ misstep_or n (trace_line_reason A t l) (trace_misstep A (trace_line_after A t l) (n + 1) ls)
unfolding trace_misstep
first_line A t n l ls = refl

first_after : (A : Inputs) (t : State) (l : Line) (ls : List Line) → trace_state A t (l ∷ ls) ≡ trace_state A (trace_line_after A t l) ls
unfolding trace_state
first_after A t l ls = refl

no_line : (A : Inputs) (t : State) (n : ℕ) → (trace_misstep A t n [] ≡ None) × (trace_state A t [] ≡ t)
unfolding trace_misstep trace_state
no_line A t n = (refl, refl)

module _ (whole : List Line) (count : ℕ) (l : Line) (p : Past) (m : Standing) (holds : Option (List NamedFile)) (i j : Option SwapImage) (A : Inputs) (s : State)
    (image : SwapImage) (along : AlongLines whole count p m holds i A s image) (next : drop count whole ≡ l ∷ drop (count + 1) whole) (q : Past) (n : Standing)
    (reason : Option Reason) (told : LineTold reason l q n holds j A along.state along.stands.image) where
  here : trace_misstep A s 1 whole
      ≡ misstep_or (count + 1) (trace_line_reason A along.state l) (trace_misstep A (trace_line_after A along.state l) (count + 1 + 1) (drop (count + 1) whole))
  here = along.same ∙ ap (trace_misstep A along.state (count + 1)) next ∙ first_line A along.state (count + 1) l (drop (count + 1) whole)

  -- after a line that may come
  pub lines_on : reason ≡ None → AlongLines whole (count + 1) q n holds j A s image
  lines_on none = record {
    state = trace_line_after A along.state l;
    stands = told.stands none;
    same = here ∙ ap (λ (o : Option Reason). misstep_or (count + 1) o (trace_misstep A (trace_line_after A along.state l) (count + 1 + 1) (drop (count + 1) whole)))
        (sym told.exact ∙ none);
    leads = along.leads ∙ ap (trace_state A along.state) next ∙ first_after A along.state l (drop (count + 1) whole);
  }

  -- after one that can't
  pub lines_bad : (r : Reason) → reason ≡ Some r → Some (record { line = count + 1; reason = r }) ≡ trace_misstep A s 1 whole
  lines_bad r some = sym (here
      ∙ ap (λ (o : Option Reason). misstep_or (count + 1) o (trace_misstep A (trace_line_after A along.state l) (count + 1 + 1) (drop (count + 1) whole)))
      (sym told.exact ∙ some))

-- after all of them
module _ (whole : List Line) (count : ℕ) (p : Past) (m : Standing) (holds : Option (List NamedFile)) (i : Option SwapImage) (A : Inputs) (s : State) (image : SwapImage)
    (along : AlongLines whole count p m holds i A s image) (none : drop count whole ≡ []) where
  pub lines_over : None ≡ trace_misstep A s 1 whole
  lines_over = sym (along.same ∙ ap (trace_misstep A along.state (count + 1)) none ∙ (no_line A along.state (count + 1)).0)

  pub stands_over : StandsPast p m holds i A (trace_state A s whole)
  stands_over =
      subst (StandsPast p m holds i A) (sym (along.leads ∙ ap (trace_state A along.state) none ∙ (no_line A along.state (count + 1)).1)) along.stands
