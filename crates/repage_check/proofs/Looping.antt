-- Units and lines, judged one after another by a loop, from wherever the machine stood before.
use Rattle.std.proofs.Common.{◌≡◌, ℕ, ◌+◌, ◌-◌, ◌<◌, ◌≤◌, true, false, List, [], ◌∷◌, length, drop, get_or, Option, Some, None, refl, sym, ap, ◌∙◌, subst, arith}
use Rattle.std.specs.Prelude.{is_some}
use Rattle.std.proofs.lemmas.List.{drop_more, drop_all}
use Rattle.vm_facts.specs.SwapImages.{SwapImage}
use Rattle.vm_facts.specs.declared.entry.Entry.{Entry}
use Rattle.vm_facts.specs.declared.entry.Entry.TheVariants as entries
use Rattle.vm_facts.specs.declared.page.Page.{Page}
use Rattle.io_edge.specs.FileHolding.{NamedFile}
use Rattle.flat_state.specs.Flat.{Inputs}
use Rattle.flat_state.specs.Journal.{repeated}
use Rattle.machine_state.specs.Machine.{Standing}
use Rattle.run_model.specs.State.{State}
use Rattle.run_model.specs.Wanted.{locked}
use Rattle.vm_core.specs.Stepped.{AtSome, LeadsFrom}
use Rattle.paged_model.specs.declared.line.Line.{Line}
use Rattle.paged_model.specs.declared.reason.Reason.{Reason}
use Rattle.paged_model.specs.Runs.{paged_state}
use Rattle.paged_model.specs.Traces.{trace_line_after, trace_misstep}
use Rattle.repage_check.specs.declared.past.Past.{Past}
use Rattle.repage_check.specs.Past.{PastAt}
use Rattle.repage_check.specs.Units.{StandsPast}
use Rattle.repage_check.specs.Lines.{UnitsTold, LineTold}
use Rattle.repage_check.specs.Starting.{StandsBehind}
use Rattle.repage_check.proofs.Along.{AlongUnits, units_begun, units_on, units_bad, units_over, one_more, AlongLines, lines_on, lines_bad, lines_over, stands_over}
use Rattle.repage_check.proofs.MovesJudged.{AlongMoves, moves_begun, moves_on, moves_bad, moves_over}

pub none_by_test : (o : Option Reason) → is_some o ≡ false → o ≡ None
none_by_test None e = refl
none_by_test (Some r) e = absurd cc

-- so many of them were made, and none is left
none_more : (u : Entry) (k n : ℕ) → n ≤ k → repeated u (n - k) [] ≡ []
none_more u k n l = ap (λ (m : ℕ). repeated u m []) (let e : n - k ≡ 0 = omega (arith, l) in e)

-- none of them was made yet
none_yet : (u : Entry) (n : ℕ) → repeated u n [] ≡ repeated u (n - 0) []
none_yet u n = ap (λ (m : ℕ). repeated u m []) (let e : n ≡ n - 0 = omega arith in e)

pub units_first : (u : Entry) (n : ℕ) (p : Past) (m : Standing) (holds : Option (List NamedFile)) (i : Option SwapImage)
    → LeadsFrom (PastAt p m holds i) (AlongUnits (repeated u n []) (repeated u (n - 0) []) p m holds i)
units_first u n p m holds i A s image at =
    subst (λ (left : List Entry). AlongUnits (repeated u n []) left p m holds i A s image) (none_yet u n)
    (units_begun (repeated u n []) p m holds i A s image at)

pub moves_first : (n : ℕ) (pages : List Page) (p : Past) (m : Standing) (holds : Option (List NamedFile)) (i : Option SwapImage) (A : Inputs) (s : State)
    (image : SwapImage)
    → PastAt p m holds i A s image → pages ≡ locked A s
    → AlongMoves (repeated (entries.Hands 1) n []) (repeated (entries.Hands 1) (n - 0) []) pages p m holds i A s image
moves_first n pages p m holds i A s image at are =
    subst (λ (left : List Entry). AlongMoves (repeated (entries.Hands 1) n []) left pages p m holds i A s image) (none_yet (entries.Hands 1) n)
    (moves_begun (repeated (entries.Hands 1) n []) pages p m holds i A s image at are)

-- Units of one kind.

module _ (whole : List Entry) (u : Entry) (k n : ℕ) (p0 : Past) (m0 : Standing) (holds : Option (List NamedFile)) (i0 : Option SwapImage) (p : Past) (m : Standing)
    (i : Option SwapImage) (told : LeadsFrom (PastAt p0 m0 holds i0) (AlongUnits whole (repeated u (n - k) []) p m holds i)) where
  module _ (below : k < n) (q : Past) (new : Standing) (j : Option SwapImage) (reason : Option Reason)
      (next : LeadsFrom (PastAt p m holds i) (UnitsTold reason (u ∷ []) q new holds j)) where
    along : (A : Inputs) (s : State) (image : SwapImage) → PastAt p0 m0 holds i0 A s image → AlongUnits whole (u ∷ repeated u (n - (k + 1)) []) p m holds i A s image
    along A s image at =
        subst (λ (left : List Entry). AlongUnits whole left p m holds i A s image) (one_more u k n below) (told A s image at)

    here : (A : Inputs) (s : State) (image : SwapImage) (at : PastAt p0 m0 holds i0 A s image)
        → UnitsTold reason (u ∷ []) q new holds j A (along A s image at).state (along A s image at).stands.image
    here A s image at =
        let x : AlongUnits whole (u ∷ repeated u (n - (k + 1)) []) p m holds i A s image = along A s image at in
        let y : StandsPast p m holds i A x.state = x.stands in
        next A x.state y.image y.at

    pub units_step : reason ≡ None → LeadsFrom (PastAt p0 m0 holds i0) (AlongUnits whole (repeated u (n - (k + 1)) []) q new holds j)
    units_step none A s image at =
        units_on whole (repeated u (n - (k + 1)) []) u p m holds i j A s image (along A s image at) q new reason (here A s image at) none

    pub units_stop : is_some reason ≡ true → LeadsFrom (PastAt p0 m0 holds i0) (UnitsTold reason whole q new holds j)
    units_stop some A s image at = go reason refl some
      where
        go : (o : Option Reason) → reason ≡ o → is_some o ≡ true → UnitsTold reason whole q new holds j A s image
        go None e z = absurd cc
        go (Some r) e z =
            subst (λ (x : Option Reason). UnitsTold x whole q new holds j A s image) (sym e)
            (units_bad whole (repeated u (n - (k + 1)) []) u p m holds i j A s image (along A s image at) q new reason (here A s image at) r e)

  pub units_end : n ≤ k → LeadsFrom (PastAt p0 m0 holds i0) (UnitsTold None whole p m holds i)
  units_end over A s image at =
      units_over whole p m holds i A s image
      (subst (λ (left : List Entry). AlongUnits whole left p m holds i A s image) (none_more u k n over) (told A s image at))

-- where they may come the machine stands somewhere
pub units_some : (p : Past) (m : Standing) (holds : Option (List NamedFile)) (i : Option SwapImage) (us : List Entry) (q : Past) (new : Standing)
    (j : Option SwapImage)
    (reason : Option Reason)
    → AtSome (PastAt p m holds i) → LeadsFrom (PastAt p m holds i) (UnitsTold reason us q new holds j) → reason ≡ None → AtSome (PastAt q new holds j)
units_some p m holds i us q new j reason (A, s, image, at) told none =
    let x : StandsPast q new holds j A (paged_state A s us) = (told A s image at).stands none in (A, paged_state A s us, x.image, x.at)

-- Moves of the hands.

module _ (whole : List Entry) (pages : List Page) (k n : ℕ) (p : Past) (m0 m : Standing)
    (told : (holds : Option (List NamedFile)) (i : Option SwapImage) (A : Inputs) (s : State) (image : SwapImage) → PastAt p m0 holds i A s image
    → pages ≡ locked A s → AlongMoves whole (repeated (entries.Hands 1) (n - k) []) pages p m holds i A s image) where
  module _ (below : k < n) (new : Standing) (reason : Option Reason)
      (next : (holds : Option (List NamedFile)) (i : Option SwapImage) (A : Inputs) (s : State) (image : SwapImage) → PastAt p m holds i A s image
      → pages ≡ locked A s → UnitsTold reason (entries.Hands 1 ∷ []) p new holds i A s image) where
    moved : (holds : Option (List NamedFile)) (i : Option SwapImage) (A : Inputs) (s : State) (image : SwapImage) → PastAt p m0 holds i A s image
        → pages ≡ locked A s → AlongMoves whole (entries.Hands 1 ∷ repeated (entries.Hands 1) (n - (k + 1)) []) pages p m holds i A s image
    moved holds i A s image at are =
        subst (λ (left : List Entry). AlongMoves whole left pages p m holds i A s image) (one_more (entries.Hands 1) k n below) (told holds i A s image at are)

    there : (holds : Option (List NamedFile)) (i : Option SwapImage) (A : Inputs) (s : State) (image : SwapImage) (at : PastAt p m0 holds i A s image)
        (are : pages ≡ locked A s)
        → UnitsTold reason (entries.Hands 1 ∷ []) p new holds i A (moved holds i A s image at are).state (moved holds i A s image at are).stands.image
    there holds i A s image at are =
        let x : AlongMoves whole (entries.Hands 1 ∷ repeated (entries.Hands 1) (n - (k + 1)) []) pages p m holds i A s image = moved holds i A s image at are in
        let y : StandsPast p m holds i A x.state = x.stands in
        next holds i A x.state y.image y.at x.passed

    pub moves_step : reason ≡ None → (holds : Option (List NamedFile)) (i : Option SwapImage) (A : Inputs) (s : State) (image : SwapImage) → PastAt p m0 holds i A s image
        → pages ≡ locked A s → AlongMoves whole (repeated (entries.Hands 1) (n - (k + 1)) []) pages p new holds i A s image
    moves_step none holds i A s image at are =
        moves_on whole (repeated (entries.Hands 1) (n - (k + 1)) []) pages p m holds i i A s image (moved holds i A s image at are) new reason
        (there holds i A s image at are) none

    pub moves_stop : is_some reason ≡ true → (holds : Option (List NamedFile)) (i : Option SwapImage) (A : Inputs) (s : State) (image : SwapImage)
        → PastAt p m0 holds i A s image → pages ≡ locked A s → UnitsTold reason whole p new holds i A s image
    moves_stop some holds i A s image at are = go reason refl some
      where
        go : (o : Option Reason) → reason ≡ o → is_some o ≡ true → UnitsTold reason whole p new holds i A s image
        go None e z = absurd cc
        go (Some r) e z =
            subst (λ (x : Option Reason). UnitsTold x whole p new holds i A s image) (sym e)
            (moves_bad whole (repeated (entries.Hands 1) (n - (k + 1)) []) pages p m holds i i A s image (moved holds i A s image at are) new reason
            (there holds i A s image at are) r e)

  pub moves_end : n ≤ k → (holds : Option (List NamedFile)) (i : Option SwapImage) (A : Inputs) (s : State) (image : SwapImage) → PastAt p m0 holds i A s image
      → pages ≡ locked A s → UnitsTold None whole p m holds i A s image
  moves_end over holds i A s image at are =
      moves_over whole pages p m holds i A s image
      (subst (λ (left : List Entry). AlongMoves whole left pages p m holds i A s image) (none_more (entries.Hands 1) k n over) (told holds i A s image at are))

-- Lines.

-- the line of this number, and those after it
pub line_here : (ls : List Line) (k : ℕ) (l : Line) → k < length ls → l ≡ get_or ls k l → drop k ls ≡ l ∷ drop (k + 1) ls
line_here ls k l below is = drop_more ls k l below ∙ ap (λ (x : Line). x ∷ drop (k + 1) ls) (sym is)

module _ (whole : List Line) (count : ℕ) (p0 : Past) (m0 : Standing) (holds : Option (List NamedFile)) (i0 : Option SwapImage) (p : Past) (m : Standing)
    (i : Option SwapImage) (told : LeadsFrom (PastAt p0 m0 holds i0) (AlongLines whole count p m holds i)) where
  module _ (l : Line) (here : drop count whole ≡ l ∷ drop (count + 1) whole) (q : Past) (new : Standing) (j : Option SwapImage) (reason : Option Reason)
      (next : LeadsFrom (PastAt p m holds i) (LineTold reason l q new holds j)) where
    judged : (A : Inputs) (s : State) (image : SwapImage) (at : PastAt p0 m0 holds i0 A s image)
        → LineTold reason l q new holds j A (told A s image at).state (told A s image at).stands.image
    judged A s image at =
        let x : AlongLines whole count p m holds i A s image = told A s image at in
        let y : StandsPast p m holds i A x.state = x.stands in
        next A x.state y.image y.at

    pub lines_step : reason ≡ None → LeadsFrom (PastAt p0 m0 holds i0) (AlongLines whole (count + 1) q new holds j)
    lines_step none A s image at =
        lines_on whole count l p m holds i j A s image (told A s image at) here q new reason (judged A s image at) none

    pub lines_stop : (r : Reason) → reason ≡ Some r
        → LeadsFrom (PastAt p0 m0 holds i0) (λ A s image. Some (record { line = count + 1; reason = r }) ≡ trace_misstep A s 1 whole)
    lines_stop r some A s image at =
        lines_bad whole count l p m holds i j A s image (told A s image at) here q new reason (judged A s image at) r some

  pub lines_end : length whole ≤ count → LeadsFrom (PastAt p0 m0 holds i0) (λ A s image. None ≡ trace_misstep A s 1 whole)
  lines_end over A s image at = lines_over whole count p m holds i A s image (told A s image at) (drop_all count whole over)

  pub lines_stand : length whole ≤ count → LeadsFrom (PastAt p0 m0 holds i0) (StandsBehind whole m holds i)
  lines_stand over A s image at =
      record { past = p; stands = stands_over whole count p m holds i A s image (told A s image at) (drop_all count whole over) }

pub line_some : (p : Past) (m : Standing) (holds : Option (List NamedFile)) (i : Option SwapImage) (l : Line) (q : Past) (new : Standing) (j : Option SwapImage)
    (reason : Option Reason)
    → AtSome (PastAt p m holds i) → LeadsFrom (PastAt p m holds i) (LineTold reason l q new holds j) → reason ≡ None → AtSome (PastAt q new holds j)
line_some p m holds i l q new j reason (A, s, image, at) told none =
    let x : StandsPast q new holds j A (trace_line_after A s l) = (told A s image at).stands none in (A, trace_line_after A s l, x.image, x.at)
