-- Two runs of one process.
use Rattle.std.proofs.Common.{◌≡◌, ◌⊎◌, inl, inr, ℕ, true, false, List, [], ◌++◌, filter, Some, sym, ap, ◌∙◌}
use Rattle.std.proofs.lemmas.List.{append-nil}
use Rattle.std.proofs.lemmas.List.Elements.{filter-append}
use Rattle.std.proofs.lemmas.Option.{same_Some}
use Rattle.vm_facts.specs.declared.entry.Entry.{Entry}
use Rattle.flat_state.specs.Flat.{NamedImage, Inputs, can_step}
use Rattle.flat_state.specs.Journal.{units_of}
use Rattle.flat_model.specs.Run.{Point, flat_units, start_point}
use Rattle.flat_laws.specs.Visible.{is_visible, has_end, visible_of, acts_of, IsSingle, Begins}
use Rattle.flat_laws.specs.Agreement.{IsPair, IsSame}
use Rattle.flat_laws.proofs.Sole.{only_started}
use Rattle.flat_laws.proofs.Acts.{plain_acts, visible_acts, acts_lead, units_same}
use Rattle.flat_laws.proofs.Comparing.{Compared, First, Second, compare}
use Rattle.flat_laws.proofs.Ends.{end_stops, end_among}

-- Runs.

start_same : (A B : Inputs) → B.images ≡ A.images → B.first ≡ A.first → start_point B ≡ start_point A
start_same A B images first =
    ap (λ (named : List NamedImage). start_point record A { images = named; first = B.first }) images ∙ ap (λ (ns : List ℕ). start_point record A { first = ns }) first

module _ (A B : Inputs) (journal other : List Entry) (p q : Point) where
  leads_first : IsPair A B journal other p q → flat_units A (Some (start_point A)) (acts_of journal) ≡ Some p
  leads_first pair =
      let one : IsSingle A journal p = pair.one in
      sym (acts_lead A (units_of journal) (Some (start_point A))) ∙ one.runs

  leads_second : IsPair A B journal other p q → flat_units A (Some (start_point A)) (acts_of other) ≡ Some q
  leads_second pair =
      let two : IsSingle B other q = pair.two in
      sym (acts_lead A (units_of other) (Some (start_point A))) ∙ sym (units_same A B (units_of other) (Some (start_point A)) pair.images)
      ∙ ap (λ (point : Point). flat_units B (Some point) (units_of other)) (sym (start_same A B pair.images pair.first)) ∙ two.runs

  compare_runs : IsPair A B journal other p q → Compared (acts_of journal) (acts_of other) p q
  compare_runs pair =
      let one : IsSingle A journal p = pair.one in
      let two : IsSingle B other q = pair.two in
      compare A (acts_of journal) (acts_of other) (start_point A) p q (only_started A.images A.first one.image one.first)
      (plain_acts journal one.served one.childless) (plain_acts other two.served two.childless)
      (leads_first pair) (leads_second pair)

  pub one_goes_on : IsPair A B journal other p q → Begins (acts_of journal) (acts_of other) ⊎ Begins (acts_of other) (acts_of journal)
  one_goes_on pair = go (compare_runs pair)
    where
      go : Compared (acts_of journal) (acts_of other) p q → Begins (acts_of journal) (acts_of other) ⊎ Begins (acts_of other) (acts_of journal)
      go (First rest h k) = inl (rest, h)
      go (Second rest h k) = inr (rest, h)

-- what is seen of the beginning of a list begins what is seen of it
seen_begins : (journal other : List Entry) → Begins (acts_of journal) (acts_of other) → Begins (visible_of journal) (visible_of other)
seen_begins journal other begins = (
  filter is_visible begins.0,
  ap (λ (es : List Entry). es ++ filter is_visible begins.0) (sym (visible_acts journal))
      ∙ sym (filter-append is_visible (acts_of journal) begins.0) ∙ ap (λ (es : List Entry). filter is_visible es) begins.1 ∙ visible_acts other,
)

pub visible_agrees : (A B : Inputs) (journal other : List Entry) (p q : Point) → IsPair A B journal other p q
    → Begins (visible_of journal) (visible_of other) ⊎ Begins (visible_of other) (visible_of journal)
visible_agrees A B journal other p q pair = go (one_goes_on A B journal other p q pair)
  where
    go : Begins (acts_of journal) (acts_of other) ⊎ Begins (acts_of other) (acts_of journal) → Begins (visible_of journal) (visible_of other) ⊎ Begins (visible_of other) (visible_of journal)
    go (inl begins) = inl (seen_begins journal other begins)
    go (inr begins) = inr (seen_begins other journal begins)

no_more : (xs rest ys : List Entry) → xs ++ rest ≡ ys → rest ≡ [] → xs ≡ ys
no_more xs rest ys h none = sym (append-nil xs) ∙ ap (λ (es : List Entry). xs ++ es) (sym none) ∙ h

-- after a run whose end is seen the process can't step
pub end_is_last : (A : Inputs) (journal : List Entry) (p : Point) → IsSingle A journal p → has_end (visible_of journal) ≡ true → can_step p.flat 1 ≡ false
end_is_last A journal p one end =
    end_stops A (acts_of journal) (start_point A) p (only_started A.images A.first one.image one.first) (plain_acts journal one.served one.childless)
    (sym (acts_lead A (units_of journal) (Some (start_point A))) ∙ one.runs)
    (end_among (acts_of journal) (ap has_end (visible_acts journal) ∙ end))

pub over_is_all : (A B : Inputs) (journal other : List Entry) (p q : Point) → IsPair A B journal other p q → can_step p.flat 1 ≡ false
    → Begins (visible_of other) (visible_of journal)
over_is_all A B journal other p q pair over = go (compare_runs A B journal other p q pair)
  where
    go : Compared (acts_of journal) (acts_of other) p q → Begins (visible_of other) (visible_of journal)
    go (First rest h k) = seen_begins other journal ([], append-nil (acts_of other) ∙ sym (no_more (acts_of journal) rest (acts_of other) h (k over)))
    go (Second rest h k) = seen_begins other journal (rest, h)

pub both_over : (A B : Inputs) (journal other : List Entry) (p q : Point) → IsPair A B journal other p q → can_step p.flat 1 ≡ false → can_step q.flat 1 ≡ false
    → IsSame journal other p q
both_over A B journal other p q pair over done = record {
  acts = same;
  visible = sym (visible_acts journal) ∙ ap (λ (es : List Entry). filter is_visible es) same ∙ visible_acts other;
  left = same_Some p q (sym (leads_first A B journal other p q pair) ∙ ap (λ (es : List Entry). flat_units A (Some (start_point A)) es) same ∙ leads_second A B journal other p q pair);
}
  where
    go : Compared (acts_of journal) (acts_of other) p q → acts_of journal ≡ acts_of other
    go (First rest h k) = no_more (acts_of journal) rest (acts_of other) h (k over)
    go (Second rest h k) = sym (no_more (acts_of other) rest (acts_of journal) h (k done))

    same : acts_of journal ≡ acts_of other
    same = go (compare_runs A B journal other p q pair)
