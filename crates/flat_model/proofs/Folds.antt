-- A run goes on by one entry.
use Rattle.std.proofs.Common.{◌≡◌, List, [], ◌∷◌, ◌++◌, Option, Some, None, refl, ap, ◌∙◌}
use Rattle.vm_facts.specs.declared.entry.Entry.{Entry}
use Rattle.flat_state.specs.Flat.{Inputs}
use Rattle.flat_state.specs.Journal.{units_of, units_with}
use Rattle.flat_state.proofs.Joins.{units-append}
use Rattle.flat_model.specs.Run.{Point, flat_entry, flat_units, flat_run, start_point}

pub units_more : (A : Inputs) (o : Option Point) (us vs : List Entry) → flat_units A o (us ++ vs) ≡ flat_units A (flat_units A o us) vs
unfolding flat_units
units_more A None us vs = refl
units_more A (Some point) [] vs = refl
units_more A (Some point) (u ∷ us) vs = units_more A (flat_entry A point u) us vs

pub run_more : (A : Inputs) (journal : List Entry) (e : Entry) → flat_run A (journal ++ e ∷ []) ≡ flat_units A (flat_run A journal) (units_with e [])
run_more A journal e =
    ap (flat_units A (Some (start_point A))) (units-append journal (e ∷ []))
    ∙ units_more A (Some (start_point A)) (units_of journal) (units_with e [])
