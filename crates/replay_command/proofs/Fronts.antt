-- The first entries of a run are a run.
use Rattle.std.proofs.Common.{◌≡◌, ℕ, ◌≤◌, leb, Bool, true, ◌&&◌, List, [], ◌∷◌, ◌++◌, length, take, drop, Option, Some, None, is_some, refl, sym, ap, ◌∙◌, arith}
use Rattle.std.proofs.lemmas.Bool.{le-leb}
use Rattle.std.proofs.lemmas.List.{take-append-drop}
use Rattle.vm_facts.specs.declared.entry.Entry.{Entry}
use Rattle.flat_state.specs.Flat.{Inputs}
use Rattle.flat_state.specs.Journal.{units_of, instructions_of}
use Rattle.flat_state.proofs.Joins.{units-append, count-append}
use Rattle.flat_model.specs.Run.{Point, flat_entry, flat_units, start_point, flat_run}
use Rattle.replay_check.specs.Verdicts.{instruction_limit, first_bad}
use Rattle.replay_check.proofs.Verdicts.{none_bad}

-- a run stands once its first units do
front_some : (A : Inputs) (us vs : List Entry) (o : Option Point) (q : Point) → flat_units A o (us ++ vs) ≡ Some q → is_some (flat_units A o us) ≡ true
unfolding flat_units
front_some A us vs None q h = absurd cc
front_some A [] vs (Some p) q h = refl
front_some A (u ∷ us) vs (Some p) q h = front_some A us vs (flat_entry A p u) q h

front_run : (A : Inputs) (entries : List Entry) (q : Point) (k : ℕ) → flat_run A entries ≡ Some q → is_some (flat_run A (take k entries)) ≡ true
front_run A entries q k h = front_some A (units_of (take k entries)) (units_of (drop k entries)) (Some (start_point A)) q
    (ap (flat_units A (Some (start_point A))) (sym (units-append (take k entries) (drop k entries)) ∙ ap units_of (take-append-drop k entries)) ∙ h)

front_count : (entries : List Entry) (k : ℕ) → instructions_of (take k entries) ≤ instructions_of entries
front_count entries k = let a = count-append (take k entries) (drop k entries) in
    let b : instructions_of (take k entries ++ drop k entries) ≡ instructions_of entries = ap instructions_of (take-append-drop k entries) in omega arith

pub none_is_bad : (A : Inputs) (entries : List Entry) (q : Point) → flat_run A entries ≡ Some q → instructions_of entries ≤ instruction_limit
    → first_bad A entries ≡ None
none_is_bad A entries q h l = none_bad A entries (length entries) (omega arith) (λ k m.
    ap (λ (b : Bool). b && leb (instructions_of (take k entries)) instruction_limit) (front_run A entries q k h)
    ∙ le-leb (instructions_of (take k entries)) instruction_limit (let c = front_count entries k in omega arith))
