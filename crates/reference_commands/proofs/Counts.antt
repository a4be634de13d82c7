-- A run of no more than 100,000 instructions has few references.
use Rattle.std.proofs.Common.{◌≡◌, ℕ, zero, suc, ◌+◌, ◌*◌, ◌≤◌, List, [], ◌∷◌, ◌++◌, length, Option, Some, None, refl, sym, ap, ◌∙◌, subst, arith, length-append}
use Rattle.vm_facts.specs.declared.entry.Entry.{Entry}
use Rattle.vm_facts.specs.declared.page.Page.{Page}
use Rattle.vm_facts.specs.declared.entry.Entry.TheVariants.{Ran, Hands, Call, Ended}
use Rattle.flat_state.specs.Flat.{NamedImage, Inputs}
use Rattle.flat_state.specs.Journal.{repeated, units_with, units_of, counted, instructions_of, IsUnit, AllUnits}
use Rattle.kernel_model.specs.Start.{ImagesFit}
use Rattle.flat_model.specs.Run.{Point, flat_entry, flat_units, flat_run, start_point}
use Rattle.flat_model.specs.Touched.{touched}
use Rattle.flat_model.proofs.Folds.{run_more}
use Rattle.run_model.proofs.After.{count_of_units}
use Rattle.run_laws.specs.Whole.{ImagesWhole}
use Rattle.run_laws.proofs.Few.{touched_few}
use Rattle.run_laws.proofs.Sized.{run_sized, sized_whole}
use Rattle.replay_check.specs.Verdicts.{touched_by_unit, references_from, references_of}
use Rattle.replay_check.proofs.Running.{units_one}
use Rattle.run_command.proofs.Texts.{start_runs}

-- images that fit their pages are whole
pub images_whole : (images : List NamedImage) → ImagesFit images → ImagesWhole images
images_whole images fit = λ number named at.
    let f = fit number named at in
    record { text = f.text; «data» = f.data.size; text_fits = f.sound.text_fits; data_fits = f.sound.data_fits }

-- Units of a journal.

repeated_units : (u : Entry) (n : ℕ) (us : List Entry) → IsUnit u → AllUnits us → AllUnits (repeated u n us)
repeated_units u zero us is all = all
repeated_units u (suc n) us is all = (is, repeated_units u n us is all)

units_before : (e : Entry) (us : List Entry) → AllUnits us → AllUnits (units_with e us)
units_before (Ran p n) us all = repeated_units (Ran p 1) n us refl all
units_before (Hands n) us all = repeated_units (Hands 1) n us refl all
units_before _ us all = (tt, all)

all_units : (journal : List Entry) → AllUnits (units_of journal)
all_units [] = tt
all_units (e ∷ journal) = units_before e (units_of journal) (all_units journal)

alone : (u : Entry) → IsUnit u → units_with u [] ≡ u ∷ []
alone (Ran p n) is = subst (λ (k : ℕ). repeated (Ran p 1) k [] ≡ Ran p k ∷ []) (sym is) refl
alone (Hands n) is = subst (λ (k : ℕ). repeated (Hands 1) k [] ≡ Hands k ∷ []) (sym is) refl
alone _ is = refl

-- References.

none_from : (A : Inputs) (us : List Entry) → references_from A None us ≡ []
unfolding references_from
none_from A us = refl

unit_few : (A : Inputs) (point : Point) (u : Entry) → IsUnit u → ((pid : ℕ) → length (touched A point.flat pid) ≤ 28)
    → length (touched_by_unit A point u) ≤ 28 * counted u
unit_few A point (Ran pid n) is few = let h = few pid in omega (arith, h, is)
unit_few A point (Call pid number carry r0 r1) is few = few pid
unit_few A point (Ended pid status) is few = few pid
unit_few A point _ is few = omega arith

units_few : (A : Inputs) (done us : List Entry) (point : Point) → ImagesWhole A.images → AllUnits us → flat_run A done ≡ Some point
    → length (references_from A (Some point) us) ≤ 28 * instructions_of us
unfolding references_from
units_few A done [] point whole all run = omega arith
units_few A done (u ∷ us) point whole all run =
    go (λ next is. units_few A (done ++ u ∷ []) us next whole all.1 (one_more next is)) (flat_entry A point u) refl
  where
    one_more : (next : Point) → flat_entry A point u ≡ Some next → flat_run A (done ++ u ∷ []) ≡ Some next
    one_more next is =
        run_more A done u ∙ ap (λ (o : Option Point). flat_units A o (units_with u [])) run ∙ ap (flat_units A (Some point)) (alone u all.0) ∙ units_one A point u ∙ is

    here : length (touched_by_unit A point u) ≤ 28 * counted u
    here = unit_few A point u all.0 (λ pid. touched_few A point.flat pid (sized_whole point.flat (run_sized A done point whole run) pid))

    joined : (more : List Page) → length more ≤ 28 * instructions_of us → length (touched_by_unit A point u ++ more) ≤ 28 * (counted u + instructions_of us)
    joined more few = let both = length-append (touched_by_unit A point u) more in let first = here in omega arith

    go : ((next : Point) → flat_entry A point u ≡ Some next → length (references_from A (Some next) us) ≤ 28 * instructions_of us)
        → (next : Option Point) → flat_entry A point u ≡ next → length (touched_by_unit A point u ++ references_from A next us) ≤ 28 * (counted u + instructions_of us)
    go later None is = joined (references_from A None us) (let none = ap length (none_from A us) in omega arith)
    go later (Some next) is = joined (references_from A (Some next) us) (later next is)

pub references_few : (A : Inputs) (journal : List Entry) → ImagesFit A.images → length (references_of A journal) ≤ 28 * instructions_of journal
references_few A journal fit =
    let few = units_few A [] (units_of journal) (start_point A) (images_whole A.images fit) (all_units journal) (start_runs A) in
    omega (arith, few, count_of_units journal)
