-- How few pages an instruction touches in a run.
use Rattle.std.proofs.Common.{◌≡◌, ℕ, ◌≤◌, List, length, Some}
use Rattle.vm_facts.specs.declared.entry.Entry.{Entry}
use Rattle.flat_state.specs.Flat.{NamedImage, Inputs}
use Rattle.kernel_model.specs.Start.{ImagesFit}
use Rattle.flat_model.specs.Run.{Point, flat_run}
use Rattle.flat_model.specs.Touched.{touched}
use Rattle.flat_laws.specs.Whole.{EachWhole, ImagesWhole}
use Rattle.flat_laws.proofs.Few.{touched_few}
use Rattle.flat_laws.proofs.Sized.{run_sized, sized_whole}

pub images_whole : (images : List NamedImage) → ImagesFit images → ImagesWhole images
images_whole images fits = λ number named here.
    let f = fits number named here in
    let s = f.sound in
    record { text = f.text; «data» = f.data.size; text_fits = s.text_fits; data_fits = s.data_fits }

pub run_whole : (A : Inputs) (journal : List Entry) (point : Point) → ImagesFit A.images → flat_run A journal ≡ Some point → EachWhole point.flat
run_whole A journal point fits h = sized_whole point.flat (run_sized A journal point (images_whole A.images fits) h)

pub run_few : (A : Inputs) (journal : List Entry) (point : Point) (pid : ℕ) → ImagesFit A.images → flat_run A journal ≡ Some point
    → length (touched A point.flat pid) ≤ 28
run_few A journal point pid fits h = touched_few A point.flat pid (run_whole A journal point fits h pid)
