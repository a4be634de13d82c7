-- Each part ends the opening, or lets it go on.
use Rattle.std.proofs.Common.{rules, ◌≡◌, ℕ, List, Bor, None, Result, Ok, Err, Vec, Global, refl, sym, ap, ◌∙◌, subst}
use Rattle.command_edge.specs.ImageWords.{image_names, first_images}
use Rattle.command_edge.specs.declared.fault.Fault.{Fault}
use Rattle.command_edge.specs.declared.fault.Fault.TheVariants as faults
use Rattle.command_edge.specs.Named.{AnswersNamed}
use Rattle.command_edge.specs.Command.{Faults}
use Rattle.run_opening.specs.declared.images.OpenedImage.{OpenedImage}
use Rattle.run_opening.specs.declared.opening.Opening.{Opening}
use Rattle.run_opening.specs.Images.{images_found, images_in}
use Rattle.run_opening.specs.Devices.{device_fault}
use Rattle.run_opening.proofs.Lists.{now_of, opened_names, short_names, some_opened, few_started}
use Rattle.run_opening.proofs.Openings.{Asked, Opens, schedule_ends, refused, images_end, device_ends, opening_begins}
use Rattle.run_opening.specs.Asked.{AsksHeaders, AsksSomeHeaders, AsksOpening}
use Rattle.run_opening.proofs.Asking.{none_starved, some_images, all_headers, opening_ends, opening_goes_on}
use Rattle.run_opening.proofs.opening.open_run.Goals as goal

abbrev asked : Bor (List ℕ) → List (Bor (List ℕ)) → ℕ → ℕ → ℕ → Asked
asked schedule words swap zero_blocks one_blocks = record { schedule = schedule.now; words = now_of words; swap = swap; zero_blocks = zero_blocks; one_blocks = one_blocks }

pub returns-in_err-lines-clause-ends : goal.returns-in_err-lines-clause-ends
returns-in_err-lines-clause-ends g c =
    let a = asked c.args.schedule c.args.words.now c.args.swap c.args.zero_blocks c.args.one_blocks in
    let f : Faults = record {
      open_before = g.F.Files.open_faults c.args.files.now;
      open_after = g.F.Files.open_faults c.open_schedule.new.files;
      page_before = g.F.Files.page_faults c.args.files.now;
      page_after = g.F.Files.page_faults c.open_schedule.new.files;
    } in
    let is : c.from_residual.result ≡ Err c.in_err-lines.field-0.0 = search rules in
    subst (λ (r : Result Opening Fault). Opens a (g.F.Files.holds c.args.files.now) f r) (sym is)
    (schedule_ends a (g.F.Files.holds c.args.files.now) f c.in_err-lines.field-0.0 c.in_err-lines.ensures.ends)

pub returns-in_err-names-clause-ends : goal.returns-in_err-names-clause-ends
returns-in_err-names-clause-ends g c =
    let a = asked c.args.schedule c.args.words.now c.args.swap c.args.zero_blocks c.args.one_blocks in
    let f : Faults = record {
      open_before = g.F.Files.open_faults c.args.files.now;
      open_after = g.F.Files.open_faults c.open_schedule.new.files;
      page_before = g.F.Files.page_faults c.args.files.now;
      page_after = g.F.Files.page_faults c.open_schedule.new.files;
    } in
    let is : c.from_residual-in_err-names.result ≡ Err faults.NoMemory = search rules in
    subst (λ (r : Result Opening Fault). Opens a (g.F.Files.holds c.args.files.now) f r) (sym is) (refused a (g.F.Files.holds c.args.files.now) f)

pub returns-in_err-first-clause-ends : goal.returns-in_err-first-clause-ends
returns-in_err-first-clause-ends g c =
    let a = asked c.args.schedule c.args.words.now c.args.swap c.args.zero_blocks c.args.one_blocks in
    let f : Faults = record {
      open_before = g.F.Files.open_faults c.args.files.now;
      open_after = g.F.Files.open_faults c.open_schedule.new.files;
      page_before = g.F.Files.page_faults c.args.files.now;
      page_after = g.F.Files.page_faults c.open_schedule.new.files;
    } in
    let is : c.from_residual-in_err-first.result ≡ Err faults.NoMemory = search rules in
    subst (λ (r : Result Opening Fault). Opens a (g.F.Files.holds c.args.files.now) f r) (sym is) (refused a (g.F.Files.holds c.args.files.now) f)

pub returns-in_err-images-clause-ends : goal.returns-in_err-images-clause-ends
returns-in_err-images-clause-ends g c =
    let a = asked c.args.schedule c.args.words.now c.args.swap c.args.zero_blocks c.args.one_blocks in
    let names : now_of c.as_slice-2.result.now ≡ image_names (now_of c.args.words.now) = ap now_of c.as_slice-2.ensures.value ∙ c.in_ok-names.ensures.exact in
    let f : Faults = record {
      open_before = g.F.Files.open_faults c.args.files.now;
      open_after = g.F.Files.open_faults c.open_images.new.files;
      page_before = g.F.Files.page_faults c.args.files.now;
      page_after = g.F.Files.page_faults c.open_images.new.files;
    } in
    let fault = c.in_err-images.field-0.0 in
    let is : c.from_residual-in_err-images.result ≡ Err fault = search rules in
    subst (λ (r : Result Opening Fault). Opens a (g.F.Files.holds c.args.files.now) f r) (sym is)
    (images_end (λ list (images : Vec OpenedImage Global). images_in list images.items) a (g.F.Files.holds c.args.files.now) _ f c.in_ok-lines.lines fault
    c.in_ok-lines.ensures.ends refl (c.open_images.ensures.page_faults ∙ c.open_schedule.ensures.page_faults)
    (λ list told. subst (λ (xs : List (List ℕ)). AnswersNamed (λ (images : Vec OpenedImage Global). images_in list images.items) (images_found list xs) (Err fault)) names
    (c.in_err-images.ensures.answers list (c.open_schedule.ensures.kept.holds ∙ told)))
    c.in_err-images.ensures.open_faults c.in_err-images.ensures.error)

pub returns-in-Some-clause-ends : goal.returns-in-Some-clause-ends
returns-in-Some-clause-ends g c =
    let a = asked c.args.schedule c.args.words.now c.args.swap c.args.zero_blocks c.args.one_blocks in
    let names : now_of c.as_slice-2.result.now ≡ image_names (now_of c.args.words.now) = ap now_of c.as_slice-2.ensures.value ∙ c.in_ok-names.ensures.exact in
    let f : Faults = record {
      open_before = g.F.Files.open_faults c.args.files.now;
      open_after = g.F.Files.open_faults c.open_images.new.files;
      page_before = g.F.Files.page_faults c.args.files.now;
      page_after = g.F.Files.page_faults c.open_images.new.files;
    } in
    device_ends a (g.F.Files.holds c.args.files.now) _ f c.in_ok-lines.lines c.in_ok-images.images c.in-Some.fault c.in_ok-lines.ensures.ends
    (λ list told. subst (λ (xs : List (List ℕ)). images_found list xs ≡ Ok (images_in list c.in_ok-images.images.items)) names
    (c.in_ok-images.ensures.answers list (c.open_schedule.ensures.kept.holds ∙ told)))
    (sym c.in-Some.is ∙ c.device_fault.ensures)

pub returns-clause-ends : goal.returns-clause-ends
returns-clause-ends g c =
    let a = asked c.args.schedule c.args.words.now c.args.swap c.args.zero_blocks c.args.one_blocks in
    let names : now_of c.as_slice-2.result.now ≡ image_names (now_of c.args.words.now) = ap now_of c.as_slice-2.ensures.value ∙ c.in_ok-names.ensures.exact in
    let opening : Opening = record { images = c.in_ok-images.images; first = c.in_ok-first.first; lines = c.in_ok-lines.lines } in
    let none : None ≡ device_fault c.args.swap c.args.zero_blocks c.args.one_blocks = search rules in
    opening_begins a (g.F.Files.holds c.args.files.now) _ _ opening c.in_ok-lines.ensures.ends
    (λ list told. subst (λ (xs : List (List ℕ)). images_found list xs ≡ Ok (images_in list c.in_ok-images.images.items)) names
    (c.in_ok-images.ensures.answers list (c.open_schedule.ensures.kept.holds ∙ told)))
    (c.in_ok-first.ensures.exact ∙ ap (λ (xs : List (List ℕ)). first_images xs (now_of c.args.words.now)) (ap now_of c.as_slice.ensures.value ∙ c.in_ok-names.ensures.exact))
    none
    (record {
      open_same = c.in_ok-images.ensures.open_faults ∙ c.in_ok-lines.ensures.open_faults;
      page_same = c.open_images.ensures.page_faults ∙ c.open_schedule.ensures.page_faults;
    })

pub returns-clause-names : goal.returns-clause-names
returns-clause-names g c =
    opened_names c.in_ok-images.images.items c.as_slice-2.result.now c.args.words.now c.in_ok-images.ensures.names (ap now_of c.as_slice-2.ensures.value ∙ c.in_ok-names.ensures.exact)

pub returns-clause-short : goal.returns-clause-short
returns-clause-short g c = λ each.
    short_names c.in_ok-images.images.items c.args.words.now
    (opened_names c.in_ok-images.images.items c.as_slice-2.result.now c.args.words.now c.in_ok-images.ensures.names (ap now_of c.as_slice-2.ensures.value ∙ c.in_ok-names.ensures.exact)) each

pub returns-clause-some_image : goal.returns-clause-some_image
returns-clause-some_image g c = λ some.
    some_opened c.in_ok-images.images.items c.args.words.now
    (opened_names c.in_ok-images.images.items c.as_slice-2.result.now c.args.words.now c.in_ok-images.ensures.names (ap now_of c.as_slice-2.ensures.value ∙ c.in_ok-names.ensures.exact)) some

pub returns-clause-few_first : goal.returns-clause-few_first
returns-clause-few_first g c = few_started c.in_ok-first.first.items (now_of c.as_slice.result.now) c.args.words.now c.in_ok-first.ensures.exact

-- What was asked.

pub returns-in_err-lines-clause-asked : goal.returns-in_err-lines-clause-asked
returns-in_err-lines-clause-asked g c =
    let is : c.from_residual.result ≡ Err c.in_err-lines.field-0.0 = search rules in
    subst (λ (r : Result Opening Fault). AsksOpening c.args.schedule.now (image_names (now_of c.args.words.now)) (g.F.Files.holds c.args.files.now) r
    (g.F.Files.notes c.args.files.now) (g.F.Files.notes c.open_schedule.new.files)) (sym is)
    (opening_ends c.args.schedule.now (image_names (now_of c.args.words.now)) (g.F.Files.holds c.args.files.now) c.in_err-lines.ensures.ends.read _
    c.in_err-lines.field-0.0 (g.F.Files.notes c.args.files.now) (g.F.Files.notes c.open_schedule.new.files)
    c.in_err-lines.ensures.ends.ends c.in_err-lines.ensures.asked)

pub returns-in_err-names-clause-asked : goal.returns-in_err-names-clause-asked
returns-in_err-names-clause-asked g c =
    let is : c.from_residual-in_err-names.result ≡ Err faults.NoMemory = search rules in
    subst (λ (r : Result Opening Fault). AsksOpening c.args.schedule.now (image_names (now_of c.args.words.now)) (g.F.Files.holds c.args.files.now) r
    (g.F.Files.notes c.args.files.now) (g.F.Files.notes c.open_schedule.new.files)) (sym is)
    (opening_goes_on c.args.schedule.now (image_names (now_of c.args.words.now)) (g.F.Files.holds c.args.files.now) (g.F.Files.holds c.args.files.now) c.in_ok-lines.lines
    (Err faults.NoMemory) (g.F.Files.notes c.args.files.now) (g.F.Files.notes c.open_schedule.new.files) (g.F.Files.notes c.open_schedule.new.files) refl c.in_ok-lines.ensures.asked
    (none_starved c.args.schedule.now (image_names (now_of c.args.words.now)) (g.F.Files.holds c.args.files.now) (g.F.Files.notes c.open_schedule.new.files)))

pub returns-in_err-first-clause-asked : goal.returns-in_err-first-clause-asked
returns-in_err-first-clause-asked g c =
    let is : c.from_residual-in_err-first.result ≡ Err faults.NoMemory = search rules in
    subst (λ (r : Result Opening Fault). AsksOpening c.args.schedule.now (image_names (now_of c.args.words.now)) (g.F.Files.holds c.args.files.now) r
    (g.F.Files.notes c.args.files.now) (g.F.Files.notes c.open_schedule.new.files)) (sym is)
    (opening_goes_on c.args.schedule.now (image_names (now_of c.args.words.now)) (g.F.Files.holds c.args.files.now) (g.F.Files.holds c.args.files.now) c.in_ok-lines.lines
    (Err faults.NoMemory) (g.F.Files.notes c.args.files.now) (g.F.Files.notes c.open_schedule.new.files) (g.F.Files.notes c.open_schedule.new.files) refl c.in_ok-lines.ensures.asked
    (none_starved c.args.schedule.now (image_names (now_of c.args.words.now)) (g.F.Files.holds c.args.files.now) (g.F.Files.notes c.open_schedule.new.files)))

pub returns-in_err-images-clause-asked : goal.returns-in_err-images-clause-asked
returns-in_err-images-clause-asked g c =
    let names : now_of c.as_slice-2.result.now ≡ image_names (now_of c.args.words.now) = ap now_of c.as_slice-2.ensures.value ∙ c.in_ok-names.ensures.exact in
    let held = g.F.Files.holds c.open_schedule.new.files in
    let fault = c.in_err-images.field-0.0 in
    let is : c.from_residual-in_err-images.result ≡ Err fault = search rules in
    subst (λ (r : Result Opening Fault). AsksOpening c.args.schedule.now (image_names (now_of c.args.words.now)) (g.F.Files.holds c.args.files.now) r
    (g.F.Files.notes c.args.files.now) (g.F.Files.notes c.open_images.new.files)) (sym is)
    (opening_goes_on c.args.schedule.now (image_names (now_of c.args.words.now)) held (g.F.Files.holds c.args.files.now) c.in_ok-lines.lines (Err fault)
    (g.F.Files.notes c.args.files.now) (g.F.Files.notes c.open_schedule.new.files) (g.F.Files.notes c.open_images.new.files) c.open_schedule.ensures.kept.holds c.in_ok-lines.ensures.asked
    (some_images c.args.schedule.now fault (image_names (now_of c.args.words.now)) held (g.F.Files.notes c.open_schedule.new.files)
    (g.F.Files.notes c.open_images.new.files) c.in_err-images.ensures.error
    (subst (λ (xs : List (List ℕ)). AsksSomeHeaders fault xs held (g.F.Files.notes c.open_schedule.new.files) (g.F.Files.notes c.open_images.new.files)) names c.in_err-images.ensures.asked)))

pub returns-in-Some-clause-asked : goal.returns-in-Some-clause-asked
returns-in-Some-clause-asked g c =
    let names : now_of c.as_slice-2.result.now ≡ image_names (now_of c.args.words.now) = ap now_of c.as_slice-2.ensures.value ∙ c.in_ok-names.ensures.exact in
    let held = g.F.Files.holds c.open_schedule.new.files in
    opening_goes_on c.args.schedule.now (image_names (now_of c.args.words.now)) held (g.F.Files.holds c.args.files.now) c.in_ok-lines.lines (Err c.in-Some.fault)
    (g.F.Files.notes c.args.files.now) (g.F.Files.notes c.open_schedule.new.files) (g.F.Files.notes c.open_images.new.files) c.open_schedule.ensures.kept.holds c.in_ok-lines.ensures.asked
    (all_headers c.args.schedule.now c.args.swap c.args.zero_blocks c.args.one_blocks c.in-Some.fault (image_names (now_of c.args.words.now)) held
    (g.F.Files.notes c.open_schedule.new.files) (g.F.Files.notes c.open_images.new.files) (sym c.device_fault.ensures ∙ c.in-Some.is)
    (subst (λ (xs : List (List ℕ)). AsksHeaders xs held (g.F.Files.notes c.open_schedule.new.files) (g.F.Files.notes c.open_images.new.files)) names c.in_ok-images.ensures.asked))

pub returns-clause-asked : goal.returns-clause-asked
returns-clause-asked g c =
    let names : now_of c.as_slice-2.result.now ≡ image_names (now_of c.args.words.now) = ap now_of c.as_slice-2.ensures.value ∙ c.in_ok-names.ensures.exact in
    let held = g.F.Files.holds c.open_schedule.new.files in
    let opening : Opening = record { images = c.in_ok-images.images; first = c.in_ok-first.first; lines = c.in_ok-lines.lines } in
    opening_goes_on c.args.schedule.now (image_names (now_of c.args.words.now)) held (g.F.Files.holds c.args.files.now) c.in_ok-lines.lines (Ok opening)
    (g.F.Files.notes c.args.files.now) (g.F.Files.notes c.open_schedule.new.files) (g.F.Files.notes c.open_images.new.files) c.open_schedule.ensures.kept.holds c.in_ok-lines.ensures.asked
    (subst (λ (xs : List (List ℕ)). AsksHeaders xs held (g.F.Files.notes c.open_schedule.new.files) (g.F.Files.notes c.open_images.new.files)) names c.in_ok-images.ensures.asked)
