use Rattle.std.proofs.Common.{rules, ◌≡◌, ℕ, ◌+◌, List, [], ◌∷◌, ◌++◌, map, Option, Result, Err, Vec, Bor, Global, sym, ◌∙◌, subst}
use Rattle.io_edge.specs.FileHolding.{NamedFile, HasRange}
use Rattle.aout_image.specs.Image.{IsSound, file_length_of}
use Rattle.run_opening.specs.declared.images.OpenedImage.{OpenedImage}
use Rattle.run_opening.specs.Images.{IsIn}
use Rattle.command_edge.specs.declared.fault.Fault.{Fault}
use Rattle.command_edge.specs.declared.fault.Fault.TheVariants as faults
use Rattle.run_opening.specs.Asked.{AsksImages}
use Rattle.run_opening.proofs.Asking.{front_on, headers_taken, headers_all, some_next, some_so_far}
use Rattle.run_opening.proofs.Finding.{answers_more, names_more, All-pushed}
use Rattle.run_opening.proofs.images.open_images.Goals as goal

pub loop-name-preserved : goal.loop-name-preserved
loop-name-preserved g c =
    let before = c.loop-name.invariant in
    let images = c.loop-name.images.items in
    let after = c.push.new.self.items in
    let opened = c.in_ok-image in
    let image = opened.image in
    let pushed : after ≡ images ++ image ∷ [] = c.in-Ok.ensures.items in
    let range : HasRange (g.F.Files.holds c.args.files.now) image.file 0 (file_length_of image.facts)
    = subst (λ (h : Option (List NamedFile)). HasRange h image.file 0 (file_length_of image.facts)) before.holds opened.ensures.range in
    record {
      answers = λ list told.
          answers_more list c.args.names.now images after image c.loop-name.name-index _ c.loop-name-test.true
          (opened.ensures.answers list (before.holds ∙ told)) pushed (before.answers list told);
      are_in = λ list told. All-pushed (IsIn list) images after image pushed (before.are_in list told) (opened.ensures.is_in list (before.holds ∙ told));
      names = names_more c.args.names.now images after image c.loop-name.name-index _ c.loop-name-test.true opened.ensures.name pushed before.names;
      ranges = All-pushed (λ (i : OpenedImage). HasRange (g.F.Files.holds c.args.files.now) i.file 0 (file_length_of i.facts)) images after image pushed before.ranges range;
      sound = All-pushed (λ (i : OpenedImage). IsSound i.facts) images after image pushed before.sound opened.ensures.sound;
      asked =
          headers_taken c.args.names.now c.loop-name.name-index _ (g.F.Files.holds c.args.files.now) _ (g.F.Files.notes c.loop-name.files) _ c.loop-name-test.true before.asked
          (front_on _ _ _ _ _ _ _ _ _ before.holds (λ e. absurd cc) (λ e. absurd cc) opened.ensures.asked);
      leads = g.met.F.Files.leads_through c.args.files.now c.loop-name.files c.open_named.new.files before.leads c.open_named.ensures.kept.leads;
      holds = c.open_named.ensures.kept.holds ∙ before.holds;
      open_faults = opened.ensures.open_faults ∙ before.open_faults;
      page_faults = c.open_named.ensures.page_faults ∙ before.page_faults;
    }

pub returns-in_err-image-clause-asked : goal.returns-in_err-image-clause-asked
returns-in_err-image-clause-asked g c =
    let before = c.loop-name.invariant in
    let fault = c.in_err-image.field-0.0 in
    let holds = g.F.Files.holds c.args.files.now in
    let names = c.args.names.now in
    let is : c.from_residual.result ≡ Err fault = search rules in
    subst (λ (r : Result (Vec OpenedImage Global) Fault). AsksImages r (map (λ (name : Bor (List ℕ)). name.now) names) holds (g.F.Files.notes c.args.files.now)
    (g.F.Files.notes c.open_named.new.files))
    (sym is)
    (some_next fault names c.loop-name.name-index _ holds _ (g.F.Files.notes c.loop-name.files) _ c.loop-name-test.true before.asked c.in_err-image.ensures.about
    (front_on _ _ _ _ _ _ _ _ _ before.holds (λ e. tt)
    (λ e. let same : fault ≡ faults.NoMemory = cc in same) c.in_err-image.ensures.asked))

pub returns-in_default-clause-asked : goal.returns-in_default-clause-asked
returns-in_default-clause-asked g c =
    let before = c.loop-name.invariant in
    some_so_far c.args.names.now (c.loop-name.name-index + 1) (g.F.Files.holds c.args.files.now) _ _
    (headers_taken c.args.names.now c.loop-name.name-index _ (g.F.Files.holds c.args.files.now) _ (g.F.Files.notes c.loop-name.files) _ c.loop-name-test.true
    before.asked (front_on _ _ _ _ _ _ _ _ _ before.holds (λ e. absurd cc) (λ e. absurd cc) c.in_ok-image.ensures.asked))
