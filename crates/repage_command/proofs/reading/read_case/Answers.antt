use Rattle.std.proofs.Common.{rules, ◌≡◌, ℕ, List, Bor, Vec, Global, Result, Ok, Err, length, map, sym, ap, ◌∙◌, subst, arith}
use Rattle.std.proofs.lemmas.List.Elements.{All-nil}
use Rattle.command_edge.specs.ImageWords.{image_names}
use Rattle.run_text.specs.Schedule.{IsInRanges}
use Rattle.replay_check.specs.Images.{FlatFile, AreNumbers}
use Rattle.command_edge.specs.declared.fault.Fault.{Fault}
use Rattle.command_edge.specs.Named.{AnswersNamed}
use Rattle.command_edge.specs.Command.{Faults, EndCounted}
use Rattle.command_edge.proofs.Counting.{none_then, counted_then}
use Rattle.run_opening.proofs.Lists.{few_started}
use Rattle.replay_command.specs.Reading.{images_told}
use Rattle.replay_command.proofs.Replays.{images_counted}
use Rattle.question_command.specs.InMemory.{AllDiffer}
use Rattle.question_command.proofs.Names.{names_differ}
use Rattle.question_command.proofs.Words.{short_names}
use Rattle.repage_command.specs.declared.reading.Case.{Case}
use Rattle.repage_command.proofs.Readings.{Ends, trace_ends, refused, images_end, case_ends}
use Rattle.repage_command.proofs.reading.read_case.Goals as goal

abbrev now_of : List (Bor (List ℕ)) → List (List ℕ)
now_of words = map (λ (word : Bor (List ℕ)). word.now) words

abbrev faults_over : ℕ → ℕ → ℕ → ℕ → Faults
faults_over open_before open_after page_before page_after =
    record { open_before = open_before; open_after = open_after; page_before = page_before; page_after = page_after }

-- The trace isn't read.

pub returns-in_err-lines-clause-made : goal.returns-in_err-lines-clause-made
returns-in_err-lines-clause-made g c =
    let f : Faults = faults_over (g.F.Files.open_faults c.args.files.now) (g.F.Files.open_faults c.read_lines.new.files)
    (g.F.Files.page_faults c.args.files.now) (g.F.Files.page_faults c.read_lines.new.files) in
    let is : c.from_residual.result ≡ Err c.in_err-lines.field-0.0 = search rules in
    subst (λ (e : Result Case Fault). Ends c.args.trace.now (now_of c.args.words.now) (g.F.Files.holds c.args.files.now) f e) (sym is)
    (trace_ends c.args.trace.now (now_of c.args.words.now) (g.F.Files.holds c.args.files.now) f c.in_err-lines.field-0.0 c.in_err-lines.ensures.ends)

pub returns-in_err-lines-clause-counted : goal.returns-in_err-lines-clause-counted
returns-in_err-lines-clause-counted g c =
    let f : Faults = faults_over (g.F.Files.open_faults c.args.files.now) (g.F.Files.open_faults c.read_lines.new.files)
    (g.F.Files.page_faults c.args.files.now) (g.F.Files.page_faults c.read_lines.new.files) in
    let is : c.from_residual.result ≡ Err c.in_err-lines.field-0.0 = search rules in
    subst (λ (e : Result Case Fault). EndCounted e f) (sym is) c.in_err-lines.ensures.counted

-- No memory for the names.

pub returns-in_err-naming-clause-made : goal.returns-in_err-naming-clause-made
returns-in_err-naming-clause-made g c =
    let f : Faults = faults_over (g.F.Files.open_faults c.args.files.now) (g.F.Files.open_faults c.read_lines.new.files)
    (g.F.Files.page_faults c.args.files.now) (g.F.Files.page_faults c.read_lines.new.files) in
    let is : c.from_residual-in_err-naming.result ≡ Err c.in_err-naming.field-0.0 = search rules in
    subst (λ (e : Result Case Fault). Ends c.args.trace.now (now_of c.args.words.now) (g.F.Files.holds c.args.files.now) f e)
    (sym (is ∙ ap Err c.in_err-naming.ensures.error))
    (refused c.args.trace.now (now_of c.args.words.now) (g.F.Files.holds c.args.files.now) f)

pub returns-in_err-naming-clause-counted : goal.returns-in_err-naming-clause-counted
returns-in_err-naming-clause-counted g c =
    let f : Faults = faults_over (g.F.Files.open_faults c.args.files.now) (g.F.Files.open_faults c.read_lines.new.files)
    (g.F.Files.page_faults c.args.files.now) (g.F.Files.page_faults c.read_lines.new.files) in
    let is : c.from_residual-in_err-naming.result ≡ Err c.in_err-naming.field-0.0 = search rules in
    subst (λ (e : Result Case Fault). EndCounted e f) (sym (is ∙ ap Err c.in_err-naming.ensures.error)) c.in_ok-lines.ensures.counted

-- An image isn't read.

pub returns-in_err-images-clause-made : goal.returns-in_err-images-clause-made
returns-in_err-images-clause-made g c =
    let f : Faults = faults_over (g.F.Files.open_faults c.args.files.now) (g.F.Files.open_faults c.load_images.new.files)
    (g.F.Files.page_faults c.args.files.now) (g.F.Files.page_faults c.load_images.new.files) in
    let words = now_of c.args.words.now in
    let names : now_of c.as_slice.result.now ≡ image_names words = ap now_of c.as_slice.ensures.value ∙ c.in_ok-naming.ensures.names in
    let is : c.from_residual-in_err-images.result ≡ Err c.in_err-images.field-0.0 = search rules in
    subst (λ (e : Result Case Fault). Ends c.args.trace.now words (g.F.Files.holds c.args.files.now) f e) (sym is)
    (images_end c.args.trace.now words (g.F.Files.holds c.args.files.now) _ _ _ _ _ _ c.in_ok-lines.lines.items c.in_err-images.field-0.0 c.in_ok-lines.ensures.ends
    {A = Vec FlatFile Global} (λ (images : Vec FlatFile Global). images.items)
    (λ list told. subst (λ (xs : List (List ℕ)). AnswersNamed (λ (images : Vec FlatFile Global). images.items) (images_told list xs) (Err c.in_err-images.field-0.0)) names
    (c.in_err-images.ensures.answers list (c.read_lines.ensures.kept.holds ∙ told)))
    c.in_err-images.ensures.faults)

pub returns-in_err-images-clause-counted : goal.returns-in_err-images-clause-counted
returns-in_err-images-clause-counted g c =
    let f : Faults = faults_over (g.F.Files.open_faults c.args.files.now) (g.F.Files.open_faults c.load_images.new.files)
    (g.F.Files.page_faults c.args.files.now) (g.F.Files.page_faults c.load_images.new.files) in
    let is : c.from_residual-in_err-images.result ≡ Err c.in_err-images.field-0.0 = search rules in
    subst (λ (e : Result Case Fault). EndCounted e f) (sym is)
    (counted_then _ _ _ _ _ _ c.in_err-images.field-0.0 c.in_ok-lines.ensures.counted
    (images_counted (Vec FlatFile Global) _ c.in_err-images.field-0.0 c.in_err-images.ensures.faults))

-- All is read.

pub returns-clause-made : goal.returns-clause-made
returns-clause-made g c =
    let words = now_of c.args.words.now in
    let names : now_of c.as_slice.result.now ≡ image_names words = ap now_of c.as_slice.ensures.value ∙ c.in_ok-naming.ensures.names in
    case_ends c.args.trace.now words (g.F.Files.holds c.args.files.now) _ _ _ _ _ _
    (record { lines = c.in_ok-lines.lines; naming = c.in_ok-naming.naming; images = c.in_ok-images.images }) c.in_ok-lines.ensures.ends
    (λ list told. subst (λ (xs : List (List ℕ)). images_told list xs ≡ Ok c.in_ok-images.images.items) names
    (c.in_ok-images.ensures.answers list (c.read_lines.ensures.kept.holds ∙ told)))
    c.in_ok-images.ensures.faults c.in_ok-naming.ensures.first

pub returns-clause-counted : goal.returns-clause-counted
returns-clause-counted g c = none_then _ _ _ _ _ _ c.in_ok-lines.ensures.counted c.in_ok-images.ensures.faults

pub returns-clause-ready : goal.returns-clause-ready
returns-clause-ready g c =
    let words = now_of c.args.words.now in
    let count : length c.in_ok-images.images.items ≡ length c.in_ok-naming.naming.names.items = c.in_ok-images.ensures.count ∙ ap length c.as_slice.ensures.value in
    record {
      limit = c.requires.limit;
      images = record {
        few = let names = c.in_ok-naming.ensures.count in let few = c.requires.fits.images_are.few in omega (arith, count, names, few);
        images = c.in_ok-images.ensures.images;
      };
      few_names = let names = c.in_ok-naming.ensures.count in let few = c.requires.fits.images_are.few in omega (arith, names, few);
      named = c.in_ok-images.ensures.named ∙ ap now_of c.as_slice.ensures.value;
      short = short_names c.in_ok-naming.naming.names.items c.args.words.now c.in_ok-naming.ensures.names c.requires.fits.images_are.names;
      differ = subst AllDiffer (sym c.in_ok-naming.ensures.names) (names_differ words);
      runnable = record {
        allowed = c.requires.fits.allowed;
        numbers_are = subst (λ (n : ℕ). AreNumbers n c.in_ok-naming.naming.first.items) (sym count) c.in_ok-naming.ensures.range;
        few_first = let few = few_started c.in_ok-naming.naming.first.items (image_names words) c.args.words.now c.in_ok-naming.ensures.first in
            let most = c.requires.fits.images_are.few in omega (arith, few, most);
        ranges = All-nil IsInRanges;
        few_lines = omega arith;
      };
      few = c.in_ok-lines.ensures.few;
      moves = c.in_ok-lines.ensures.moves;
    }

pub returns-clause-kept : goal.returns-clause-kept
returns-clause-kept g c = record {
  leads = g.met.F.Files.leads_through c.args.files.now c.read_lines.new.files c.load_images.new.files c.read_lines.ensures.kept.leads c.load_images.ensures.kept.leads;
  holds = c.load_images.ensures.kept.holds ∙ c.read_lines.ensures.kept.holds;
}

pub returns-in_err-images-clause-kept : goal.returns-in_err-images-clause-kept
returns-in_err-images-clause-kept g c = record {
  leads = g.met.F.Files.leads_through c.args.files.now c.read_lines.new.files c.load_images.new.files c.read_lines.ensures.kept.leads c.load_images.ensures.kept.leads;
  holds = c.load_images.ensures.kept.holds ∙ c.read_lines.ensures.kept.holds;
}
