use Rattle.std.proofs.Common.{rules, ◌≡◌, ℕ, List, Bor, Vec, Global, Ok, Err, length, map, sym, ap, ◌∙◌, subst, arith}
use Rattle.vm_facts.specs.declared.event.Event.{Event}
use Rattle.command_edge.specs.ImageWords.{image_names, first_images}
use Rattle.replay_check.specs.Images.{FlatFile, AreNumbers}
use Rattle.command_edge.specs.Ending.{Ending, ending_of}
use Rattle.command_edge.specs.Named.{AnswersNamed}
use Rattle.command_edge.specs.Command.{Faults, EndCounted, Made}
use Rattle.command_edge.proofs.Counting.{none_then, counted_then}
use Rattle.run_opening.proofs.Lists.{few_started}
use Rattle.reference_commands.specs.ReplayCommandReading.{images_told}
use Rattle.reference_commands.proofs.Replays.{images_counted}
use Rattle.reference_commands.specs.Reading.{read_told}
use Rattle.reference_commands.specs.Asking.{Subject}
use Rattle.reference_commands.specs.Ends.{EndsQuestion}
use Rattle.reference_commands.specs.InMemory.{inputs_with, IsRunnable, EndsAnswer, AllDiffer}
use Rattle.reference_commands.proofs.Names.{names_differ}
use Rattle.question_command.proofs.Words.{short_names}
use Rattle.question_command.proofs.Asked.{opened_counted, refused, schedule_ends, images_end, answer_counted, asked_ends}
use Rattle.question_command.proofs.command.answer_from.Goals as goal

abbrev now_of : List (Bor (List ℕ)) → List (List ℕ)
now_of words = map (λ (word : Bor (List ℕ)). word.now) words

pub returns-in_err-lines-clause-made : goal.returns-in_err-lines-clause-made
returns-in_err-lines-clause-made g c =
    let subject : Subject = record { numbers = c.args.numbers; schedule = c.args.schedule.now; words = now_of c.args.words.now } in
    let f : Faults = record {
      open_before = g.F.Files.open_faults c.args.files.now;
      open_after = g.F.Files.open_faults c.open_schedule.new.files;
      page_before = g.F.Files.page_faults c.args.files.now;
      page_after = g.F.Files.page_faults c.open_schedule.new.files;
    } in
    let is : c.from_residual.result ≡ Err c.in_err-lines.field-0.0 = search rules in
    subst (λ (e : Ending). Made (EndsQuestion c.args.question subject) (read_told subject.schedule subject.words) (g.F.Files.holds c.args.files.now) f e) (sym (ap ending_of is))
    (schedule_ends {V = Global} c.args.question subject (g.F.Files.holds c.args.files.now) f c.in_err-lines.field-0.0 c.in_err-lines.ensures.ends)

pub returns-in_err-naming-clause-made : goal.returns-in_err-naming-clause-made
returns-in_err-naming-clause-made g c =
    let subject : Subject = record { numbers = c.args.numbers; schedule = c.args.schedule.now; words = now_of c.args.words.now } in
    let f : Faults = record {
      open_before = g.F.Files.open_faults c.args.files.now;
      open_after = g.F.Files.open_faults c.open_schedule.new.files;
      page_before = g.F.Files.page_faults c.args.files.now;
      page_after = g.F.Files.page_faults c.open_schedule.new.files;
    } in
    let is : c.from_residual-in_err-naming.result ≡ Err c.in_err-naming.field-0.0 = search rules in
    subst (λ (e : Ending). Made (EndsQuestion c.args.question subject) (read_told subject.schedule subject.words) (g.F.Files.holds c.args.files.now) f e)
    (sym (ap ending_of is ∙ ap Err c.in_err-naming.ensures.error))
    (refused c.args.question subject (g.F.Files.holds c.args.files.now) f)

pub returns-in_err-images-clause-made : goal.returns-in_err-images-clause-made
returns-in_err-images-clause-made g c =
    let subject : Subject = record { numbers = c.args.numbers; schedule = c.args.schedule.now; words = now_of c.args.words.now } in
    let f : Faults = record {
      open_before = g.F.Files.open_faults c.args.files.now;
      open_after = g.F.Files.open_faults c.load_images.new.files;
      page_before = g.F.Files.page_faults c.args.files.now;
      page_after = g.F.Files.page_faults c.load_images.new.files;
    } in
    let names : now_of c.as_slice.result.now ≡ image_names (now_of c.args.words.now) = ap now_of c.as_slice.ensures.value ∙ c.in_ok-naming.ensures.names in
    let is : c.from_residual-in_err-images.result ≡ Err c.in_err-images.field-0.0 = search rules in
    subst (λ (e : Ending). Made (EndsQuestion c.args.question subject) (read_told subject.schedule subject.words) (g.F.Files.holds c.args.files.now) f e) (sym (ap ending_of is))
    (images_end {V = Global} {W = Vec FlatFile Global} c.args.question subject (g.F.Files.holds c.args.files.now) (record {
      open_before = g.F.Files.open_faults c.args.files.now;
      open_between = g.F.Files.open_faults c.open_schedule.new.files;
      open_after = g.F.Files.open_faults c.load_images.new.files;
      page_before = g.F.Files.page_faults c.args.files.now;
      page_between = g.F.Files.page_faults c.open_schedule.new.files;
      page_after = g.F.Files.page_faults c.load_images.new.files;
    }) c.in_ok-lines.lines c.in_err-images.field-0.0 c.in_ok-lines.ensures.ends
    (λ (images : Vec FlatFile Global). images.items)
    (λ list told. subst (λ (xs : List (List ℕ)). AnswersNamed (λ (images : Vec FlatFile Global). images.items) (images_told list xs) (Err c.in_err-images.field-0.0)) names
    (c.in_err-images.ensures.answers list (c.open_schedule.ensures.kept.holds ∙ told)))
    c.in_err-images.ensures.faults)

pub answer_over-requires-clause-few : goal.answer_over-requires-clause-few
answer_over-requires-clause-few g c =
    let same = ap length c.as_slice-3.ensures.value in
    let count = c.in_ok-naming.ensures.count in
    let few = c.requires.fits.images_are.few in
    omega arith

pub answer_over-requires-clause-short : goal.answer_over-requires-clause-short
answer_over-requires-clause-short g c =
    short_names c.as_slice-3.result.now c.args.words.now (ap now_of c.as_slice-3.ensures.value ∙ c.in_ok-naming.ensures.names) c.requires.fits.images_are.names

pub answer_over-requires-clause-differ : goal.answer_over-requires-clause-differ
answer_over-requires-clause-differ g c =
    subst AllDiffer (sym (ap now_of c.as_slice-3.ensures.value ∙ c.in_ok-naming.ensures.names)) (names_differ (now_of c.args.words.now))

pub answer_over-requires-clause-runnable : goal.answer_over-requires-clause-runnable
answer_over-requires-clause-runnable g c =
    let names : now_of c.as_slice.result.now ≡ image_names (now_of c.args.words.now) = ap now_of c.as_slice.ensures.value ∙ c.in_ok-naming.ensures.names in
    let first = c.in_ok-naming.naming.first.items in
    let count : length c.in_ok-naming.naming.names.items ≡ length c.as_slice-2.result.now
    = sym (ap length c.as_slice-2.ensures.value ∙ c.in_ok-images.ensures.count ∙ ap length c.as_slice.ensures.value) in
    subst (λ (ls : List Event). IsRunnable c.args.numbers (length c.as_slice-2.result.now) c.as_slice-4.result.now ls) (sym c.as_slice-5.ensures.value)
    (subst (λ (fs : List ℕ). IsRunnable c.args.numbers (length c.as_slice-2.result.now) fs c.in_ok-lines.lines.items) (sym c.as_slice-4.ensures.value)
    (record {
      allowed = c.requires.fits.allowed;
      numbers_are = subst (λ (n : ℕ). AreNumbers n first) count c.in_ok-naming.ensures.range;
      few_first = let few = few_started first (image_names (now_of c.args.words.now)) c.args.words.now c.in_ok-naming.ensures.first in let most = c.requires.fits.images_are.few in omega arith;
      ranges = c.in_ok-lines.ensures.ranges;
      few_lines = c.in_ok-lines.ensures.few;
    }))

pub returns-clause-made : goal.returns-clause-made
returns-clause-made g c =
    let subject : Subject = record { numbers = c.args.numbers; schedule = c.args.schedule.now; words = now_of c.args.words.now } in
    let words = now_of c.args.words.now in
    let names : now_of c.as_slice.result.now ≡ image_names words = ap now_of c.as_slice.ensures.value ∙ c.in_ok-naming.ensures.names in
    let first = first_images (image_names words) words in
    let ends : List FlatFile → List ℕ → List Event → Type 0 = λ images numbers lines. EndsAnswer c.args.question (inputs_with c.args.numbers images numbers lines) (ending_of c.answer_over.result) in
    asked_ends {V = Global} c.args.question subject (g.F.Files.holds c.args.files.now) (record {
      open_before = g.F.Files.open_faults c.args.files.now;
      open_between = g.F.Files.open_faults c.open_schedule.new.files;
      open_after = g.F.Files.open_faults c.load_images.new.files;
      page_before = g.F.Files.page_faults c.args.files.now;
      page_between = g.F.Files.page_faults c.open_schedule.new.files;
      page_after = g.F.Files.page_faults c.load_images.new.files;
    }) c.in_ok-lines.lines c.in_ok-images.images.items (ending_of c.answer_over.result) c.in_ok-lines.ensures.ends
    (λ list told. subst (λ (xs : List (List ℕ)). images_told list xs ≡ Ok c.in_ok-images.images.items) names (c.in_ok-images.ensures.answers list (c.open_schedule.ensures.kept.holds ∙ told)))
    c.in_ok-images.ensures.faults
    (subst (λ (images : List FlatFile). ends images first c.in_ok-lines.lines.items) c.as_slice-2.ensures.value
    (subst (λ (numbers : List ℕ). ends c.as_slice-2.result.now numbers c.in_ok-lines.lines.items) (c.as_slice-4.ensures.value ∙ c.in_ok-naming.ensures.first)
    (subst (λ (lines : List Event). ends c.as_slice-2.result.now c.as_slice-4.result.now lines) c.as_slice-5.ensures.value c.answer_over.ensures)))

pub returns-in_err-lines-clause-counted : goal.returns-in_err-lines-clause-counted
returns-in_err-lines-clause-counted g c =
    let f : Faults = record {
      open_before = g.F.Files.open_faults c.args.files.now;
      open_after = g.F.Files.open_faults c.open_schedule.new.files;
      page_before = g.F.Files.page_faults c.args.files.now;
      page_after = g.F.Files.page_faults c.open_schedule.new.files;
    } in
    let is : c.from_residual.result ≡ Err c.in_err-lines.field-0.0 = search rules in
    subst (λ (e : Ending). EndCounted e f) (sym (ap ending_of is))
    (opened_counted c.in_err-lines.field-0.0 f c.in_err-lines.ensures.open_faults c.in_err-lines.ensures.page_faults)

pub returns-in_err-naming-clause-counted : goal.returns-in_err-naming-clause-counted
returns-in_err-naming-clause-counted g c =
    let f : Faults = record {
      open_before = g.F.Files.open_faults c.args.files.now;
      open_after = g.F.Files.open_faults c.open_schedule.new.files;
      page_before = g.F.Files.page_faults c.args.files.now;
      page_after = g.F.Files.page_faults c.open_schedule.new.files;
    } in
    let is : c.from_residual-in_err-naming.result ≡ Err c.in_err-naming.field-0.0 = search rules in
    subst (λ (e : Ending). EndCounted e f) (sym (ap ending_of is ∙ ap Err c.in_err-naming.ensures.error)) c.in_ok-lines.ensures.ends.ends.0

pub returns-in_err-images-clause-counted : goal.returns-in_err-images-clause-counted
returns-in_err-images-clause-counted g c =
    let f : Faults = record {
      open_before = g.F.Files.open_faults c.args.files.now;
      open_after = g.F.Files.open_faults c.load_images.new.files;
      page_before = g.F.Files.page_faults c.args.files.now;
      page_after = g.F.Files.page_faults c.load_images.new.files;
    } in
    let is : c.from_residual-in_err-images.result ≡ Err c.in_err-images.field-0.0 = search rules in
    subst (λ (e : Ending). EndCounted e f) (sym (ap ending_of is))
    (counted_then _ _ _ _ _ _ c.in_err-images.field-0.0 c.in_ok-lines.ensures.ends.ends.0
    (images_counted (Vec FlatFile Global) _ c.in_err-images.field-0.0 c.in_err-images.ensures.faults))

pub returns-clause-counted : goal.returns-clause-counted
returns-clause-counted g c =
    answer_counted c.args.question _ _ (ending_of c.answer_over.result) (none_then _ _ _ _ _ _ c.in_ok-lines.ensures.ends.ends.0 c.in_ok-images.ensures.faults) c.answer_over.ensures
