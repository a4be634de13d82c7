use Rattle.std.proofs.Common.{rules, ◌≡◌, ℕ, List, Bor, Vec, Global, Result, Ok, Err, length, map, sym, ap, ◌∙◌, subst, arith}
use Rattle.vm_facts.specs.declared.entry.Entry.{Entry}
use Rattle.vm_facts.specs.declared.event.Event.{Event}
use Rattle.command_edge.specs.ImageWords.{image_names, first_images}
use Rattle.replay_check.specs.Images.{FlatFile, AreNumbers}
use Rattle.command_edge.specs.declared.fault.Fault.{Fault}
use Rattle.command_edge.specs.Named.{AnswersNamed}
use Rattle.command_edge.specs.Command.{Faults, EndCounted}
use Rattle.command_edge.proofs.Counting.{none_then, counted_then}
use Rattle.run_opening.proofs.Lists.{few_started}
use Rattle.replay_command.specs.Reading.{images_told}
use Rattle.replay_command.proofs.Replays.{images_counted}
use Rattle.question_command.specs.Asking.{Subject}
use Rattle.question_command.specs.InMemory.{inputs_with, IsRunnable, AllDiffer}
use Rattle.question_command.proofs.Names.{names_differ}
use Rattle.question_command.proofs.Words.{short_names}
use Rattle.question_command.proofs.Asked.{opened_counted}
use Rattle.grade_command.specs.declared.judging.Graded.{Graded}
use Rattle.grade_command.specs.Telling.{EndsGrading}
use Rattle.grade_command.proofs.Readings.{Ends, Texts, schedule_ends, refused, trace_ends, texts_read, images_end, run_ends, run_counted}
use Rattle.grade_command.proofs.command.grade_from.Goals as goal

abbrev now_of : List (Bor (List ℕ)) → List (List ℕ)
now_of words = map (λ (word : Bor (List ℕ)). word.now) words

abbrev faults_over : ℕ → ℕ → ℕ → ℕ → Faults
faults_over open_before open_after page_before page_after =
    record { open_before = open_before; open_after = open_after; page_before = page_before; page_after = page_after }

-- The schedule isn't read.

pub returns-in_err-lines-clause-made : goal.returns-in_err-lines-clause-made
returns-in_err-lines-clause-made g c =
    let subject : Subject = record { numbers = c.args.numbers; schedule = c.args.schedule.now; words = now_of c.args.words.now } in
    let f : Faults = faults_over (g.F.Files.open_faults c.args.files.now) (g.F.Files.open_faults c.open_schedule.new.files)
    (g.F.Files.page_faults c.args.files.now) (g.F.Files.page_faults c.open_schedule.new.files) in
    let is : c.from_residual.result ≡ Err c.in_err-lines.field-0.0 = search rules in
    subst (λ (e : Result Graded Fault). Ends subject c.args.trace.now (g.F.Files.holds c.args.files.now) f e) (sym is)
    (schedule_ends {V = Global} subject c.args.trace.now (g.F.Files.holds c.args.files.now) f c.in_err-lines.field-0.0 c.in_err-lines.ensures.ends)

pub returns-in_err-lines-clause-counted : goal.returns-in_err-lines-clause-counted
returns-in_err-lines-clause-counted g c =
    let f : Faults = faults_over (g.F.Files.open_faults c.args.files.now) (g.F.Files.open_faults c.open_schedule.new.files)
    (g.F.Files.page_faults c.args.files.now) (g.F.Files.page_faults c.open_schedule.new.files) in
    let is : c.from_residual.result ≡ Err c.in_err-lines.field-0.0 = search rules in
    subst (λ (e : Result Graded Fault). EndCounted e f) (sym is)
    (opened_counted c.in_err-lines.field-0.0 f c.in_err-lines.ensures.open_faults c.in_err-lines.ensures.page_faults)

-- The trace isn't read.

pub returns-in_err-entries-clause-made : goal.returns-in_err-entries-clause-made
returns-in_err-entries-clause-made g c =
    let subject : Subject = record { numbers = c.args.numbers; schedule = c.args.schedule.now; words = now_of c.args.words.now } in
    let f : Faults = faults_over (g.F.Files.open_faults c.args.files.now) (g.F.Files.open_faults c.read_entries.new.files)
    (g.F.Files.page_faults c.args.files.now) (g.F.Files.page_faults c.read_entries.new.files) in
    let is : c.from_residual-in_err-entries.result ≡ Err c.in_err-entries.field-0.0 = search rules in
    subst (λ (e : Result Graded Fault). Ends subject c.args.trace.now (g.F.Files.holds c.args.files.now) f e) (sym is)
    (trace_ends {V = Global} subject c.args.trace.now (g.F.Files.holds c.args.files.now) (g.F.Files.holds c.open_schedule.new.files) (record {
      open_before = g.F.Files.open_faults c.args.files.now;
      open_between = g.F.Files.open_faults c.open_schedule.new.files;
      open_after = g.F.Files.open_faults c.read_entries.new.files;
      page_before = g.F.Files.page_faults c.args.files.now;
      page_between = g.F.Files.page_faults c.open_schedule.new.files;
      page_after = g.F.Files.page_faults c.read_entries.new.files;
    }) c.in_ok-lines.lines c.in_err-entries.field-0.0 c.open_schedule.ensures.kept.holds c.in_ok-lines.ensures.ends c.in_err-entries.ensures.ends)

pub returns-in_err-entries-clause-counted : goal.returns-in_err-entries-clause-counted
returns-in_err-entries-clause-counted g c =
    let f : Faults = faults_over (g.F.Files.open_faults c.args.files.now) (g.F.Files.open_faults c.read_entries.new.files)
    (g.F.Files.page_faults c.args.files.now) (g.F.Files.page_faults c.read_entries.new.files) in
    let is : c.from_residual-in_err-entries.result ≡ Err c.in_err-entries.field-0.0 = search rules in
    subst (λ (e : Result Graded Fault). EndCounted e f) (sym is)
    (counted_then _ _ _ _ _ _ c.in_err-entries.field-0.0 c.in_ok-lines.ensures.ends.ends.0 c.in_err-entries.ensures.counted)

-- No memory for the names.

pub returns-in_err-naming-clause-made : goal.returns-in_err-naming-clause-made
returns-in_err-naming-clause-made g c =
    let subject : Subject = record { numbers = c.args.numbers; schedule = c.args.schedule.now; words = now_of c.args.words.now } in
    let f : Faults = faults_over (g.F.Files.open_faults c.args.files.now) (g.F.Files.open_faults c.read_entries.new.files)
    (g.F.Files.page_faults c.args.files.now) (g.F.Files.page_faults c.read_entries.new.files) in
    let is : c.from_residual-in_err-naming.result ≡ Err c.in_err-naming.field-0.0 = search rules in
    subst (λ (e : Result Graded Fault). Ends subject c.args.trace.now (g.F.Files.holds c.args.files.now) f e)
    (sym (is ∙ ap Err c.in_err-naming.ensures.error))
    (refused subject c.args.trace.now (g.F.Files.holds c.args.files.now) f)

pub returns-in_err-naming-clause-counted : goal.returns-in_err-naming-clause-counted
returns-in_err-naming-clause-counted g c =
    let f : Faults = faults_over (g.F.Files.open_faults c.args.files.now) (g.F.Files.open_faults c.read_entries.new.files)
    (g.F.Files.page_faults c.args.files.now) (g.F.Files.page_faults c.read_entries.new.files) in
    let is : c.from_residual-in_err-naming.result ≡ Err c.in_err-naming.field-0.0 = search rules in
    subst (λ (e : Result Graded Fault). EndCounted e f) (sym (is ∙ ap Err c.in_err-naming.ensures.error))
    (none_then _ _ _ _ _ _ c.in_ok-lines.ensures.ends.ends.0 c.in_ok-entries.ensures.counted)

-- An image isn't read.

pub returns-in_err-images-clause-made : goal.returns-in_err-images-clause-made
returns-in_err-images-clause-made g c =
    let subject : Subject = record { numbers = c.args.numbers; schedule = c.args.schedule.now; words = now_of c.args.words.now } in
    let f : Faults = faults_over (g.F.Files.open_faults c.args.files.now) (g.F.Files.open_faults c.load_images.new.files)
    (g.F.Files.page_faults c.args.files.now) (g.F.Files.page_faults c.load_images.new.files) in
    let holds = g.F.Files.holds c.args.files.now in
    let names : now_of c.as_slice.result.now ≡ image_names (now_of c.args.words.now) = ap now_of c.as_slice.ensures.value ∙ c.in_ok-naming.ensures.names in
    let is : c.from_residual-in_err-images.result ≡ Err c.in_err-images.field-0.0 = search rules in
    let texts : Texts subject c.args.trace.now holds c.in_ok-lines.lines.items c.in_ok-entries.entries.items =
    texts_read {V = Global} subject c.args.trace.now holds (g.F.Files.holds c.open_schedule.new.files) _ _ c.in_ok-lines.lines c.in_ok-entries.entries.items
    c.open_schedule.ensures.kept.holds c.in_ok-lines.ensures.ends c.in_ok-entries.ensures.ends in
    subst (λ (e : Result Graded Fault). Ends subject c.args.trace.now holds f e) (sym is)
    (images_end {W = Vec FlatFile Global} subject c.args.trace.now holds (record {
      open_before = g.F.Files.open_faults c.args.files.now;
      open_between = g.F.Files.open_faults c.read_entries.new.files;
      open_after = g.F.Files.open_faults c.load_images.new.files;
      page_before = g.F.Files.page_faults c.args.files.now;
      page_between = g.F.Files.page_faults c.read_entries.new.files;
      page_after = g.F.Files.page_faults c.load_images.new.files;
    }) c.in_ok-lines.lines.items c.in_ok-entries.entries.items c.in_err-images.field-0.0 texts
    (none_then _ _ _ _ _ _ c.in_ok-lines.ensures.ends.ends.0 c.in_ok-entries.ensures.counted)
    (λ (images : Vec FlatFile Global). images.items)
    (λ list told. subst (λ (xs : List (List ℕ)). AnswersNamed (λ (images : Vec FlatFile Global). images.items) (images_told list xs) (Err c.in_err-images.field-0.0)) names
    (c.in_err-images.ensures.answers list (c.read_entries.ensures.kept.holds ∙ c.open_schedule.ensures.kept.holds ∙ told)))
    c.in_err-images.ensures.faults)

pub returns-in_err-images-clause-counted : goal.returns-in_err-images-clause-counted
returns-in_err-images-clause-counted g c =
    let f : Faults = faults_over (g.F.Files.open_faults c.args.files.now) (g.F.Files.open_faults c.load_images.new.files)
    (g.F.Files.page_faults c.args.files.now) (g.F.Files.page_faults c.load_images.new.files) in
    let is : c.from_residual-in_err-images.result ≡ Err c.in_err-images.field-0.0 = search rules in
    subst (λ (e : Result Graded Fault). EndCounted e f) (sym is)
    (counted_then _ _ _ _ _ _ c.in_err-images.field-0.0
    (none_then _ _ _ _ _ _ c.in_ok-lines.ensures.ends.ends.0 c.in_ok-entries.ensures.counted)
    (images_counted (Vec FlatFile Global) _ c.in_err-images.field-0.0 c.in_err-images.ensures.faults))

pub returns-in_err-images-clause-kept : goal.returns-in_err-images-clause-kept
returns-in_err-images-clause-kept g c = record {
  leads = g.met.F.Files.leads_through c.args.files.now c.read_entries.new.files c.load_images.new.files
      (g.met.F.Files.leads_through c.args.files.now c.open_schedule.new.files c.read_entries.new.files c.open_schedule.ensures.kept.leads c.read_entries.ensures.kept.leads)
      c.load_images.ensures.kept.leads;
  holds = c.load_images.ensures.kept.holds ∙ c.read_entries.ensures.kept.holds ∙ c.open_schedule.ensures.kept.holds;
}

-- All is read.

pub grade_in_memory-requires-clause-few : goal.grade_in_memory-requires-clause-few
grade_in_memory-requires-clause-few g c =
    let same = ap length c.as_slice-3.ensures.value in
    let count = c.in_ok-naming.ensures.count in
    let few = c.requires.fits.images_are.few in
    omega arith

pub grade_in_memory-requires-clause-short : goal.grade_in_memory-requires-clause-short
grade_in_memory-requires-clause-short g c =
    short_names c.as_slice-3.result.now c.args.words.now (ap now_of c.as_slice-3.ensures.value ∙ c.in_ok-naming.ensures.names) c.requires.fits.images_are.names

pub grade_in_memory-requires-clause-differ : goal.grade_in_memory-requires-clause-differ
grade_in_memory-requires-clause-differ g c =
    subst AllDiffer (sym (ap now_of c.as_slice-3.ensures.value ∙ c.in_ok-naming.ensures.names)) (names_differ (now_of c.args.words.now))

pub grade_in_memory-requires-clause-runnable : goal.grade_in_memory-requires-clause-runnable
grade_in_memory-requires-clause-runnable g c =
    let names : now_of c.as_slice.result.now ≡ image_names (now_of c.args.words.now) = ap now_of c.as_slice.ensures.value ∙ c.in_ok-naming.ensures.names in
    let first = c.in_ok-naming.naming.first.items in
    let count : length c.in_ok-naming.naming.names.items ≡ length c.as_slice-2.result.now
    = sym (ap length c.as_slice-2.ensures.value ∙ c.in_ok-images.ensures.count ∙ ap length c.as_slice.ensures.value) in
    subst (λ (ls : List Event). IsRunnable c.args.numbers (length c.as_slice-2.result.now) c.as_slice-4.result.now ls) (sym c.as_slice-5.ensures.value)
    (subst (λ (fs : List ℕ). IsRunnable c.args.numbers (length c.as_slice-2.result.now) fs c.in_ok-lines.lines.items) (sym c.as_slice-4.ensures.value)
    (record {
      allowed = c.requires.fits.allowed;
      numbers_are = subst (λ (n : ℕ). AreNumbers n first) count c.in_ok-naming.ensures.range;
      few_first = let few = few_started first (image_names (now_of c.args.words.now)) c.args.words.now c.in_ok-naming.ensures.first in let most = c.requires.fits.images_are.few in omega arith;
      ranges = c.in_ok-lines.ensures.ranges;
      few_lines = c.in_ok-lines.ensures.few;
    }))

pub grade_in_memory-requires-clause-entries : goal.grade_in_memory-requires-clause-entries
grade_in_memory-requires-clause-entries g c =
    let same = ap length c.as_slice-6.ensures.value in
    let few = c.in_ok-entries.ensures.few in
    omega arith

pub returns-clause-made : goal.returns-clause-made
returns-clause-made g c =
    let subject : Subject = record { numbers = c.args.numbers; schedule = c.args.schedule.now; words = now_of c.args.words.now } in
    let f : Faults = faults_over (g.F.Files.open_faults c.args.files.now) (g.F.Files.open_faults c.load_images.new.files)
    (g.F.Files.page_faults c.args.files.now) (g.F.Files.page_faults c.load_images.new.files) in
    let holds = g.F.Files.holds c.args.files.now in
    let words = now_of c.args.words.now in
    let names : now_of c.as_slice.result.now ≡ image_names words = ap now_of c.as_slice.ensures.value ∙ c.in_ok-naming.ensures.names in
    let first = first_images (image_names words) words in
    let texts : Texts subject c.args.trace.now holds c.in_ok-lines.lines.items c.in_ok-entries.entries.items =
    texts_read {V = Global} subject c.args.trace.now holds (g.F.Files.holds c.open_schedule.new.files) _ _ c.in_ok-lines.lines c.in_ok-entries.entries.items
    c.open_schedule.ensures.kept.holds c.in_ok-lines.ensures.ends c.in_ok-entries.ensures.ends in
    let ends : List FlatFile → List ℕ → List Event → List Entry → Type 0 =
    λ images numbers lines entries. EndsGrading (inputs_with c.args.numbers images numbers lines) entries c.grade_in_memory.result in
    run_ends subject c.args.trace.now holds f c.in_ok-lines.lines.items c.in_ok-entries.entries.items c.in_ok-images.images.items c.grade_in_memory.result texts
    (λ list told. subst (λ (xs : List (List ℕ)). images_told list xs ≡ Ok c.in_ok-images.images.items) names
    (c.in_ok-images.ensures.answers list (c.read_entries.ensures.kept.holds ∙ c.open_schedule.ensures.kept.holds ∙ told)))
    (none_then _ _ _ _ _ _ (none_then _ _ _ _ _ _ c.in_ok-lines.ensures.ends.ends.0 c.in_ok-entries.ensures.counted) c.in_ok-images.ensures.faults)
    (subst (λ (images : List FlatFile). ends images first c.in_ok-lines.lines.items c.in_ok-entries.entries.items) c.as_slice-2.ensures.value
    (subst (λ (numbers : List ℕ). ends c.as_slice-2.result.now numbers c.in_ok-lines.lines.items c.in_ok-entries.entries.items)
    (c.as_slice-4.ensures.value ∙ c.in_ok-naming.ensures.first)
    (subst (λ (lines : List Event). ends c.as_slice-2.result.now c.as_slice-4.result.now lines c.in_ok-entries.entries.items) c.as_slice-5.ensures.value
    (subst (λ (entries : List Entry). ends c.as_slice-2.result.now c.as_slice-4.result.now c.as_slice-5.result.now entries) c.as_slice-6.ensures.value
    c.grade_in_memory.ensures))))

pub returns-clause-counted : goal.returns-clause-counted
returns-clause-counted g c =
    run_counted _ _ _ c.grade_in_memory.result
    (none_then _ _ _ _ _ _ (none_then _ _ _ _ _ _ c.in_ok-lines.ensures.ends.ends.0 c.in_ok-entries.ensures.counted) c.in_ok-images.ensures.faults)
    c.grade_in_memory.ensures

pub returns-clause-kept : goal.returns-clause-kept
returns-clause-kept g c = record {
  leads = g.met.F.Files.leads_through c.args.files.now c.read_entries.new.files c.load_images.new.files
      (g.met.F.Files.leads_through c.args.files.now c.open_schedule.new.files c.read_entries.new.files c.open_schedule.ensures.kept.leads c.read_entries.ensures.kept.leads)
      c.load_images.ensures.kept.leads;
  holds = c.load_images.ensures.kept.holds ∙ c.read_entries.ensures.kept.holds ∙ c.open_schedule.ensures.kept.holds;
}
