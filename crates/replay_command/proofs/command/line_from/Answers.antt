use Rattle.std.proofs.Common.{rules, ◌≡◌, ℕ, List, Ok, Err, Vec, Global, Bor, map, sym, ap, ◌∙◌, subst}
use Rattle.vm_facts.specs.declared.entry.Entry.{Entry}
use Rattle.command_edge.specs.ImageWords.{image_names, first_images}
use Rattle.replay_check.specs.Images.{FlatFile}
use Rattle.command_edge.specs.Ending.{Ending, ending_of}
use Rattle.command_edge.specs.Named.{AnswersNamed}
use Rattle.command_edge.specs.Command.{Faults, EndCounted, Made}
use Rattle.command_edge.proofs.Counting.{none_then, counted_then}
use Rattle.replay_command.specs.Reading.{images_told, read_of_transcript}
use Rattle.replay_command.specs.Command.{EndsVerdict, EndsReplay}
use Rattle.replay_command.proofs.Replays.{transcript_ends, refused, images_counted, images_end, verdict_counted, judged_ends}
use Rattle.replay_command.proofs.command.line_from.Goals as goal

pub returns-in_err-entries-clause-made : goal.returns-in_err-entries-clause-made
returns-in_err-entries-clause-made g c =
    let words = map (λ (word : Bor (List ℕ)). word.now) c.args.words.now in
    let f : Faults = record {
      open_before = g.F.Files.open_faults c.args.files.now;
      open_after = g.F.Files.open_faults c.read_entries.new.files;
      page_before = g.F.Files.page_faults c.args.files.now;
      page_after = g.F.Files.page_faults c.read_entries.new.files;
    } in
    let is : c.from_residual.result ≡ Err c.in_err-entries.field-0.0 = search rules in
    subst (λ (e : Ending). Made (EndsReplay c.args.transcript.now words) (read_of_transcript c.args.transcript.now words) (g.F.Files.holds c.args.files.now) f e) (sym (ap ending_of is))
    (transcript_ends c.args.transcript.now words (g.F.Files.holds c.args.files.now) f c.in_err-entries.field-0.0 c.in_err-entries.ensures.ends)

pub returns-in_err-naming-clause-made : goal.returns-in_err-naming-clause-made
returns-in_err-naming-clause-made g c =
    let words = map (λ (word : Bor (List ℕ)). word.now) c.args.words.now in
    let f : Faults = record {
      open_before = g.F.Files.open_faults c.args.files.now;
      open_after = g.F.Files.open_faults c.read_entries.new.files;
      page_before = g.F.Files.page_faults c.args.files.now;
      page_after = g.F.Files.page_faults c.read_entries.new.files;
    } in
    let is : c.from_residual-in_err-naming.result ≡ Err c.in_err-naming.field-0.0 = search rules in
    subst (λ (e : Ending). Made (EndsReplay c.args.transcript.now words) (read_of_transcript c.args.transcript.now words) (g.F.Files.holds c.args.files.now) f e)
    (sym (ap ending_of is ∙ ap Err c.in_err-naming.ensures.error))
    (refused c.args.transcript.now words (g.F.Files.holds c.args.files.now) f)

pub returns-in_err-images-clause-made : goal.returns-in_err-images-clause-made
returns-in_err-images-clause-made g c =
    let words = map (λ (word : Bor (List ℕ)). word.now) c.args.words.now in
    let names : map (λ (name : Bor (List ℕ)). name.now) c.as_slice.result.now ≡ image_names words
    = ap (map (λ (name : Bor (List ℕ)). name.now)) c.as_slice.ensures.value ∙ c.in_ok-naming.ensures.names in
    let f : Faults = record {
      open_before = g.F.Files.open_faults c.args.files.now;
      open_after = g.F.Files.open_faults c.load_images.new.files;
      page_before = g.F.Files.page_faults c.args.files.now;
      page_after = g.F.Files.page_faults c.load_images.new.files;
    } in
    let is : c.from_residual-in_err-images.result ≡ Err c.in_err-images.field-0.0 = search rules in
    subst (λ (e : Ending). Made (EndsReplay c.args.transcript.now words) (read_of_transcript c.args.transcript.now words) (g.F.Files.holds c.args.files.now) f e) (sym (ap ending_of is))
    (images_end c.args.transcript.now words (g.F.Files.holds c.args.files.now) _ _ _ _ _ _ c.in_ok-entries.entries.items c.in_err-images.field-0.0 c.in_ok-entries.ensures.ends
    {A = Vec FlatFile Global} (λ (images : Vec FlatFile Global). images.items)
    (λ list told. subst (λ (xs : List (List ℕ)). AnswersNamed (λ (images : Vec FlatFile Global). images.items) (images_told list xs) (Err c.in_err-images.field-0.0)) names
    (c.in_err-images.ensures.answers list (c.read_entries.ensures.kept.holds ∙ told)))
    c.in_err-images.ensures.faults)

pub returns-clause-made : goal.returns-clause-made
returns-clause-made g c =
    let words = map (λ (word : Bor (List ℕ)). word.now) c.args.words.now in
    let names : map (λ (name : Bor (List ℕ)). name.now) c.as_slice.result.now ≡ image_names words
    = ap (map (λ (name : Bor (List ℕ)). name.now)) c.as_slice.ensures.value ∙ c.in_ok-naming.ensures.names in
    judged_ends c.args.transcript.now words (g.F.Files.holds c.args.files.now) _ _ _ _ _ _ c.in_ok-entries.entries.items c.in_ok-images.images.items
    (ending_of c.judge.result) c.in_ok-entries.ensures.ends
    (λ list told. subst (λ (xs : List (List ℕ)). images_told list xs ≡ Ok c.in_ok-images.images.items) names
    (c.in_ok-images.ensures.answers list (c.read_entries.ensures.kept.holds ∙ told)))
    c.in_ok-images.ensures.faults
    (subst (λ (images : List FlatFile). EndsVerdict images (first_images (image_names words) words) c.in_ok-entries.entries.items (ending_of c.judge.result)) c.as_slice-2.ensures.value
    (subst (λ (first : List ℕ). EndsVerdict c.as_slice-2.result.now first c.in_ok-entries.entries.items (ending_of c.judge.result)) (c.as_slice-3.ensures.value ∙ c.in_ok-naming.ensures.first)
    (subst (λ (entries : List Entry). EndsVerdict c.as_slice-2.result.now c.as_slice-3.result.now entries (ending_of c.judge.result)) c.as_slice-4.ensures.value c.judge.ensures)))

pub returns-in_err-entries-clause-counted : goal.returns-in_err-entries-clause-counted
returns-in_err-entries-clause-counted g c =
    let f : Faults = record {
      open_before = g.F.Files.open_faults c.args.files.now;
      open_after = g.F.Files.open_faults c.read_entries.new.files;
      page_before = g.F.Files.page_faults c.args.files.now;
      page_after = g.F.Files.page_faults c.read_entries.new.files;
    } in
    let is : c.from_residual.result ≡ Err c.in_err-entries.field-0.0 = search rules in
    subst (λ (e : Ending). EndCounted e f) (sym (ap ending_of is)) c.in_err-entries.ensures.counted

pub returns-in_err-naming-clause-counted : goal.returns-in_err-naming-clause-counted
returns-in_err-naming-clause-counted g c =
    let f : Faults = record {
      open_before = g.F.Files.open_faults c.args.files.now;
      open_after = g.F.Files.open_faults c.read_entries.new.files;
      page_before = g.F.Files.page_faults c.args.files.now;
      page_after = g.F.Files.page_faults c.read_entries.new.files;
    } in
    let is : c.from_residual-in_err-naming.result ≡ Err c.in_err-naming.field-0.0 = search rules in
    subst (λ (e : Ending). EndCounted e f) (sym (ap ending_of is ∙ ap Err c.in_err-naming.ensures.error)) c.in_ok-entries.ensures.counted

pub returns-in_err-images-clause-counted : goal.returns-in_err-images-clause-counted
returns-in_err-images-clause-counted g c =
    let f : Faults = record {
      open_before = g.F.Files.open_faults c.args.files.now;
      open_after = g.F.Files.open_faults c.load_images.new.files;
      page_before = g.F.Files.page_faults c.args.files.now;
      page_after = g.F.Files.page_faults c.load_images.new.files;
    } in
    let is : c.from_residual-in_err-images.result ≡ Err c.in_err-images.field-0.0 = search rules in
    subst (λ (e : Ending). EndCounted e f) (sym (ap ending_of is))
    (counted_then _ _ _ _ _ _ c.in_err-images.field-0.0 c.in_ok-entries.ensures.counted
    (images_counted (Vec FlatFile Global) _ c.in_err-images.field-0.0 c.in_err-images.ensures.faults))

pub returns-clause-counted : goal.returns-clause-counted
returns-clause-counted g c =
    verdict_counted _ _ _ _ (ending_of c.judge.result) (none_then _ _ _ _ _ _ c.in_ok-entries.ensures.counted c.in_ok-images.ensures.faults) c.judge.ensures
