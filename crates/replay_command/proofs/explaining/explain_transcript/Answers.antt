use Rattle.std.proofs.Common.{◌≡◌, ℕ, List, Option, Result, Ok, Err, Vec, Global, Bor, IfOk, map, option_map, refl, sym, ap, ◌∙◌, subst, rules}
use Rattle.vm_facts.specs.declared.entry.Entry.{Entry}
use Rattle.vm_facts.specs.declared.stop.NoMemory.{NoMemory}
use Rattle.command_edge.specs.ImageWords.{image_names}
use Rattle.std.specs.Prelude.{IfErr}
use Rattle.replay_check.specs.Images.{FlatFile, images_of}
use Rattle.command_edge.specs.declared.fault.Fault.{Fault}
use Rattle.command_edge.specs.Named.{AnswersNamed}
use Rattle.command_edge.specs.Command.{Faults}
use Rattle.replay_command.specs.Reading.{images_told}
use Rattle.replay_command.specs.Explaining.{Explained, LacksTranscript}
use Rattle.replay_command.proofs.Replays.{transcript_ends, refused, images_end}
use Rattle.replay_command.proofs.Telling.{read_is, transcript_unjudged, images_unjudged}
use Rattle.replay_command.proofs.explaining.explain_transcript.Goals as goal

pub returns-in-Ok-clause-explains : goal.returns-in-Ok-clause-explains
returns-in-Ok-clause-explains g c =
    let words = map (λ (word : Bor (List ℕ)). word.now) c.args.words.now in
    let names : map (λ (name : Bor (List ℕ)). name.now) c.as_slice.result.now ≡ image_names words
    = ap (map (λ (name : Bor (List ℕ)). name.now)) c.as_slice.ensures.value ∙ c.in_ok-naming.ensures.names in
    record {
      read = record { transcript = c.in_ok-entries.ensures.ends.read; images = Ok c.in_ok-images.images.items };
      is_told = λ files told. read_is c.args.transcript.now words files c.in_ok-entries.ensures.ends.read (Ok c.in_ok-images.images.items)
          (c.in_ok-entries.ensures.ends.is_told files told)
          (subst (λ (xs : List (List ℕ)). images_told files xs ≡ Ok c.in_ok-images.images.items) names (c.in_ok-images.ensures.answers files (c.read_entries.ensures.kept.holds ∙ told)));
      entries = c.in_ok-entries.entries.items;
      has = c.in_ok-entries.ensures.ends.ends.1;
      images = c.in_ok-images.images.items;
      are = refl;
      explained = λ A images first.
          subst (λ (entries : List Entry). Explained A entries (option_map (λ (line : Vec ℕ Global). line.items) c.in-Ok.text)) c.as_slice-4.ensures.value
          (subst (λ (r : Result (Option (Vec ℕ Global)) NoMemory).
          IfOk r (λ (text : Option (Vec ℕ Global)). Explained A c.as_slice-4.result.now (option_map (λ (line : Vec ℕ Global). line.items) text))) c.in-Ok.is
          (c.explained.ensures A (images ∙ ap images_of (sym c.as_slice-2.ensures.value)) (first ∙ sym (c.as_slice-3.ensures.value ∙ c.in_ok-naming.ensures.first))));
    }

pub returns-in_err-entries-clause-lacks : goal.returns-in_err-entries-clause-lacks
returns-in_err-entries-clause-lacks g c =
    let words = map (λ (word : Bor (List ℕ)). word.now) c.args.words.now in
    let f : Faults = record {
      open_before = g.F.Files.open_faults c.args.files.now;
      open_after = g.F.Files.open_faults c.read_entries.new.files;
      page_before = g.F.Files.page_faults c.args.files.now;
      page_after = g.F.Files.page_faults c.read_entries.new.files;
    } in
    let is : c.from_residual.result ≡ Err c.in_err-entries.field-0.0 = search rules in
    subst (λ (r : Result (Option (Vec ℕ Global)) Fault). IfErr r (LacksTranscript c.args.transcript.now words (g.F.Files.holds c.args.files.now) f)) (sym is) (
      transcript_ends c.args.transcript.now words (g.F.Files.holds c.args.files.now) f c.in_err-entries.field-0.0 c.in_err-entries.ensures.ends,
      transcript_unjudged c.args.transcript.now c.in_err-entries.ensures.ends.read f c.in_err-entries.field-0.0 c.in_err-entries.ensures.ends.ends,
    )

pub returns-in_err-naming-clause-lacks : goal.returns-in_err-naming-clause-lacks
returns-in_err-naming-clause-lacks g c =
    let words = map (λ (word : Bor (List ℕ)). word.now) c.args.words.now in
    let f : Faults = record {
      open_before = g.F.Files.open_faults c.args.files.now;
      open_after = g.F.Files.open_faults c.read_entries.new.files;
      page_before = g.F.Files.page_faults c.args.files.now;
      page_after = g.F.Files.page_faults c.read_entries.new.files;
    } in
    let is : c.from_residual-in_err-naming.result ≡ Err c.in_err-naming.field-0.0 = search rules in
    subst (λ (r : Result (Option (Vec ℕ Global)) Fault). IfErr r (LacksTranscript c.args.transcript.now words (g.F.Files.holds c.args.files.now) f)) (sym (is ∙ ap Err c.in_err-naming.ensures.error))
    (refused c.args.transcript.now words (g.F.Files.holds c.args.files.now) f, tt)

pub returns-in_err-images-clause-lacks : goal.returns-in_err-images-clause-lacks
returns-in_err-images-clause-lacks g c =
    let names : map (λ (name : Bor (List ℕ)). name.now) c.as_slice.result.now ≡ image_names (map (λ (word : Bor (List ℕ)). word.now) c.args.words.now)
    = ap (map (λ (name : Bor (List ℕ)). name.now)) c.as_slice.ensures.value ∙ c.in_ok-naming.ensures.names in
    let words = map (λ (word : Bor (List ℕ)). word.now) c.args.words.now in
    let f : Faults = record {
      open_before = g.F.Files.open_faults c.args.files.now;
      open_after = g.F.Files.open_faults c.load_images.new.files;
      page_before = g.F.Files.page_faults c.args.files.now;
      page_after = g.F.Files.page_faults c.load_images.new.files;
    } in
    let behind : Faults = record {
      open_before = g.F.Files.open_faults c.read_entries.new.files;
      open_after = g.F.Files.open_faults c.load_images.new.files;
      page_before = g.F.Files.page_faults c.read_entries.new.files;
      page_after = g.F.Files.page_faults c.load_images.new.files;
    } in
    let is : c.from_residual-in_err-images.result ≡ Err c.in_err-images.field-0.0 = search rules in
    subst (λ (r : Result (Option (Vec ℕ Global)) Fault). IfErr r (LacksTranscript c.args.transcript.now words (g.F.Files.holds c.args.files.now) f)) (sym is) (
      images_end c.args.transcript.now words (g.F.Files.holds c.args.files.now) _ _ _ _ _ _ c.in_ok-entries.entries.items c.in_err-images.field-0.0 c.in_ok-entries.ensures.ends
          {A = Vec FlatFile Global} (λ (images : Vec FlatFile Global). images.items)
          (λ list told. subst (λ (xs : List (List ℕ)). AnswersNamed (λ (images : Vec FlatFile Global). images.items) (images_told list xs) (Err c.in_err-images.field-0.0)) names
          (c.in_err-images.ensures.answers list (c.read_entries.ensures.kept.holds ∙ told)))
          c.in_err-images.ensures.faults,
      images_unjudged (Vec FlatFile Global) behind c.in_err-images.field-0.0 c.in_err-images.ensures.faults,
    )

pub returns-clause-lacks : goal.returns-clause-lacks
returns-clause-lacks g c =
    let words = map (λ (word : Bor (List ℕ)). word.now) c.args.words.now in
    let f : Faults = record {
      open_before = g.F.Files.open_faults c.args.files.now;
      open_after = g.F.Files.open_faults c.load_images.new.files;
      page_before = g.F.Files.page_faults c.args.files.now;
      page_after = g.F.Files.page_faults c.load_images.new.files;
    } in
    (refused c.args.transcript.now words (g.F.Files.holds c.args.files.now) f, tt)
