use Rattle.std.proofs.Common.{◌≡◌, ◌≤◌, Bor, List, ℕ, Option, Some, Result, Ok, Err, map, refl, sym, subst, arith}
use Rattle.std.specs.Prelude.{All}
use Rattle.io_edge.specs.FileHolding.{NamedFile, HasRange}
use Rattle.aout_image.specs.Image.{file_length_of}
use Rattle.command_edge.specs.declared.fault.Fault.{Fault}
use Rattle.command_edge.specs.Command.{Made}
use Rattle.run_opening.specs.declared.images.OpenedImage.{OpenedImage}
use Rattle.run_opening.specs.Schedules.{HasEvents}
use Rattle.run_opening.specs.declared.opening.Opening.{Opening}
use Rattle.run_opening.specs.Opening.{FoundFiles, found_told, HasAll, EndsOpening}
use Rattle.command_words.specs.Asked.{Request}
use Rattle.run_command.specs.Machines.{IsOfOpening}
use Rattle.run_command.specs.Seen.{Seen, NoneFailed}
use Rattle.run_command.specs.Paired.{image_together}
use Rattle.run_command.specs.Ends.{AllGood, RunsOpened}
use Rattle.run_command.proofs.Openings.{shown_length, are_sound, are_names, are_files}
use Rattle.run_command.proofs.Inputs.{KnownOpening, have_few_moves}
use Rattle.run_command.proofs.Headline.{run_carries}
use Rattle.run_command.proofs.Runs.{needs_met, room_told, opened_words, unopened_runs}
use Rattle.run_command.proofs.command.run_words.Goals as goal

pub run_opened-requires-clause-ready : goal.run_opened-requires-clause-ready
run_opened-requires-clause-ready g c =
    let opening = c.in-Ok.opening in
    let images = opening.images.items in
    let said = c.in-Ok.ensures in
    record {
      few = let few = said.few_images in let most = c.requires.words.few in omega arith;
      sound = are_sound images said.sound;
      names = are_names images (said.short c.requires.words.names);
      files = are_files (g.F.Files.holds c.open_run-opened.new.files) images
          (subst (λ (h : Option (List NamedFile)). All (λ (o : OpenedImage). HasRange h o.file 0 (file_length_of o.facts)) images) (sym c.open_run-opened.ensures.kept.holds) said.ranges);
      first_few = let few = said.few_first in let most = c.requires.words.few in omega arith;
      numbers = subst (λ (many : ℕ). All (λ (n : ℕ). (1 ≤ n) × (n ≤ many)) opening.first.items) (sym (shown_length images)) said.numbers;
      moves = have_few_moves opening.lines.items said.lines;
      lines = let few = said.few_lines in omega arith;
    }

pub returns-in-Ok-clause-runs : goal.returns-in-Ok-clause-runs
returns-in-Ok-clause-runs g c =
    let files = c.args.files.now in
    let opened = c.open_run-opened.new.files in
    let after = c.run_opened.new.files in
    let zero = c.args.zero.now in
    let one = c.args.one.now in
    let zero_after = c.run_opened.new.zero in
    let one_after = c.run_opened.new.one in
    let opening = c.in-Ok.opening in
    let said = c.in-Ok.ensures in
    let status = c.run_opened.result in
    let request : Request = record { traced = c.args.traced; numbers = c.args.numbers; schedule = c.args.schedule.now; words = map (λ (word : Bor (List ℕ)). word.now) c.args.words.now } in
    let seen_by : Option (List NamedFile) → ℕ → ℕ → Seen = λ holds opens pages. record {
      files = holds;
      faults = record { open_before = opens; open_after = g.F.Files.open_faults after; page_before = pages; page_after = g.F.Files.page_faults after };
      notes_before = g.F.Files.notes files;
      notes_after = g.F.Files.notes after;
      zero_blocks = g.D.SwapDev.blocks zero;
      one_blocks = g.E.SwapDev.blocks one;
      swap_before = image_together (g.D.SwapDev.blocks zero) (g.E.SwapDev.blocks one) (g.D.SwapDev.image zero) (g.E.SwapDev.image one);
      swap_after = image_together (g.D.SwapDev.blocks zero_after) (g.E.SwapDev.blocks one_after) (g.D.SwapDev.image zero_after) (g.E.SwapDev.image one_after);
      reads = record {
        zero_before = g.D.SwapDev.read_faults zero;
        zero_after = g.D.SwapDev.read_faults zero_after;
        one_before = g.E.SwapDev.read_faults one;
        one_after = g.E.SwapDev.read_faults one_after;
      };
      writes = record {
        zero_before = g.D.SwapDev.write_faults zero;
        zero_after = g.D.SwapDev.write_faults zero_after;
        one_before = g.E.SwapDev.write_faults one;
        one_after = g.E.SwapDev.write_faults one_after;
      };
      written_before = g.S.Sink.written c.args.sink.now;
      written_after = g.S.Sink.written c.run_opened.new.sink;
      sink_faults_before = g.S.Sink.faults c.args.sink.now;
      sink_faults_after = g.S.Sink.faults c.run_opened.new.sink;
    } in
    let holds = g.F.Files.holds files in
    let opens = g.F.Files.open_faults files in
    let pages = g.F.Files.page_faults files in
    let seen = seen_by holds opens pages in
    let runs : RunsOpened (IsOfOpening c.args.numbers opening holds) (g.F.Files.notes opened) c.args.traced seen status
    = subst (λ (p : ℕ). RunsOpened (IsOfOpening c.args.numbers opening holds) (g.F.Files.notes opened) c.args.traced (seen_by holds opens p) status) c.open_run-opened.ensures.page_faults
    (subst (λ (o : ℕ). RunsOpened (IsOfOpening c.args.numbers opening holds) (g.F.Files.notes opened) c.args.traced (seen_by holds o (g.F.Files.page_faults opened)) status) said.open_faults
    (subst (λ (h : Option (List NamedFile)). RunsOpened (IsOfOpening c.args.numbers opening h) (g.F.Files.notes opened) c.args.traced
    (seen_by h (g.F.Files.open_faults opened) (g.F.Files.page_faults opened)) status)
    c.open_run-opened.ensures.kept.holds
    (c.run_opened.ensures.runs (g.F.Files.notes files)))) in
    let opening_of : ℕ → ℕ → Type 0
    = λ z o.
    Made (EndsOpening request.schedule request.words request.numbers.swap z o) (found_told request.schedule request.words) holds
    (record { open_before = opens; open_after = g.F.Files.open_faults opened; page_before = pages; page_after = g.F.Files.page_faults opened }) (let r : Result Opening Fault = Ok opening in r) in
    let made : opening_of (g.D.SwapDev.blocks zero) (g.E.SwapDev.blocks one)
    = subst (opening_of (g.D.SwapDev.blocks zero)) c.blocks-3.ensures (subst (λ (z : ℕ). opening_of z c.blocks-3.result) c.blocks-2.ensures said.ends) in
    let with = made.ends.1 in
    let good : (list : List NamedFile) → holds ≡ Some list → AllGood request seen list
    = λ list told. record { found = subst HasAll (made.is_told list told) ((opening.lines.items, with.lines), (with.images, with.are)); devices = with.devices } in
    let known : (list : List NamedFile) → holds ≡ Some list → KnownOpening request list opening
    = λ list told. record {
      found = said.loaded list told;
      are_in = said.are_in list told;
      short = said.short c.requires.words.names;
      first = with.first;
      numbers = said.numbers;
      few = (let few = said.few_first in let most = c.requires.words.few in omega arith);
      lines = subst (λ (found : FoundFiles). HasEvents found.schedule opening.lines.items) (made.is_told list told) with.lines;
    } in
    opened_words request seen opening (g.F.Files.notes opened) status runs c.requires.allowed with.devices good known said.asked
    (λ image told.
    room_told (g.D.SwapDev.blocks zero) (g.E.SwapDev.blocks one) c.args.numbers.swap (g.D.SwapDev.image zero) (g.E.SwapDev.image one) image (g.met.D.SwapDev.whole zero) (g.met.E.SwapDev.whole one)
    (needs_met c.args.numbers.swap (g.D.SwapDev.blocks zero) (g.E.SwapDev.blocks one) with.devices) c.requires.allowed.most_swap told)

pub returns-in-Err-clause-runs : goal.returns-in-Err-clause-runs
returns-in-Err-clause-runs g c =
    let files = c.args.files.now in
    let opened = c.open_run-opened.new.files in
    let zero = c.args.zero.now in
    let one = c.args.one.now in
    let image = image_together (g.D.SwapDev.blocks zero) (g.E.SwapDev.blocks one) (g.D.SwapDev.image zero) (g.E.SwapDev.image one) in
    let request : Request = record { traced = c.args.traced; numbers = c.args.numbers; schedule = c.args.schedule.now; words = map (λ (word : Bor (List ℕ)). word.now) c.args.words.now } in
    let seen : Seen = record {
      files = g.F.Files.holds files;
      faults = record { open_before = g.F.Files.open_faults files; open_after = g.F.Files.open_faults opened; page_before = g.F.Files.page_faults files; page_after = g.F.Files.page_faults opened };
      notes_before = g.F.Files.notes files;
      notes_after = g.F.Files.notes opened;
      zero_blocks = g.D.SwapDev.blocks zero;
      one_blocks = g.E.SwapDev.blocks one;
      swap_before = image;
      swap_after = image;
      reads = record { zero_before = g.D.SwapDev.read_faults zero; zero_after = g.D.SwapDev.read_faults zero; one_before = g.E.SwapDev.read_faults one; one_after = g.E.SwapDev.read_faults one };
      writes = record { zero_before = g.D.SwapDev.write_faults zero; zero_after = g.D.SwapDev.write_faults zero; one_before = g.E.SwapDev.write_faults one; one_after = g.E.SwapDev.write_faults one };
      written_before = g.S.Sink.written c.args.sink.now;
      written_after = g.S.Sink.written c.write_run.new.sink;
      sink_faults_before = g.S.Sink.faults c.args.sink.now;
      sink_faults_after = g.S.Sink.faults c.write_run.new.sink;
    } in
    let reads : NoneFailed seen.reads = record { zero = refl; one = refl } in
    let writes : NoneFailed seen.writes = record { zero = refl; one = refl } in
    let opening_of : ℕ → ℕ → Type 0
    = λ z o. Made (EndsOpening request.schedule request.words request.numbers.swap z o) (found_told request.schedule request.words) seen.files seen.faults
    (let r : Result Opening Fault = Err c.in-Err.fault in r) in
    let made : opening_of (g.D.SwapDev.blocks zero) (g.E.SwapDev.blocks one)
    = subst (opening_of (g.D.SwapDev.blocks zero)) c.blocks-3.ensures (subst (λ (z : ℕ). opening_of z c.blocks-3.result) c.blocks-2.ensures c.in-Err.ensures.ends) in
    unopened_runs request seen refl reads writes c.open_run-opened.ensures.page_faults c.in-Err.fault c.write_run.result c.write_run.ensures.writes made
    c.in-Err.ensures.open_faults c.in-Err.ensures.asked

-- the headline is a part of what a run is
pub returns-in-Ok-clause-headline : goal.returns-in-Ok-clause-headline
returns-in-Ok-clause-headline g c =
    let carried = run_carries _ _ _ (returns-in-Ok-clause-runs g c) (g.D.SwapDev.image c.args.zero.now) (g.E.SwapDev.image c.args.one.now) refl in
    carried

pub returns-in-Err-clause-headline : goal.returns-in-Err-clause-headline
returns-in-Err-clause-headline g c =
    let carried = run_carries _ _ _ (returns-in-Err-clause-runs g c) (g.D.SwapDev.image c.args.zero.now) (g.E.SwapDev.image c.args.one.now) refl in
    carried
