use Rattle.std.proofs.Common.{Bor, List, ℕ, map, refl}
use Rattle.command_words.specs.Command.{word_list}
use Rattle.command_words.specs.Asked.{Request}
use Rattle.run_command.specs.Seen.{Seen, NoneFailed}
use Rattle.run_command.specs.Paired.{image_together}
use Rattle.run_command.proofs.Headline.{run_carries}
use Rattle.run_command.proofs.Runs.{lacking_runs}
use Rattle.run_command.proofs.command.run_command.Goals as goal

pub returns-in-Err-clause-runs : goal.returns-in-Err-clause-runs
returns-in-Err-clause-runs g c =
    let files = c.args.files.now in
    let zero = c.args.zero.now in
    let one = c.args.one.now in
    let image = image_together (g.D.SwapDev.blocks zero) (g.E.SwapDev.blocks one) (g.D.SwapDev.image zero) (g.E.SwapDev.image one) in
    let request : Request = record { traced = c.args.traced; numbers = c.args.numbers; schedule = c.args.schedule.now; words = map (λ (word : Bor (List ℕ)). word.now) (word_list c.args.images) } in
    let seen : Seen = record {
      files = g.F.Files.holds files;
      faults = record { open_before = g.F.Files.open_faults files; open_after = g.F.Files.open_faults files; page_before = g.F.Files.page_faults files; page_after = g.F.Files.page_faults files };
      notes_before = g.F.Files.notes files;
      notes_after = g.F.Files.notes files;
      zero_blocks = g.D.SwapDev.blocks zero;
      one_blocks = g.E.SwapDev.blocks one;
      swap_before = image;
      swap_after = image;
      reads = record { zero_before = g.D.SwapDev.read_faults zero; zero_after = g.D.SwapDev.read_faults zero; one_before = g.E.SwapDev.read_faults one; one_after = g.E.SwapDev.read_faults one };
      writes = record { zero_before = g.D.SwapDev.write_faults zero; zero_after = g.D.SwapDev.write_faults zero; one_before = g.E.SwapDev.write_faults one; one_after = g.E.SwapDev.write_faults one };
      written_before = g.S.Sink.written c.args.sink.now;
      written_after = g.S.Sink.written c.write_run.new.sink;
      sink_faults_before = g.S.Sink.faults c.args.sink.now;
      sink_faults_after = g.S.Sink.faults c.write_run.new.sink;
    } in
    let reads : NoneFailed seen.reads = record { zero = refl; one = refl } in
    let writes : NoneFailed seen.writes = record { zero = refl; one = refl } in
    lacking_runs request seen refl reads writes refl c.write_run.result c.write_run.ensures.writes refl refl

-- the headline is a part of what a run is
pub returns-in-Err-clause-headline : goal.returns-in-Err-clause-headline
returns-in-Err-clause-headline g c =
    let carried = run_carries _ _ _ (returns-in-Err-clause-runs g c) (g.D.SwapDev.image c.args.zero.now) (g.E.SwapDev.image c.args.one.now) refl in
    carried
