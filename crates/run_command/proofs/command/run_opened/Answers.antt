use Rattle.std.proofs.Common.{◌≡◌, List, ℕ, ◌≤◌, length, Err, map, refl, sym, ap, ◌∙◌, subst}
use Rattle.vm_facts.specs.declared.entry.Entry.{Entry}
use Rattle.vm_facts.specs.declared.event.Event.{Event}
use Rattle.io_edge.specs.WithFiles.{with_files}
use Rattle.machine_state.specs.Machine.{Standing}
use Rattle.vm_core.specs.RunEnds.{IsAskedOf}
use Rattle.run_opening.specs.declared.images.OpenedImage.{OpenedImage}
use Rattle.run_text.specs.Transcript.{HaveNumbers}
use Rattle.command_edge.specs.declared.fault.Fault.TheVariants.{JournalFull}
use Rattle.run_command.specs.Seen.{Seen}
use Rattle.run_command.specs.Naming.{shown_as}
use Rattle.run_command.specs.Machines.{journal_entries, machine_of, IsOfOpening}
use Rattle.run_command.specs.Paired.{image_together}
use Rattle.run_command.specs.Ends.{NoneFaulted, RunCaused, WritesRun}
use Rattle.run_command.proofs.Early.{left_together, run_early}
use Rattle.run_command.proofs.Endings.{run_ended}
use Rattle.run_command.proofs.Runs.{run_caused, opened_runs, opened_lacking}
use Rattle.run_command.proofs.command.run_opened.Goals as goal

pub returns-in_default-clause-runs : goal.returns-in_default-clause-runs
returns-in_default-clause-runs g c = λ notes.
    let files = c.args.files.now in
    let zero = c.args.zero.now in
    let one = c.args.one.now in
    let image = image_together (g.D.SwapDev.blocks zero) (g.E.SwapDev.blocks one) (g.D.SwapDev.image zero) (g.E.SwapDev.image one) in
    let seen : Seen = record {
      files = g.F.Files.holds files;
      faults = record { open_before = g.F.Files.open_faults files; open_after = g.F.Files.open_faults files; page_before = g.F.Files.page_faults files; page_after = g.F.Files.page_faults files };
      notes_before = notes;
      notes_after = g.F.Files.notes files;
      zero_blocks = g.D.SwapDev.blocks zero;
      one_blocks = g.E.SwapDev.blocks one;
      swap_before = image;
      swap_after = image;
      reads = record { zero_before = g.D.SwapDev.read_faults zero; zero_after = g.D.SwapDev.read_faults zero; one_before = g.E.SwapDev.read_faults one; one_after = g.E.SwapDev.read_faults one };
      writes = record { zero_before = g.D.SwapDev.write_faults zero; zero_after = g.D.SwapDev.write_faults zero; one_before = g.E.SwapDev.write_faults one; one_after = g.E.SwapDev.write_faults one };
      written_before = g.S.Sink.written c.args.sink.now;
      written_after = g.S.Sink.written c.write_run.new.sink;
      sink_faults_before = g.S.Sink.faults c.args.sink.now;
      sink_faults_after = g.S.Sink.faults c.write_run.new.sink;
    } in
    let none : NoneFaulted seen
    = record { files = record { open_same = refl; page_same = refl }; reads = record { zero = refl; one = refl }; writes = record { zero = refl; one = refl } } in
    opened_lacking (IsOfOpening c.args.numbers c.args.opening.now (g.F.Files.holds files)) (g.F.Files.notes files) c.args.traced seen c.write_run.result c.write_run.ensures.writes refl none

pub returns-clause-runs : goal.returns-clause-runs
returns-clause-runs g c = λ notes.
    let files = c.args.files.now in
    let after = c.run_paired-ending.new.files in
    let zero = c.args.zero.now in
    let one = c.args.one.now in
    let zero_after = c.run_paired-ending.new.zero in
    let one_after = c.run_paired-ending.new.one in
    let ran = c.run_paired-ending.ensures in
    let r = c.run_paired-ending.result in
    let es = c.run_paired-ending.new.core.machine.kernel.journal in
    let seen : Seen = record {
      files = g.F.Files.holds files;
      faults = record { open_before = g.F.Files.open_faults files; open_after = g.F.Files.open_faults after; page_before = g.F.Files.page_faults files; page_after = g.F.Files.page_faults after };
      notes_before = notes;
      notes_after = g.F.Files.notes after;
      zero_blocks = g.D.SwapDev.blocks zero;
      one_blocks = g.E.SwapDev.blocks one;
      swap_before = image_together (g.D.SwapDev.blocks zero) (g.E.SwapDev.blocks one) (g.D.SwapDev.image zero) (g.E.SwapDev.image one);
      swap_after = image_together (g.D.SwapDev.blocks zero_after) (g.E.SwapDev.blocks one_after) (g.D.SwapDev.image zero_after) (g.E.SwapDev.image one_after);
      reads = record {
        zero_before = g.D.SwapDev.read_faults zero;
        zero_after = g.D.SwapDev.read_faults zero_after;
        one_before = g.E.SwapDev.read_faults one;
        one_after = g.E.SwapDev.read_faults one_after;
      };
      writes = record {
        zero_before = g.D.SwapDev.write_faults zero;
        zero_after = g.D.SwapDev.write_faults zero_after;
        one_before = g.E.SwapDev.write_faults one;
        one_after = g.E.SwapDev.write_faults one_after;
      };
      written_before = g.S.Sink.written c.args.sink.now;
      written_after = g.S.Sink.written c.write_run-status.new.sink;
      sink_faults_before = g.S.Sink.faults c.args.sink.now;
      sink_faults_after = g.S.Sink.faults c.write_run-status.new.sink;
    } in
    let written : WritesRun c.args.traced es r seen.written_before seen.written_after seen.sink_faults_before seen.sink_faults_after c.write_run-status.result
    = subst (λ (entries : List Entry). WritesRun c.args.traced entries r seen.written_before seen.written_after seen.sink_faults_before seen.sink_faults_after c.write_run-status.result)
    c.journal.ensures c.write_run-status.ensures.writes in
    let machine = c.in-Ok.ensures.machine ∙ ap (λ (images : List OpenedImage). machine_of c.args.numbers (map shown_as images)) c.as_slice.ensures.value in
    let caused : RunCaused seen es r = run_caused seen es r ran.kind ran.files_read.open_faults ran.files_read.page_faults ran.reads ran.writes ran.none_made
    (λ pid is. left_together g.D.SwapDev g.E.SwapDev zero zero_after one one_after (ran.zero_left pid is) (ran.one_left pid is))
    (subst (λ (m : Standing). r ≡ Err JournalFull → length es ≡ m.params.journal) machine ran.full) in
    let within : length es ≤ journal_entries = subst (λ (m : Standing). length es ≤ m.params.journal) machine ran.within in
    opened_runs (IsOfOpening c.args.numbers c.args.opening.now (g.F.Files.holds files)) (g.F.Files.notes files) c.args.traced seen es r c.write_run-status.result written
    (subst HaveNumbers c.journal.ensures c.write_run-status.ensures.numbers) within caused ran.kind
    (λ A image is told.
    run_ended seen A es image (with_files seen.notes_after seen.swap_after) r ran.kind caused
    (ran.ends A image
    (subst (λ (lines : List Event). IsAskedOf A c.in-Ok.core.machine c.as_slice-2.result.now lines (g.F.Files.holds files) image) (sym c.as_slice-3.ensures.value)
    (subst (λ (first : List ℕ). IsAskedOf A c.in-Ok.core.machine first c.args.opening.now.lines.items (g.F.Files.holds files) image) (sym c.as_slice-2.ensures.value)
    (subst (λ (m : Standing). IsAskedOf A m c.args.opening.now.first.items c.args.opening.now.lines.items (g.F.Files.holds files) image) (sym machine) is))) told))

pub returns-clause-kept : goal.returns-clause-kept
returns-clause-kept g c =
    let ran = c.run_paired-ending in
    let wrote = c.write_run-status in
    record {
      files = record { leads = ran.ensures.files_read.leads; holds = ran.ensures.files_read.holds };
      devices = ran.ensures.devices;
      output = record { leads = wrote.ensures.leads; written = g.met.S.Sink.leads_more c.args.sink.now wrote.new.sink wrote.ensures.leads };
    }

pub returns-clause-zero_left : goal.returns-clause-zero_left
returns-clause-zero_left g c =
    let ran = c.run_paired-ending in
    let wrote = c.write_run-status in
    run_early _ _ _ _ wrote.result ran.result ran.ensures.kind c.args.traced _ _ wrote.ensures.writes ran.ensures.zero_left

pub returns-clause-one_left : goal.returns-clause-one_left
returns-clause-one_left g c =
    let ran = c.run_paired-ending in
    let wrote = c.write_run-status in
    run_early _ _ _ _ wrote.result ran.result ran.ensures.kind c.args.traced _ _ wrote.ensures.writes ran.ensures.one_left
