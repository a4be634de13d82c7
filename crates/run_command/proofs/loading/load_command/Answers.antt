use Rattle.std.proofs.Common.{rules, ◌≡◌, List, [], map, Some, None, Err, Vec, Global, refl, sym, ap, ◌∙◌, subst}
use Rattle.std.specs.Prelude.{All}
use Rattle.io_edge.specs.FileHolding.{NamedFile}
use Rattle.io_edge.specs.FileRequests.{no_notes}
use Rattle.io_edge.specs.WithFiles.{image_with_files}
use Rattle.machine_state.specs.New.{AreSound}
use Rattle.machine_state.specs.Applying.{facts_named}
use Rattle.machine_state.specs.Sourced.{AreNames}
use Rattle.vm_core.specs.Schedules.{HaveFewMoves}
use Rattle.command_edge.specs.declared.fault.Fault.{Fault}
use Rattle.command_edge.specs.declared.fault.Fault.TheVariants as faults
use Rattle.run_opening.specs.declared.images.OpenedImage.{OpenedImage}
use Rattle.run_opening.specs.Devices.{device_fault}
use Rattle.run_opening.specs.Images.{images_found, images_in, IsIn}
use Rattle.load_maker.specs.Load.{load_files}
use Rattle.run_command.specs.Naming.{shown_as}
use Rattle.run_command.specs.Loads.{load_names, load_numbers, load_inputs, WritesCounts}
use Rattle.run_command.proofs.Openings.{are_sound, are_names}
use Rattle.run_command.proofs.Inputs.{have_few_moves}
use Rattle.run_command.proofs.Loadings.{loads_unmade, loads_judged, loads_run, meets_needs, only_memory}
use Rattle.run_command.proofs.Workloads.{found_in, same_images, files_opened, short_opened, starts_from, is_asked_of, has_room, few_lines}
use Rattle.run_command.proofs.loading.load_command.Goals as goal

pub returns-in_default-clause-loads : goal.returns-in_default-clause-loads
returns-in_default-clause-loads g c = λ told opens pages notes.
    loads_unmade c.args.number _ c.write_counts.result refl refl
    (record { files = record { open_same = refl; page_same = refl }; reads = record { zero = refl; one = refl }; writes = record { zero = refl; one = refl } }) c.write_counts.ensures.writes

pub returns-in-Some-clause-loads : goal.returns-in-Some-clause-loads
returns-in-Some-clause-loads g c =
    let short : device_fault load_numbers.swap (g.D.SwapDev.blocks c.args.zero.now) (g.E.SwapDev.blocks c.args.one.now) ≡ Some c.in-Some.fault = search rules in
    λ told opens pages notes.
    loads_judged c.args.number _ c.write_counts-in-Some.result c.in-Some.fault short
    (record {
      nothing = record { journal_is = refl; swap = refl; reads = record { zero = refl; one = refl }; writes = record { zero = refl; one = refl } };
      files = record { open_same = refl; page_same = refl };
    }) refl
    c.write_counts-in-Some.ensures.writes

pub run_load-requires-clause-sound : goal.run_load-requires-clause-sound
run_load-requires-clause-sound g c =
    subst (λ (os : List OpenedImage). AreSound (facts_named (map shown_as os))) (sym c.as_slice.ensures.value) (are_sound c.in-Ok-open_images.images.items c.in-Ok-open_images.ensures.sound)

pub run_load-requires-clause-names : goal.run_load-requires-clause-names
run_load-requires-clause-names g c =
    let os = c.in-Ok-open_images.images.items in
    let same = same_images c.args.number _ _ os c.new-files.ensures c.in-Ok.ensures.files c.in-Ok.ensures.images c.in-Ok-open_images.ensures.answers in
    subst (λ (xs : List OpenedImage). AreNames (map shown_as xs)) (sym c.as_slice.ensures.value) (are_names os (short_opened c.args.number os same))

pub run_load-requires-clause-are_files : goal.run_load-requires-clause-are_files
run_load-requires-clause-are_files g c = files_opened _ _ _ _ c.open_images.ensures.kept.holds c.as_slice.ensures.value c.in-Ok-open_images.ensures.ranges

pub run_load-requires-clause-moves : goal.run_load-requires-clause-moves
run_load-requires-clause-moves g c = subst HaveFewMoves (sym c.as_slice-in-Ok-open_images.ensures.value) (have_few_moves _ c.in-Ok.ensures.ranges)

pub run_load-requires-clause-count : goal.run_load-requires-clause-count
run_load-requires-clause-count g c = few_lines c.args.number _ _ c.as_slice-in-Ok-open_images.ensures.value c.in-Ok.ensures.lines

pub returns-in-Ok-open_images-clause-loads : goal.returns-in-Ok-open_images-clause-loads
returns-in-Ok-open_images-clause-loads g c =
    let number = c.args.number in
    let os = c.in-Ok-open_images.images.items in
    let xs = c.as_slice.result.now in
    let same = same_images number _ _ os c.new-files.ensures c.in-Ok.ensures.files c.in-Ok.ensures.images c.in-Ok-open_images.ensures.answers in
    let is_opened = ap (images_in (load_files number)) c.as_slice.ensures.value ∙ same in
    let holds = c.new-files.ensures ∙ ap (λ (fs : List NamedFile). Some fs) c.in-Ok.ensures.files in
    let are_in = c.in-Ok-open_images.ensures.are_in (load_files number) holds in
    let long : device_fault load_numbers.swap (g.D.SwapDev.blocks c.args.zero.now) (g.E.SwapDev.blocks c.args.one.now) ≡ None = search rules in
    λ told opens pages notes.
    loads_run _ _ number _ c.run_load.result long (record { open_same = refl; page_same = refl }) (starts_from number xs is_opened) refl
    (λ image before.
    is_asked_of number xs is_opened _ c.as_slice-in-Ok-open_images.result.now (image_with_files no_notes image)
    (c.open_images.ensures.kept.holds ∙ holds) (c.as_slice-in-Ok-open_images.ensures.value ∙ c.in-Ok.ensures.lines)
    (subst (All (IsIn (load_files number))) (sym c.as_slice.ensures.value) are_in)
    (has_room (g.D.SwapDev.blocks c.args.zero.now) (g.E.SwapDev.blocks c.args.one.now) (g.D.SwapDev.image c.args.zero.now) (g.E.SwapDev.image c.args.one.now) image
    (g.met.D.SwapDev.whole c.args.zero.now) (g.met.E.SwapDev.whole c.args.one.now) (meets_needs _ _ long) before))
    (c.run_load.ensures.runs told opens pages notes)

pub returns-clause-loads : goal.returns-clause-loads
returns-clause-loads g c =
    let number = c.args.number in
    let fault = c.in-Err.fault in
    let holds = c.new-files.ensures ∙ ap (λ (fs : List NamedFile). Some fs) c.in-Ok.ensures.files in
    let lacks : fault ≡ faults.NoMemory
    = only_memory (λ (images : Vec OpenedImage Global). images_in (load_files number) images.items) (images_found (load_files number) load_names) (load_inputs number).images fault
    (found_in number _ c.in-Ok.ensures.files c.in-Ok.ensures.images) (c.in-Err.ensures.answers (load_files number) holds) c.in-Err.ensures.open_faults c.in-Err.ensures.error in
    λ told opens pages notes.
    loads_unmade number _ c.write_counts-in-Err.result refl refl
    (record { files = record { open_same = refl; page_same = refl }; reads = record { zero = refl; one = refl }; writes = record { zero = refl; one = refl } })
    (subst
    (λ (f : Fault). WritesCounts number [] (Err f) (g.S.Sink.written c.args.sink.now) (g.S.Sink.written c.write_counts-in-Err.new.sink) (g.S.Sink.faults c.args.sink.now)
    (g.S.Sink.faults c.write_counts-in-Err.new.sink) c.write_counts-in-Err.result)
    lacks c.write_counts-in-Err.ensures.writes)
