use Rattle.std.proofs.Common.{◌≡◌, ℕ, List, Some, map, ap, ◌∙◌}
use Rattle.vm_facts.specs.SwapImages.{SwapImage, unnoted}
use Rattle.vm_facts.specs.declared.params.Params.{Params}
use Rattle.flat_state.specs.Flat.{Inputs}
use Rattle.std.specs.Prelude.{◌*◌}
use Rattle.io_edge.specs.FileHolding.{named_file}
use Rattle.io_edge.specs.Zeros.{with_zeros}
use Rattle.io_edge.specs.FileRequests.{no_notes}
use Rattle.io_edge.specs.WithFiles.{with_files}
use Rattle.machine_state.specs.Machine.{Standing}
use Rattle.run_command.specs.Full.{RunOver}
use Rattle.run_command.specs.RunEnds.{IsAskedOf}
use Rattle.run_command.proofs.Openings.{are_sound, are_names}
use Rattle.run_command.proofs.Inputs.{have_few_moves}
use Rattle.reference_commands.specs.Answering.{blank_stores}
use Rattle.reference_commands.specs.InMemory.{inputs_with}
use Rattle.reference_commands.proofs.Runs.{asked, opened_files, on_ok_so}
use Rattle.reference_commands.proofs.running.run_opened.Goals as goal

pub core_up_to-requires-clause-sound : goal.core_up_to-requires-clause-sound
core_up_to-requires-clause-sound c = are_sound c.args.opened.now c.requires.opened.sound

pub core_up_to-requires-clause-names : goal.core_up_to-requires-clause-names
core_up_to-requires-clause-names c = are_names c.args.opened.now c.requires.opened.short

pub run_schedule-end-requires-clause-moves : goal.run_schedule-end-requires-clause-moves
run_schedule-end-requires-clause-moves c = have_few_moves c.args.lines.now c.requires.runnable.ranges

pub run_schedule-end-requires-clause-files : goal.run_schedule-end-requires-clause-files
run_schedule-end-requires-clause-files c = opened_files c.args.entries c.args.numbers c.args.images.now c.args.opened.now c.args.first.now c.args.lines.now c.requires.opened c.requires.runnable
    c.requires.octets _ c.in_ok-core.ensures.machine _ c.requires.held

pub returns : goal.returns
returns c =
    let A = inputs_with c.args.numbers c.args.images.now c.args.first.now c.args.lines.now in
    let is_asked : IsAskedOf A c.in_ok-core.core.machine c.args.first.now c.args.lines.now (Some (map named_file c.args.files.now.files.items)) (blank_stores c.args.numbers.swap)
    = asked c.args.entries c.args.numbers c.args.images.now c.args.opened.now c.args.first.now c.args.lines.now c.requires.opened c.requires.runnable c.requires.octets _
    c.in_ok-core.ensures.machine _ c.requires.held in
    record {
      journal = ap (λ (p : Params). p.journal) c.run_schedule-end.ensures.params ∙ ap (λ (m : Standing). m.params.journal) c.in_ok-core.ensures.machine;
      blocks = ap (λ (p : Params). p.swap_blocks) c.run_schedule-end.ensures.params ∙ ap (λ (m : Standing). m.params.swap_blocks) c.in_ok-core.ensures.machine;
      left = with_files no_notes (Some (unnoted (with_zeros (512 * c.run_schedule-end.new.swap.blocks) c.run_schedule-end.new.swap.written.items)));
      ends = c.run_schedule-end.ensures.ends A (blank_stores c.args.numbers.swap) is_asked (ap (with_files no_notes) c.in_ok-swap.ensures.zeros);
      full = c.run_schedule-end.ensures.full A (blank_stores c.args.numbers.swap) is_asked (ap (with_files no_notes) c.in_ok-swap.ensures.zeros);
      over = on_ok_so c.run_schedule-end.result
          ((B : Inputs) (image : SwapImage) → IsAskedOf B c.in_ok-core.core.machine c.args.first.now c.args.lines.now (Some (map named_file c.args.files.now.files.items)) image
          → with_files no_notes (Some (unnoted (with_zeros (512 * c.in_ok-swap.swap.blocks) c.in_ok-swap.swap.written.items))) ≡ Some image
          → RunOver B c.run_schedule-end.new.core.machine image)
          (RunOver A c.run_schedule-end.new.core.machine (blank_stores c.args.numbers.swap))
          (λ told. told A (blank_stores c.args.numbers.swap) is_asked (ap (with_files no_notes) c.in_ok-swap.ensures.zeros)) c.run_schedule-end.ensures.over;
      runs = c.run_schedule-end.ensures.left_running;
    }
