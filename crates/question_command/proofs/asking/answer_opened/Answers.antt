use Rattle.std.proofs.Common.{length, map, sym, ap, ◌∙◌}
use Rattle.io_edge.specs.FileRequests.{no_notes}
use Rattle.io_edge.specs.WithFiles.{with_files}
use Rattle.reference_commands.proofs.Openings.{are_sound, are_names, images_length}
use Rattle.reference_commands.proofs.Inputs.{have_few_moves}
use Rattle.reference_commands.specs.Answering.{blank_stores}
use Rattle.reference_commands.specs.InMemory.{file_of, inputs_with}
use Rattle.reference_commands.proofs.Runs.{asked, opened_files}
use Rattle.question_command.proofs.asking.answer_opened.Goals as goal

pub film_of-requires-clause-sound : goal.film_of-requires-clause-sound
film_of-requires-clause-sound c = are_sound c.args.opened.now c.requires.opened.sound

pub film_of-requires-clause-names : goal.film_of-requires-clause-names
film_of-requires-clause-names c = are_names c.args.opened.now c.requires.opened.short

pub answer_run-text-requires-clause-moves : goal.answer_run-text-requires-clause-moves
answer_run-text-requires-clause-moves c = have_few_moves c.args.lines.now c.requires.runnable.ranges

pub answer_run-text-requires-clause-files : goal.answer_run-text-requires-clause-files
answer_run-text-requires-clause-files c = opened_files 0 c.args.numbers c.args.images.now c.args.opened.now c.args.first.now c.args.lines.now c.requires.opened c.requires.runnable c.requires.octets _
    c.in-Ok-film_of.ensures.machine _ c.requires.held

pub answer_run-text-requires-clause-inputs : goal.answer_run-text-requires-clause-inputs
answer_run-text-requires-clause-inputs c = record {
  inputs = inputs_with c.args.numbers c.args.images.now c.args.first.now c.args.lines.now;
  image = blank_stores c.args.numbers.swap;
  asked = asked 0 c.args.numbers c.args.images.now c.args.opened.now c.args.first.now c.args.lines.now c.requires.opened c.requires.runnable c.requires.octets _
      c.in-Ok-film_of.ensures.machine _ c.requires.held;
  told = ap (with_files no_notes) c.in-Ok.ensures.zeros;
}

pub returns : goal.returns
returns c =
    c.answer_run-text.ensures (inputs_with c.args.numbers c.args.images.now c.args.first.now c.args.lines.now) (blank_stores c.args.numbers.swap)
    (asked 0 c.args.numbers c.args.images.now c.args.opened.now c.args.first.now c.args.lines.now c.requires.opened c.requires.runnable c.requires.octets _
    c.in-Ok-film_of.ensures.machine _ c.requires.held)
    (ap (with_files no_notes) c.in-Ok.ensures.zeros)
    (ap length (sym c.requires.opened.are) ∙ images_length (map file_of c.args.images.now) c.args.opened.now ∙ c.requires.opened.count)
