use Rattle.std.proofs.Common.{ap}
use Rattle.io_edge.specs.FileRequests.{no_notes}
use Rattle.io_edge.specs.WithFiles.{with_files}
use Rattle.question_command.proofs.Openings.{are_sound, are_names}
use Rattle.question_command.proofs.Inputs.{have_few_moves}
use Rattle.question_command.specs.Answering.{blank_stores}
use Rattle.question_command.specs.InMemory.{inputs_with}
use Rattle.question_command.proofs.Runs.{asked, opened_files}
use Rattle.grade_command.proofs.judging.grade_opened.Goals as goal

pub film_of-requires-clause-sound : goal.film_of-requires-clause-sound
film_of-requires-clause-sound c = are_sound c.args.opened.now c.requires.opened.sound

pub film_of-requires-clause-names : goal.film_of-requires-clause-names
film_of-requires-clause-names c = are_names c.args.opened.now c.requires.opened.short

pub grade_run-graded-requires-clause-moves : goal.grade_run-graded-requires-clause-moves
grade_run-graded-requires-clause-moves c = have_few_moves c.args.lines.now c.requires.runnable.ranges

pub grade_run-graded-requires-clause-files : goal.grade_run-graded-requires-clause-files
grade_run-graded-requires-clause-files c = opened_files 0 c.args.numbers c.args.images.now c.args.opened.now c.args.first.now c.args.lines.now c.requires.opened c.requires.runnable c.requires.octets _
    c.in-Ok-film_of.ensures.machine _ c.requires.held

pub grade_run-graded-requires-clause-inputs : goal.grade_run-graded-requires-clause-inputs
grade_run-graded-requires-clause-inputs c = record {
  inputs = inputs_with c.args.numbers c.args.images.now c.args.first.now c.args.lines.now;
  image = blank_stores c.args.numbers.swap;
  asked = asked 0 c.args.numbers c.args.images.now c.args.opened.now c.args.first.now c.args.lines.now c.requires.opened c.requires.runnable c.requires.octets _
      c.in-Ok-film_of.ensures.machine _ c.requires.held;
  told = ap (with_files no_notes) c.in-Ok.ensures.zeros;
}

pub returns : goal.returns
returns c =
    c.grade_run-graded.ensures (inputs_with c.args.numbers c.args.images.now c.args.first.now c.args.lines.now) (blank_stores c.args.numbers.swap)
    (asked 0 c.args.numbers c.args.images.now c.args.opened.now c.args.first.now c.args.lines.now c.requires.opened c.requires.runnable c.requires.octets _
    c.in-Ok-film_of.ensures.machine _ c.requires.held)
    (ap (with_files no_notes) c.in-Ok.ensures.zeros)
