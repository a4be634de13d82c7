use Rattle.std.proofs.Common.{refl, ap, ◌∙◌}
use Rattle.grade_command.specs.Telling.{parted_text}
use Rattle.grade_command.proofs.judging.grade_film.Goals as goal

pub returns : goal.returns
returns g c = λ A image frames are begun. record {
  made = c.grade_trace.new.film.machine.kernel.journal;
  is = c.in_ok-found.ensures A image frames are begun;
  count = refl;
  why = c.in_ok-why.ensures ∙ ap (parted_text c.in_ok-found.found) c.journal.ensures;
}
