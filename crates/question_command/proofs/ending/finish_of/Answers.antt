use Rattle.std.proofs.Common.{◌≡◌, true, false, sym, ◌∙◌}
use Rattle.question_command.proofs.Finishes.{idle_there, left_there, cut_there}
use Rattle.question_command.proofs.ending.finish_of.Goals as goal

pub returns-then-is_idle : goal.returns-then-is_idle
returns-then-is_idle c = λ A s holds i image are at. idle_there A s c.args.film.now holds i image c.args.lines.now are at (c.is_idle.ensures.0 c.if-is_idle.true)

pub returns-else-is_idle : goal.returns-else-is_idle
returns-else-is_idle c = λ A s holds i image are at.
    cut_there A s c.args.film.now holds i image c.args.lines.now are at c.requires.over
    (λ idle. let is : c.is_idle.result ≡ true = c.is_idle.ensures.1 (left_there A s c.args.film.now holds i image c.args.lines.now are at idle) in
    let no : true ≡ false = sym is ∙ c.if-is_idle.false in cc)
