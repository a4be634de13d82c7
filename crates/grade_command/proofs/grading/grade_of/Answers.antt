use Rattle.std.proofs.Common.{ap, ◌&&◌, not, nat_lt, Bool, false, ◌≡◌, length, subst, arith}
use Rattle.grade_command.specs.Along.{Along}
use Rattle.grade_command.proofs.Going.{differs_last}
use Rattle.grade_command.proofs.grading.grade_of.Goals as goal

pub grade_along-requires-clause-ended : goal.grade_along-requires-clause-ended
grade_along-requires-clause-ended c =
    subst (λ (b : Bool). b && (not c.args.film.now.over && nat_lt (length c.args.film.now.machine.kernel.journal) (length c.args.entries.now)) ≡ false)
    c.if-agrees.true c.requires.ended

pub returns-then-agrees : goal.returns-then-agrees
returns-then-agrees c = λ A holds i frames was.
    c.grade_along.ensures A holds i frames (subst (λ (b : Bool). Along A c.args.film.now holds i b c.args.entries.now) c.if-agrees.true was)

pub returns-else-agrees : goal.returns-else-agrees
returns-else-agrees c = λ A holds i frames was.
    let count = ap length c.journal.ensures in
    differs_last A c.args.film.now holds i c.args.entries.now frames
    (subst (λ (b : Bool). Along A c.args.film.now holds i b c.args.entries.now) c.if-agrees.false was) _ (omega (arith, count))
