use Rattle.std.proofs.Common.{◌≡◌, ◌∙◌, length, arith}
use Rattle.std.proofs.lemmas.Bool.Decides.{nat_tests}
use Rattle.source_commands.proofs.Splits.{no_line}
use Rattle.source_commands.proofs.lines.text_of_line.Goals as goal

pub returns : goal.returns
returns c =
    let none : length c.loop-rest.rest.now ≡ 0 = grind (arith, nat_tests, c.is_empty.ensures, c.loop-rest-test.false) in
    no_line c.loop-rest.left c.loop-rest.rest.now none ∙ c.loop-rest.invariant
