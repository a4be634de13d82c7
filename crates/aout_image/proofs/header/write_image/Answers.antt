use Rattle.std.proofs.Common.{ℕ, List, arith, ap, ◌∙◌}
use Rattle.aout_image.specs.Image.{header_of, judgement}
use Rattle.aout_image.proofs.Images.{judgement-header_of}
use Rattle.aout_image.proofs.header.write_image.Goals as goal

pub returns-clause-header : goal.returns-clause-header
unfolding header_of
returns-clause-header c = grind (arith, c.write_u32_into.ensures)

pub returns-clause-reads_back : goal.returns-clause-reads_back
returns-clause-reads_back c = λ len sound whole.
    ap (λ (xs : List ℕ). judgement xs len) (returns-clause-header c)
    ∙ judgement-header_of c.args.image.now len sound whole
