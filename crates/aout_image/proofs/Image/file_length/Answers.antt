use Rattle.std.proofs.Common.{◌+◌, ◌≤◌, arith, sym, subst}
use Rattle.aout_image.specs.declared.Image.{Image}
use Rattle.aout_image.specs.Image.{file_length_of}
use Rattle.aout_image.proofs.Images.{image_of-take}
use Rattle.aout_image.proofs.Image.file_length.Goals as goal

pub returns-clause-enough : goal.returns-clause-enough
returns-clause-enough c = λ bytes image is facts.
    let n = c.text_offset.result + c.from.result + c.from-2.result in
    let same : file_length_of c.args.self.now ≤ n = omega (arith, c.text_offset.ensures, c.from.ensures, c.from-2.ensures) in
    image_of-take bytes n image is (subst (λ (i : Image). file_length_of i ≤ n) (sym facts) same)
