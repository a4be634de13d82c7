-- A file that is judged to be no image is none.
use Rattle.std.proofs.Common.{◌≡◌, length, take, sym, ap, ◌∙◌, rules}
use Rattle.aout_image.specs.Image.{judged_image}
use Rattle.flat_process.proofs.Loading.{judged_so}
use Rattle.flat_process.proofs.program.is_image.Goals as goal

pub returns-in-NotImage : goal.returns-in-NotImage
returns-in-NotImage c =
    let file : c.as_slice-bytes.result.now ≡ c.args.flat.now.bytes = search rules in
    let front : take 32 c.args.flat.now.bytes ≡ c.head.result.now = ap (take 32) (sym file) ∙ sym c.head.ensures.value in
    let len : length c.args.flat.now.bytes ≡ length c.as_slice-bytes.result.now = ap length (sym file) in (
      λ yes. absurd cc,
      λ is. absurd (judged_so (judged_image c.args.flat.now.bytes) c.in-NotImage.field-0 is.image (c.in-NotImage.ensures.of_the_file c.args.flat.now.bytes front len)),
    )
