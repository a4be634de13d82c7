use Rattle.std.proofs.Common.{◌≡◌, [], ◌∷◌, length, take, sym, ap, ◌∙◌, rules}
use Rattle.aout_image.specs.Image.{judged_image, loaded}
use Rattle.flat_state.specs.Flat.{NamedImage}
use Rattle.flat_process.proofs.Loading.{judged_back, judged_so, images_one}
use Rattle.flat_process.proofs.program.load.Goals as goal

pub load_as-requires-clause-image : goal.load_as-requires-clause-image
load_as-requires-clause-image c =
    let file : c.as_slice-bytes.result.now ≡ c.args.flat.now.bytes = search rules in
    let front : take 32 c.args.flat.now.bytes ≡ c.head.result.now = ap (take 32) (sym file) ∙ sym c.head.ensures.value in
    let len : length c.args.flat.now.bytes ≡ length c.as_slice-bytes.result.now = ap length (sym file) in
    judged_back c.args.flat.now.bytes c.in-Is.facts (c.in-Is.ensures.of_the_file c.args.flat.now.bytes front len)

pub unreachable-requires : goal.unreachable-requires
unreachable-requires c =
    let file : c.as_slice-bytes.result.now ≡ c.args.flat.now.bytes = search rules in
    let front : take 32 c.args.flat.now.bytes ≡ c.head.result.now = ap (take 32) (sym file) ∙ sym c.head.ensures.value in
    let len : length c.args.flat.now.bytes ≡ length c.as_slice-bytes.result.now = ap length (sym file) in
    judged_so (judged_image c.args.flat.now.bytes) c.in-NotImage.field-0 c.requires.image (c.in-NotImage.ensures.of_the_file c.args.flat.now.bytes front len)

pub returns : goal.returns
returns c =
    let file : c.as_slice-bytes.result.now ≡ c.args.flat.now.bytes = search rules in
    let front : take 32 c.args.flat.now.bytes ≡ c.head.result.now = ap (take 32) (sym file) ∙ sym c.head.ensures.value in
    let len : length c.args.flat.now.bytes ≡ length c.as_slice-bytes.result.now = ap length (sym file) in
    images_one c.args.flat.now (loaded c.in-Is.facts c.args.flat.now.bytes) (judged_back c.args.flat.now.bytes c.in-Is.facts (c.in-Is.ensures.of_the_file c.args.flat.now.bytes front len))
    ∙ ap (λ (x : NamedImage). x ∷ []) (sym c.in_ok-program-in-Is.ensures)
