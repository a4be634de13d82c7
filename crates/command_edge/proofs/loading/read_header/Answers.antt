-- The header that was read is the file's, and so the file is judged as its header says.
use Rattle.std.proofs.Common.{◌≡◌, ◌∙◌, take, sym}
use Rattle.io_edge.specs.FileHolding.{bytes_at}
use Rattle.aout_image.specs.Image.{judged_image}
use Rattle.command_edge.proofs.Fronts.{facts_not, facts_is, header_of_file}
use Rattle.command_edge.proofs.loading.read_header.Goals as goal

pub returns-in-NotImage-clause-answers : goal.returns-in-NotImage-clause-answers
returns-in-NotImage-clause-answers g c = λ list told size.
    let head : take 32 (bytes_at list c.args.id) ≡ c.in_ok-header.header.items
    = header_of_file (g.F.Files.holds c.args.files.now) list c.args.id c.args.len c.in_ok-header.header.items told size (c.in_ok-header.ensures.size ∙ c.min.ensures) c.in_ok-header.ensures.bytes in
    facts_not (judged_image (bytes_at list c.args.id)) c.in-NotImage.reason
    (c.in-NotImage.ensures.of_the_file (bytes_at list c.args.id) (head ∙ sym c.as_slice.ensures.value) (sym size))

pub returns-in-Is-clause-answers : goal.returns-in-Is-clause-answers
returns-in-Is-clause-answers g c = λ list told size.
    let head : take 32 (bytes_at list c.args.id) ≡ c.in_ok-header.header.items
    = header_of_file (g.F.Files.holds c.args.files.now) list c.args.id c.args.len c.in_ok-header.header.items told size (c.in_ok-header.ensures.size ∙ c.min.ensures) c.in_ok-header.ensures.bytes in
    facts_is (judged_image (bytes_at list c.args.id)) c.in-Is.image
    (c.in-Is.ensures.of_the_file (bytes_at list c.args.id) (head ∙ sym c.as_slice.ensures.value) (sym size))
