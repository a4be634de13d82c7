use Rattle.std.proofs.Common.{rules, ◌≡◌, ◌∙◌, ℕ, List, take, drop, Option, Result, Ok, Err, Vec, Global, subst, sym, ap, arith}
use Rattle.io_edge.specs.FileHolding.{NamedFile, HoldsRange, bytes_at}
use Rattle.aout_image.specs.Image.{judged_image, file_length_of}
use Rattle.command_edge.specs.declared.answers.Headed.{Headed}
use Rattle.command_edge.specs.declared.answers.Loaded.{Loaded}
use Rattle.command_edge.specs.declared.answers.Unread.{Unread}
use Rattle.command_edge.specs.Answering.{Answers, CountsFaults, FailsInOrder}
use Rattle.command_edge.specs.Told.{image_in}
use Rattle.command_edge.proofs.Fronts.{judged_is, told_image, rest_fails, image_of_front, joined, front_of_header, above_header, header_decides, header_fails, header_counts}
use Rattle.command_edge.specs.Looks.{LoadMade}
use Rattle.command_edge.proofs.ImageReads.{load_unheaded, load_unrested, load_whole}
use Rattle.command_edge.proofs.loading.load_found.Goals as goal

pub returns-clause-answers : goal.returns-clause-answers
returns-clause-answers g c = λ list told size.
    let file = bytes_at list c.args.id in
    let headed = c.in_ok-headed.headed in
    let head : take 32 file ≡ headed.header.items
    = front_of_header (g.F.Files.holds c.args.files.now) list c.args.id headed.header.items told c.in_ok-headed.ensures.size c.in_ok-headed.ensures.header in
    let whole : c.in_ok-bytes.bytes.items ≡ take (file_length_of headed.image) file
    = joined (g.F.Files.holds c.args.files.now) list c.args.id (file_length_of headed.image) headed.header.items c.in_ok-bytes.bytes.items told head c.in_ok-bytes.ensures.head
    (c.in_ok-bytes.ensures.size ∙ c.file_length.ensures.value) (above_header headed.image)
    (subst (λ (h : Option (List NamedFile)). HoldsRange h c.args.id 32 (drop 32 c.in_ok-bytes.bytes.items)) c.read_header.ensures.kept.holds c.in_ok-bytes.ensures.rest) in
    judged_is file c.in_ok-bytes.bytes.items (judged_image file) headed.image
    (c.in_ok-headed.ensures.judged file head (sym size)) whole

pub returns-clause-image : goal.returns-clause-image
returns-clause-image g c =
    let headed = c.in_ok-headed.headed in
    image_of_front headed.image c.args.len c.file_length.result headed.header.items c.in_ok-bytes.bytes.items
    (λ whole begins long. c.in_ok-headed.ensures.judged whole begins long)
    c.file_length.ensures.enough (omega (arith, c.file_length.ensures.value, c.in_ok-headed.ensures.whole))
    (omega (arith, c.file_length.ensures.value, above_header headed.image)) c.in_ok-bytes.ensures.size c.in_ok-bytes.ensures.head

pub returns-in_err-headed-clause-answers : goal.returns-in_err-headed-clause-answers
returns-in_err-headed-clause-answers g c = λ list told size.
    let file = bytes_at list c.args.id in
    let is : c.from_residual.result ≡ Err c.in_err-headed.field-0.0 = search rules in
    subst (λ (r : Result Loaded Unread). Answers (λ loaded. (loaded.image, loaded.bytes.items)) (image_in file (judged_image file)) r) (sym is)
    (header_decides Headed Loaded (λ headed. headed.image) (λ loaded. (loaded.image, loaded.bytes.items)) file (judged_image file) c.in_err-headed.field-0.0
    c.in_err-headed.ensures.error (c.in_err-headed.ensures.answers list told size))

pub returns-in_err-headed-clause-order : goal.returns-in_err-headed-clause-order
returns-in_err-headed-clause-order g c = λ list told size.
    let file = bytes_at list c.args.id in
    let is : c.from_residual.result ≡ Err c.in_err-headed.field-0.0 = search rules in
    let open_before = g.F.Files.open_faults c.args.files.now in
    let open_after = g.F.Files.open_faults c.read_header.new.files in
    let page_before = g.F.Files.page_faults c.args.files.now in
    let page_after = g.F.Files.page_faults c.read_header.new.files in
    subst (λ (r : Result Loaded Unread). FailsInOrder (image_in file (judged_image file)) r open_before open_after page_before page_after) (sym is)
    (header_fails Headed Loaded (image_in file (judged_image file)) c.in_err-headed.field-0.0 open_before open_after page_before page_after
    c.in_err-headed.ensures.page_faults c.in_err-headed.ensures.open_faults)

pub returns-in_err-headed-clause-faults : goal.returns-in_err-headed-clause-faults
returns-in_err-headed-clause-faults g c =
    let is : c.from_residual.result ≡ Err c.in_err-headed.field-0.0 = search rules in
    let open_before = g.F.Files.open_faults c.args.files.now in
    let open_after = g.F.Files.open_faults c.read_header.new.files in
    let page_before = g.F.Files.page_faults c.args.files.now in
    let page_after = g.F.Files.page_faults c.read_header.new.files in
    subst (λ (r : Result Loaded Unread). CountsFaults r open_before open_after page_before page_after) (sym is)
    (header_counts Headed Loaded c.in_err-headed.field-0.0 open_before open_after page_before page_after
    c.in_err-headed.ensures.page_faults c.in_err-headed.ensures.open_faults)

pub returns-in_err-bytes-clause-order : goal.returns-in_err-bytes-clause-order
returns-in_err-bytes-clause-order g c = λ list told size.
    let file = bytes_at list c.args.id in
    let headed = c.in_ok-headed.headed in
    let head : take 32 file ≡ headed.header.items
    = front_of_header (g.F.Files.holds c.args.files.now) list c.args.id headed.header.items told c.in_ok-headed.ensures.size c.in_ok-headed.ensures.header in
    let is : c.from_residual-in_err-bytes.result ≡ Err c.in_err-bytes.field-0.0 = search rules in
    let open_before = g.F.Files.open_faults c.args.files.now in
    let open_after = g.F.Files.open_faults c.read_rest.new.files in
    let page_before = g.F.Files.page_faults c.args.files.now in
    let page_after = g.F.Files.page_faults c.read_rest.new.files in
    subst (λ (r : Result Loaded Unread). FailsInOrder (image_in file (judged_image file)) r open_before open_after page_before page_after) (sym is)
    (rest_fails (Vec ℕ Global) Loaded (image_in file (judged_image file)) c.in_err-bytes.field-0.0 _ _ _ _ _
    (told_image file (judged_image file) headed.image (c.in_ok-headed.ensures.judged file head (sym size)))
    (c.in_err-bytes.ensures.open_faults ∙ c.in_ok-headed.ensures.open_faults) c.in_ok-headed.ensures.page_faults c.in_err-bytes.ensures.page_faults)

pub returns-clause-noted : goal.returns-clause-noted
returns-clause-noted g c =
    load_whole Loaded _ c.in_ok-headed.headed.image (g.F.Files.holds c.args.files.now) c.args.id c.args.len c.file_length.result (g.F.Files.notes c.args.files.now)
    (g.F.Files.notes c.read_header.new.files) _ c.in_ok-headed.ensures.answers c.file_length.ensures.value c.in_ok-headed.ensures.noted c.in_ok-bytes.ensures.noted

pub returns-in_err-headed-clause-noted : goal.returns-in_err-headed-clause-noted
returns-in_err-headed-clause-noted g c =
    let is : c.from_residual.result ≡ Err c.in_err-headed.field-0.0 = search rules in
    subst (λ (r : Result Loaded Unread). LoadMade r (g.F.Files.holds c.args.files.now) c.args.id c.args.len (g.F.Files.notes c.args.files.now) (g.F.Files.notes c.read_header.new.files))
    (sym is)
    (load_unheaded Headed Loaded (λ headed. headed.image) c.in_err-headed.field-0.0 (g.F.Files.holds c.args.files.now) c.args.id c.args.len _ _ c.in_err-headed.ensures.error
    c.in_err-headed.ensures.answers c.in_err-headed.ensures.noted)

pub returns-in_err-bytes-clause-noted : goal.returns-in_err-bytes-clause-noted
returns-in_err-bytes-clause-noted g c =
    let is : c.from_residual-in_err-bytes.result ≡ Err c.in_err-bytes.field-0.0 = search rules in
    subst (λ (r : Result Loaded Unread). LoadMade r (g.F.Files.holds c.args.files.now) c.args.id c.args.len (g.F.Files.notes c.args.files.now) (g.F.Files.notes c.read_rest.new.files))
    (sym is)
    (load_unrested (Vec ℕ Global) Loaded c.in_err-bytes.field-0.0 c.in_ok-headed.headed.image (g.F.Files.holds c.args.files.now) c.args.id c.args.len c.file_length.result
    (g.F.Files.notes c.args.files.now) (g.F.Files.notes c.read_header.new.files) _ c.in_err-bytes.ensures.error c.in_ok-headed.ensures.answers c.file_length.ensures.value
    c.in_ok-headed.ensures.noted c.in_err-bytes.ensures.noted)
