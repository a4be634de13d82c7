use Rattle.std.proofs.Common.{◌≡◌, Result, Err, refl, sym, ap, ◌∙◌, subst}
use Rattle.command_edge.specs.declared.answers.Unread.TheVariants as unreads
use Rattle.command_edge.specs.declared.fault.Fault.{Fault}
use Rattle.command_edge.specs.Ending.{fault_of}
use Rattle.run_opening.specs.Asked.{header_bytes, IsAbout}
use Rattle.run_opening.proofs.Asking.{front_for, about_unread}
use Rattle.run_opening.specs.declared.images.OpenedImage.{OpenedImage}
use Rattle.run_opening.proofs.Finding.{opened_is_in, opened_is_found}
use Rattle.run_opening.proofs.images.open_named.Goals as goal

pub returns-in-Ok-clause-answers : goal.returns-in-Ok-clause-answers
returns-in-Ok-clause-answers g c = λ list told.
    let image : OpenedImage = record { name = c.args.name; file = c.in-Ok.opened.file; facts = c.in-Ok.opened.image } in
    opened_is_found list image (opened_is_in list image (c.in-Ok.ensures.place list told) (c.in-Ok.ensures.answers list told))

pub returns-in-Ok-clause-is_in : goal.returns-in-Ok-clause-is_in
returns-in-Ok-clause-is_in g c = λ list told.
    let image : OpenedImage = record { name = c.args.name; file = c.in-Ok.opened.file; facts = c.in-Ok.opened.image } in
    opened_is_in list image (c.in-Ok.ensures.place list told) (c.in-Ok.ensures.answers list told)

pub returns-in-Ok-clause-asked : goal.returns-in-Ok-clause-asked
returns-in-Ok-clause-asked g c =
    front_for c.args.name.now (g.F.Files.holds c.args.files.now) header_bytes _ _ _ _ _ _ (λ e. absurd cc) (λ e. absurd cc) c.in-Ok.ensures.asked

pub returns-in-Err-clause-asked : goal.returns-in-Err-clause-asked
returns-in-Err-clause-asked g c =
    front_for c.args.name.now (g.F.Files.holds c.args.files.now) header_bytes _ _ _ _ _ _ (λ e. refl)
    (λ e. let same : c.in-Err.unread ≡ unreads.NoMemory = cc in
    ap (λ (x : Fault). let r : Result OpenedImage Fault = Err x in r) (c.of_unread.ensures ∙ ap (fault_of c.args.name) same)) c.in-Err.ensures.asked

pub returns-in-Err-clause-about : goal.returns-in-Err-clause-about
returns-in-Err-clause-about g c =
    subst (λ (fault : Fault). IsAbout fault c.args.name.now) (sym c.of_unread.ensures) (about_unread c.args.name c.in-Err.unread)
