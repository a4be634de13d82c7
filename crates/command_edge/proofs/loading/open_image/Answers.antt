use Rattle.std.proofs.Common.{rules, ◌≡◌, true, is_err, Result, Ok, Err, subst, sym, ap, refl}
use Rattle.io_edge.specs.FileHolding.{AnswersName}
use Rattle.io_edge.specs.declared.Found.{Found}
use Rattle.command_edge.specs.declared.answers.Headed.{Headed}
use Rattle.command_edge.specs.declared.answers.Opened.{Opened}
use Rattle.command_edge.specs.declared.answers.Unread.{Unread}
use Rattle.command_edge.specs.declared.answers.Unread.TheVariants as unreads
use Rattle.command_edge.specs.Asked.{AsksFront}
use Rattle.command_edge.proofs.Asking.{found_range, front_made, front_absent, front_failed}
use Rattle.command_edge.proofs.loading.open_image.Goals as goal

pub returns-in-Failed-clause-asked : goal.returns-in-Failed-clause-asked
returns-in-Failed-clause-asked g c =
    front_failed c.args.name.now (g.F.Files.holds c.args.files.now) 32 _ _ _ _
    (subst (λ (found : Found). AnswersName (g.F.Files.holds c.args.files.now) c.args.name.now found) c.in-Failed.is c.find.ensures.answer) refl c.find.ensures.notes

pub returns-in-Absent-clause-asked : goal.returns-in-Absent-clause-asked
returns-in-Absent-clause-asked g c =
    front_absent c.args.name.now (g.F.Files.holds c.args.files.now) 32 _ _ _ _
    (subst (λ (found : Found). AnswersName (g.F.Files.holds c.args.files.now) c.args.name.now found) c.in-Absent.is c.find.ensures.answer) refl c.find.ensures.notes

pub returns-in_err-headed-in-Is-clause-asked : goal.returns-in_err-headed-in-Is-clause-asked
returns-in_err-headed-in-Is-clause-asked g c =
    let e = c.in_err-headed-in-Is.field-0.0 in
    let is : c.from_residual.result ≡ Err e = search rules in
    let read : Result Headed Unread = Err e in
    subst (λ (r : Result Opened Unread). AsksFront c.args.name.now (g.F.Files.holds c.args.files.now) 32 (is_err r ≡ true) (r ≡ Err unreads.NoMemory)
    (g.F.Files.notes c.args.files.now) (g.F.Files.notes c.read_header.new.files))
    (sym is)
    (front_made c.args.name.now (g.F.Files.holds c.args.files.now) 32 _ _ read c.in-Is.id c.in-Is.len _ (g.F.Files.notes c.find.new.self) _
    (subst (λ (found : Found). AnswersName (g.F.Files.holds c.args.files.now) c.args.name.now found) c.in-Is.is c.find.ensures.answer) c.find.ensures.notes c.in_err-headed-in-Is.ensures.noted
    (λ m. let same : e ≡ unreads.NoMemory = cc in ap (λ (x : Unread). let r : Result Opened Unread = Err x in r) same))

pub returns-in_ok-headed-in-Is-clause-range : goal.returns-in_ok-headed-in-Is-clause-range
returns-in_ok-headed-in-Is-clause-range g c =
    found_range (g.F.Files.holds c.args.files.now) c.args.name.now c.in-Is.id c.in-Is.len _
    (subst (λ (found : Found). AnswersName (g.F.Files.holds c.args.files.now) c.args.name.now found) c.in-Is.is c.find.ensures.answer) c.in_ok-headed-in-Is.ensures.whole

pub returns-in_ok-headed-in-Is-clause-asked : goal.returns-in_ok-headed-in-Is-clause-asked
returns-in_ok-headed-in-Is-clause-asked g c =
    let read : Result Headed Unread = Ok c.in_ok-headed-in-Is.headed in
    front_made c.args.name.now (g.F.Files.holds c.args.files.now) 32 _ _ read c.in-Is.id c.in-Is.len _ (g.F.Files.notes c.find.new.self) _
    (subst (λ (found : Found). AnswersName (g.F.Files.holds c.args.files.now) c.args.name.now found) c.in-Is.is c.find.ensures.answer) c.find.ensures.notes c.in_ok-headed-in-Is.ensures.noted
    (λ m. absurd cc)
