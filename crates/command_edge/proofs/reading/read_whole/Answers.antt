use Rattle.std.proofs.Common.{rules, arith, ◌≡◌, ℕ, true, nat_le, is_err, Option, Result, Err, Vec, Global, subst, sym, ap, refl}
use Rattle.std.proofs.lemmas.Bool.Decides.{nat_tests}
use Rattle.io_edge.specs.FileHolding.{AnswersName}
use Rattle.io_edge.specs.declared.Found.{Found}
use Rattle.command_edge.specs.declared.answers.Unread.{Unread}
use Rattle.command_edge.specs.declared.answers.Unread.TheVariants as unreads
use Rattle.command_edge.specs.Asked.{AsksWhole}
use Rattle.command_edge.proofs.Asking.{refused_as, whole_made, whole_absent, whole_failed}
use Rattle.command_edge.proofs.reading.read_whole.Goals as goal

pub returns-in-Failed-clause-asked : goal.returns-in-Failed-clause-asked
returns-in-Failed-clause-asked g c =
    whole_failed c.args.name.now (g.F.Files.holds c.args.files.now) c.args.most _ _ _ _
    (subst (λ (found : Found). AnswersName (g.F.Files.holds c.args.files.now) c.args.name.now found) c.in-Failed.is c.find.ensures.answer) refl c.find.ensures.notes

pub returns-in-Absent-clause-asked : goal.returns-in-Absent-clause-asked
returns-in-Absent-clause-asked g c =
    whole_absent c.args.name.now (g.F.Files.holds c.args.files.now) c.args.most _ _ _ _
    (subst (λ (found : Found). AnswersName (g.F.Files.holds c.args.files.now) c.args.name.now found) c.in-Absent.is c.find.ensures.answer) refl c.find.ensures.notes

pub returns-in_err-bytes-in-Is-2-clause-asked : goal.returns-in_err-bytes-in-Is-2-clause-asked
returns-in_err-bytes-in-Is-2-clause-asked g c =
    let e = c.in_err-bytes-in-Is-2.field-0.0 in
    let is : c.from_residual.result ≡ Err e = search rules in
    let long = c.if-len-most.false in
    let short : nat_le c.in-Is.len c.args.most ≡ true = grind (arith, nat_tests, long) in
    subst (λ (r : Result (Option (Vec ℕ Global)) Unread). AsksWhole c.args.name.now (g.F.Files.holds c.args.files.now) c.args.most (is_err r ≡ true)
    (r ≡ Err unreads.NoMemory) (g.F.Files.notes c.args.files.now) (g.F.Files.notes c.read_front.new.files))
    (sym is)
    (whole_made {A = Vec ℕ Global} c.args.name.now (g.F.Files.holds c.args.files.now) c.args.most _ _ (Err e) c.in-Is.id c.in-Is.len _ (g.F.Files.notes c.find.new.self) _
    (subst (λ (found : Found). AnswersName (g.F.Files.holds c.args.files.now) c.args.name.now found) c.in-Is.is c.find.ensures.answer) short c.find.ensures.notes c.in_err-bytes-in-Is-2.ensures.noted
    (refused_as e))
