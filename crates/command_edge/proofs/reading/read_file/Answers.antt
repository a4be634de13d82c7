use Rattle.std.proofs.Common.{◌≡◌, ℕ, List, Option, Some, Vec, Global, ◌∙◌, subst, refl}
use Rattle.std.specs.Prelude.{IfOk, length}
use Rattle.io_edge.specs.FileHolding.{NamedFile, AnswersName}
use Rattle.io_edge.specs.declared.Found.{Found}
use Rattle.io_edge.specs.declared.Found.TheVariants.{Is}
use Rattle.command_edge.specs.Asked.{FrontMade}
use Rattle.command_edge.proofs.Fronts.{front_answers}
use Rattle.command_edge.proofs.Asking.{front_made, front_absent, front_failed}
use Rattle.command_edge.proofs.reading.read_file.Goals as goal

pub returns-in-Failed-clause-asked : goal.returns-in-Failed-clause-asked
returns-in-Failed-clause-asked g c =
    front_failed c.args.name.now (g.F.Files.holds c.args.files.now) c.args.most _ _ _ _
    (subst (λ (found : Found). AnswersName (g.F.Files.holds c.args.files.now) c.args.name.now found) c.in-Failed.is c.find.ensures.answer) refl c.find.ensures.notes

pub returns-in-Absent-clause-asked : goal.returns-in-Absent-clause-asked
returns-in-Absent-clause-asked g c =
    front_absent c.args.name.now (g.F.Files.holds c.args.files.now) c.args.most _ _ _ _
    (subst (λ (found : Found). AnswersName (g.F.Files.holds c.args.files.now) c.args.name.now found) c.in-Absent.is c.find.ensures.answer) refl c.find.ensures.notes

pub returns-in-Is-clause-asked : goal.returns-in-Is-clause-asked
returns-in-Is-clause-asked g c =
    front_made c.args.name.now (g.F.Files.holds c.args.files.now) c.args.most _ _ c.read_front.result c.in-Is.id c.in-Is.len _ (g.F.Files.notes c.find.new.self) _
    (subst (λ (found : Found). AnswersName (g.F.Files.holds c.args.files.now) c.args.name.now found) c.in-Is.is c.find.ensures.answer) c.find.ensures.notes
    (subst (λ (n : ℕ). FrontMade c.read_front.result c.in-Is.id n (g.F.Files.notes c.find.new.self) (g.F.Files.notes c.read_front.new.files)) c.min.ensures c.read_front.ensures.noted)
    (λ e. e)

pub returns-in-Is-clause-answers : goal.returns-in-Is-clause-answers
returns-in-Is-clause-answers g c = λ list told.
    let is : AnswersName (Some list) c.args.name.now (Is c.in-Is.id c.in-Is.len) =
    subst (λ (holds : Option (List NamedFile)). AnswersName holds c.args.name.now (Is c.in-Is.id c.in-Is.len)) told
    (subst (λ (found : Found). AnswersName (g.F.Files.holds c.args.files.now) c.args.name.now found) c.in-Is.is c.find.ensures.answer) in
    front_answers (λ (bytes : Vec ℕ Global). bytes.items) c.read_front.result (g.F.Files.holds c.find.new.self) list c.args.name.now c.in-Is.id c.in-Is.len c.args.most
    (c.find.ensures.holds ∙ told) is.0 is.1 c.read_front.ensures.bytes
    (subst (λ (n : ℕ). IfOk c.read_front.result (λ (bytes : Vec ℕ Global). length bytes.items ≡ n)) c.min.ensures c.read_front.ensures.size)
    c.read_front.ensures.error
