use Rattle.std.proofs.Common.{Err, subst}
use Rattle.io_edge.specs.FileHolding.{AnswersName}
use Rattle.io_edge.specs.declared.Found.{Found}
use Rattle.command_edge.specs.declared.answers.Loaded.{Loaded}
use Rattle.command_edge.specs.declared.answers.Unread.TheVariants.{Absent, FileFault}
use Rattle.command_edge.proofs.ImageReads.{image_found, image_absent, image_failed}
use Rattle.command_edge.proofs.loading.load_image.Goals as goal

pub returns-in-Failed-clause-asked : goal.returns-in-Failed-clause-asked
returns-in-Failed-clause-asked g c =
    image_failed {A = Loaded} (Err FileFault) (g.F.Files.holds c.args.files.now) c.args.name.now _ _ _ _
    (subst (λ (found : Found). AnswersName (g.F.Files.holds c.args.files.now) c.args.name.now found) c.in-Failed.is c.find.ensures.answer) tt c.find.ensures.notes

pub returns-in-Absent-clause-asked : goal.returns-in-Absent-clause-asked
returns-in-Absent-clause-asked g c =
    image_absent {A = Loaded} (Err Absent) (g.F.Files.holds c.args.files.now) c.args.name.now _ _ _ _
    (subst (λ (found : Found). AnswersName (g.F.Files.holds c.args.files.now) c.args.name.now found) c.in-Absent.is c.find.ensures.answer) tt c.find.ensures.notes

pub returns-in-Is-clause-asked : goal.returns-in-Is-clause-asked
returns-in-Is-clause-asked g c =
    image_found c.load_found.result (g.F.Files.holds c.find.new.self) (g.F.Files.holds c.args.files.now) c.args.name.now c.in-Is.id c.in-Is.len _ (g.F.Files.notes c.find.new.self) _
    c.find.ensures.holds
    (subst (λ (found : Found). AnswersName (g.F.Files.holds c.args.files.now) c.args.name.now found) c.in-Is.is c.find.ensures.answer) c.find.ensures.notes c.load_found.ensures.noted
