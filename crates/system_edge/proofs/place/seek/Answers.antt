use Rattle.std.specs.Prelude.{option_map}
use Rattle.std.proofs.Common.{subst}
use Rattle.std.proofs.lemmas.Result.{IfOk-weaker}
use Rattle.system_calls.specs.Folder.{Opens}
use Rattle.system_edge.proofs.Fits.{taken_fits}
use Rattle.system_edge.proofs.place.seek.Goals as goal

pub returns-in-Some : goal.returns-in-Some
returns-in-Some g c =
    IfOk-weaker c.take.result _ _
    (λ place. taken_fits g.S.File.SystemFile (g.S.System.folder c.args.system.now) c.args.name.now (g.S.File.SystemFile.bytes c.in-Some.file) place
    (subst (λ found. Opens (g.S.System.folder c.args.system.now) c.args.name.now (option_map g.S.File.SystemFile.bytes found)) c.in-Some.is c.in_ok-file.ensures))
    c.take.ensures
