use Rattle.std.proofs.Common.{◌∙◌, sym, ap, subst, map, get_or, [], Bor, List, ℕ}
use Rattle.io_edge.specs.FileHolding.{HasRange}
use Rattle.system_edge.specs.Named.{names_of, seen_told}
use Rattle.system_edge.specs.Places.{FitsName}
use Rattle.system_edge.specs.declared.place.Place.{Place}
use Rattle.system_edge.specs.declared.place.Place.TheVariants.{Unsought}
use Rattle.system_edge.proofs.Placing.{place_holds}
use Rattle.system_edge.proofs.Learning.{ok_then}
use Rattle.system_edge.proofs.dir_files.DirFiles.fill.Goals as goal

pub returns-in-Some : goal.returns-in-Some
returns-in-Some g c =
    let own = c.args.self.now in
    let names = names_of (map (λ (word : Bor (List ℕ)). word.now) own.words.now) in
    let folder = g.S.System.folder own.system.now in
    let at = c.in-Some.ensures.lookup in
    ok_then c.read.result
    (place_holds g.S.File.SystemFile names folder c.args.id c.args.offset c.in-Some.place.now c.read.new.buf
    (subst (λ (there : Place _). FitsName g.S.File.SystemFile folder (get_or names c.args.id []) there)
    (sym (at.3.1 Unsought ∙ ap (λ (xs : List (Place _)). get_or xs c.args.id Unsought) c.deref.ensures.value)) (own.fits c.args.id))
    (subst (λ (long : ℕ). HasRange (seen_told folder names) c.args.id c.args.offset long) (sym c.read.auto.buf) c.requires))
    c.read.ensures
