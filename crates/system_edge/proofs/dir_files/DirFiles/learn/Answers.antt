use Rattle.std.proofs.Common.{◌∙◌, ◌≡◌, sym, ap, map, get_or, None, Bor, List, ℕ}
use Rattle.system_edge.specs.Named.{names_of}
use Rattle.system_edge.specs.Places.{known_at}
use Rattle.system_edge.specs.declared.place.Place.{Place}
use Rattle.system_edge.specs.declared.place.Place.TheVariants.{Unsought}
use Rattle.system_edge.proofs.Placing.{place_answers}
use Rattle.system_edge.proofs.Learning.{fits_there, either_fits, put_keeps}
use Rattle.system_edge.proofs.dir_files.DirFiles.learn.Goals as goal

pub returns-in-Some-clause-answer : goal.returns-in-Some-clause-answer
returns-in-Some-clause-answer g c =
    let own = c.args.self.now in
    let names = names_of (map (λ (word : Bor (List ℕ)). word.now) own.words.now) in
    let folder = g.S.System.folder own.system.now in
    place_answers g.S.File.SystemFile names folder c.args.name.now c.args.number (get_or own.places.items c.args.number Unsought) c.in-Some.found c.requires
    (fits_there g.S.File.SystemFile folder names own.places.items c.args.name.now c.args.number own.fits c.requires)
    (sym (c.known_of.ensures ∙ ap (λ (xs : List (Place _)). known_at c.args.number (get_or xs c.args.number Unsought)) c.deref.ensures.value) ∙ c.in-Some.is)

pub invariant_of-self : goal.invariant_of-self
invariant_of-self g c =
    let own = c.args.self.now in
    let names = names_of (map (λ (word : Bor (List ℕ)). word.now) own.words.now) in
    record {
      fits = either_fits c.put_place.result g.S.File.SystemFile (g.S.System.folder own.system.now) names own.places.items c.put_place.new.places.items c.args.name.now
          c.args.number c.in_ok-place.place own.fits c.requires c.in_ok-place.ensures c.put_place.ensures.put c.put_place.ensures.failed;
    }

pub returns-clause-answer : goal.returns-clause-answer
returns-clause-answer g c =
    let own = c.args.self.now in
    let names = names_of (map (λ (word : Bor (List ℕ)). word.now) own.words.now) in
    place_answers g.S.File.SystemFile names (g.S.System.folder own.system.now) c.args.name.now c.args.number c.in_ok-place.place c.in-Some-known.found
    c.requires c.in_ok-place.ensures (sym c.known.ensures ∙ c.in-Some-known.is)

pub returns-clause-keeps : goal.returns-clause-keeps
returns-clause-keeps g c =
    let own = c.args.self.now in
    let unknown : known_at c.args.number (get_or own.places.items c.args.number Unsought) ≡ None =
    sym (c.known_of.ensures ∙ ap (λ (xs : List (Place _)). known_at c.args.number (get_or xs c.args.number Unsought)) c.deref.ensures.value) ∙ c.in_default.is in
    put_keeps own.places.items c.put_place.new.places.items c.args.number c.in_ok-place.place unknown c.in_ok-put_place.ensures.put
