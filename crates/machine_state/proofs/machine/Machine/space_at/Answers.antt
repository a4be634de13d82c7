use Rattle.std.proofs.Common.{◌≡◌, ◌<◌, Some, map, length, slice_get, sym, subst}
use Rattle.page_model.specs.Placement.{space_number}
use Rattle.table_steps.specs.Tables.{Tables}
use Rattle.table_steps.specs.Known.{Known}
use Rattle.table_steps.specs.Machine.{Standing, lists_of}
use Rattle.table_steps.specs.UserMemory.{NamesFrames}
use Rattle.machine_state.proofs.Standings.{stands_now}
use Rattle.table_steps.proofs.UserFrames.{known_by, names_frames, space_below}
use Rattle.machine_state.proofs.machine.Machine.space_at.Goals as goal

pub at-space-requires : goal.at-space-requires
at-space-requires c =
    let t : Tables = c.self.inside.tables in
    space_below (lists_of t) c.args.index (subst (λ (s : Standing). c.args.index < length s.kernel.place.spaces) (sym c.self.view_is) c.requires.within)

pub returns : goal.returns
returns c sid number =
    let t : Tables = c.self.inside.tables in
    let now = stands_now c.self.inside c.args.self.now c.self.invariant c.self.view_is c.requires.running in
    let k : Known (lists_of t) = known_by t c.self.inside.journal.items c.self.inside.stopped c.stands.ensures now.stands in
    let known = subst (λ (s : Standing). slice_get (map space_number s.kernel.place.spaces) c.args.index ≡ Some sid) (sym c.self.view_is) number in
    subst (λ (s : Standing). NamesFrames s.kernel.place sid c.at-space.result.now) c.self.view_is
    (names_frames (lists_of t) c.args.index c.at-space.result.now k c.at-space.ensures.rising c.at-space.ensures.space sid c.fits.ensures.text known)
