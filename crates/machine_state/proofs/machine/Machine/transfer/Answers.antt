-- The ring's transfers are shown one by one, and each has its sources.
use Rattle.std.proofs.Common.{ℕ, Bor, Option, option_map, slice_get, IfSome, sym, ap, ◌∙◌, subst}
use Rattle.std.proofs.lemmas.Option.{slice_get-map}
use Rattle.transfer_ring.specs.declared.transfer.Transfer.{Transfer as Flight}
use Rattle.page_model.specs.Placement.{image_of}
use Rattle.table_steps.specs.Tables.{Tables}
use Rattle.table_steps.specs.Machine.{Standing, images_of, image_at, before_of}
use Rattle.table_steps.specs.Sourced.{IsFlightSourced}
use Rattle.table_steps.specs.View.{transfer_shown}
use Rattle.machine_state.proofs.InFlight.{sourced_at}
use Rattle.machine_state.proofs.Standings.{stands_now}
use Rattle.machine_state.proofs.machine.Machine.transfer.Goals as goal

pub returns-clause-transfer : goal.returns-clause-transfer
returns-clause-transfer c =
    let t : Tables = c.self.inside.tables in
    ap (λ (o : Option Flight). option_map transfer_shown o) c.get.ensures
    ∙ sym (slice_get-map transfer_shown t.ring c.args.place)
    ∙ ap (λ (s : Standing). slice_get s.kernel.place.transfers c.args.place) c.self.view_is

pub returns-clause-sources : goal.returns-clause-sources
returns-clause-sources c runs =
    let t : Tables = c.self.inside.tables in
    let now = stands_now c.self.inside c.args.self.now c.self.invariant c.self.view_is runs in
    let all = subst (λ (n : ℕ). IfSome c.get.result (λ (x : Bor Flight). IsFlightSourced (images_of t) (image_at t) (before_of t) n x.now)) now.stands.book
    (sourced_at (images_of t) (image_at t) (before_of t) t.book.size t.ring c.args.place c.get.result now.stands.ring c.get.ensures) in
    subst (λ (s : Standing). IfSome c.get.result (λ (x : Bor Flight). IsFlightSourced s.images (image_of s.kernel.place) s.before s.params.swap_blocks x.now)) c.self.view_is all
