use Rattle.std.proofs.Common.{◌≡◌, ℕ, List, Some, None, IsSome, sym, ap, ◌∙◌, subst, refl, slice_get}
use Rattle.page_model.specs.Placement.{image_of}
use Rattle.kernel_model.specs.Asks.{HasSpace}
use Rattle.core_map.specs.Frames.{Frames}
use Rattle.table_steps.specs.Views.{ShowsSpace}
use Rattle.table_steps.specs.Tables.{Tables}
use Rattle.table_steps.specs.Machine.{Standing, lists_of}
use Rattle.table_steps.specs.View.{placement_of}
use Rattle.machine_state.specs.Showing.{ShowsCore, IsShown}
use Rattle.machine_state.proofs.Standings.{stands_now}
use Rattle.table_steps.proofs.UserFrames.{known_by, stands_there}
use Rattle.machine_state.proofs.Showings.{core_shows, space_shows, space_number_is, space_there, space_image}
use Rattle.machine_state.proofs.machine.Machine.space.Goals as goal

pub returns-in_err-index-clause-there : goal.returns-in_err-index-clause-there
returns-in_err-index-clause-there c =
    let t : Tables = c.self.inside.tables in
    let gone : HasSpace (placement_of (lists_of t)) c.args.sid → ⊥ = λ h. h (stands_there t.core.slots t.spaces c.args.sid c.in_err-index.ensures.absent) in (
      (λ e. absurd (let x = sym (ap Rattle.std.proofs.Common.is_some c.from_residual.ensures) ∙ e in cc)),
      (λ h.
          absurd (gone (subst (λ (s : Standing). HasSpace s.kernel.place c.args.sid) (sym c.self.view_is) h))),
    )

pub returns-clause-there : goal.returns-clause-there
returns-clause-there c =
    let t : Tables = c.self.inside.tables in
    let named = space_number_is (lists_of t) c.in_ok-index.index c.at-space.result.now c.at-space.ensures.space c.args.sid c.in_ok-index.ensures.found.number in (
      (λ e. subst (λ (s : Standing). HasSpace s.kernel.place c.args.sid) c.self.view_is
          (space_there (lists_of t) c.in_ok-index.index c.at-space.result.now c.at-space.ensures.space c.at-space.ensures.rising c.args.sid named)),
      (λ h. refl),
    )

pub returns-clause-named : goal.returns-clause-named
returns-clause-named c =
    let t : Tables = c.self.inside.tables in
    space_number_is (lists_of t) c.in_ok-index.index c.at-space.result.now c.at-space.ensures.space c.args.sid c.in_ok-index.ensures.found.number

pub returns-clause-of_image : goal.returns-clause-of_image
returns-clause-of_image c =
    let t : Tables = c.self.inside.tables in
    let named = space_number_is (lists_of t) c.in_ok-index.index c.at-space.result.now c.at-space.ensures.space c.args.sid c.in_ok-index.ensures.found.number in
    space_image (lists_of t) c.in_ok-index.index c.at-space.result.now c.at-space.ensures.space c.at-space.ensures.rising c.args.sid named
    ∙ ap (λ (s : Standing). image_of s.kernel.place c.args.sid) c.self.view_is

pub returns-clause-shows : goal.returns-clause-shows
returns-clause-shows c =
    let t : Tables = c.self.inside.tables in
    let now = stands_now c.self.inside c.args.self.now c.self.invariant c.self.view_is c.requires.runs in
    let k = known_by t c.self.inside.journal.items c.self.inside.stopped c.stands.ensures now.stands in
    subst (λ (s : Standing). (core : Frames) → ShowsCore s.kernel.place core → ShowsSpace s.kernel.place core c.at-space.result.now) c.self.view_is
    (space_shows (lists_of t) c.in_ok-index.index c.at-space.result.now k c.at-space.ensures.rising c.at-space.ensures.space c.fits.ensures.text)

pub returns-clause-shown : goal.returns-clause-shown
returns-clause-shown c =
    let t : Tables = c.self.inside.tables in
    let now = stands_now c.self.inside c.args.self.now c.self.invariant c.self.view_is c.requires.runs in
    let k = known_by t c.self.inside.journal.items c.self.inside.stopped c.stands.ensures now.stands in
    subst (λ (s : Standing). IsShown s.kernel.place c.at-space.result.now) c.self.view_is (record {
      core = t.core;
      frames = core_shows (lists_of t) k;
      space = space_shows (lists_of t) c.in_ok-index.index c.at-space.result.now k c.at-space.ensures.rising c.at-space.ensures.space c.fits.ensures.text t.core
          (core_shows (lists_of t) k);
    })
