use Rattle.std.proofs.Common.{sym, ap, ◌∙◌, subst, refl}
use Rattle.page_model.specs.Placement.{IsThere, state_of}
use Rattle.table_steps.specs.Tables.{Tables}
use Rattle.table_steps.specs.Machine.{Standing, lists_of}
use Rattle.table_steps.specs.PlaceOf.{place_of}
use Rattle.machine_state.proofs.Standings.{stands_now}
use Rattle.table_steps.proofs.FewNumbers.{few_numbers}
use Rattle.table_steps.proofs.UserFrames.{known_by}
use Rattle.table_steps.proofs.PlaceStates.{none_some, place_tells, tells_none, tells_some}
use Rattle.machine_state.proofs.machine.Machine.state_of.Goals as goal

pub returns-in_err-place-clause-there : goal.returns-in_err-place-clause-there
returns-in_err-place-clause-there c =
    let t : Tables = c.self.inside.tables in
    let now = stands_now c.self.inside c.args.self.now c.self.invariant c.self.view_is c.requires.runs in
    let tells = place_tells (lists_of t) c.args.page (known_by t c.self.inside.journal.items c.self.inside.stopped c.stands.ensures now.stands) c.rise.ensures in
    let gone = tells_none (lists_of t) c.args.page (place_of (lists_of t) c.args.page) tells (sym c.place_of.ensures ∙ c.in_err-place.was) in
    ((λ h. absurd (none_some c.from_residual.result c.from_residual.ensures h)), (λ h. absurd (gone (subst (λ (s : Standing). IsThere s.kernel.place c.args.page) (sym c.self.view_is) h))))

pub returns-clause-there : goal.returns-clause-there
returns-clause-there c =
    let t : Tables = c.self.inside.tables in
    let now = stands_now c.self.inside c.args.self.now c.self.invariant c.self.view_is c.requires.runs in
    let tells = place_tells (lists_of t) c.args.page (known_by t c.self.inside.journal.items c.self.inside.stopped c.stands.ensures now.stands) c.rise.ensures in
    let there = tells_some (lists_of t) c.args.page (place_of (lists_of t) c.args.page) c.in_ok-place.place tells (sym c.place_of.ensures ∙ c.in_ok-place.was) in
    ((λ h. subst (λ (s : Standing). IsThere s.kernel.place c.args.page) c.self.view_is there), (λ h. refl))

pub returns-clause-state : goal.returns-clause-state
returns-clause-state c =
    let t : Tables = c.self.inside.tables in
    let now = stands_now c.self.inside c.args.self.now c.self.invariant c.self.view_is c.requires.runs in
    let tells = place_tells (lists_of t) c.args.page (known_by t c.self.inside.journal.items c.self.inside.stopped c.stands.ensures now.stands) c.rise.ensures in
    c.state_shown.ensures ∙ sym (tells.state c.in_ok-place.place (sym c.place_of.ensures ∙ c.in_ok-place.was))
    ∙ ap (λ (s : Standing). state_of s.kernel.place c.args.page) c.self.view_is

pub returns-in_err-place-clause-few : goal.returns-in_err-place-clause-few
returns-in_err-place-clause-few c = λ h. absurd (none_some c.from_residual.result c.from_residual.ensures h)

pub returns-clause-few : goal.returns-clause-few
returns-clause-few c = λ h.
    let t : Tables = c.self.inside.tables in
    let now = stands_now c.self.inside c.args.self.now c.self.invariant c.self.view_is c.requires.runs in
    let k = known_by t c.self.inside.journal.items c.self.inside.stopped c.stands.ensures now.stands in
    let tells = place_tells (lists_of t) c.args.page k c.rise.ensures in
    let there = tells_some (lists_of t) c.args.page (place_of (lists_of t) c.args.page) c.in_ok-place.place tells (sym c.place_of.ensures ∙ c.in_ok-place.was) in
    few_numbers (lists_of t) c.args.page k there
