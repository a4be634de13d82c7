use Rattle.std.proofs.Common.{sym, ap, ◌∙◌, subst}
use Rattle.page_model.specs.Placement.{IsThere, state_of, filling_of}
use Rattle.table_steps.specs.Tables.{Tables}
use Rattle.table_steps.specs.Machine.{Standing, lists_of}
use Rattle.table_steps.specs.PlaceOf.{is_blank}
use Rattle.machine_state.proofs.Standings.{stands_now}
use Rattle.table_steps.proofs.UserFrames.{known_by}
use Rattle.table_steps.proofs.PlaceStates.{blank_is}
use Rattle.machine_state.proofs.machine.Machine.is_blank.Goals as goal

pub returns : goal.returns
returns c =
    let t : Tables = c.self.inside.tables in
    let now = stands_now c.self.inside c.args.self.now c.self.invariant c.self.view_is c.requires.running.runs in
    c.is_zero.ensures
    ∙ sym (blank_is (lists_of t) c.args.page (known_by t c.self.inside.journal.items c.self.inside.stopped c.stands.ensures now.stands)
    (subst (λ (s : Standing). IsThere s.kernel.place c.args.page) (sym c.self.view_is) c.requires.there))
    ∙ ap (λ (s : Standing). is_blank (state_of s.kernel.place c.args.page) (filling_of s.kernel.place c.args.page)) c.self.view_is
