use Rattle.std.proofs.Common.{List, sym, ◌∙◌, subst}
use Rattle.space_map.specs.Space.{Places}
use Rattle.kernel_tables.specs.Rising.{sids_of, AreRising}
use Rattle.kernel_tables.proofs.Rising.{of_space, found_entry, lost_entry}
use Rattle.kernel_tables.proofs.spaces.Spaces.entry.Goals as goal

pub returns-in_err-find-in-Some : goal.returns-in_err-find-in-Some
returns-in_err-find-in-Some c =
    c.from_residual.ensures
    ∙ sym (lost_entry c.args.page c.in-Some.sid (of_space c.args.page c.in-Some.sid (sym c.in-Some.ensures)) c.args.self.now (sym c.in_err-find-in-Some.ensures))

pub returns-in_ok-find-in-Some : goal.returns-in_ok-find-in-Some
returns-in_ok-find-in-Some c =
    let rising = subst (λ (ss : List Places). AreRising (sids_of ss)) c.self.view_is c.self.invariant in
    c.place.ensures
    ∙ sym (found_entry c.args.page c.in-Some.sid (of_space c.args.page c.in-Some.sid (sym c.in-Some.ensures)) c.args.self.now c.in_ok-find-in-Some.field-0.now rising
    (sym c.in_ok-find-in-Some.ensures))
