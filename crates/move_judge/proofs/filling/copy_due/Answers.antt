use Rattle.std.proofs.Common.{◌≡◌, slice_get, option_map, Some, sym, ap, ap₂, ◌∙◌, Bool}
use Rattle.machine_state.specs.Calls.{due_and_parent}
use Rattle.paged_model.specs.declared.reason.Reason.TheVariants as reasons
use Rattle.paged_model.specs.Reasons.{unless, or_reason}
use Rattle.move_judge.proofs.Cans.{copy_told}
use Rattle.move_judge.proofs.filling.copy_due.Goals as goal

pub returns-in-Some-default-Some : goal.returns-in-Some-default-Some
returns-in-Some-default-Some c =
    let p = c.args.m.now.kernel.place in
    let due = c.in-Some-default-Some.due in
    let parent = c.in-Some-default-Some.parent in
    let told : Some (due, Some parent) ≡ option_map due_and_parent (slice_get p.due 0) =
    cc (c.due_at.ensures, c.in-Some-default-Some.is, c.in-Some-default-Some.field-0-1-is, c.in-Some-default-Some.ensures) in
    c.or_reason.ensures
    ∙ ap₂ or_reason (c.unless.ensures ∙ ap (λ (b : Bool). unless b (reasons.DueFirst due)) c.is_same.ensures) c.parent_reason.ensures
    ∙ sym (copy_told p c.args.page due parent told)
