use Rattle.std.proofs.Common.{◌∙◌}
use Rattle.vm_facts.specs.declared.page.Page.TheVariants.{Text}
use Rattle.table_steps.proofs.LeftFrames.{found_none, found_idle, found_resident}
use Rattle.table_steps.proofs.giving_up.leave_page.Goals as goal

pub returns-in_default : goal.returns-in_default
returns-in_default c = found_none c.args.core.now (Text c.args.image c.args.v) c.in_default.ensures.none

pub returns-in-Resident : goal.returns-in-Resident
returns-in-Resident c =
    found_resident c.args.core.now c.lift.new.self c.give_tail.new.self c.lift.result c.release-token.result c.in-Resident.page
    (Text c.args.image c.args.v) c.in-Some.frame c.find_text.ensures.sound.unique
    c.in-Some.ensures.found c.in-Resident.ensures.owner c.lift.ensures.token c.lift.ensures.number c.lift.ensures.free c.lift.ensures.slots c.release-token.ensures c.give_tail.ensures.free
    c.give_tail.ensures.slots

pub returns-in_default-owner : goal.returns-in_default-owner
returns-in_default-owner c =
    found_idle c.args.core.now (Text c.args.image c.args.v) c.in-Some.frame c.find_text.ensures.sound.unique c.in-Some.ensures.found
    (λ page e. c.in_default-owner.not-Resident page (c.owner.ensures.owner ∙ e))
