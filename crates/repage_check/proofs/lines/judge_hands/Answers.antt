use Rattle.std.proofs.Common.{◌<◌, sym, ◌∙◌, subst, arith}
use Rattle.vm_facts.specs.declared.entry.Entry.TheVariants as entries
use Rattle.machine_state.specs.Machine.{Standing}
use Rattle.repage_check.specs.Past.{PastAt}
use Rattle.repage_check.proofs.MovesJudged.{moves_begun_step}
use Rattle.repage_check.proofs.Told.{none_begun}
use Rattle.repage_check.proofs.Widening.{none_told}
use Rattle.repage_check.proofs.lines.judge_hands.Goals as goal

pub returns-then-times-eq0-clause-told : goal.returns-then-times-eq0-clause-told
returns-then-times-eq0-clause-told c = λ holds i A s image at.
    none_told (entries.Hands 1) c.args.times c.args.past c.args.m.now holds i A s image (omega arith) at

pub returns-in-Some-clause-told : goal.returns-in-Some-clause-told
returns-in-Some-clause-told c = λ holds i A s image at.
    let some : 0 < c.args.times = omega arith in
    moves_begun_step c.args.times c.in-Some.reason c.args.past c.args.m.now holds i A s image some (sym c.begun_reason.ensures ∙ c.in-Some.is) at

pub locked_pages-requires-clause-none : goal.locked_pages-requires-clause-none
locked_pages-requires-clause-none c = none_begun c.args.past.begun (sym c.begun_reason.ensures ∙ c.in-None.is)

pub returns-in_ok-pages-in-None-clause-told : goal.returns-in_ok-pages-in-None-clause-told
returns-in_ok-pages-in-None-clause-told c = λ holds i A s image at.
    c.judge_moves.ensures.told holds i A s image (subst (λ (m : Standing). PastAt c.args.past m holds i A s image) (sym c.locked_pages.ensures.same) at)
    (c.as_slice.ensures.value ∙ c.in_ok-pages-in-None.ensures.locked holds i A s image at)
