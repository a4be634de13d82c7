use Rattle.std.proofs.Common.{arith, ◌≡◌, ℕ, List, Option, Some, ap, ◌∙◌, sym, subst}
use Rattle.std.specs.Prelude.{is_some}
use Rattle.page_opt.specs.declared.Victim.{Victim}
use Rattle.page_opt.specs.Plans.{plan_faults}
use Rattle.page_opt.specs.Furthest.{furthest_victims}
use Rattle.page_opt.specs.Held.{Stands}
use Rattle.page_opt.proofs.Least.{least_of_all}
use Rattle.page_opt.proofs.Standing.{stands_start, stands_end}
use Rattle.page_opt.proofs.least_faults_by_uses.Goals as goal

pub loop-i-init : goal.loop-i-init
loop-i-init c = record {
  stands =
      subst (λ (vs : List Victim). Stands c.args.refs.now c.args.frames 0 c.in_ok-resident.resident vs 0) (sym c.new-2.ensures.items)
      (stands_start c.args.refs.now c.args.frames c.in_ok-resident.resident c.in_ok-resident.ensures.room c.in_ok-resident.ensures.awaited c.in_ok-resident.ensures.spent
      c.in_ok-resident.ensures.used);
}

pub returns-clause-furthest : goal.returns-clause-furthest
returns-clause-furthest c = (stands_end c.args.refs.now c.args.frames c.loop-i.i c.loop-i.resident c.loop-i.plan.victims.items c.loop-i.plan.faults
    (omega (arith, c.requires.next.len)) c.loop-i.invariant.stands).0

pub returns-clause-faults : goal.returns-clause-faults
returns-clause-faults c =
    let end = stands_end c.args.refs.now c.args.frames c.loop-i.i c.loop-i.resident c.loop-i.plan.victims.items c.loop-i.plan.faults
    (omega (arith, c.requires.next.len)) c.loop-i.invariant.stands in
    ap (plan_faults c.args.refs.now c.args.frames) end.0 ∙ end.1

pub returns-clause-plan : goal.returns-clause-plan
returns-clause-plan c =
    let end = stands_end c.args.refs.now c.args.frames c.loop-i.i c.loop-i.resident c.loop-i.plan.victims.items c.loop-i.plan.faults
    (omega (arith, c.requires.next.len)) c.loop-i.invariant.stands in
    ap (λ (o : Option ℕ). is_some o) (ap (plan_faults c.args.refs.now c.args.frames) end.0 ∙ end.1)

pub returns-clause-least : goal.returns-clause-least
returns-clause-least c = λ victims m plan.
    least_of_all c.args.refs.now c.args.frames victims c.loop-i.plan.faults m c.requires.frames
    (stands_end c.args.refs.now c.args.frames c.loop-i.i c.loop-i.resident c.loop-i.plan.victims.items c.loop-i.plan.faults
    (omega (arith, c.requires.next.len)) c.loop-i.invariant.stands).1
    plan
