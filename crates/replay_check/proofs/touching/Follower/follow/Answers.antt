use Rattle.std.proofs.Common.{refl, subst}
use Rattle.vm_facts.specs.declared.entry.Entry.{Entry}
use Rattle.vm_facts.specs.declared.entry.Entry.TheVariants.{Call, Ended, Grew, Sleeps}
use Rattle.flat_state.specs.Journal.{units_with}
use Rattle.replay_check.specs.Following.{IsOnWay}
use Rattle.replay_check.proofs.Following.{counted_on, stepped_on, refused_on, out_on, skip_on}
use Rattle.replay_check.proofs.touching.Follower.follow.Goals as goal

pub returns-in-Call-clause-way : goal.returns-in-Call-clause-way
returns-in-Call-clause-way c = λ A units whole same way.
    let now = c.args.self.now in
    let after = c.count.new.self in
    counted_on A now.machine after.machine now.refused after.refused now.pages.items after.pages.items c.args.entry.now
    (Call c.in-Call.pid c.in-Call.number c.in-Call.carry c.in-Call.r0 c.in-Call.r1) units whole c.in-Call.pid c.count.result
    c.in-Call.is refl refl (λ point. refl) way c.count.ensures.refused (c.count.ensures.after A same) (c.count.ensures.pages A same)

pub returns-in-Ended-clause-way : goal.returns-in-Ended-clause-way
returns-in-Ended-clause-way c = λ A units whole same way.
    let now = c.args.self.now in
    let after = c.count-in-Ended.new.self in
    counted_on A now.machine after.machine now.refused after.refused now.pages.items after.pages.items c.args.entry.now
    (Ended c.in-Ended.pid c.in-Ended.status) units whole c.in-Ended.pid c.count-in-Ended.result
    c.in-Ended.is refl refl (λ point. refl) way c.count-in-Ended.ensures.refused (c.count-in-Ended.ensures.after A same) (c.count-in-Ended.ensures.pages A same)

pub returns-in-Grew-clause-way : goal.returns-in-Grew-clause-way
returns-in-Grew-clause-way c = λ A units whole same way.
    let now = c.args.self.now in
    let after = c.step.new.self in
    stepped_on A now.machine after.machine now.refused after.refused now.pages.items after.pages.items c.args.entry.now (Grew c.in-Grew.pid c.in-Grew.pages) units whole c.in-Grew.pid c.step.result
    c.in-Grew.is refl refl (λ point. refl) way c.step.ensures.refused c.step.ensures.pages (c.step.ensures.after A same)

pub returns-in-Sleeps-clause-way : goal.returns-in-Sleeps-clause-way
returns-in-Sleeps-clause-way c = λ A units whole same way.
    let now = c.args.self.now in
    let after = c.step-in-Sleeps.new.self in
    stepped_on A now.machine after.machine now.refused after.refused now.pages.items after.pages.items c.args.entry.now (Sleeps c.in-Sleeps.pid) units whole c.in-Sleeps.pid c.step-in-Sleeps.result
    c.in-Sleeps.is refl refl (λ point. refl) way c.step-in-Sleeps.ensures.refused c.step-in-Sleeps.ensures.pages (c.step-in-Sleeps.ensures.after A same)

pub returns-in-Refused-clause-way : goal.returns-in-Refused-clause-way
returns-in-Refused-clause-way c = λ A units whole same way.
    let now = c.args.self.now in
    refused_on A now.machine now.refused now.pages.items c.in-Refused.pid units whole
    (subst (λ (e : Entry). IsOnWay A now.machine now.refused now.pages.items (units_with e units) whole) c.in-Refused.is way)

pub returns-in-Out-clause-way : goal.returns-in-Out-clause-way
returns-in-Out-clause-way c = λ A units whole same way.
    let now = c.args.self.now in
    out_on A now.machine now.refused now.pages.items c.in-Out.pid c.in-Out.bytes units whole
    (subst (λ (e : Entry). IsOnWay A now.machine now.refused now.pages.items (units_with e units) whole) c.in-Out.is way)

pub returns-in_default : goal.returns-in_default
returns-in_default c = record {
  way = λ A units whole same way.
      let now = c.args.self.now in
      skip_on A now.machine now.refused now.pages.items c.args.entry.now units whole
      c.in_default.not-Ran c.in_default.not-Out c.in_default.not-Grew c.in_default.not-Call c.in_default.not-Refused c.in_default.not-Sleeps c.in_default.not-Ended way;
  programs = refl;
}
