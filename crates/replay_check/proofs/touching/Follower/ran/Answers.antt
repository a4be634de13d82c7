use Rattle.std.proofs.Common.{◌+◌, ◌-◌, ◌++◌, List, None, refl, sym, ap, ◌∙◌, subst}
use Rattle.flat_state.specs.Flat.{FlatState}
use Rattle.vm_facts.specs.declared.entry.Entry.{Entry}
use Rattle.vm_facts.specs.declared.entry.Entry.TheVariants.{Ran}
use Rattle.flat_state.specs.Journal.{repeated}
use Rattle.flat_model.specs.Touched.{touched}
use Rattle.replay_check.specs.Following.{IsOnWay}
use Rattle.replay_check.proofs.Following.{step_on, ran_next, ran_all}
use Rattle.replay_check.proofs.touching.Follower.ran.Goals as goal

pub loop-preserved : goal.loop-preserved
loop-preserved c = record {
  way =
      λ A units whole same way.
      let now = c.loop.self in
      let after = c.count.new.self in
      let images = same ∙ sym (ap (λ programs. programs.now) c.loop.invariant.programs) in
      let gone : IsOnWay A after.machine None after.pages.items (repeated (Ran c.args.pid 1) (c.args.count - (c.loop.counter + 1)) units) whole =
      step_on A now.machine after.machine now.refused now.pages.items after.pages.items (Ran c.args.pid 1)
      (repeated (Ran c.args.pid 1) (c.args.count - (c.loop.counter + 1)) units) whole c.args.pid refl
      (subst (λ (us : List Entry). IsOnWay A now.machine now.refused now.pages.items us whole) (ran_next (Ran c.args.pid 1) c.args.count c.loop.counter units c.loop-test.true)
      (c.loop.invariant.way A units whole same way))
      (c.in_ok-count.ensures.after A images)
      (λ point flat. c.in_ok-count.ensures.pages A images ∙ ap (λ (F : FlatState). now.pages.items ++ touched A F c.args.pid) (sym flat)) in
      subst (λ refused. IsOnWay A after.machine refused after.pages.items (repeated (Ran c.args.pid 1) (c.args.count - (c.loop.counter + 1)) units) whole) (sym c.count.ensures.refused) gone;
  programs = c.count.ensures.programs ∙ c.loop.invariant.programs;
}

pub returns-clause-way : goal.returns-clause-way
returns-clause-way c = λ A units whole same way.
    subst (λ (us : List Entry). IsOnWay A c.loop.self.machine c.loop.self.refused c.loop.self.pages.items us whole) (ran_all (Ran c.args.pid 1) c.args.count c.loop.counter units c.loop-test.false)
    (c.loop.invariant.way A units whole same way)
