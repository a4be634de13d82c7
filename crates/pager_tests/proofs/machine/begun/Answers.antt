use Rattle.std.proofs.Common.{rules, sym, subst}
use Rattle.vm_facts.specs.declared.page.Page.TheVariants.{Stack, Text}
use Rattle.page_model.specs.Placement.{Placement}
use Rattle.page_model.specs.Place.{filled}
use Rattle.machine_state.specs.Calls.{CanPush}
use Rattle.machine_state.specs.Conditions.{CanZero, CanBringIn}
use Rattle.pager_tests.proofs.SmallMachine.{HasBegun, has_begun, can_zero, can_push, can_get}
use Rattle.pager_tests.proofs.machine.begun.Goals as goal

pub returns : goal.returns
returns g c =
    let begun : HasBegun c.begin.new.self = has_begun c.expect-machine.result c.begin.new.self c.expect-images.result.items (search rules) (search rules) (search rules)
    (c.begin.ensures.began (search rules)) in
    record {
      ready = search rules;
      blocks = begun.blocks;
      files = begun.files;
      zero = subst (λ (p : Placement). CanZero p (Stack 1 0)) (sym begun.place) can_zero;
      put = subst (λ (p : Placement). CanPush (filled p (Stack 1 0)) (Stack 1 0) 1) (sym begun.place) can_push;
      get = subst (λ (p : Placement). CanBringIn p (Text 1 0) 0 2) (sym begun.place) can_get;
    }
