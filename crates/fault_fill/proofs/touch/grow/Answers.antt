use Rattle.std.proofs.Common.{Bool, Result, Ok, sym, ap, ◌∙◌}
use Rattle.vm_facts.specs.declared.stop.Stop.{Stop}
use Rattle.fault_fill.proofs.GrownStacks.{wants_found, refused_growth, can_grow}
use Rattle.fault_fill.proofs.touch.grow.Goals as goal

pub returns-then-not-branch-clause-grows : goal.returns-then-not-branch-clause-grows
returns-then-not-branch-clause-grows c =
    let none = c.in_ok-ask.was ∙ ap (λ (b : Bool). let r : Result Bool Stop = Ok b in r) c.if-not-branch.true in
    refused_growth c.args.m.now c.ask.new.self c.args.pid c.args.sid c.args.pages c.requires.ready c.requires.growth
    (sym c.if-not-branch.true ∙ c.in_ok-ask.ensures.answer) (c.ask.ensures.refused none) (c.ask.ensures.keeps none) (c.ask.ensures.same none)

pub flat-requires-clause-can : goal.flat-requires-clause-can
flat-requires-clause-can c =
    let f = c.ask.ensures.found (c.in_ok-ask.was ∙ ap (λ (b : Bool). let r : Result Bool Stop = Ok b in r) c.if-not-branch.false) in
    can_grow c.args.m.now c.args.pid c.args.sid c.args.pages c.requires.ready c.requires.clear c.requires.lends c.requires.growth c.ask.new.self c.data_pages_of-data_pages.result f.0
    (wants_found c.args.m.now c.args.pid c.args.sid c.args.pages c.requires.ready c.requires.growth ∙ f.1)
    f.2 c.data_pages_of-data_pages.ensures.count c.data_pages_of-data_pages.ensures.few
