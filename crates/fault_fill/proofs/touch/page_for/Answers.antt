use Rattle.std.proofs.Common.{Bool, subst}
use Rattle.fault_fill.specs.Growth.{GrowsBy}
use Rattle.fault_fill.proofs.GrownStacks.{grown_ready}
use Rattle.fault_fill.proofs.touch.page_for.Goals as goal

pub returns-then-branch-clause-ready : goal.returns-then-branch-clause-ready
returns-then-branch-clause-ready c =
    grown_ready c.args.m.now c.grow.new.m c.args.pid c.in-Growth.sid c.in-Growth.pages
    (subst (λ (b : Bool). GrowsBy b c.args.m.now c.grow.new.m c.args.pid c.in-Growth.pages) c.if-branch.true c.in_ok-grow-in-Growth.ensures.grows)
    c.requires.lends c.in-Growth.ensures.can c.in_ok-grow-in-Growth.ensures.goes_on c.requires.clear
