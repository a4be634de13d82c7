use Rattle.std.proofs.Common.{rules, sym, subst}
use Rattle.page_model.specs.Conditions.{IsShared}
use Rattle.pager_tests.proofs.Readiness.{lowest_shared}
use Rattle.pager_tests.proofs.paging.see_shared.Goals as goal

pub returns-in-Text : goal.returns-in-Text
returns-in-Text g c =
    subst (IsShared c.args.m.now.kernel.place) (sym c.in-Text.is) (lowest_shared c.args.m.now.kernel.place c.in-Text.image 0 c.sharer.result c.sharer.ensures (search rules))
