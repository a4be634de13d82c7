use Rattle.std.proofs.Common.{rules}
use Rattle.pager_tests.proofs.Readiness.{has_started}
use Rattle.pager_tests.proofs.paging.begun.Goals as goal

pub returns : goal.returns
returns g c =
    has_started c.expect-machine.result c.begin.new.self c.expect-images.result.items c.args.facts (search rules) (search rules) (search rules) (search rules)
    (c.begin.ensures.began (search rules))
