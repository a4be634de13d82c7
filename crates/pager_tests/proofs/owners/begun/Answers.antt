-- The process may begin: there is an image, and nothing ran yet.
use Rattle.std.proofs.Common.{rules}
use Rattle.machine_state.proofs.FirstBegins.{may_first}
use Rattle.pager_tests.proofs.owners.begun.Goals as goal

pub begin-requires-clause-may : goal.begin-requires-clause-may
begin-requires-clause-may g c =
    may_first c.expect-machine.result c.expect-images.result.items 4 (record { frames = 4; swap_blocks = 70; limit = 1; journal = 1 }) (search rules) (search rules)
