use Rattle.std.proofs.Common.{rules}
use Rattle.machine_state.proofs.FirstBegins.{may_first}
use Rattle.pager_tests.proofs.machine.a_first_process_begins_with_its_pieces_and_a_page_that_is_due.Goals as goal

pub begin-requires-clause-may : goal.begin-requires-clause-may
begin-requires-clause-may g c =
    may_first c.expect-machine.result c.expect-images.result.items 64 (record { frames = 64; swap_blocks = 68; limit = 1; journal = 1 }) (search rules) (search rules)
