use Rattle.std.proofs.Common.{◌≡◌, ◌≤◌}
use Rattle.pager_tests.proofs.machine.written_pages.Given as goal

abbrev pub invariant-loop-page : goal.invariant-loop-page
invariant-loop-page l = (l.swap.store.blocks ≡ 128) × (l.count ≤ l.page)
