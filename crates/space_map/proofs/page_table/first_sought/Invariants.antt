use Rattle.std.proofs.Common.{◌≡◌, ℕ, ◌<◌, ◌≤◌, false, map, slice_get}
use Rattle.space_map.specs.Space.{is_of_kind}
use Rattle.space_map.specs.Tables.{is_sought}
use Rattle.vax_pte.specs.Words.{place_named}
use Rattle.space_map.proofs.page_table.first_sought.Given as goal

abbrev pub invariant-loop-v : goal.invariant-loop-v
invariant-loop-v l = (k : ℕ) → l.from ≤ k → k < l.v → is_of_kind (is_sought l.sought) (slice_get (map place_named l.words) k) ≡ false
