use Rattle.std.proofs.Common.{◌≡◌, drop}
use Rattle.flat_state.specs.PageNames.{is_among}
use Rattle.flat_state.proofs.pages.is_among.Given as goal

abbrev pub invariant-loop-other : goal.invariant-loop-other
invariant-loop-other l = is_among l.page (drop l.other-index l.pages) ≡ is_among l.page l.pages
