use Rattle.std.proofs.Common.{◌↔◌, ◌≤◌, drop}
use Rattle.repage_check.specs.Moves.{HaveFewAfter, HaveFewMoves}
use Rattle.repage_check.proofs.moves.has_few_moves.Given as goal

abbrev pub invariant-loop-line : goal.invariant-loop-line
invariant-loop-line l = record {
  left : HaveFewAfter l.n (drop l.line-index l.lines) ↔ HaveFewMoves l.lines;
  few : l.n ≤ 1000000;
}
