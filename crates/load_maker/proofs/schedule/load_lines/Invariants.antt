-- The lines so far are those of the numbers so far.
use Rattle.std.proofs.Common.{◌≡◌, ◌<◌, ◌^◌, map}
use Rattle.std.specs.List.{range_with_len}
use Rattle.load_maker.specs.Load.{drawn, line_drawn}
use Rattle.load_maker.proofs.schedule.load_lines.Given as goal

abbrev pub invariant-loop-line : goal.invariant-loop-line
invariant-loop-line l = record {
  drawn_is : l.x ≡ drawn l.number l._line;
  small : l.x < 2 ^ 32;
  lines_are : l.lines.items ≡ map (λ k. line_drawn (drawn l.number k)) (range_with_len 1 l._line);
}
