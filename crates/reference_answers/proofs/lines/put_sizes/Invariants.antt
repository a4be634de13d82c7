use Rattle.std.proofs.Common.{◌≡◌, ◌+◌, ◌++◌, drop}
use Rattle.reference_answers.specs.Texts.{size_lines}
use Rattle.reference_answers.proofs.lines.put_sizes.Given as goal

abbrev pub invariant-loop-faults : goal.invariant-loop-faults
invariant-loop-faults l = record {
  size : l.size ≡ l.faults-index;
  text : l.text.items ++ size_lines (l.size + 1) (drop l.faults-index l.curve) ≡ l.fn.text.items ++ size_lines 1 l.curve;
}
