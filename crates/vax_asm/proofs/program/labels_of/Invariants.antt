-- The labels so far and those of what is left are all.
use Rattle.std.proofs.Common.{◌≡◌, ◌+◌, ◌*◌, ◌≤◌, ◌++◌, take}
use Rattle.asm_grammar.specs.Lines.{items_in}
use Rattle.vax_asm.specs.Program.{definitions, labels_of}
use Rattle.vax_asm.proofs.program.labels_of.Given as goal

abbrev pub invariant-loop-left : goal.invariant-loop-left
invariant-loop-left l = record {
  labels : l.labels ++ definitions l.at (take l.left (items_in l.rest)) ≡ labels_of l.source;
  room : l.at + l.left * 65536 ≤ 268435456;
}

abbrev pub decreases-loop-left : goal.decreases-loop-left
decreases-loop-left l = l.left
