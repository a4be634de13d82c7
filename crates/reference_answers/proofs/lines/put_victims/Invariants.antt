use Rattle.std.proofs.Common.{◌≡◌, ◌++◌, drop}
use Rattle.std.specs.List.{flat_map}
use Rattle.reference_answers.specs.Texts.{victim_line}
use Rattle.reference_answers.proofs.lines.put_victims.Given as goal

abbrev pub invariant-loop-victim : goal.invariant-loop-victim
invariant-loop-victim l = record {
  text : l.text.items ++ flat_map (victim_line l.pages) (drop l.victim-index l.victims) ≡ l.fn.text.items ++ flat_map (victim_line l.pages) l.victims;
}
