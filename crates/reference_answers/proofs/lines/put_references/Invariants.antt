use Rattle.std.proofs.Common.{◌≡◌, ◌++◌, drop}
use Rattle.std.specs.List.{flat_map}
use Rattle.reference_answers.specs.Texts.{reference_line}
use Rattle.reference_answers.proofs.lines.put_references.Given as goal

abbrev pub invariant-loop-page : goal.invariant-loop-page
invariant-loop-page l = record {
  text : l.text.items ++ flat_map reference_line (drop l.page-index l.refs) ≡ l.fn.text.items ++ flat_map reference_line l.refs;
}
