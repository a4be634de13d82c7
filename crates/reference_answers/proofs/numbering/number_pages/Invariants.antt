use Rattle.std.proofs.Common.{◌≡◌, map, take}
use Rattle.flat_model.specs.Touched.{distinct}
use Rattle.reference_answers.specs.Numbers.{numbers_of}
use Rattle.reference_answers.specs.Keys.{key_of}
use Rattle.reference_answers.proofs.numbering.number_pages.Given as goal

abbrev pub invariant-loop-page : goal.invariant-loop-page
invariant-loop-page l = record {
  keys : l.keys.keys ≡ map key_of l.pages.items;
  pages : l.pages.items ≡ distinct (take l.page-index l.refs);
  numbers : l.numbers.items ≡ numbers_of (take l.page-index l.refs);
}
