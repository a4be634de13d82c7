use Rattle.asm_grammar.proofs.LineTexts.{instruction_law, line_law}
use Rattle.asm_grammar.proofs.Sources.{source_law}
use Rattle.asm_grammar.proofs.grammar.sources_are_read_by_the_grammar.Goals as goal

pub returns-clause-instruction : goal.returns-clause-instruction
returns-clause-instruction c = instruction_law

pub returns-clause-line : goal.returns-clause-line
returns-clause-line c = line_law

pub returns-clause-source : goal.returns-clause-source
returns-clause-source c = source_law
