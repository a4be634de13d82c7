use Rattle.run_text.specs.Lines.{lines_in}
use Rattle.repage_command.proofs.TraceLines.{entry_lines}
use Rattle.repage_command.proofs.laws.transcripts_are_traces.Goals as goal

pub returns : goal.returns
returns c = λ bytes es h. entry_lines es (lines_in bytes) h
