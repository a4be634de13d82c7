use Rattle.replay_command.proofs.Lines.{plain_lines}
use Rattle.replay_command.proofs.acceptance.faults_have_one_line.Goals as goal

pub returns : goal.returns
returns c = plain_lines
