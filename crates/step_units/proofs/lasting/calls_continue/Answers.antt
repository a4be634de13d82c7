use Rattle.step_units.proofs.ExecsContinue.{exec_starts}
use Rattle.step_units.proofs.CallsContinue.{reply_continues, call_continues, vfork_continues, end_continues, exit_continues, break_continues, refusal_continues, write_continues, wait_continues}
use Rattle.step_units.proofs.SpacesContinue.{fork_continues, start_continues, exec_continues}
use Rattle.step_units.proofs.lasting.calls_continue.Goals as goal

pub returns-clause-replies : goal.returns-clause-replies
returns-clause-replies c = reply_continues

pub returns-clause-comes : goal.returns-clause-comes
returns-clause-comes c = call_continues

pub returns-clause-vforks : goal.returns-clause-vforks
returns-clause-vforks c = vfork_continues

pub returns-clause-forks : goal.returns-clause-forks
returns-clause-forks c = fork_continues

pub returns-clause-ends : goal.returns-clause-ends
returns-clause-ends c = end_continues

pub returns-clause-exits : goal.returns-clause-exits
returns-clause-exits c = exit_continues

pub returns-clause-breaks : goal.returns-clause-breaks
returns-clause-breaks c = break_continues

pub returns-clause-refusals : goal.returns-clause-refusals
returns-clause-refusals c = refusal_continues

pub returns-clause-starts : goal.returns-clause-starts
returns-clause-starts c = start_continues

pub returns-clause-writes : goal.returns-clause-writes
returns-clause-writes c = write_continues

pub returns-clause-waits : goal.returns-clause-waits
returns-clause-waits c = wait_continues

pub returns-clause-execs : goal.returns-clause-execs
returns-clause-execs c = exec_starts

pub returns-clause-executes : goal.returns-clause-executes
returns-clause-executes c = exec_continues
