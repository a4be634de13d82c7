-- No space, or a bad number before it or after it.
use Rattle.run_text.proofs.Events.{no_space, bad_pid, bad_count}
use Rattle.run_text.proofs.schedule_reader.read_dispatch.Goals as goal

pub returns-in_default : goal.returns-in_default
returns-in_default c = no_space c.args.rest.now c.in_default.ensures

pub returns-in_default-read_number : goal.returns-in_default-read_number
returns-in_default-read_number c = bad_pid c.args.rest.now c.in-Some.first.now c.in-Some.second.now c.in-Some.ensures.0 c.in-Some.ensures.1 c.in_default-read_number.ensures

pub returns-in_default-read_number-2 : goal.returns-in_default-read_number-2
returns-in_default-read_number-2 c = bad_count c.args.rest.now c.in-Some.first.now c.in-Some.second.now c.in-Some.ensures.0 c.in-Some.ensures.1 c.in_default-read_number-2.ensures
