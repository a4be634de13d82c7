-- A line that is bad, one more line that is read, and the end.
use Rattle.std.proofs.Common.{rules, ◌≡◌, ◌<◌, length, arith}
use Rattle.run_text.specs.Schedule.{IsEventLine}
use Rattle.run_text.specs.declared.limits.TheConstants.{SCHEDULE_LINES}
use Rattle.run_text.specs.Lines.{lines_in}
use Rattle.run_text.proofs.Events.{all_in_ranges}
use Rattle.run_text.proofs.Reading.{read_bad, read_none, read_push, read_end}
use Rattle.run_text.proofs.schedule_reader.read_schedule.Goals as goal

pub returns-then-line-gt-SCHEDULE_LINES-clause-exact : goal.returns-then-line-gt-SCHEDULE_LINES-clause-exact
returns-then-line-gt-SCHEDULE_LINES-clause-exact c =
    let some : 0 < length c.loop-rest.rest.now = search rules in
    read_bad IsEventLine c.loop-rest.events.items c.args.bytes.now c.loop-rest.rest.now c.loop-rest.line SCHEDULE_LINES some
    (λ few. absurd (omega arith)) (omega arith) c.loop-rest.invariant.0

pub returns-in_default-clause-exact : goal.returns-in_default-clause-exact
returns-in_default-clause-exact c =
    read_none IsEventLine c.loop-rest.events.items c.args.bytes.now c.loop-rest.rest.now c.first_line.result.0.now c.loop-rest.line SCHEDULE_LINES (omega (arith, c.first_line.ensures.shorter))
    c.first_line.ensures.line c.in_default.ensures (omega arith) c.loop-rest.invariant.0

pub loop-rest-preserved : goal.loop-rest-preserved
loop-rest-preserved c = (
  read_push IsEventLine c.loop-rest.events.items c.push.new.self.items c.args.bytes.now c.loop-rest.rest.now c.first_line.result.0.now c.first_line.result.1.now c.loop-rest.line c.in-Some.event
      (omega (arith, c.first_line.ensures.shorter))
      c.first_line.ensures.line c.first_line.ensures.rest c.in-Ok.ensures.items c.in-Some.ensures c.loop-rest.invariant.0,
  omega arith,
)

the_end : goal.returns-clause-exact
the_end c =
    let none : length c.loop-rest.rest.now ≡ 0 = search rules in (
      read_end IsEventLine c.loop-rest.events.items c.args.bytes.now c.loop-rest.rest.now c.loop-rest.line none c.loop-rest.invariant.0,
      omega (arith, c.loop-rest.invariant.0.number, c.loop-rest.invariant.1),
    )

pub returns-clause-exact : goal.returns-clause-exact
returns-clause-exact c = the_end c

pub returns-clause-ranges : goal.returns-clause-ranges
returns-clause-ranges c = all_in_ranges c.loop-rest.events.items (lines_in c.args.bytes.now) (the_end c).0
