-- A line that is bad, one more line that is read, and the end.
use Rattle.std.proofs.Common.{rules, ◌≡◌, ◌+◌, length, arith}
use Rattle.run_text.proofs.Reading.{read_none, read_push, read_end}
use Rattle.repage_command.specs.Grammar.{IsTraceLine}
use Rattle.repage_command.proofs.trace_reader.read_trace.Goals as goal

pub returns-in-Ok-None : goal.returns-in-Ok-None
returns-in-Ok-None c =
    read_none IsTraceLine c.loop-rest.lines.items c.args.bytes.now c.loop-rest.rest.now c.first_line.result.0.now (c.loop-rest.number + 1) 4294967295 (omega (arith, c.first_line.ensures.shorter))
    c.first_line.ensures.line (rw c.in-Ok-None.field-0-is at c.in-Ok-None.ensures) (omega arith) c.loop-rest.invariant.0

pub loop-rest-preserved : goal.loop-rest-preserved
loop-rest-preserved c = (
  read_push IsTraceLine c.loop-rest.lines.items c.push.new.self.items c.args.bytes.now c.loop-rest.rest.now c.first_line.result.0.now c.first_line.result.1.now
      (c.loop-rest.number + 1) c.in-Ok-Some.line (omega (arith, c.first_line.ensures.shorter))
      c.first_line.ensures.line c.first_line.ensures.rest c.in-Ok.ensures.items (rw c.in-Ok-Some.field-0-is at c.in-Ok-Some.ensures) c.loop-rest.invariant.0,
  omega (arith, c.first_line.ensures.shorter, c.loop-rest.invariant.1),
)

pub returns : goal.returns
returns c =
    let none : length c.loop-rest.rest.now ≡ 0 = search rules in
    read_end IsTraceLine c.loop-rest.lines.items c.args.bytes.now c.loop-rest.rest.now (c.loop-rest.number + 1) none c.loop-rest.invariant.0
