-- A line that is bad, one more line that is read, and the end.
use Rattle.std.proofs.Common.{rules, ◌≡◌, ◌+◌, length, arith}
use Rattle.run_text.specs.Transcript.{IsEntryLine}
use Rattle.run_text.specs.declared.answers.Transcript.TheVariants.{Is, BadLine}
use Rattle.run_text.proofs.Reading.{read_none, read_push, read_end}
use Rattle.run_text.proofs.WrittenLines.{written_is_read}
use Rattle.run_text.proofs.transcript_reader.read_transcript.Goals as goal

bad : goal.returns-in-Ok-None-clause-exact
bad c =
    read_none IsEntryLine c.loop-rest.entries.items c.args.bytes.now c.loop-rest.rest.now c.first_line.result.0.now (c.loop-rest.line + 1) 4294967295 (omega (arith, c.first_line.ensures.shorter))
    c.first_line.ensures.line (rw c.in-Ok-None.field-0-is at c.in-Ok-None.ensures) (omega arith) c.loop-rest.invariant.0

pub returns-in-Ok-None-clause-exact : goal.returns-in-Ok-None-clause-exact
returns-in-Ok-None-clause-exact c = bad c

pub returns-in-Ok-None-clause-written : goal.returns-in-Ok-None-clause-written
returns-in-Ok-None-clause-written c es within is =
    written_is_read es c.args.bytes.now (BadLine (c.loop-rest.line + 1)) within is (bad c) (omega arith)

pub loop-rest-preserved : goal.loop-rest-preserved
loop-rest-preserved c = (
  read_push IsEntryLine c.loop-rest.entries.items c.push.new.self.items c.args.bytes.now c.loop-rest.rest.now c.first_line.result.0.now c.first_line.result.1.now
      (c.loop-rest.line + 1) c.in-Ok-Some.entry (omega (arith, c.first_line.ensures.shorter))
      c.first_line.ensures.line c.first_line.ensures.rest c.in-Ok.ensures.items (rw c.in-Ok-Some.field-0-is at c.in-Ok-Some.ensures) c.loop-rest.invariant.0,
  omega (arith, c.first_line.ensures.shorter, c.loop-rest.invariant.1),
)

the_end : goal.returns-clause-exact
the_end c =
    let none : length c.loop-rest.rest.now ≡ 0 = search rules in
    read_end IsEntryLine c.loop-rest.entries.items c.args.bytes.now c.loop-rest.rest.now (c.loop-rest.line + 1) none c.loop-rest.invariant.0

pub returns-clause-exact : goal.returns-clause-exact
returns-clause-exact c = the_end c

pub returns-clause-written : goal.returns-clause-written
returns-clause-written c es within is =
    written_is_read es c.args.bytes.now (Is c.loop-rest.entries) within is (the_end c) tt
