-- No number, too many numbers, one more number, and the end.
use Rattle.std.proofs.Common.{rules, ◌≡◌, ◌<◌, length, arith}
use Rattle.std.proofs.lemmas.Bool.Decides.{nat_tests}
use Rattle.run_text.proofs.NumberRows.{row_none, row_full, row_push, row_end}
use Rattle.run_text.proofs.numbers.read_numbers.Goals as goal

pub returns-in_default : goal.returns-in_default
returns-in_default c ns few below is =
    let some : 0 < length c.loop-rest.rest.now = search rules in
    row_none c.args.text.now c.loop-rest.numbers c.loop-rest.rest.now some c.in_default.ensures c.loop-rest.invariant ns below is

pub returns-then-is_full : goal.returns-then-is_full
returns-then-is_full c ns few below is =
    let five : length c.loop-rest.numbers ≡ 5 = grind (arith, nat_tests) in
    row_full c.args.text.now c.loop-rest.numbers c.loop-rest.rest.now c.in-Some.more.now c.in-Some.number five c.in-Some.ensures.2 c.in-Some.ensures.0 c.in-Some.ensures.1
    c.loop-rest.invariant ns few below is

pub loop-rest-preserved : goal.loop-rest-preserved
loop-rest-preserved c =
    row_push c.args.text.now c.loop-rest.numbers c.push.new.self c.loop-rest.rest.now c.in-Some.more.now c.in-Some.number c.push.ensures c.in-Some.ensures.2 c.in-Some.ensures.0
    c.in-Some.ensures.1 c.loop-rest.invariant

pub returns : goal.returns
returns c =
    let none : length c.loop-rest.rest.now ≡ 0 = search rules in
    row_end c.args.text.now c.loop-rest.numbers c.loop-rest.rest.now none c.loop-rest.invariant
