use Rattle.std.proofs.Common.{◌≡◌, ◌+◌, ◌<◌, ◌≤◌, ◌^◌, Ok, sym, arith}
use Rattle.user_vax.specs.Operands.{back}
use Rattle.user_vax.specs.Program.{run}
use Rattle.user_vax.specs.Instruction.{write_tests}
use Rattle.user_vax.proofs.Tested.{tested_may}
use Rattle.vax_execute.specs.Outcomes.{bytes_of}
use Rattle.user_step.proofs.Ahead.{tests_within}
use Rattle.user_step.proofs.commit.test_within.Goals as goal

pub returns-then-from-clause-value : goal.returns-then-from-clause-value
returns-then-from-clause-value g c =
    let w = c.args.write in
    let small : w.address < 2 ^ 32 = omega arith in
    let low : c.args.from < 2 ^ 32 = omega arith in
    let within : back w.address c.args.from + w.size ≤ c.args.many = omega arith in
    sym (tests_within (g.M.Memory.answers c.args.memory.now) w.size c.args.many c.args.from w.address w.value c.requires.may small low within)

pub returns-then-from-clause-ready : goal.returns-then-from-clause-ready
returns-then-from-clause-ready g c =
    let w = c.args.write in
    let small : w.address < 2 ^ 32 = omega arith in
    let low : c.args.from < 2 ^ 32 = omega arith in
    let within : back w.address c.args.from + w.size ≤ c.args.many = omega arith in
    let tested : run (g.M.Memory.answers c.args.memory.now) (write_tests (bytes_of w)) ≡ Ok tt =
    tests_within (g.M.Memory.answers c.args.memory.now) w.size c.args.many c.args.from w.address w.value c.requires.may small low within in
    record { size = c.requires.size; may = tested_may (g.M.Memory.answers c.args.memory.now) (bytes_of w) tested }
