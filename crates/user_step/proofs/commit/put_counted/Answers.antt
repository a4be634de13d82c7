use Rattle.std.proofs.Common.{◌≡◌, ◌<◌, ◌^◌, List, Ok, subst, arith}
use Rattle.vm_facts.specs.Answers.{ByteWrite}
use Rattle.user_vax.specs.Program.{run}
use Rattle.user_vax.specs.Instruction.{write_tests}
use Rattle.user_step.proofs.Downwards.{below_first}
use Rattle.user_step.proofs.commit.put_counted.Goals as goal

pub returns-clause-may : goal.returns-clause-may
returns-clause-may g c done =
    let small : c.args.address < 2 ^ 32 = omega arith in
    subst (λ (writes : List ByteWrite). run (g.M.Memory.answers c.args.memory.now) (write_tests writes) ≡ Ok tt)
    (below_first c.args.address c.args.longwords.now small c.requires.some) (c.put_frame.ensures.may done)

pub returns-clause-done : goal.returns-clause-done
returns-clause-done g c done =
    let small : c.args.address < 2 ^ 32 = omega arith in
    subst (λ (writes : List ByteWrite). g.M.Memory.wrote c.args.memory.now writes c.put_frame.new.memory)
    (below_first c.args.address c.args.longwords.now small c.requires.some) (c.put_frame.ensures.done done)
