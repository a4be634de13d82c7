use Rattle.std.proofs.Common.{◌<◌, ◌^◌, ℕ, List, subst, arith}
use Rattle.vm_facts.specs.Ahead.{MayAhead}
use Rattle.vm_facts.specs.Answers.{ByteWrite}
use Rattle.user_step.proofs.Ahead.{tests_at}
use Rattle.user_step.proofs.Together.{writes_from_number, length_number}
use Rattle.user_step.proofs.commit.put_number.Goals as goal

pub returns-clause-may : goal.returns-clause-may
returns-clause-may g c done =
    let w = c.args.write in
    let memory = g.M.Memory.answers c.args.memory.now in
    let small : w.address < 2 ^ 32 = omega arith in
    tests_at memory w.size w.address w.value small
    (subst (λ (n : ℕ). MayAhead memory w.address n) (length_number w.size w.value c.write_u32.new.buf c.requires c.write_u32.ensures) (c.put.ensures.may done))

pub returns-clause-done : goal.returns-clause-done
returns-clause-done g c done =
    let w = c.args.write in
    subst (λ (writes : List ByteWrite). g.M.Memory.wrote c.args.memory.now writes c.put.new.self)
    (writes_from_number w.size w.address w.value c.write_u32.new.buf c.requires c.write_u32.ensures)
    (c.put.ensures.done done)
