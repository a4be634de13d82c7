use Rattle.std.proofs.Common.{◌≡◌, List, subst, arith}
use Rattle.vm_facts.specs.Answers.{ByteWrite}
use Rattle.user_step.proofs.Together.{bytes_at-two, bytes_at-four}
use Rattle.user_step.proofs.commit.put_bytes.Goals as goal

pub returns-in-2-clause-wrote : goal.returns-in-2-clause-wrote
returns-in-2-clause-wrote g c =
    subst (λ (writes : List ByteWrite). g.M.Memory.wrote c.args.memory.now writes c.put_byte-in-2-2.new.memory)
    (bytes_at-two c.args.write.size c.args.write.address c.args.write.value c.write_u32.new.buf c.in-2.is c.write_u32.ensures)
    (g.met.M.Memory.wrote_more _ _ _ _ _ c.put_byte-in-2.ensures.wrote c.put_byte-in-2-2.ensures.wrote)

pub returns-in_default-clause-wrote : goal.returns-in_default-clause-wrote
returns-in_default-clause-wrote g c =
    let four : c.args.write.size ≡ 4 = grind (arith, c.requires.size) in
    let one_two = g.met.M.Memory.wrote_more _ _ _ _ _ c.put_byte-in_default.ensures.wrote c.put_byte-in_default-2.ensures.wrote in
    let three_four = g.met.M.Memory.wrote_more _ _ _ _ _ c.put_byte-in_default-3.ensures.wrote c.put_byte-in_default-4.ensures.wrote in
    subst (λ (writes : List ByteWrite). g.M.Memory.wrote c.args.memory.now writes c.put_byte-in_default-4.new.memory)
    (bytes_at-four c.args.write.size c.args.write.address c.args.write.value c.write_u32.new.buf four c.write_u32.ensures)
    (g.met.M.Memory.wrote_more _ _ _ _ _ one_two three_four)
