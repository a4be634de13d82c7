use Rattle.std.proofs.Common.{◌<◌, ◌^◌, ℕ, Ok, Result, sym, ap, ◌∙◌, arith}
use Rattle.user_vax.specs.declared.refused.Refused.{Refused}
use Rattle.user_vax.proofs.Lent.{number_ahead}
use Rattle.user_vax.proofs.reading.read_long.Goals as goal

pub returns-then-bytes-ge4 : goal.returns-then-bytes-ge4
returns-then-bytes-ge4 g c =
    let small : c.args.address < 2 ^ 32 = omega arith in
    ap (λ (x : ℕ). let r : Result ℕ Refused = Ok x in r) c.read_u32.ensures
    ∙ sym (number_ahead (g.M.Memory.answers c.args.memory.now) 4 c.args.address c.ahead-bytes.result.now c.ahead-bytes.ensures small c.if-bytes-ge4.true)
