use Rattle.std.proofs.Common.{◌∙◌, ◌<◌, ◌%◌, length, sym, arith}
use Rattle.std.specs.Cmp.Lexicographic.{same_text}
use Rattle.user_step.proofs.StaysFixed.{stands_here}
use Rattle.user_step.proofs.decode_cache.DecodeCache.stands_at.Goals as goal

pub returns-in-Some-places : goal.returns-in-Some-places
returns-in-Some-places g c = λ same.
    let within : c.args.address % 512 < length c.args.self.now.places = (let whole = c.type_inv.self in omega (arith, whole)) in
    stands_here (g.M.Memory.answers c.args.memory.now) c.args.self.now.places c.index-self-address.result c.args.address c.in-Some-places.decoding c.ahead.result.now within
    c.in-Some-places.is (same_text c.in-Some-places.decoding.bytes c.in-Some.first.now (sym same ∙ c.eq.ensures) ∙ c.in-Some.ensures.cases.same) c.ahead.ensures
