use Rattle.std.proofs.Common.{◌<◌, ◌%◌, length, arith}
use Rattle.user_step.proofs.StaysFixed.{fixed_found}
use Rattle.user_step.proofs.decode_cache.DecodeCache.fixed_at.Goals as goal

pub returns-then-has : goal.returns-then-has
returns-then-has c = λ memory fixed.
    let within : c.args.address % 512 < length c.args.self.now.places = (let whole = c.type_inv.self in omega (arith, whole)) in
    fixed_found memory c.args.self.now.places c.index-self-address.result c.args.address c.as_ref.result c.ranges.address.fits within c.as_ref.ensures.value
    (fixed c.args.address (c.has.ensures c.if-has.true)).0
