use Rattle.user_step.proofs.Ahead.{fetched_sixteen}
use Rattle.user_step.proofs.decode_cache.DecodeCache.find.Goals as goal

pub returns : goal.returns
returns g c =
    fetched_sixteen (g.M.Memory.answers c.args.memory.now) c.args.address c.ahead.result.now c.in_ok-found.found.now.instr c.ahead.ensures c.ranges.address.fits c.in_ok-found.ensures
