use Rattle.std.proofs.Common.{ℕ, ◌+◌, List, length, drop, ap, arith}
use Rattle.flat_state.specs.Flat.{strings_of}
use Rattle.flat_model.proofs.Strings.{item_more, strings_count, area_short}
use Rattle.flat_model.proofs.starting.put_pointers.Goals as goal

pub overflow_add-address-in-loop-argument : goal.overflow_add-address-in-loop-argument
overflow_add-address-in-loop-argument c =
    let more = ap (λ (ys : List (List ℕ)). length (strings_of ys)) (item_more c.args.arguments.now c.loop-argument.argument-index c.argument-item.result (omega arith) c.argument-item.is) in
    let count = strings_count c.argument-item.result (drop (c.loop-argument.argument-index + 1) c.args.arguments.now) in
    let short = area_short c.args.arguments.now c.requires.few in
    let len = ap length c.as_slice.ensures in
    omega (arith, c.loop-argument.invariant.1, more, count, short, len, c.requires.low)
