use Rattle.std.proofs.Common.{◌≡◌, ◌+◌, length, drop}
use Rattle.flat_state.specs.Flat.{strings_of}
use Rattle.flat_model.proofs.starting.strings_len.Given as goal

abbrev pub invariant-loop-argument : goal.invariant-loop-argument
invariant-loop-argument l = l.len + length (strings_of (drop l.argument-index l.arguments)) ≡ length (strings_of l.arguments)
