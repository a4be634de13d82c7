use Rattle.std.proofs.Common.{◌≡◌, ◌+◌, ◌++◌, length, drop}
use Rattle.flat_state.specs.Flat.{strings_of, pointers_from}
use Rattle.flat_model.proofs.starting.put_pointers.Given as goal

abbrev pub invariant-loop-argument : goal.invariant-loop-argument
invariant-loop-argument l =
    (l.page.items ++ pointers_from l.address (drop l.argument-index l.arguments) ≡ l.fn.page.items ++ pointers_from l.first l.arguments)
    × (l.address + length (strings_of (drop l.argument-index l.arguments)) ≡ l.first + length (strings_of l.arguments))
