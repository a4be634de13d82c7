use Rattle.std.proofs.Common.{◌≡◌, ◌++◌, drop}
use Rattle.flat_state.specs.Flat.{strings_of}
use Rattle.flat_model.proofs.starting.put_strings.Given as goal

abbrev pub invariant-loop-argument : goal.invariant-loop-argument
invariant-loop-argument l = l.page.items ++ strings_of (drop l.argument-index l.arguments) ≡ l.fn.page.items ++ strings_of l.arguments
