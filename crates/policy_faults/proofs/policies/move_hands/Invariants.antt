use Rattle.std.proofs.Common.{◌≡◌, ◌-◌}
use Rattle.policy_faults.specs.Policies.{hands_moved}
use Rattle.policy_faults.proofs.policies.move_hands.Given as goal

abbrev pub invariant-loop-moved : goal.invariant-loop-moved
invariant-loop-moved l = hands_moved l.ahead (l.moves - l.moved) l.ring ≡ hands_moved l.ahead l.moves l.initial.ring
