use Rattle.std.proofs.Common.{◌≡◌, ◌-◌}
use Rattle.policy_faults.specs.Policies.{swept}
use Rattle.policy_faults.proofs.policies.sweep.Given as goal

abbrev pub invariant-loop-moved : goal.invariant-loop-moved
invariant-loop-moved l = swept (l.moves - l.moved) l.ring ≡ swept l.moves l.initial.ring
