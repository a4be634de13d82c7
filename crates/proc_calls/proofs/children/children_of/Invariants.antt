use Rattle.std.proofs.Common.{◌≡◌, ℕ, ◌-◌, ◌<◌, ◌≤◌, ◌^◌}
use Rattle.proc_calls.specs.declared.children.Children.TheVariants as children
use Rattle.proc_calls.specs.Waiting.{FoundAmong}
use Rattle.proc_calls.proofs.children.children_of.Given as goal

abbrev pub invariant-loop-pid : goal.invariant-loop-pid
invariant-loop-pid l =
    record { found : FoundAmong (λ n. (0 < n) × (n ≤ l.last)) l.processes l.parent l.found; none : (child status : ℕ) → l.found ≡ children.Zombie child status → ⊥ }

abbrev pub decreases-loop-pid : goal.decreases-loop-pid
decreases-loop-pid l = 2 ^ 32 - l.last
