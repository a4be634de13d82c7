-- Nothing is counted yet.
use Rattle.std.proofs.Common.{◌≡◌, ◌≤◌, ◌*◌, ◌^◌, ℕ, [], refl, arith}
use Rattle.run_stats.specs.declared.heads.Head.{Head}
use Rattle.run_stats.specs.declared.heads.Head.TheVariants.{OfRunner, WrittenOf, OfRun}
use Rattle.run_stats.specs.declared.sums.Tally.{Tally}
use Rattle.run_stats.specs.declared.look.Look.{Look}
use Rattle.run_stats.specs.Sums.{sum_in, Tallies}
use Rattle.run_stats.proofs.Tallying.{tallies_none}
use Rattle.run_stats.proofs.sums.Tally.new.Goals as goal

pub returns : goal.returns
returns c = tallies_none _ c.args.first.now c.new.ensures c.new-2.ensures c.new-3.ensures refl refl
