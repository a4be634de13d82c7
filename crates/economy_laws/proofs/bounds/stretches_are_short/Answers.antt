use Rattle.std.proofs.Common.{arith}
use Rattle.economy_laws.proofs.Opening.{few_touched, stretch_entries, whole_stretch}
use Rattle.economy_laws.proofs.Sleeping.{sleep_stops}
use Rattle.economy_laws.proofs.Growing.{all_grown}
use Rattle.economy_laws.proofs.Growth.{growth_touches}
use Rattle.economy_laws.proofs.bounds.stretches_are_short.Goals as goal

pub returns-clause-entries : goal.returns-clause-entries
returns-clause-entries c =
    λ A s t u us journal pid images r f b cl n. let k = stretch_entries A s t u us journal pid images (few_touched A) (all_grown A (growth_touches A)) (sleep_stops A) r f b cl n in omega arith

pub returns-clause-takings : goal.returns-clause-takings
returns-clause-takings c = λ A s t u us pid images r f b cl n. (whole_stretch A s t u us pid images (few_touched A) (all_grown A (growth_touches A)) (sleep_stops A) r f b cl n).1

pub returns-clause-tight : goal.returns-clause-tight
returns-clause-tight c = λ A s t u us journal pid images r f b cl n. stretch_entries A s t u us journal pid images (few_touched A) (all_grown A (growth_touches A)) (sleep_stops A) r f b cl n
