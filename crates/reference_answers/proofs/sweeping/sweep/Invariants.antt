use Rattle.std.proofs.Common.{◌+◌, ◌-◌, ◌/◌, ◌≤◌}
use Rattle.reference_answers.specs.Texts.{first_numbers}
use Rattle.reference_answers.proofs.SweepLaws.{Swept}
use Rattle.reference_answers.proofs.sweeping.sweep.Given as goal

abbrev pub invariant-loop-step : goal.invariant-loop-step
invariant-loop-step l = record {
  few : l.step ≤ (l.to - l.from) / l.every + 1;
  swept : Swept l.known.numbers.now (first_numbers l.from l.every l.step) l.text.items;
}
