use Rattle.std.proofs.Common.{◌≡◌, ◌+◌, drop}
use Rattle.call_reads.specs.Reading.{number_from}
use Rattle.call_reads.proofs.reading.numbered.Given as goal

abbrev pub invariant-loop-place : goal.invariant-loop-place
invariant-loop-place l = number_from 1 l.images l.name ≡ number_from (l.place + 1) (drop l.place l.images) l.name
