use Rattle.vm_facts.specs.declared.entry.Entry.TheVariants as entries
use Rattle.std.proofs.Common.{refl}
use Rattle.run_laws.proofs.Wholes.{unit_ready}
use Rattle.economy_laws.proofs.pages.processes_are_ready.Goals as goal

pub returns : goal.returns
returns c = record {
  ran = λ A s pid n h. unit_ready A s (entries.Ran pid n) pid h refl;
  grew = λ A s pid pages h. unit_ready A s (entries.Grew pid pages) pid h refl;
  call = λ A s pid number r0 r1 carry h. unit_ready A s (entries.Call pid number carry r0 r1) pid h refl;
  sleeps = λ A s pid h. unit_ready A s (entries.Sleeps pid) pid h refl;
  ended = λ A s pid status h. unit_ready A s (entries.Ended pid status) pid h refl;
}
