use Rattle.std.proofs.Common.{◌≡◌, ◌+◌, ◌≤◌, [], length, drop}
use Rattle.machine_state.specs.Going.{CanGoOn}
use Rattle.machine_state.specs.Machine.{Standing}
use Rattle.vm_core.specs.declared.first_processes.Started.{Started}
use Rattle.vm_core.specs.FirstProcesses.{AreAmong}
use Rattle.vm_core.specs.Beginning.{Begins}
use Rattle.vm_core.proofs.beginning.begin_all.Given as goal

-- what begins in the other images, from here, begins in all
abbrev pub invariant-loop-image : goal.invariant-loop-image
invariant-loop-image l = record {
  params : l.m.params ≡ l.fn.m.params;
  images : l.m.images ≡ l.fn.m.images;
  frames : length l.m.kernel.place.holds ≡ length l.fn.m.kernel.place.holds;
  ready : CanGoOn l.m;
  empty : l.m.kernel.journal ≡ [];
  few : l.m.kernel.next_pid + length (drop l.image-index l.first) ≤ 17;
  numbers : AreAmong l.m.images (drop l.image-index l.first);
  begins : (started : Started) (new : Standing) → Begins started (drop l.image-index l.first) l.m new → Begins started l.first l.fn.m new;
}
