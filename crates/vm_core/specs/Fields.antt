-- The private fields of a `Core`, as callers see them.
use Rattle.vm_core.specs.Cores.{Underway}
use Rattle.vm_core.specs.declared.run.Core.TheInside.{Inside}

-- a run as its callers see it: its machine, and how many instructions were counted
abbrev pub underway_of : Inside → Underway
underway_of c = record { machine = c.machine; counted = c.counted }
