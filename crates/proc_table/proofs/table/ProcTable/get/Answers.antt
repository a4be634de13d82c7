use Rattle.std.proofs.Common.{◌∙◌, arith}
use Rattle.proc_table.proofs.SlotLemmas.{found_not}
use Rattle.proc_table.proofs.KeyLemmas.{found-held, IsTable-from_sound}
use Rattle.proc_table.proofs.table.ProcTable.get.Goals as goal

pub returns-in_err-key-clause-value : goal.returns-in_err-key-clause-value
returns-in_err-key-clause-value c =
    rw (← c.self.view_is, found_not c.args.pid c.self.inside.records.slots c.in_err-key.ensures.absent) (grind (arith, c.from_residual.ensures))

pub returns-in_err-key-clause-sound : goal.returns-in_err-key-clause-sound
returns-in_err-key-clause-sound c = rw (← c.self.view_is) (IsTable-from_sound c.self.inside.records c.self.invariant)

pub returns-clause-value : goal.returns-clause-value
returns-clause-value c =
    rw (← c.self.view_is) (c.get.ensures ∙ found-held c.self.inside.records c.in_ok-key.key c.args.pid c.self.invariant.apart c.in_ok-key.ensures.found)

pub returns-clause-sound : goal.returns-clause-sound
returns-clause-sound c = rw (← c.self.view_is) (IsTable-from_sound c.self.inside.records c.self.invariant)
