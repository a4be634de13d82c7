use Rattle.std.proofs.Common.{arith}
use Rattle.proc_table.proofs.SlotLemmas.{length-records_of}
use Rattle.proc_table.proofs.table.ProcTable.len.Goals as goal

pub returns : goal.returns
returns c =
    let count = length-records_of c.self.inside.records.slots in
    rw (← c.self.view_is) (omega (arith, count, c.len.ensures))
