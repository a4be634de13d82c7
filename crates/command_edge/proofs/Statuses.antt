-- The statuses of faults.
use Rattle.std.proofs.Common.{◌≡◌, arith}
use Rattle.command_edge.specs.declared.fault.Fault.{Fault}
use Rattle.command_edge.specs.declared.fault.Fault.TheVariants.{BadWords, Absent, NotImage, BadSchedule, FileFault, SwapReadFault, SwapWriteFault, NoMemory, JournalFull, NoSpace, ShortDevice, NotFlatRun, BadTranscript, TooLong, BadSource, BadReferences, ReferencesTooLong, NotAsWritten, WrittenSoFar, NotPaged}
use Rattle.command_edge.specs.Ending.{fault_status}

-- no fault has the status 0
pub status_is_not_0 : (fault : Fault) → fault_status fault ≡ 0 → ⊥
status_is_not_0 BadWords h = omega (arith, h)
status_is_not_0 (Absent name) h = omega (arith, h)
status_is_not_0 (NotImage name reason) h = omega (arith, h)
status_is_not_0 (BadSchedule line) h = omega (arith, h)
status_is_not_0 FileFault h = omega (arith, h)
status_is_not_0 (SwapReadFault device) h = omega (arith, h)
status_is_not_0 (SwapWriteFault device) h = omega (arith, h)
status_is_not_0 NoMemory h = omega (arith, h)
status_is_not_0 JournalFull h = omega (arith, h)
status_is_not_0 (NoSpace pid) h = omega (arith, h)
status_is_not_0 (ShortDevice device blocks needed) h = omega (arith, h)
status_is_not_0 (NotFlatRun line) h = omega (arith, h)
status_is_not_0 (BadTranscript line) h = omega (arith, h)
status_is_not_0 TooLong h = omega (arith, h)
status_is_not_0 (BadSource line) h = omega (arith, h)
status_is_not_0 (BadReferences line) h = omega (arith, h)
status_is_not_0 ReferencesTooLong h = omega (arith, h)
status_is_not_0 (NotAsWritten line) h = omega (arith, h)
status_is_not_0 (WrittenSoFar entries) h = omega (arith, h)
status_is_not_0 (NotPaged line) h = omega (arith, h)
