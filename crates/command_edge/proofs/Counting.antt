-- What was counted of the files.
use Rattle.std.proofs.Common.{◌≡◌, inl, inr, ℕ, List, Err, Bor, ◌∙◌, subst}
use Rattle.io_edge.specs.Count.{Rose}
use Rattle.command_edge.specs.declared.answers.Unread.{Unread}
use Rattle.command_edge.specs.declared.answers.Unread.TheVariants as unreads
use Rattle.command_edge.specs.Answering.{CountsFault, CountsFaults}
use Rattle.command_edge.specs.declared.fault.Fault.{Fault}
use Rattle.command_edge.specs.declared.fault.Fault.TheVariants.{FileFault}
use Rattle.command_edge.specs.Ending.{fault_of}
use Rattle.command_edge.specs.Command.{Faults, NoFaults, OneFailed, FaultCounted}

-- the fault of a file that wasn't read, over calls that end with its first bytes
pub unread_counted : (A : Type 0) (name : Bor (List ℕ)) (unread : Unread) (f : Faults) → CountsFault {A = A} (Err unread) f.open_before f.open_after
    → f.page_after ≡ f.page_before → FaultCounted (fault_of name unread) f
unread_counted A name unreads.Absent f counts stays = record { open_same = counts; page_same = stays }
unread_counted A name (unreads.NotImage reason) f counts stays = record { open_same = counts; page_same = stays }
unread_counted A name unreads.FileFault f counts stays = inl (counts, stays)
unread_counted A name unreads.NoMemory f counts stays = record { open_same = counts; page_same = stays }

-- the same over calls that may go on behind its first bytes
pub unloaded_counted : (A : Type 0) (name : Bor (List ℕ)) (unread : Unread) (f : Faults)
    → CountsFaults {A = A} (Err unread) f.open_before f.open_after f.page_before f.page_after → FaultCounted (fault_of name unread) f
unloaded_counted A name unreads.Absent f counts = record { open_same = counts.0; page_same = counts.1 }
unloaded_counted A name (unreads.NotImage reason) f counts = record { open_same = counts.0; page_same = counts.1 }
unloaded_counted A name unreads.FileFault f counts = counts
unloaded_counted A name unreads.NoMemory f counts = record { open_same = counts.0; page_same = counts.1 }

-- Over a row of calls of which none failed, and then another.
module _ (open_before open_between open_after page_before page_between page_after : ℕ) where
  abbrev first : Faults
  first = record { open_before = open_before; open_after = open_between; page_before = page_before; page_after = page_between }

  abbrev second : Faults
  second = record { open_before = open_between; open_after = open_after; page_before = page_between; page_after = page_after }

  abbrev both : Faults
  both = record { open_before = open_before; open_after = open_after; page_before = page_before; page_after = page_after }

  -- none failed
  pub none_then : NoFaults first → NoFaults second → NoFaults both
  none_then none counted = record { open_same = counted.open_same ∙ none.open_same; page_same = counted.page_same ∙ none.page_same }

  -- one failed
  pub one_then : NoFaults first → OneFailed second → OneFailed both
  one_then none (inl failed) = inl (subst (λ (n : ℕ). Rose n open_after) none.open_same failed.0, failed.1 ∙ none.page_same)
  one_then none (inr failed) = inr (failed.0 ∙ none.open_same, subst (λ (n : ℕ). Rose n page_after) none.page_same failed.1)

  -- as many failed as the fault says
  pub counted_then : (fault : Fault) → NoFaults first → FaultCounted fault second → FaultCounted fault both
  counted_then FileFault none counted = one_then none counted
  counted_then _ none counted = none_then none counted
