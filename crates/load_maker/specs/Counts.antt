-- What a run did, counted over its journal, and the text of it.
use Rattle.std.specs.Prelude.{ℕ, ◌+◌, ◌==◌, ◌&&◌, ◌||◌, Bool, false, not, List, ◌++◌, codes}
use Rattle.std.specs.List.{sum_by, count_by}
use Rattle.vm_facts.specs.declared.entry.Entry.{Entry}
use Rattle.vm_facts.specs.declared.entry.Entry.TheVariants.{Call}
use Rattle.flat_state.specs.Journal.{instructions_of}
use Rattle.flat_laws.specs.Others.{is_refusal}
use Rattle.flat_laws.specs.Visible.{is_end}
use Rattle.process_counts.specs.Counts.{output_length}
use Rattle.command_edge.specs.Ending.{numbered_line}
use Rattle.load_maker.specs.declared.counts.Counts.{Counts}

-- the system calls fork and vfork
abbrev pub is_forking : ℕ → Bool
is_forking number = (number == 2) || (number == 66)

-- a fork or a vfork that was granted: its reply has the carry clear
abbrev pub is_granted_fork : Entry → Bool
is_granted_fork (Call pid number carry r0 r1) = is_forking number && not carry
is_granted_fork _ = false

-- the counts of a journal, of a run that began with so many processes
abbrev pub counts_of : ℕ → List Entry → Counts
counts_of first journal = record {
  instructions = instructions_of journal;
  processes = first + count_by is_granted_fork journal;
  ended = count_by is_end journal;
  refused = count_by is_refusal journal;
  bytes_out = sum_by output_length journal;
}

-- the six lines of a load
unfoldable pub load_text : ℕ → Counts → List ℕ
load_text number counts =
    numbered_line (codes "load ") number
    ++ numbered_line (codes "instructions ") counts.instructions
    ++ numbered_line (codes "processes ") counts.processes
    ++ numbered_line (codes "ended ") counts.ended
    ++ numbered_line (codes "refused ") counts.refused
    ++ numbered_line (codes "bytes out ") counts.bytes_out
