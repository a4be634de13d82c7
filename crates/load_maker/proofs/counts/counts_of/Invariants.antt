-- Each count is that of the entries so far, and has room for the others.
use Rattle.std.proofs.Common.{◌≡◌, ◌≤◌, ◌+◌, ◌*◌, ◌^◌, take}
use Rattle.std.specs.List.{count_by, sum_by}
use Rattle.flat_state.specs.Journal.{instructions_of}
use Rattle.flat_laws.specs.Others.{is_refusal}
use Rattle.flat_laws.specs.Visible.{is_end}
use Rattle.process_counts.specs.Counts.{output_length}
use Rattle.load_maker.specs.Counts.{is_granted_fork}
use Rattle.load_maker.proofs.counts.counts_of.Given as goal

abbrev pub invariant-loop-entry : goal.invariant-loop-entry
invariant-loop-entry l = record {
  instructions : l.counts.instructions ≡ instructions_of (take l.entry-index l.journal);
  processes : l.counts.processes ≡ l.first + count_by is_granted_fork (take l.entry-index l.journal);
  ended : l.counts.ended ≡ count_by is_end (take l.entry-index l.journal);
  refused : l.counts.refused ≡ count_by is_refusal (take l.entry-index l.journal);
  bytes_out : l.counts.bytes_out ≡ sum_by output_length (take l.entry-index l.journal);
  instructions_fit : l.counts.instructions ≤ 2 ^ 32 * l.entry-index;
  processes_fit : l.counts.processes ≤ 2 ^ 32 + l.entry-index;
  ended_fit : l.counts.ended ≤ 0 + l.entry-index;
  refused_fit : l.counts.refused ≤ 0 + l.entry-index;
  bytes_fit : l.counts.bytes_out ≤ 2 ^ 64 * l.entry-index;
}
