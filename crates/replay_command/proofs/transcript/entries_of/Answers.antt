use Rattle.std.proofs.Common.{subst}
use Rattle.run_text.specs.Transcript.{IsReadTranscript}
use Rattle.replay_command.proofs.Transcripts.{few_entries}
use Rattle.replay_command.proofs.transcript.entries_of.Goals as goal

pub returns-in-Ok-Is-clause-few : goal.returns-in-Ok-Is-clause-few
returns-in-Ok-Is-clause-few c =
    few_entries c.in-Ok-Is.entries.items c.without_fault_line.result.now c.args.bytes.now 67108864
    (subst (IsReadTranscript c.without_fault_line.result.now) c.in-Ok-Is.field-0-is c.in-Ok-Is.ensures.exact) c.without_fault_line.ensures.shorter c.requires
