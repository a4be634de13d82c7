-- Each table has one more entry's amount at its process.
use Rattle.process_counts.specs.declared.amounts.ProcessHead.TheVariants.{Instructions, BytesOut, Calls, Growths, Refusals, Waits, TimesOut, TimesIn}
use Rattle.process_counts.proofs.Counting.{more_of}
use Rattle.process_counts.proofs.deeds.add_entry.Goals as goal

pub add_at-requires : goal.add_at-requires
add_at-requires c = c.requires c.process_of-pid.result Instructions

pub add_at-requires-2 : goal.add_at-requires-2
add_at-requires-2 c = c.requires c.process_of-pid.result BytesOut

pub add_at-requires-3 : goal.add_at-requires-3
add_at-requires-3 c = c.requires c.process_of-pid.result Calls

pub add_at-requires-4 : goal.add_at-requires-4
add_at-requires-4 c = c.requires c.process_of-pid.result Growths

pub add_at-requires-5 : goal.add_at-requires-5
add_at-requires-5 c = c.requires c.process_of-pid.result Refusals

pub add_at-requires-6 : goal.add_at-requires-6
add_at-requires-6 c = c.requires c.process_of-pid.result Waits

pub add_at-requires-7 : goal.add_at-requires-7
add_at-requires-7 c = c.requires c.process_of-pid.result TimesOut

pub add_at-requires-8 : goal.add_at-requires-8
add_at-requires-8 c = c.requires c.process_of-pid.result TimesIn

pub returns-clause-value : goal.returns-clause-value
returns-clause-value c pid Instructions = more_of _ _ _ _ _ _ pid (c.in_ok-add_at.ensures.value pid) c.process_of-pid.ensures c.instructions.ensures
returns-clause-value c pid BytesOut = more_of _ _ _ _ _ _ pid (c.in_ok-add_at-2.ensures.value pid) c.process_of-pid.ensures c.output_length.ensures
returns-clause-value c pid Calls = more_of _ _ _ _ _ _ pid (c.in_ok-add_at-3.ensures.value pid) c.process_of-pid.ensures c.calls.ensures
returns-clause-value c pid Growths = more_of _ _ _ _ _ _ pid (c.in_ok-add_at-4.ensures.value pid) c.process_of-pid.ensures c.growths.ensures
returns-clause-value c pid Refusals = more_of _ _ _ _ _ _ pid (c.in_ok-add_at-5.ensures.value pid) c.process_of-pid.ensures c.refusals.ensures
returns-clause-value c pid Waits = more_of _ _ _ _ _ _ pid (c.in_ok-add_at-6.ensures.value pid) c.process_of-pid.ensures c.waits.ensures
returns-clause-value c pid TimesOut = more_of _ _ _ _ _ _ pid (c.in_ok-add_at-7.ensures.value pid) c.process_of-pid.ensures c.times_out.ensures
returns-clause-value c pid TimesIn = more_of _ _ _ _ _ _ pid (c.in_ok-add_at-8.ensures.value pid) c.process_of-pid.ensures c.times_in.ensures

pub returns-clause-grows : goal.returns-clause-grows
returns-clause-grows c pid Instructions = c.in_ok-add_at.ensures.grows pid
returns-clause-grows c pid BytesOut = c.in_ok-add_at-2.ensures.grows pid
returns-clause-grows c pid Calls = c.in_ok-add_at-3.ensures.grows pid
returns-clause-grows c pid Growths = c.in_ok-add_at-4.ensures.grows pid
returns-clause-grows c pid Refusals = c.in_ok-add_at-5.ensures.grows pid
returns-clause-grows c pid Waits = c.in_ok-add_at-6.ensures.grows pid
returns-clause-grows c pid TimesOut = c.in_ok-add_at-7.ensures.grows pid
returns-clause-grows c pid TimesIn = c.in_ok-add_at-8.ensures.grows pid
