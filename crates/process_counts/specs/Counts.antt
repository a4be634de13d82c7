-- What each entry counts of its process, and the sums over a journal.
use Rattle.std.specs.Prelude.{ℕ, ◌==◌, if◌then◌else◌, List, length}
use Rattle.std.specs.List.{sum_by}
use Rattle.vm_facts.specs.declared.page.Page.{Page}
use Rattle.vm_facts.specs.declared.page.Page.TheVariants.{Data, Stack, Text}
use Rattle.vm_facts.specs.declared.entry.Entry.{Entry}
use Rattle.vm_facts.specs.declared.entry.Entry.TheVariants.{Turn, Ran, Out, Grew, Call, Refused, Sleeps, Ended, SwapOut, SwapIn}
use Rattle.process_counts.specs.declared.amounts.ProcessHead.{ProcessHead}
use Rattle.process_counts.specs.declared.amounts.ProcessHead.TheVariants.{Instructions, BytesOut, Calls, Growths, Refusals, Waits, TimesOut, TimesIn}
use Rattle.process_counts.specs.declared.amounts.Owner.{Owner}
use Rattle.process_counts.specs.declared.amounts.Owner.TheVariants.{Space, Image}

-- the instructions that an entry counts
abbrev pub instructions : Entry → ℕ
instructions (Ran pid count) = count
instructions (Call pid number carry r0 r1) = 1
instructions (Ended pid status) = 1
instructions _ = 0

-- the bytes that a process wrote
abbrev pub output_length : Entry → ℕ
output_length (Out pid bytes) = length bytes
output_length _ = 0

-- a reply to a system call
abbrev pub calls : Entry → ℕ
calls (Call pid number carry r0 r1) = 1
calls _ = 0

-- a growth of a stack
abbrev pub growths : Entry → ℕ
growths (Grew pid pages) = 1
growths _ = 0

-- a refusal of swap space
abbrev pub refusals : Entry → ℕ
refusals (Refused pid) = 1
refusals _ = 0

-- a wait for a child
abbrev pub waits : Entry → ℕ
waits (Sleeps pid) = 1
waits _ = 0

-- a process goes out
abbrev pub times_out : Entry → ℕ
times_out (SwapOut pid) = 1
times_out _ = 0

-- a process comes in
abbrev pub times_in : Entry → ℕ
times_in (SwapIn pid) = 1
times_in _ = 0

-- the number of the process that an entry is of; 0 where it is of none, since no process has that number
abbrev pub process_of : Entry → ℕ
process_of (Turn pid) = pid
process_of (Ran pid count) = pid
process_of (Out pid bytes) = pid
process_of (Grew pid pages) = pid
process_of (Call pid number carry r0 r1) = pid
process_of (Refused pid) = pid
process_of (Sleeps pid) = pid
process_of (Ended pid status) = pid
process_of (SwapOut pid) = pid
process_of (SwapIn pid) = pid
process_of _ = 0

-- whose a page is
abbrev pub page_owner : Page → Owner
page_owner (Data sid v) = Space sid
page_owner (Stack sid v) = Space sid
page_owner (Text image v) = Image image

-- what an entry of a process adds under a head
abbrev pub process_amount : ProcessHead → Entry → ℕ
process_amount Instructions e = instructions e
process_amount BytesOut e = output_length e
process_amount Calls e = calls e
process_amount Growths e = growths e
process_amount Refusals e = refusals e
process_amount Waits e = waits e
process_amount TimesOut e = times_out e
process_amount TimesIn e = times_in e

-- what an entry adds to a count of a process
abbrev pub amount : ℕ → ProcessHead → Entry → ℕ
amount pid head e = if process_of e == pid then process_amount head e else 0

-- a count of a process: what all entries of the run's journal add
abbrev pub total : ℕ → ProcessHead → List Entry → ℕ
total pid head journal = sum_by (amount pid head) journal
