use Rattle.std.proofs.Common.{ℕ, List, Some, Ok, Err, Option, Result, Vec, Global, sym, ap, ◌∙◌, subst}
use Rattle.std.specs.Option.{option_map}
use Rattle.io_edge.specs.FileHolding.{NamedFile}
use Rattle.vm_facts.specs.declared.entry.Entry.{Entry}
use Rattle.command_edge.specs.Told.{whole_told}
use Rattle.command_edge.specs.declared.fault.Fault.{Fault}
use Rattle.command_edge.specs.Command.{Faults, FaultCounted, Made}
use Rattle.command_edge.proofs.Counting.{unread_counted}
use Rattle.command_edge.proofs.Makings.{made_by}
use Rattle.replay_command.specs.Reading.{EndsLines, EndsTranscript, items_of}
use Rattle.replay_command.proofs.Transcripts.{ends_read, lines_counted, unread_transcript}
use Rattle.replay_command.proofs.transcript.read_entries.Goals as goal

pub returns-in-Ok-Some-clause-ends : goal.returns-in-Ok-Some-clause-ends
returns-in-Ok-Some-clause-ends g c =
    made_by (EndsTranscript c.args.name.now) (λ (list : List NamedFile). whole_told list c.args.name.now 67108864) (g.F.Files.holds c.args.files.now) _ (items_of c.entries_of.result)
    (Ok (Some c.in-Ok-Some.bytes.items))
    (λ list told. c.in-Ok-Some.ensures.answers list told ∙ ap (λ (o : Option (Vec ℕ Global)). Ok (option_map (λ (bytes : Vec ℕ Global). bytes.items) o)) c.in-Ok-Some.field-0-is)
    (ends_read c.args.name.now c.in-Ok-Some.bytes.items _ (items_of c.entries_of.result) (record { open_same = c.in-Ok-Some.ensures.open_faults; page_same = c.in-Ok-Some.ensures.page_faults })
    (subst (λ (bytes : List ℕ). EndsLines bytes (items_of c.entries_of.result)) c.as_slice.ensures.value c.entries_of.ensures.ends))

pub returns-in-Err-clause-ends : goal.returns-in-Err-clause-ends
returns-in-Err-clause-ends g c =
    let f : Faults = record {
      open_before = g.F.Files.open_faults c.args.files.now;
      open_after = g.F.Files.open_faults c.read_whole.new.files;
      page_before = g.F.Files.page_faults c.args.files.now;
      page_after = g.F.Files.page_faults c.read_whole.new.files;
    } in
    subst (λ (e : Fault). Made {E = Result (List Entry) Fault} (EndsTranscript c.args.name.now) (λ (list : List NamedFile). whole_told list c.args.name.now 67108864)
    (g.F.Files.holds c.args.files.now) f (Err e))
    (sym c.of_unread.ensures)
    (unread_transcript {A = Option (Vec ℕ Global)} (option_map (λ (bytes : Vec ℕ Global). bytes.items)) c.args.name (λ (list : List NamedFile). whole_told list c.args.name.now 67108864)
    (g.F.Files.holds c.args.files.now) f c.in-Err.unread
    c.in-Err.ensures.answers c.in-Err.ensures.error c.in-Err.ensures.open_faults c.in-Err.ensures.page_faults)

pub returns-in-Ok-Some-clause-counted : goal.returns-in-Ok-Some-clause-counted
returns-in-Ok-Some-clause-counted g c =
    lines_counted _ _ (items_of c.entries_of.result) (record { open_same = c.in-Ok-Some.ensures.open_faults; page_same = c.in-Ok-Some.ensures.page_faults }) c.entries_of.ensures.ends

pub returns-in-Err-clause-counted : goal.returns-in-Err-clause-counted
returns-in-Err-clause-counted g c =
    let f : Faults = record {
      open_before = g.F.Files.open_faults c.args.files.now;
      open_after = g.F.Files.open_faults c.read_whole.new.files;
      page_before = g.F.Files.page_faults c.args.files.now;
      page_after = g.F.Files.page_faults c.read_whole.new.files;
    } in
    subst (λ (e : Fault). FaultCounted e f) (sym c.of_unread.ensures)
    (unread_counted (Option (Vec ℕ Global)) c.args.name c.in-Err.unread f c.in-Err.ensures.open_faults c.in-Err.ensures.page_faults)
