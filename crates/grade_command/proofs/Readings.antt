-- What grading a trace makes of what it reads.
use Rattle.std.proofs.Common.{◌≡◌, inl, inr, ℕ, List, [], Option, Some, None, Vec, Result, Ok, Err, refl, ◌∙◌, subst}
use Rattle.io_edge.specs.Count.{Rose}
use Rattle.io_edge.specs.FileHolding.{NamedFile}
use Rattle.vm_facts.specs.declared.entry.Entry.{Entry}
use Rattle.vm_facts.specs.declared.event.Event.{Event}
use Rattle.flat_state.specs.Flat.{Inputs}
use Rattle.command_edge.specs.declared.answers.Unread.{Unread}
use Rattle.command_edge.specs.declared.answers.Unread.TheVariants as unreads
use Rattle.command_edge.specs.ImageWords.{image_names, first_images}
use Rattle.replay_check.specs.Images.{FlatFile}
use Rattle.command_edge.specs.declared.fault.Fault.{Fault}
use Rattle.command_edge.specs.declared.fault.Fault.TheVariants as faults
use Rattle.command_edge.specs.Named.{Why, AnswersNamed}
use Rattle.command_edge.specs.Command.{Faults, NoFaults, OpenFailed, EndCounted, Made}
use Rattle.command_edge.proofs.Counting.{one_then}
use Rattle.command_edge.proofs.Makings.{made_where, made_nothing}
use Rattle.run_opening.specs.Schedules.{schedule_found, HasEvents, EndsSchedule}
use Rattle.replay_command.specs.Reading.{HasEntries, EndsTranscript, FaultsBy, images_told}
use Rattle.replay_command.proofs.Replays.{whole}
use Rattle.question_command.specs.Reading.{Read as RunRead, HasSchedule}
use Rattle.question_command.specs.Asking.{Subject, AreInputsOf}
use Rattle.question_command.specs.InMemory.{inputs_with}
use Rattle.question_command.proofs.Asked.{Counts, over_first, over_second, over_both, over}
use Rattle.grade_command.specs.declared.judging.Graded.{Graded}
use Rattle.grade_command.specs.Telling.{EndsGrading}
use Rattle.grade_command.specs.Reading.{TraceRead, trace_told, HasTexts}
use Rattle.grade_command.specs.Command.{LacksGrade, EndsReading}

abbrev pub Ends : Subject → List ℕ → Option (List NamedFile) → Faults → Result Graded Fault → Type 0
Ends subject trace holds f result = Made (EndsReading subject trace) (trace_told subject trace) holds f result

abbrev reading : Result (List ℕ) Unread → Result (Option (List ℕ)) Unread → Result (List FlatFile) Why → TraceRead
reading schedule trace images = let run : RunRead = record { schedule = schedule; images = images } in record { run = run; trace = trace }

-- The schedule.

schedule_fault : (V : Type 0) (subject : Subject) (trace : List ℕ) (f : Faults) (fault : Fault) (read : TraceRead)
    → EndsSchedule {A = V} subject.schedule read.run.schedule f (Err fault) → LacksGrade subject trace read f fault
schedule_fault V subject trace f (faults.Absent absent) read ends = inl ends
schedule_fault V subject trace f faults.FileFault read ends = inl ends
schedule_fault V subject trace f faults.NoMemory read ends = tt
schedule_fault V subject trace f (faults.BadSchedule line) read ends = ends
schedule_fault V subject trace f _ read ends = absurd ends

pub schedule_ends : {V : Type 0} (subject : Subject) (trace : List ℕ) (holds : Option (List NamedFile)) (f : Faults) (fault : Fault)
    → Made {E = Result (Vec Event V) Fault} (EndsSchedule subject.schedule) (λ list. schedule_found list subject.schedule) holds f (Err fault)
    → Ends subject trace holds f (Err fault)
schedule_ends {V = V} subject trace holds f fault made =
    let ends_with : Result (List ℕ) Unread → Type 0 = λ found. EndsSchedule {A = V} subject.schedule found f (Err fault) in
    made_where (λ (read : TraceRead). ends_with read.run.schedule) (EndsReading subject trace) (reading made.read (Ok None) (Ok [])) (trace_told subject trace) holds f
    (Err fault) made.ends (λ list told. subst ends_with (made.is_told list told) made.ends)
    (schedule_fault V subject trace f fault)

pub refused : (subject : Subject) (trace : List ℕ) (holds : Option (List NamedFile)) (f : Faults) → Ends subject trace holds f (Err faults.NoMemory)
refused subject trace holds f =
    made_nothing (EndsReading subject trace) (reading (Ok []) (Ok None) (Ok [])) (trace_told subject trace) holds f (Err faults.NoMemory) (λ read. tt)

-- The trace.

open_then : (c : Counts) → NoFaults (over_first c) → OpenFailed (over_second c) → OpenFailed (over_both c)
open_then c none failed = (subst (λ (n : ℕ). Rose n c.open_after) none.open_same failed.0, failed.1 ∙ none.page_same)

trace_fault : (subject : Subject) (trace : List ℕ) (c : Counts) (fault : Fault) (read : TraceRead) → NoFaults (over_first c) → HasSchedule read.run
    → EndsTranscript trace read.trace (over_second c) (Err fault) → LacksGrade subject trace read (over_both c) fault
trace_fault subject trace c (faults.Absent absent) read none has ends = inr (inl (has, ends))
trace_fault subject trace c faults.FileFault read none has ends = inl (open_then c none ends)
trace_fault subject trace c faults.NoMemory read none has ends = tt
trace_fault subject trace c (faults.BadTranscript line) read none has ends = (has, ends)
trace_fault subject trace c faults.TooLong read none has ends = (has, ends)
trace_fault subject trace c _ read none has ends = absurd ends

pub trace_ends : {V : Type 0} (subject : Subject) (trace : List ℕ) (holds held : Option (List NamedFile)) (c : Counts) (lines : Vec Event V) (fault : Fault)
    → held ≡ holds
    → Made {E = Result (Vec Event V) Fault} (EndsSchedule subject.schedule) (λ list. schedule_found list subject.schedule) holds (over_first c) (Ok lines)
    → Made {E = Result (List Entry) Fault} (EndsTranscript trace) (whole trace) held (over_second c) (Err fault)
    → Ends subject trace holds (over_both c) (Err fault)
trace_ends subject trace holds held c lines fault same first made =
    let ends_with : Result (Option (List ℕ)) Unread → Type 0 = λ found. EndsTranscript trace found (over_second c) (Err fault) in
    let has_with : Result (List ℕ) Unread → Type 0 = λ found. HasEvents found lines.items in
    made_where (λ (read : TraceRead). has_with read.run.schedule × ends_with read.trace) (EndsReading subject trace) (reading first.read made.read (Ok []))
    (trace_told subject trace) holds (over_both c) (Err fault) (first.ends.1, made.ends)
    (λ list told. (subst has_with (first.is_told list told) first.ends.1, subst ends_with (made.is_told list (same ∙ told)) made.ends))
    (λ read has. trace_fault subject trace c fault read first.ends.0 (lines.items, has.0) has.1)

-- Both texts were read.
pub record Texts (subject : Subject) (trace : List ℕ) (holds : Option (List NamedFile)) (lines : List Event) (entries : List Entry) : Type 0 where
  pub schedule : Result (List ℕ) Unread
  pub has_events : HasEvents schedule lines
  pub schedule_told : (list : List NamedFile) → holds ≡ Some list → schedule ≡ schedule_found list subject.schedule
  pub text : Result (Option (List ℕ)) Unread
  pub has_entries : HasEntries text entries
  pub text_told : (list : List NamedFile) → holds ≡ Some list → text ≡ whole trace list

pub texts_read : {V : Type 0} (subject : Subject) (trace : List ℕ) (holds held : Option (List NamedFile)) (f g : Faults) (lines : Vec Event V)
    (entries : List Entry) → held ≡ holds
    → Made {E = Result (Vec Event V) Fault} (EndsSchedule subject.schedule) (λ list. schedule_found list subject.schedule) holds f (Ok lines)
    → Made {E = Result (List Entry) Fault} (EndsTranscript trace) (whole trace) held g (Ok entries)
    → Texts subject trace holds lines.items entries
texts_read subject trace holds held f g lines entries same first made = record {
  schedule = first.read;
  has_events = first.ends.1;
  schedule_told = first.is_told;
  text = made.read;
  has_entries = made.ends.1;
  text_told = λ list told. made.is_told list (same ∙ told);
}

record HasRead (lines : List Event) (entries : List Entry) (images : Result (List FlatFile) Why) (read : TraceRead) : Type 0 where
  pub events : HasEvents read.run.schedule lines
  pub has : HasEntries read.trace entries
  pub images_are : read.run.images ≡ images

have_texts : (lines : List Event) (entries : List Entry) (images : Result (List FlatFile) Why) (read : TraceRead) → HasRead lines entries images read
    → HasTexts read
have_texts lines entries images read has = ((lines, has.events), (entries, has.has))

made_read : (subject : Subject) (trace : List ℕ) (holds : Option (List NamedFile)) (f : Faults) (lines : List Event) (entries : List Entry)
    (images : Result (List FlatFile) Why) (result : Result Graded Fault)
    → Texts subject trace holds lines entries
    → ((list : List NamedFile) → holds ≡ Some list → images_told list (image_names subject.words) ≡ images)
    → ((read : TraceRead) → HasRead lines entries images read → EndsReading subject trace read f result) → Ends subject trace holds f result
made_read subject trace holds f lines entries images result texts images_are ends =
    made_where (HasRead lines entries images) (EndsReading subject trace) (reading texts.schedule texts.text images) (trace_told subject trace) holds f result
    (record { events = texts.has_events; has = texts.has_entries; images_are = refl })
    (λ list told. record {
      events = subst (λ (found : Result (List ℕ) Unread). HasEvents found lines) (texts.schedule_told list told) texts.has_events;
      has = subst (λ (found : Result (Option (List ℕ)) Unread). HasEntries found entries) (texts.text_told list told) texts.has_entries;
      images_are = images_are list told;
    })
    ends

-- The images.

pub images_end : {W : Type 0} (subject : Subject) (trace : List ℕ) (holds : Option (List NamedFile)) (c : Counts) (lines : List Event) (entries : List Entry)
    (fault : Fault)
    → Texts subject trace holds lines entries → NoFaults (over_first c)
    → (view : W → List FlatFile) → ((list : List NamedFile) → holds ≡ Some list → AnswersNamed view (images_told list (image_names subject.words)) (Err fault))
    → FaultsBy {A = W} (Err fault) (over_second c) → Ends subject trace holds (over_both c) (Err fault)
images_end subject trace holds c lines entries (faults.Absent absent) texts none view answers by =
    let images : Result (List FlatFile) Why = Err (absent.now, unreads.Absent) in
    made_read subject trace holds (over_both c) lines entries images (Err (faults.Absent absent)) texts answers
    (λ read has. inr (inr (have_texts lines entries images read has, has.images_are)))
images_end subject trace holds c lines entries (faults.NotImage file reason) texts none view answers by =
    let images : Result (List FlatFile) Why = Err (file.now, unreads.NotImage reason) in
    made_read subject trace holds (over_both c) lines entries images (Err (faults.NotImage file reason)) texts answers
    (λ read has. (have_texts lines entries images read has, has.images_are))
images_end subject trace holds c lines entries faults.FileFault texts none view answers by =
    let good : TraceRead → Type 0 = λ read. HasEvents read.run.schedule lines × HasEntries read.trace entries in
    made_where good (EndsReading subject trace) (reading texts.schedule texts.text (Ok [])) (trace_told subject trace) holds (over_both c) (Err faults.FileFault)
    (texts.has_events, texts.has_entries)
    (λ list told. (
      subst (λ (found : Result (List ℕ) Unread). HasEvents found lines) (texts.schedule_told list told) texts.has_events,
      subst (λ (found : Result (Option (List ℕ)) Unread). HasEntries found entries) (texts.text_told list told) texts.has_entries,
    ))
    (λ read has. elim (one_then c.open_before c.open_between c.open_after c.page_before c.page_between c.page_after none by)
    [ inl first ↦ inl first | inr behind ↦ inr (behind, ((lines, has.0), (entries, has.1))) ])
images_end subject trace holds c lines entries faults.NoMemory texts none view answers by = refused subject trace holds (over_both c)
images_end subject trace holds c lines entries _ texts none view answers by = absurd by

-- The run.

are_inputs : (subject : Subject) (lines : List Event) (entries : List Entry) (images : List FlatFile) (read : TraceRead)
    → HasRead lines entries (Ok images) read → AreInputsOf (over subject images lines) subject read.run
are_inputs subject lines entries images read has =
    record { images = images; are = has.images_are; images_are = refl; first = refl; lines = has.events; frames = refl; blocks = refl; limit = refl }

grading_ends : (subject : Subject) (trace : List ℕ) (f : Faults) (lines : List Event) (entries : List Entry) (images : List FlatFile)
    (result : Result Graded Fault) (read : TraceRead) → NoFaults f → EndsGrading (over subject images lines) entries result
    → HasRead lines entries (Ok images) read → EndsReading subject trace read f result
grading_ends subject trace f lines entries images (Ok graded) read none x has = (
  none,
  record {
    inputs = over subject images lines;
    are = are_inputs subject lines entries images read has;
    entries = entries;
    has = has.has;
    tells = x;
  },
)
grading_ends subject trace f lines entries images (Err faults.NoMemory) read none x has = tt
grading_ends subject trace f lines entries images (Err (faults.NoSpace pid)) read none x has = (
  none,
  record {
    inputs = over subject images lines;
    are = are_inputs subject lines entries images read has;
    good = have_texts lines entries (Ok images) read has;
    refused = x;
  },
)
grading_ends subject trace f lines entries images (Err _) read none x has = absurd x

pub run_ends : (subject : Subject) (trace : List ℕ) (holds : Option (List NamedFile)) (f : Faults) (lines : List Event) (entries : List Entry)
    (images : List FlatFile) (result : Result Graded Fault)
    → Texts subject trace holds lines entries
    → ((list : List NamedFile) → holds ≡ Some list → images_told list (image_names subject.words) ≡ Ok images) → NoFaults f
    → EndsGrading (inputs_with subject.numbers images (first_images (image_names subject.words) subject.words) lines) entries result
    → Ends subject trace holds f result
run_ends subject trace holds f lines entries images result texts answers none x =
    made_read subject trace holds f lines entries (Ok images) result texts answers
    (λ read has. grading_ends subject trace f lines entries images result read none x has)

-- a run in memory counts nothing
pub run_counted : (A : Inputs) (entries : List Entry) (f : Faults) (result : Result Graded Fault) → NoFaults f → EndsGrading A entries result
    → EndCounted result f
run_counted A entries f (Ok graded) none x = none
run_counted A entries f (Err faults.NoMemory) none x = none
run_counted A entries f (Err (faults.NoSpace pid)) none x = none
run_counted A entries f (Err _) none x = absurd x
