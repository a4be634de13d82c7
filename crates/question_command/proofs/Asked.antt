-- What a question makes of what it reads.
use Rattle.std.proofs.Common.{◌≡◌, inl, inr, ℕ, List, [], Option, Some, Vec, Result, Ok, Err, refl, subst}
use Rattle.io_edge.specs.FileHolding.{NamedFile}
use Rattle.vm_facts.specs.declared.event.Event.{Event}
use Rattle.flat_state.specs.Flat.{Inputs}
use Rattle.command_edge.specs.declared.answers.Unread.{Unread}
use Rattle.command_edge.specs.declared.answers.Unread.TheVariants as unreads
use Rattle.command_edge.specs.ImageWords.{image_names, first_images}
use Rattle.replay_check.specs.Images.{FlatFile}
use Rattle.command_edge.specs.declared.fault.Fault.{Fault}
use Rattle.command_edge.specs.declared.fault.Fault.TheVariants as faults
use Rattle.command_edge.specs.Ending.{Ending}
use Rattle.command_edge.specs.Named.{Why, AnswersNamed}
use Rattle.command_edge.specs.Command.{Faults, NoFaults, FaultCounted, EndCounted, Made}
use Rattle.command_edge.proofs.Counting.{none_then, one_then}
use Rattle.command_edge.proofs.Makings.{made_where, made_nothing}
use Rattle.run_opening.specs.Schedules.{schedule_found, HasEvents, EndsSchedule}
use Rattle.run_opening.specs.Opening.{CountsAt}
use Rattle.reference_commands.specs.ReplayCommandReading.{FaultsBy, images_told}
use Rattle.reference_commands.specs.declared.question.Question.{Question}
use Rattle.reference_commands.specs.declared.question.Question.TheVariants as questions
use Rattle.reference_commands.specs.Reading.{Read, read_told}
use Rattle.reference_commands.specs.Asking.{Subject, AreInputsOf}
use Rattle.reference_commands.specs.Ends.{IsFilled, EndsQuestion}
use Rattle.reference_commands.specs.InMemory.{inputs_with, HaltsAnswer, EndsAnswer}

-- two counts of faults over two calls
pub record Counts : Type 0 where
  pub open_before : ℕ
  pub open_between : ℕ
  pub open_after : ℕ
  pub page_before : ℕ
  pub page_between : ℕ
  pub page_after : ℕ

abbrev pub over_first : Counts → Faults
over_first c = record { open_before = c.open_before; open_after = c.open_between; page_before = c.page_before; page_after = c.page_between }

abbrev pub over_second : Counts → Faults
over_second c = record { open_before = c.open_between; open_after = c.open_after; page_before = c.page_between; page_after = c.page_after }

abbrev pub over_both : Counts → Faults
over_both c = record { open_before = c.open_before; open_after = c.open_after; page_before = c.page_before; page_after = c.page_after }

-- what opening a schedule counted, by its fault
pub opened_counted : (fault : Fault) (f : Faults) → CountsAt fault f.open_before f.open_after → f.page_after ≡ f.page_before → FaultCounted fault f
opened_counted faults.FileFault f counts stays = inl (counts, stays)
opened_counted _ f counts stays = record { open_same = counts; page_same = stays }

-- the schedule was read, and this of the images
pub record Reads (subject : Subject) (holds : Option (List NamedFile)) (lines : List Event) (images : Result (List FlatFile) Why) : Type 0 where
  pub read : Result (List ℕ) Unread
  pub has : HasEvents read lines
  pub schedule_told : (list : List NamedFile) → holds ≡ Some list → read ≡ schedule_found list subject.schedule
  pub images_are : (list : List NamedFile) → holds ≡ Some list → images_told list (image_names subject.words) ≡ images

record HasRead (lines : List Event) (images : Result (List FlatFile) Why) (read : Read) : Type 0 where
  pub has : HasEvents read.schedule lines
  pub images_are : read.images ≡ images

abbrev Ends : Question → Subject → Option (List NamedFile) → Faults → Ending → Type 0
Ends question subject holds f ending = Made (EndsQuestion question subject) (read_told subject.schedule subject.words) holds f ending

-- the schedule's fault is the answer's
schedule_fault : (V : Type 0) (question : Question) (subject : Subject) (f : Faults) (fault : Fault) (read : Read)
    → EndsSchedule {A = V} subject.schedule read.schedule f (Err fault) → EndsQuestion question subject read f (Err fault)
schedule_fault V question subject f (faults.Absent absent) read ends = inl ends
schedule_fault V question subject f faults.FileFault read ends = inl ends
schedule_fault V question subject f faults.NoMemory read ends = tt
schedule_fault V question subject f (faults.BadSchedule line) read ends = ends
schedule_fault V question subject f _ read ends = absurd ends

pub refused : (question : Question) (subject : Subject) (holds : Option (List NamedFile)) (f : Faults) → Ends question subject holds f (Err faults.NoMemory)
refused question subject holds f =
    made_nothing (EndsQuestion question subject) (record { schedule = Ok []; images = Ok [] }) (read_told subject.schedule subject.words) holds f (Err faults.NoMemory) (λ read. tt)

pub schedule_ends : {V : Type 0} (question : Question) (subject : Subject) (holds : Option (List NamedFile)) (f : Faults) (fault : Fault)
    → Made {E = Result (Vec Event V) Fault} (EndsSchedule subject.schedule) (λ list. schedule_found list subject.schedule) holds f (Err fault)
    → Ends question subject holds f (Err fault)
schedule_ends {V = V} question subject holds f fault made =
    let ends_with : Result (List ℕ) Unread → Type 0 = λ found. EndsSchedule {A = V} subject.schedule found f (Err fault) in
    made_where (λ (read : Read). ends_with read.schedule) (EndsQuestion question subject) (record { schedule = made.read; images = Ok [] })
    (read_told subject.schedule subject.words) holds f (Err fault)
    made.ends (λ list told. subst ends_with (made.is_told list told) made.ends)
    (schedule_fault V question subject f fault)

made_read : (question : Question) (subject : Subject) (holds : Option (List NamedFile)) (f : Faults) (lines : List Event) (images : Result (List FlatFile) Why)
    (ending : Ending) → Reads subject holds lines images
    → ((read : Read) → HasRead lines images read → EndsQuestion question subject read f ending) → Ends question subject holds f ending
made_read question subject holds f lines images ending reads ends =
    made_where (HasRead lines images) (EndsQuestion question subject) (record { schedule = reads.read; images = images }) (read_told subject.schedule subject.words) holds f ending
    (record { has = reads.has; images_are = refl })
    (λ list told. record {
      has = subst (λ (read : Result (List ℕ) Unread). HasEvents read lines) (reads.schedule_told list told) reads.has;
      images_are = reads.images_are list told;
    })
    ends

-- an image's fault is the answer's
pub images_end : {V W : Type 0} (question : Question) (subject : Subject) (holds : Option (List NamedFile)) (c : Counts) (lines : Vec Event V) (fault : Fault)
    → Made {E = Result (Vec Event V) Fault} (EndsSchedule subject.schedule) (λ list. schedule_found list subject.schedule) holds (over_first c) (Ok lines)
    → (view : W → List FlatFile) → ((list : List NamedFile) → holds ≡ Some list → AnswersNamed view (images_told list (image_names subject.words)) (Err fault))
    → FaultsBy {A = W} (Err fault) (over_second c) → Ends question subject holds (over_both c) (Err fault)
images_end question subject holds c lines (faults.Absent absent) made view answers by =
    made_read question subject holds (over_both c) lines.items (Err (absent.now, unreads.Absent)) (Err (faults.Absent absent))
    (record { read = made.read; has = made.ends.1; schedule_told = made.is_told; images_are = answers })
    (λ read has. inr ((lines.items, has.has), has.images_are))
images_end question subject holds c lines (faults.NotImage file reason) made view answers by =
    made_read question subject holds (over_both c) lines.items (Err (file.now, unreads.NotImage reason)) (Err (faults.NotImage file reason))
    (record { read = made.read; has = made.ends.1; schedule_told = made.is_told; images_are = answers })
    (λ read has. ((lines.items, has.has), has.images_are))
images_end question subject holds c lines faults.FileFault made view answers by =
    made_where (λ (read : Read). HasEvents read.schedule lines.items) (EndsQuestion question subject) (record { schedule = made.read; images = Ok [] })
    (read_told subject.schedule subject.words) holds (over_both c)
    (Err faults.FileFault) made.ends.1 (λ list told. subst (λ (read : Result (List ℕ) Unread). HasEvents read lines.items) (made.is_told list told) made.ends.1)
    (λ read has. elim (one_then c.open_before c.open_between c.open_after c.page_before c.page_between c.page_after made.ends.0 by)
    [ inl first ↦ inl first | inr behind ↦ inr (behind, (lines.items, has)) ])
images_end question subject holds c lines faults.NoMemory made view answers by = refused question subject holds (over_both c)
images_end question subject holds c lines _ made view answers by = absurd by

-- the run's ending is the answer's
abbrev pub over : Subject → List FlatFile → List Event → Inputs
over subject images lines = inputs_with subject.numbers images (first_images (image_names subject.words) subject.words) lines

are_inputs : (subject : Subject) (lines : List Event) (images : List FlatFile) (read : Read) → HasRead lines (Ok images) read
    → AreInputsOf (over subject images lines) subject read
are_inputs subject lines images read has =
    record { images = images; are = has.images_are; images_are = refl; first = refl; lines = has.has; frames = refl; blocks = refl; limit = refl }

halts_filled : (question : Question) (subject : Subject) (lines : List Event) (images : List FlatFile) (read : Read)
    → HasRead lines (Ok images) read → HaltsAnswer question (over subject images lines) → IsFilled question subject read
halts_filled (questions.Optimum frames) subject lines images read has x =
    record { inputs = over subject images lines; are = are_inputs subject lines images read has; journal = x.journal; left = x.left; halted = x.halted; full = x.full }
halts_filled questions.Curve subject lines images read has x =
    record { inputs = over subject images lines; are = are_inputs subject lines images read has; journal = x.journal; left = x.left; halted = x.halted; full = x.full }
halts_filled (questions.Owners entries) subject lines images read has x = absurd x
halts_filled (questions.Film steps) subject lines images read has x = absurd x
halts_filled questions.Stats subject lines images read has x =
    record { inputs = over subject images lines; are = are_inputs subject lines images read has; journal = x.journal; left = x.left; halted = x.halted; full = x.full }
halts_filled questions.WasCut subject lines images read has x =
    record { inputs = over subject images lines; are = are_inputs subject lines images read has; journal = x.journal; left = x.left; halted = x.halted; full = x.full }
halts_filled questions.References subject lines images read has x =
    record { inputs = over subject images lines; are = are_inputs subject lines images read has; journal = x.journal; left = x.left; halted = x.halted; full = x.full }

answer_ends : (question : Question) (subject : Subject) (f : Faults) (lines : List Event) (images : List FlatFile) (ending : Ending) (read : Read)
    → NoFaults f → EndsAnswer question (over subject images lines) ending → HasRead lines (Ok images) read → EndsQuestion question subject read f ending
answer_ends question subject f lines images (Ok text) read none x has =
    (none, record { inputs = over subject images lines; are = are_inputs subject lines images read has; answer = x })
answer_ends question subject f lines images (Err faults.NoMemory) read none x has = tt
answer_ends question subject f lines images (Err faults.JournalFull) read none x has = (none, halts_filled question subject lines images read has x)
answer_ends question subject f lines images (Err (faults.NoSpace pid)) read none x has =
    (none, record { inputs = over subject images lines; are = are_inputs subject lines images read has; refused = x })
answer_ends question subject f lines images (Err _) read none x has = absurd x

-- a run in memory counts nothing
pub answer_counted : (question : Question) (A : Inputs) (f : Faults) (ending : Ending) → NoFaults f → EndsAnswer question A ending → EndCounted ending f
answer_counted question A f (Ok text) none x = none
answer_counted question A f (Err faults.NoMemory) none x = none
answer_counted question A f (Err faults.JournalFull) none x = none
answer_counted question A f (Err (faults.NoSpace pid)) none x = none
answer_counted question A f (Err _) none x = absurd x

pub asked_ends : {V : Type 0} (question : Question) (subject : Subject) (holds : Option (List NamedFile)) (c : Counts) (lines : Vec Event V)
    (images : List FlatFile) (ending : Ending)
    → Made {E = Result (Vec Event V) Fault} (EndsSchedule subject.schedule) (λ list. schedule_found list subject.schedule) holds (over_first c) (Ok lines)
    → ((list : List NamedFile) → holds ≡ Some list → images_told list (image_names subject.words) ≡ Ok images)
    → NoFaults (over_second c)
    → EndsAnswer question (inputs_with subject.numbers images (first_images (image_names subject.words) subject.words) lines.items) ending
    → Ends question subject holds (over_both c) ending
asked_ends question subject holds c lines images ending made answers none x =
    made_read question subject holds (over_both c) lines.items (Ok images) ending
    (record { read = made.read; has = made.ends.1; schedule_told = made.is_told; images_are = answers })
    (λ read has. answer_ends question subject (over_both c) lines.items images ending read
    (none_then c.open_before c.open_between c.open_after c.page_before c.page_between c.page_after made.ends.0 none) x has)
