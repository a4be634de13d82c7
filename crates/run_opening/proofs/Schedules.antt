-- A schedule is judged by the bytes of it that are read.
use Rattle.std.proofs.Common.{◌≡◌, ◌⊎◌, inl, inr, ℕ, ◌<◌, ◌≤◌, List, Option, Some, None, Result, Ok, Err, Vec, Global, Bor, length, take, refl, sym, subst, arith}
use Rattle.std.proofs.lemmas.Bool.{cases_lt}
use Rattle.std.proofs.lemmas.List.{take_all}
use Rattle.io_edge.specs.FileHolding.{NamedFile, place_of, bytes_at}
use Rattle.vm_facts.specs.declared.event.Event.{Event}
use Rattle.run_text.proofs.Fronts.{schedule_by_front}
use Rattle.run_text.specs.Schedule.{IsReadSchedule}
use Rattle.run_text.specs.declared.answers.Schedule.{Schedule}
use Rattle.run_text.specs.declared.answers.Schedule.TheVariants.{Is, BadLine}
use Rattle.command_edge.specs.declared.answers.Unread.{Unread}
use Rattle.command_edge.specs.declared.answers.Unread.TheVariants as unreads
use Rattle.command_edge.specs.Answering.{Answers, CountsFault, IsOfAnyFile}
use Rattle.command_edge.specs.Told.{bytes_told, bytes_told_at}
use Rattle.command_edge.specs.declared.fault.Fault.{Fault}
use Rattle.command_edge.specs.declared.fault.Fault.TheVariants as faults
use Rattle.command_edge.specs.Ending.{fault_of}
use Rattle.command_edge.specs.Command.{Faults, NoFaults, Made}
use Rattle.command_edge.proofs.Makings.{made_where, made_nothing}
use Rattle.run_opening.specs.Schedules.{schedule_bytes, schedule_found_at, schedule_found, EndsEvents, EndsSchedule}

-- the first bytes of a file are as many as are read at most, or all of them
first_bytes : (bytes : List ℕ) (schedule : Schedule) → IsReadSchedule (take schedule_bytes bytes) schedule → IsReadSchedule bytes schedule
first_bytes bytes schedule is = go (cases_lt (length bytes) schedule_bytes)
  where
    go : (length bytes < schedule_bytes) ⊎ (schedule_bytes ≤ length bytes) → IsReadSchedule bytes schedule
    go (inl few) = subst (λ (b : List ℕ). IsReadSchedule b schedule) (take_all schedule_bytes bytes (omega arith)) is
    go (inr many) = schedule_by_front bytes schedule_bytes schedule (inr (refl, many)) is

-- the first bytes decide how the schedule ends
front_ends : (name bytes : List ℕ) (f : Faults) (result : Result (Vec Event Global) Fault) → NoFaults f → EndsEvents (take schedule_bytes bytes) result
    → EndsSchedule name (Ok bytes) f result
front_ends name bytes f (Ok lines) none ends = (none, first_bytes bytes (Is lines) ends)
front_ends name bytes f (Err faults.NoMemory) none ends = tt
front_ends name bytes f (Err (faults.BadSchedule line)) none ends = first_bytes bytes (BadLine line) ends
front_ends name bytes f (Err _) none ends = absurd ends

told_ends_at : (files : List NamedFile) (place : Option ℕ) (name bytes : List ℕ) (f : Faults) (result : Result (Vec Event Global) Fault) → NoFaults f
    → bytes_told_at files place schedule_bytes ≡ Ok bytes
    → EndsEvents bytes result → EndsSchedule name (schedule_found_at files place) f result
told_ends_at files None name bytes f result none told ends = absurd cc
told_ends_at files (Some place) name bytes f result none told ends =
    let front : take schedule_bytes (bytes_at files place) ≡ bytes = cc in
    front_ends name (bytes_at files place) f result none (subst (λ (b : List ℕ). EndsEvents b result) (sym front) ends)

any_ends : (name bytes : List ℕ) (f : Faults) (result : Result (Vec Event Global) Fault) → NoFaults f → EndsEvents bytes result
    → EndsSchedule name (Ok bytes) f result
any_ends name bytes f (Ok lines) none ends = (none, ends)
any_ends name bytes f (Err faults.NoMemory) none ends = tt
any_ends name bytes f (Err (faults.BadSchedule line)) none ends = ends
any_ends name bytes f (Err _) none ends = absurd ends

-- a schedule that was read
pub schedule_read : (name bytes : List ℕ) (holds : Option (List NamedFile)) (f : Faults) (result : Result (Vec Event Global) Fault) → NoFaults f
    → ((files : List NamedFile) → holds ≡ Some files → bytes_told files name schedule_bytes ≡ Ok bytes) → EndsEvents bytes result
    → Made (EndsSchedule name) (λ files. schedule_found files name) holds f result
schedule_read name bytes holds f result none told ends =
    made_where (λ (found : Result (List ℕ) Unread). EndsSchedule name found f result) (EndsSchedule name) (Ok bytes) (λ (files : List NamedFile). schedule_found files name) holds f result
    (any_ends name bytes f result none ends)
    (λ files same. told_ends_at files (place_of files name) name bytes f result none (told files same) ends)
    (λ found ends. ends)

absent_at : (files : List NamedFile) (place : Option ℕ) → bytes_told_at files place schedule_bytes ≡ Err unreads.Absent
    → schedule_found_at files place ≡ Err unreads.Absent
absent_at files None e = refl
absent_at files (Some place) e = absurd cc

-- a schedule that wasn't read
pub schedule_unread : {A : Type 0} (view : A → List ℕ) (name : Bor (List ℕ)) (holds : Option (List NamedFile)) (f : Faults) (unread : Unread)
    → ((files : List NamedFile) → holds ≡ Some files → Answers view (bytes_told files name.now schedule_bytes) (Err unread)) → IsOfAnyFile unread
    → CountsFault {A = A} (Err unread) f.open_before f.open_after → f.page_after ≡ f.page_before
    → Made {E = Result (Vec Event Global) Fault} (EndsSchedule name.now) (λ files. schedule_found files name.now) holds f (Err (fault_of name unread))
schedule_unread view name holds f unreads.Absent answers kind counts stays =
    made_where (λ (found : Result (List ℕ) Unread). found ≡ Err unreads.Absent) (EndsSchedule name.now) (Err unreads.Absent) (λ (files : List NamedFile). schedule_found files name.now) holds f
    (Err (faults.Absent name))
    refl (λ files same. absent_at files (place_of files name.now) (answers files same)) (λ found is. (refl, is))
schedule_unread view name holds f (unreads.NotImage reason) answers kind counts stays = absurd kind
schedule_unread view name holds f unreads.FileFault answers kind counts stays =
    made_nothing (EndsSchedule name.now) (Err unreads.NoMemory) (λ (files : List NamedFile). schedule_found files name.now) holds f (Err faults.FileFault) (λ found. (counts, stays))
schedule_unread view name holds f unreads.NoMemory answers kind counts stays =
    made_nothing (EndsSchedule name.now) (Err unreads.NoMemory) (λ (files : List NamedFile). schedule_found files name.now) holds f (Err faults.NoMemory) (λ found. tt)
