-- The bytes that were read decide, or why there are none.
use Rattle.std.proofs.Common.{List, ℕ, Result, Err, Vec, Global, refl, sym, ap, ◌∙◌, ◌≡◌, subst}
use Rattle.io_edge.specs.FileHolding.{NamedFile}
use Rattle.vm_facts.specs.declared.event.Event.{Event}
use Rattle.command_edge.specs.declared.fault.Fault.{Fault}
use Rattle.command_edge.specs.Command.{Faults, Made}
use Rattle.run_opening.specs.Schedules.{schedule_bytes, schedule_found, EndsEvents, EndsSchedule}
use Rattle.run_opening.proofs.Schedules.{schedule_read, schedule_unread}
use Rattle.command_edge.specs.declared.answers.Unread.TheVariants as unreads
use Rattle.command_edge.specs.Ending.{fault_of}
use Rattle.run_opening.proofs.Asking.{front_for}
use Rattle.run_opening.proofs.schedule.open_schedule.Goals as goal

pub returns-in-Ok-clause-ends : goal.returns-in-Ok-clause-ends
returns-in-Ok-clause-ends g c =
    schedule_read c.args.name.now c.in-Ok.bytes.items (g.F.Files.holds c.args.files.now) _ c.events_of.result
    (record { open_same = c.in-Ok.ensures.open_faults; page_same = c.in-Ok.ensures.page_faults }) c.in-Ok.ensures.answers
    (subst (λ (bytes : List ℕ). EndsEvents bytes c.events_of.result) c.as_slice.ensures.value c.events_of.ensures.ends)

pub returns-in-Err-clause-ends : goal.returns-in-Err-clause-ends
returns-in-Err-clause-ends g c =
    let f : Faults = record {
      open_before = g.F.Files.open_faults c.args.files.now;
      open_after = g.F.Files.open_faults c.read_file.new.files;
      page_before = g.F.Files.page_faults c.args.files.now;
      page_after = g.F.Files.page_faults c.read_file.new.files;
    } in
    subst (λ (e : Fault). Made {E = Result (Vec Event Global) Fault} (EndsSchedule c.args.name.now) (λ (files : List NamedFile). schedule_found files c.args.name.now)
    (g.F.Files.holds c.args.files.now) f (Err e))
    (sym c.of_unread.ensures)
    (schedule_unread {A = Vec ℕ Global} (λ (bytes : Vec ℕ Global). bytes.items) c.args.name (g.F.Files.holds c.args.files.now) f c.in-Err.unread
    c.in-Err.ensures.answers c.in-Err.ensures.error c.in-Err.ensures.open_faults c.in-Err.ensures.page_faults)

pub returns-in-Ok-clause-asked : goal.returns-in-Ok-clause-asked
returns-in-Ok-clause-asked g c =
    front_for c.args.name.now (g.F.Files.holds c.args.files.now) schedule_bytes _ _ _ _ _ _ (λ e. absurd cc) (λ e. absurd cc) c.in-Ok.ensures.asked

pub returns-in-Err-clause-asked : goal.returns-in-Err-clause-asked
returns-in-Err-clause-asked g c =
    front_for c.args.name.now (g.F.Files.holds c.args.files.now) schedule_bytes _ _ _ _ _ _ (λ e. refl)
    (λ e. let same : c.in-Err.unread ≡ unreads.NoMemory = cc in
    ap (λ (x : Fault). let r : Result (Vec Event Global) Fault = Err x in r) (c.of_unread.ensures ∙ ap (fault_of c.args.name) same)) c.in-Err.ensures.asked
