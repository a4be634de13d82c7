-- Machines that go on after calls that make a space.
use Rattle.std.specs.Prelude.{Result, Ok, Err, is_ok, IsSome}
use Rattle.std.proofs.Common.{Bool, true, false, ◌≡◌, ℕ, ◌+◌, List, [], ◌∷◌, Option, Some, None, sym, ap, ◌∙◌, subst, arith}
use Rattle.vm_facts.specs.Answers.{Answers}
use Rattle.user_vax.specs.Program.{run}
use Rattle.user_vax.specs.declared.refused.Refused.{Refused}
use Rattle.flat_state.specs.Flat.{NamedImage}
use Rattle.flat_model.specs.declared.calls.Reply.{Reply}
use Rattle.flat_model.specs.declared.calls.Reply.TheVariants.{Fails, Does}
use Rattle.flat_model.specs.Calls.{execve_reply, replied_both}
use Rattle.proc_calls.specs.declared.replying.Called.{Called}
use Rattle.proc_calls.specs.Starting.{image_found, StartsBy, ExecComes, HasStarted}
use Rattle.step_units.specs.Calls.{called_count, StartsOrFails}
use Rattle.step_units.proofs.ExecsContinue.{exec_starts}
use Rattle.step_units.proofs.CallsContinue.{call_continues, refusal_continues, child_by, left_on}
use Rattle.vm_facts.specs.SwapImages.{SwapImage}
use Rattle.vm_facts.specs.declared.page.Page.{Page}
use Rattle.vm_facts.specs.declared.page.Page.TheVariants.{Stack}
use Rattle.vm_facts.specs.declared.regs.Regs.{Regs}
use Rattle.vm_facts.specs.declared.entry.Entry.{Entry}
use Rattle.vm_facts.specs.declared.entry.Entry.TheVariants as entries
use Rattle.io_edge.specs.FileHolding.{NamedFile}
use Rattle.aout_image.specs.declared.Image.{Image}
use Rattle.flat_state.specs.Journal.{instructions_of}
use Rattle.flat_state.specs.declared.change.Change.TheVariants.{Fork, Exec}
use Rattle.flat_model.specs.declared.calls.SystemCall.TheVariants as system_calls
use Rattle.flat_model.specs.Step.{call_entry}
use Rattle.page_model.specs.Placement.{Due, Start, CopyOf}
use Rattle.page_model.specs.Place.{due_after}
use Rattle.kernel_model.specs.Kernel.{Proc, Kernel}
use Rattle.kernel_model.specs.ChangeStep.{change_if, changing_of}
use Rattle.kernel_model.specs.Unit.{proc_of}
use Rattle.machine_state.specs.Machine.{Standing}
use Rattle.machine_state.specs.Applying.{facts_named}
use Rattle.swapper.specs.Made.{ground}
use Rattle.proc_calls.specs.Answered.{Answered}
use Rattle.proc_calls.specs.Callers.{IsCaller}
use Rattle.proc_calls.specs.Copying.{CopiesPage, CopiesAll, HasCopied}
use Rattle.proc_calls.specs.Filling.{FillsStart}
use Rattle.proc_calls.specs.Forking.{HasNewSpace, Forked}
use Rattle.proc_calls.specs.Growth.{with_pieces}
use Rattle.proc_calls.specs.Making.{is_below_limit, finds_pieces}
use Rattle.proc_calls.proofs.Callers.{caller_there}
use Rattle.step_units.specs.Ready.{CountsOn, Continues}
use Rattle.step_units.proofs.Placements.{exec_filled}
use Rattle.step_units.proofs.Journals.{counts_one}
use Rattle.step_units.proofs.Running.{continues, runs_on, runs_both, made_counted}
use Rattle.step_units.proofs.Entries.{MayEnter, found_enters, entered_runs}
use Rattle.step_units.proofs.LinesContinue.{start_fills}

-- A fork.

forked_counts : (old between : Standing) (pid : ℕ) (regs : Regs) (child : ℕ) → IsCaller old pid → HasNewSpace old between pid regs child
    → instructions_of between.kernel.journal ≡ instructions_of old.kernel.journal + 1
forked_counts old between pid regs child c h =
    let on = entered_runs (with_pieces old h.made.found) between pid (replied_both regs child 0) (call_entry pid system_calls.Fork (replied_both regs child 0)) (Fork child)
    (caller_there old.kernel pid c.lends) h.made.answer in
    on.counted

pub page_counts : (child parent : Page) (old new : Standing) (holds : Option (List NamedFile)) (i j : Option SwapImage)
    → CopiesPage child parent old new holds i j
    → instructions_of new.kernel.journal ≡ instructions_of old.kernel.journal
page_counts child parent old new holds i j c =
    let s = c.serves.0 in
    let served = made_counted (ground old holds (parent ∷ [])) s.units old.kernel c.served.kernel i c.behind s.makes.made in
    let f = c.forces in
    let roomy = made_counted (ground c.served holds (parent ∷ [])) f.units c.served.kernel c.roomy.kernel c.behind j f.makes.made in
    let one = counts_one c.roomy.kernel.journal new.kernel.journal (entries.Copy child) (ap (λ (m : Standing). m.kernel.journal) c.copies) in
    omega arith

copies_count : (ds : List Due) (old new : Standing) (holds : Option (List NamedFile)) (i j : Option SwapImage) → CopiesAll ds old new holds i j
    → instructions_of new.kernel.journal ≡ instructions_of old.kernel.journal
copies_count [] old new holds i j c = ap (λ (m : Standing). instructions_of m.kernel.journal) c.0
copies_count (Start q ∷ ds) old new holds i j c = absurd c
copies_count (CopyOf child parent ∷ ds) old new holds i j c =
    copies_count ds c.0 new holds c.1 j c.3 ∙ page_counts child parent old c.0 holds i c.1 c.2

pub fork_continues : (old new : Standing) (pid : ℕ) (regs : Regs) (holds : Option (List NamedFile)) (i j : Option SwapImage) → IsCaller old pid
    → Forked old new pid regs holds i j → HasCopied old new → Continues old new 1
fork_continues old new pid regs holds i j c f h =
    let first = child_by (is_below_limit old.kernel) (finds_pieces old pid (Fork old.kernel.next_pid)) old f.between pid system_calls.Fork regs
    (HasNewSpace old f.between pid regs old.kernel.next_pid) (instructions_of f.between.kernel.journal ≡ instructions_of old.kernel.journal + 1) c f.answer (λ s. s.counted)
    (forked_counts old f.between pid regs old.kernel.next_pid c) in
    record {
      params = h.params;
      images = h.images;
      clear = h.due;
      frames = h.frames;
      low = h.low;
      counted = copies_count f.between.kernel.place.due f.between new holds i j f.copies ∙ first;
    }

-- An execve.

filled_by : (images : List Image) (k : Kernel) (regs : Regs) (e : Entry) (image : ℕ) (top : List ℕ) (o : Option Proc) → IsSome o → k.place.due ≡ []
    → (let l = change_if images k regs e (Exec image top) o in due_after l.place.due (Stack k.next_sid 0) ≡ [])
filled_by images k regs e image top None s d = absurd cc
filled_by images k regs e image top (Some p) s d =
    exec_filled (changing_of images k p e) k.place image top d

-- once the pieces were found, with the process there
record ExecOn (asked new : Standing) : Type 0 where
  on : CountsOn asked new 1
  filled : due_after new.kernel.place.due (Stack asked.kernel.next_sid 0) ≡ []

exec_on : (asked new : Standing) (pid : ℕ) (after : Regs) (image : ℕ) (top : List ℕ) → MayEnter asked pid
    → Answered asked new pid system_calls.Execve after (Exec image top) → ExecOn asked new
exec_on asked new pid after image top s h = record {
  on = entered_runs asked new pid after (call_entry pid system_calls.Execve after) (Exec image top) s.there h;
  filled =
      ap (λ (k : Kernel). due_after k.place.due (Stack asked.kernel.next_sid 0)) h.step
      ∙ filled_by (facts_named asked.images) asked.kernel after (call_entry pid system_calls.Execve after) image top (proc_of asked.kernel pid) s.there s.clear;
}

pub start_continues : (old between new : Standing) (pid : ℕ) (after : Regs) (image : ℕ) (top : List ℕ) (holds later : Option (List NamedFile))
    (h i j : Option SwapImage)
    → IsCaller old pid
    → HasStarted old between pid after image top holds h i → FillsStart (Stack old.kernel.next_sid 0) between new later i j → Continues old new 1
start_continues old between new pid after image top holds later h i j c s f =
    let went : Standing = s.finds.between in
    let l = left_on old went pid holds h i c s.finds.left in
    let x : ExecOn (with_pieces went s.finds.found) between =
    exec_on (with_pieces went s.finds.found) between pid after image top (found_enters went s.finds.found pid l.may)
    (subst (λ (m : Standing). Answered m between pid system_calls.Execve after (Exec image top)) s.finds.step s.answer) in
    let z = start_fills between new (Stack old.kernel.next_sid 0) later i j f in
    let started : CountsOn went between 1 = record { params = x.on.params; images = x.on.images; frames = x.on.frames; counted = x.on.counted } in
    continues old new 1 (runs_both old between new 1 0 (runs_both old went between 0 1 (runs_on old went 0 l.on) started) z.on)
    (z.due ∙ ap (λ (n : ℕ). due_after between.kernel.place.due (Stack n 0)) (sym l.numbers) ∙ x.filled)
    (let last = z.last in omega arith)

exec_by : (fits : Bool) (old new : Standing) (pid : ℕ) (regs after : Regs) (image : ℕ) (top : List ℕ) (holds : Option (List NamedFile)) (i j : Option SwapImage)
    → IsCaller old pid
    → StartsBy fits old new pid regs after image top holds i j → Continues old new 1
exec_by true old new pid regs after image top holds i j c h = start_continues old h.between new pid after image top holds holds i h.told j c h.started h.fills
exec_by false old new pid regs after image top holds i j c h = refusal_continues old new pid system_calls.Execve regs c h.0

exec_comes : (old new : Standing) (pid : ℕ) (regs : Regs) (r : Result Reply Refused) (holds : Option (List NamedFile)) (i j : Option SwapImage)
    (called : Called)
    → IsCaller old pid
    → StartsOrFails r → ExecComes old new pid regs r holds i j called → Continues old new (called_count called)
exec_comes old new pid regs (Ok (Does after (Exec image top))) holds i j called c s h =
    subst (λ (y : Called). Continues old new (called_count y)) (sym h.0) (exec_by (is_ok (image_found image old)) old new pid regs after image top holds i j c h.1)
exec_comes old new pid regs (Ok (Fails error)) holds i j called c s h = call_continues old new pid system_calls.Execve regs (Ok (Fails error)) called c tt h.0
exec_comes old new pid regs (Err refused) holds i j called c s h = call_continues old new pid system_calls.Execve regs (Err refused) called c tt h.0
exec_comes old new pid regs (Ok _) holds i j called c s h = absurd s

pub exec_continues : (old new : Standing) (pid : ℕ) (regs : Regs) (known : List NamedImage) (memory : Answers) (holds : Option (List NamedFile))
    (i j : Option SwapImage) (called : Called)
    → IsCaller old pid
    → ExecComes old new pid regs (run memory (execve_reply known regs)) holds i j called → Continues old new (called_count called)
exec_continues old new pid regs known memory holds i j called c h =
    exec_comes old new pid regs (run memory (execve_reply known regs)) holds i j called c (exec_starts known memory regs) h
