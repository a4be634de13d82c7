-- An execve is the process's step, and its stack page is filled after it.
use Rattle.std.proofs.Common.{◌≡◌, inl, inr, ℕ, List, [], ◌∷◌, Option, Some, refl, sym, ap, subst, Bool, true, false, ◌++◌, None, Result, Ok, Err, ◌∙◌}
use Rattle.io_edge.specs.FileHolding.{NamedFile}
use Rattle.vm_facts.specs.declared.entry.Entry.TheVariants as entries
use Rattle.vm_facts.specs.declared.page.Page.{Page}
use Rattle.vm_facts.specs.declared.stop.Stop.{Stop}
use Rattle.flat_state.specs.Flat.{Inputs, Process, NamedImage}
use Rattle.page_model.specs.Placement.{Due, Start}
use Rattle.kernel_model.specs.Kernel.{Kernel}
use Rattle.machine_state.specs.Files.{AreRunImages}
use Rattle.machine_state.specs.Machine.{Standing}
use Rattle.proc_calls.specs.Filling.{FillsStart, StopsFilling}
use Rattle.run_model.specs.State.{State}
use Rattle.run_units.specs.Filling.{FillsFirst}
use Rattle.run_units.specs.Serving.{At}
use Rattle.std.specs.Prelude.{is_ok}
use Rattle.vm_facts.specs.SwapImages.{SwapImage}
use Rattle.vm_facts.specs.Answers.{Answers}
use Rattle.vm_facts.specs.declared.entry.Entry.{Entry}
use Rattle.vm_facts.specs.declared.page.Page.TheVariants.{Stack}
use Rattle.vm_facts.specs.declared.regs.Regs.{Regs}
use Rattle.user_vax.specs.Program.{Gives, run, ◌>>=◌}
use Rattle.user_vax.specs.Effects.{Effect}
use Rattle.user_vax.specs.declared.refused.Refused.{Refused}
use Rattle.swap_book.specs.Holdings.{Holdings}
use Rattle.flat_state.specs.Space.{Space}
use Rattle.flat_state.specs.declared.change.Change.TheVariants as changes
use Rattle.flat_model.specs.declared.calls.Reply.{Reply}
use Rattle.flat_model.specs.declared.calls.Reply.TheVariants.{Fails, Does}
use Rattle.flat_model.specs.declared.calls.SystemCall.TheVariants.{Execve}
use Rattle.flat_model.specs.Calls.{three_arguments, string_from, string_limit, path_image, arguments_at, starts, execve_of, execve_reply, replied}
use Rattle.flat_model.specs.Run.{Point, step_at, IsBetween}
use Rattle.flat_model.specs.Step.{Step, call_entry, answered_step}
use Rattle.machine_state.specs.UserMemory.{kernel_answers}
use Rattle.swapper.specs.Stops.{StopsBefore}
use Rattle.proc_calls.specs.declared.replying.Called.{Called}
use Rattle.proc_calls.specs.Answered.{StopsOnce, StopsReading}
use Rattle.proc_calls.specs.Leaving.{HasLeft, StopsAlive}
use Rattle.proc_calls.specs.Making.{without_pieces}
use Rattle.proc_calls.specs.Starting.{image_found, HasStarted, StartsBy, ExecComes, StopsFinding, StopsExec}
use Rattle.proc_calls.proofs.Starts.{is_ready}
use Rattle.run_laws.proofs.Computations.{AllGives, gives_any, run_gives}
use Rattle.run_units.specs.Touching.{IsCalledFor}
use Rattle.step_units.specs.Stepped.{StopLeads, StepLeads, CallLeads}
use Rattle.step_units.proofs.Filling.{LeadsTo, forced_fill, filling_stops}
use Rattle.step_units.specs.Machines.{RunsOn, MakesCall}
use Rattle.step_units.specs.Plain.{RefusedIsMade, RefusedCallStops}
use Rattle.step_units.proofs.Begun.{whole_due}
use Rattle.step_units.proofs.Halting.{stopped_here}
use Rattle.step_units.proofs.Entering.{leads_both, stops_then}
use Rattle.step_units.proofs.Refusing.{IsRefusal, refusal, refused_fails, refused_stops}
use Rattle.step_units.proofs.Leading.{led_told, led_at}
use Rattle.step_units.proofs.Replying.{ready, called_step, fails}
use Rattle.step_units.proofs.Tables.{IsKept, is_kept}
use Rattle.step_units.proofs.Starting.{found_back, exec_asked, pieces_same, exec_called, exec_step, exec_first, exec_gives, IsImaged, imaged}
use Rattle.step_units.proofs.Leaving.{Left, has_left, stops_leaving, left_stops}

start_first : (s : State) (page : Page) → s.place.due ≡ Start page ∷ [] → FillsFirst s.place s.place.due (entries.Zero page) []
start_first s page e = subst (λ (ds : List Due). FillsFirst s.place ds (entries.Zero page) []) (sym e) (refl, refl)

module _ (A : Inputs) (s : State) (m : Standing) (holds : Option (List NamedFile)) (image : SwapImage) (page : Page) (at : At A s m.kernel image) (images : AreRunImages m.images holds A)
    (first : s.place.due ≡ Start page ∷ []) where
  pub start_fills : (new : Standing) (j : Option SwapImage) → FillsStart page m new holds (Some image) j → LeadsTo A s m.kernel image [] new.kernel j
  start_fills new j h =
      subst (λ (k : Kernel). LeadsTo A s m.kernel image [] k j) (sym (ap (λ (n : Standing). n.kernel) h.fills))
      (forced_fill A s m h.roomy holds image j (Start page) [] [] at images first (start_first s page first) h.forces)

  -- the run stops as a frame is forced, or at the fill
  pub start_stops : (new : Standing) (j : Option SwapImage) (stop : Stop) → StopsFilling (entries.Zero page) [] m new holds (Some image) j stop
      → StopLeads A s m.kernel image stop new j
  start_stops new j stop h = filling_stops A s m new holds image j (entries.Zero page) [] stop at images (start_first s page first) h

-- What an execve replies.

-- it fails, or starts an image
abbrev pub IsStart : Reply → Type 0
IsStart (Fails error) = Unit {0}
IsStart (Does regs (changes.Exec number top)) = Unit {0}
IsStart _ = ⊥

pub exec_replies : (images : List NamedImage) (regs : Regs) → AllGives IsStart (execve_reply images regs)
unfolding execve_reply
exec_replies images regs =
    gives_any IsStart (three_arguments regs) (λ asked. string_from string_limit asked.0 >>= λ path. execve_of asked.1 (path_image images path))
    (λ asked. gives_any IsStart (string_from string_limit asked.0) (λ path. execve_of asked.1 (path_image images path)) (λ path. by asked.1 (path_image images path)))
  where
    start : (found : ℕ × NamedImage) (arguments : Option (List (List ℕ))) → IsStart (starts found arguments)
    start found None = tt
    start found (Some arguments) = tt

    by : (argv : ℕ) (found : Option (ℕ × NamedImage)) → AllGives IsStart (execve_of argv found)
    by argv None = tt
    by argv (Some found) = gives_any IsStart (arguments_at argv) (λ arguments. Gives (starts found arguments)) (start found)

module _ (A : Inputs) (s : State) (old : Standing) (holds : Option (List NamedFile)) (image : SwapImage) (pid : ℕ) (now : Bool) (p : Process) (x : Space) (effect : Effect)
    (on : RunsOn A s old holds image pid now p x)
    (makes : MakesCall old p x effect Execve) where
  abbrev memory : Answers
  memory = kernel_answers old.kernel x.sid

  -- Its image starts.
  module _ (after_regs : Regs) (number : ℕ) (top : List ℕ) (reads : run memory (execve_reply A.images effect.regs) ≡ Ok (Does after_regs (changes.Exec number top))) where
    abbrev page : Page
    page = Stack old.kernel.next_sid 0

    abbrev u : Entry
    u = call_entry pid Execve after_regs

    called : IsCalledFor A s p x Execve effect (Ok (Does after_regs (changes.Exec number top)))
    called = exec_called A s old holds image pid now p x effect on makes after_regs number top reads

    step_is : step_at A s.point pid ≡ answered_step A.images s.point.flat p Execve [] after_regs (changes.Exec number top)
    step_is = exec_step A s old holds image pid now p x effect on makes after_regs number top reads

    first : (step_at A s.point pid).entries ≡ u ∷ []
    first = exec_first A s old holds image pid now p x effect on makes after_regs number top reads

    abbrev Imaged : Standing → Option SwapImage → Type 0
    Imaged new j = IsImaged A s old holds image pid now p x effect on makes after_regs number top reads new j

    -- the stack page is filled after it
    filled : (between new : Standing) (told j : Option SwapImage) → Imaged between told → FillsStart page between new holds told j → StepLeads A s old.kernel image 1 new.kernel j
    filled between new told j i h =
        let bytes : SwapImage = i.leads.behind in
        let at : At A i.state between.kernel bytes = led_at A s i.state old.kernel between.kernel image told i.units on.machine.at i.leads in
        let f : LeadsTo A i.state between.kernel bytes [] new.kernel j =
        start_fills A i.state between holds bytes page at i.images i.due new j (subst (λ (o : Option SwapImage). FillsStart page between new holds o j) i.leads.told h) in
        record {
          units = i.units ++ f.units;
          state = f.state;
          leads = leads_both A s i.state f.state old.kernel between.kernel new.kernel image bytes j i.units f.units
              (led_told A s i.state old.kernel between.kernel image told i.units i.leads) f.leads;
          clear = f.due;
          between = subst (λ (y : Point). IsBetween y.last) (sym f.same.point) i.between;
          count = f.same.count ∙ i.count;
          lines = f.same.lines ∙ i.lines;
          mark = f.same.mark ∙ i.mark;
        }

    filled_stops : (between new : Standing) (told j : Option SwapImage) (stop : Stop) → Imaged between told
        → StopsFilling (entries.Zero page) [] between new holds told j stop → StopLeads A s old.kernel image stop new j
    filled_stops between new told j stop i h =
        let bytes : SwapImage = i.leads.behind in
        let at : At A i.state between.kernel bytes = led_at A s i.state old.kernel between.kernel image told i.units on.machine.at i.leads in
        stops_then A s i.state old.kernel between.kernel image bytes j i.units stop new
        (led_told A s i.state old.kernel between.kernel image told i.units i.leads)
        (start_stops A i.state between holds bytes page at i.images i.due new j stop
        (subst (λ (o : Option SwapImage). StopsFilling (entries.Zero page) [] between new holds o j stop) i.leads.told h))

    -- its pieces find no place
    no_pieces : is_ok (image_found number old) ≡ false → IsRefusal A s old holds image pid now p x
    no_pieces none =
        refusal A s old holds image pid now p x (answered_step A.images s.point.flat p Execve [] after_regs (changes.Exec number top)) on called.unwanted step_is
        (ap (λ (r : Result Holdings ℕ). is_ok r) (sym (pieces_same A s old holds image pid number top on.machine)) ∙ none)

    pub starts_made : (new : Standing) (j : Option SwapImage)
        → StartsBy (is_ok (image_found number old)) old new pid effect.regs after_regs number top holds (Some image) j
        → StepLeads A s old.kernel image 1 new.kernel j
    starts_made new j h = go (is_ok (image_found number old)) refl h
      where
        go : (b : Bool) → is_ok (image_found number old) ≡ b → StartsBy b old new pid effect.regs after_regs number top holds (Some image) j → StepLeads A s old.kernel image 1 new.kernel j
        go true ok c =
            filled c.between new c.told j (imaged A s old holds image pid now p x effect on makes after_regs number top reads c.between c.told ok c.started) c.fills
        go false none c =
            subst (λ (o : Option SwapImage). StepLeads A s old.kernel image 1 new.kernel o) (sym c.1)
            (refused_fails A s old holds image pid now p x effect Execve (Ok (Does after_regs (changes.Exec number top))) after_regs (changes.Exec number top) makes.names called refl refl
            (no_pieces none) new.kernel c.0.answer.step)

    -- as the process leaves its space
    finding_stops : (new : Standing) (j : Option SwapImage) (stop : Stop) → StopsFinding (image_found number) old new pid holds (Some image) j stop → StopLeads A s old.kernel image stop new j
    finding_stops new j stop h = elim h [
      | inl y ↦ subst (λ (o : Option SwapImage). StopLeads A s old.kernel image stop new o) (sym y.1)
          (stopped_here A s old new image pid now p x u [] stop on.machine.at on.running called.unwanted (whole_due s.point.last pid (step_at A s.point pid).entries on.between ∙ first) tt y.0)
      | inr y ↦ alive y.0 y.1
    ]
      where
        once : is_ok (image_found number old) ≡ true → StopsOnce (λ m. HasLeft old m pid holds (Some image) j) (λ m. StopsBefore m new stop)
            → StopLeads A s old.kernel image stop new j
        once ok y =
            let l : Left A s old y.reached image pid now p x j =
            has_left A s old holds image pid now p x on.machine (exec_gives A s old holds image pid now p x effect on makes after_regs number top reads ok) y.reached j y.far in
            left_stops A s old y.reached image pid now p x j l u new stop (inl on.between) first tt y.stops

        alive : is_ok (image_found number old) ≡ true → StopsAlive old new pid holds (Some image) j stop → StopLeads A s old.kernel image stop new j
        alive ok y = elim y [
          | inl z ↦ stops_leaving A s old holds image pid now p x on.machine (exec_gives A s old holds image pid now p x effect on makes after_regs number top reads ok) u new j stop
              (inl on.between) first tt z
          | inr z ↦ once ok z
        ]

    without_stops : (new : Standing) (j : Option SwapImage) (stop : Stop) → is_ok (image_found number old) ≡ false → StopsBefore (without_pieces old pid) new stop
        → j ≡ Some image → StopLeads A s old.kernel image stop new j
    without_stops new j stop none h same =
        subst (λ (o : Option SwapImage). StopLeads A s old.kernel image stop new o) (sym same)
        (refused_stops A s old holds image pid now p x effect Execve (Ok (Does after_regs (changes.Exec number top))) after_regs (changes.Exec number top) makes.names called refl refl
        (no_pieces none) new stop h)

    behind_stops : (new : Standing) (told j : Option SwapImage) (stop : Stop)
        → StopsOnce (λ m. HasStarted old m pid after_regs number top holds (Some image) told) (λ m. StopsFilling (entries.Zero page) [] m new holds told j stop)
        → StopLeads A s old.kernel image stop new j
    behind_stops new told j stop h =
        let start : HasStarted old h.reached pid after_regs number top holds (Some image) told = h.far in
        let f = start.finds in
        let ok : is_ok (image_found number old) ≡ true =
        ap (λ (r : Result Holdings ℕ). is_ok r) (sym (found_back old f.between number (is_ready old f.between pid holds (Some image) told f.left)) ∙ f.finds) in
        filled_stops h.reached new told j stop (imaged A s old holds image pid now p x effect on makes after_regs number top reads h.reached told ok h.far) h.stops

    pub starts_stop : (new : Standing) (j : Option SwapImage) (stop : Stop)
        → StopsExec old new pid (Does after_regs (changes.Exec number top)) holds (Some image) j stop
        → StopLeads A s old.kernel image stop new j
    starts_stop new j stop h = elim h [
      | inl y ↦ elim y [ inl z ↦ finding_stops new j stop z | inr z ↦ without_stops new j stop z.0 z.1 z.2 ]
      | inr y ↦ behind_stops new y.0 j stop y.1
    ]

  -- It fails before.

  fails_called : (error : ℕ) → run memory (execve_reply A.images effect.regs) ≡ Ok (Fails error) → IsCalledFor A s p x Execve effect (Ok (Fails error))
  fails_called error e = ready A s old holds image pid now p x effect Execve (Ok (Fails error)) on makes (ap (run memory) (exec_asked A.images s.point.flat p x effect) ∙ e) tt

  -- Whatever its memory has.

  pub exec_made : (new : Standing) (j : Option SwapImage) (called : Called) → RefusedIsMade
      → ExecComes old new pid effect.regs (run memory (execve_reply A.images effect.regs)) holds (Some image) j called → CallLeads A s old.kernel image x called new.kernel j
  exec_made new j called unread h = go (run memory (execve_reply A.images effect.regs)) refl h
    where
      by : (reply : Reply) → IsStart reply → run memory (execve_reply A.images effect.regs) ≡ Ok reply → ExecComes old new pid effect.regs (Ok reply) holds (Some image) j called
          → CallLeads A s old.kernel image x called new.kernel j
      by (Does regs (changes.Exec number top)) i e c = subst (λ (d : Called). CallLeads A s old.kernel image x d new.kernel j) (sym c.0) (starts_made regs number top e new j c.1)
      by (Fails error) i e c =
          subst (λ (o : Option SwapImage). CallLeads A s old.kernel image x called new.kernel o) (sym c.1)
          (subst (λ (d : Called). CallLeads A s old.kernel image x d new.kernel (Some image)) (sym c.0.0)
          (fails A s old new.kernel holds image pid now p x effect Execve (Ok (Fails error)) error on makes.names (fails_called error e) refl c.0.1.step))
      by _ i e c = absurd i

      go : (r : Result Reply Refused) → run memory (execve_reply A.images effect.regs) ≡ r → ExecComes old new pid effect.regs r holds (Some image) j called
          → CallLeads A s old.kernel image x called new.kernel j
      go (Ok reply) e c = by reply (run_gives IsStart memory (execve_reply A.images effect.regs) reply (exec_replies A.images effect.regs) e) e c
      go (Err refused) e c =
          subst (λ (o : Option SwapImage). CallLeads A s old.kernel image x called new.kernel o) (sym c.1)
          (unread A s old new holds image pid now p x effect Execve refused called on makes (ap (run memory) (exec_asked A.images s.point.flat p x effect) ∙ e) c.0)

  pub exec_stops : (new : Standing) (j : Option SwapImage) (stop : Stop) → RefusedCallStops
      → StopsReading (run memory (execve_reply A.images effect.regs)) (λ reply. StopsExec old new pid reply holds) old new (Some image) j stop
      → StopLeads A s old.kernel image stop new j
  exec_stops new j stop unread h = go (run memory (execve_reply A.images effect.regs)) refl h
    where
      by : (reply : Reply) → IsStart reply → run memory (execve_reply A.images effect.regs) ≡ Ok reply → StopsExec old new pid reply holds (Some image) j stop
          → StopLeads A s old.kernel image stop new j
      by (Does regs (changes.Exec number top)) i e c = starts_stop regs number top e new j stop c
      by (Fails error) i e c =
          let r : Result Reply Refused = Ok (Fails error) in
          let called : IsCalledFor A s p x Execve effect r = fails_called error e in
          let kept : IsKept old.kernel pid p x = is_kept A s old.kernel image pid now p x on.machine.at on.running in
          let v : Entry = call_entry pid Execve (replied effect.regs true error) in
          subst (λ (o : Option SwapImage). StopLeads A s old.kernel image stop new o) (sym c.1)
          (stopped_here A s old new image pid now p x v [] stop on.machine.at on.running called.unwanted (whole_due s.point.last pid (step_at A s.point pid).entries on.between ∙
          ap (λ (z : Step). z.entries) (called_step A s pid now p x effect Execve r on.running on.between makes.names called)
          ∙ ap (λ (n : ℕ). call_entry n Execve (replied effect.regs true error) ∷ []) kept.number) tt c.0)
      by _ i e c = absurd i

      go : (r : Result Reply Refused) → run memory (execve_reply A.images effect.regs) ≡ r
          → StopsReading r (λ reply. StopsExec old new pid reply holds) old new (Some image) j stop → StopLeads A s old.kernel image stop new j
      go (Ok reply) e c = by reply (run_gives IsStart memory (execve_reply A.images effect.regs) reply (exec_replies A.images effect.regs) e) e c
      go (Err refused) e c =
          subst (λ (o : Option SwapImage). StopLeads A s old.kernel image stop new o) (sym c.1)
          (unread A s old new holds image pid now p x effect Execve refused stop on makes (ap (run memory) (exec_asked A.images s.point.flat p x effect) ∙ e) c.0)
