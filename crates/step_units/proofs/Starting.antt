-- An execve whose pieces are found is the process's step.
use Rattle.std.proofs.Common.{◌≡◌, ℕ, List, [], ◌∷◌, ◌++◌, Option, Some, refl, sym, ap, ◌∙◌, inl, ◌+◌, Bool, true, false, Result, Ok, subst}
use Rattle.vm_facts.specs.declared.page.Page.TheVariants.{Stack}
use Rattle.vm_facts.specs.declared.params.Params.{Params}
use Rattle.aout_image.specs.declared.Image.{Image}
use Rattle.swap_book.specs.Holdings.{Holdings}
use Rattle.swap_book.specs.Placing.{place_all}
use Rattle.page_model.specs.Placement.{Placement, Due, Start}
use Rattle.page_model.specs.Place.{facts_numbered, facts_of, space_of_process, enter_image, place_step}
use Rattle.kernel_model.specs.Kernel.{Kernel}
use Rattle.kernel_model.specs.Asks.{image_asked, asked}
use Rattle.machine_state.specs.Applying.{facts_named}
use Rattle.machine_state.specs.Machine.{Standing}
use Rattle.machine_state.specs.Sourced.{ImageNamed}
use Rattle.proc_calls.specs.Starting.{image_wanted, image_found, LeavesFor, HasStarted}
use Rattle.proc_calls.proofs.Starts.{IsReady}
use Rattle.std.specs.Prelude.{is_ok}
use Rattle.vm_facts.specs.SwapImages.{SwapImage}
use Rattle.io_edge.specs.FileHolding.{NamedFile}
use Rattle.vm_facts.specs.Answers.{ByteWrite}
use Rattle.vm_facts.specs.declared.entry.Entry.{Entry}
use Rattle.vm_facts.specs.declared.page.Page.{Page}
use Rattle.vm_facts.specs.declared.regs.Regs.{Regs}
use Rattle.user_vax.specs.Program.{run}
use Rattle.user_vax.specs.Effects.{Effect}
use Rattle.user_vax.specs.declared.refused.Refused.{Refused}
use Rattle.flat_state.specs.Space.{Space}
use Rattle.flat_state.specs.Flat.{Process, FlatState, NamedImage, Inputs, process_of}
use Rattle.flat_state.specs.Change.{is_borrower}
use Rattle.flat_state.specs.declared.change.Change.TheVariants.{Exec}
use Rattle.flat_model.specs.declared.calls.Reply.{Reply}
use Rattle.flat_model.specs.declared.calls.Reply.TheVariants.{Does}
use Rattle.flat_model.specs.declared.calls.SystemCall.TheVariants.{Execve}
use Rattle.flat_model.specs.Calls.{reply_of, execve_reply}
use Rattle.flat_model.specs.Run.{Point, step_at, is_refused, IsBetween}
use Rattle.flat_model.specs.Step.{Step, call_entry, reply_asked, answered_step}
use Rattle.page_model.specs.Moves.{touch_all}
use Rattle.page_laws.proofs.Due.Changes.{unless_due}
use Rattle.kernel_model.specs.ChangeStep.{change_step}
use Rattle.kernel_model.specs.Invariant.{EntersImage}
use Rattle.kernel_model.specs.Unit.{has_lender}
use Rattle.kernel_laws.proofs.Machine.Images.{facts_found}
use Rattle.machine_state.specs.Files.{AreRunImages}
use Rattle.machine_state.specs.UserMemory.{kernel_answers}
use Rattle.run_model.specs.State.{State}
use Rattle.run_model.specs.After.{after, place_at, place_behind}
use Rattle.run_model.specs.Snapshot.{pages_written}
use Rattle.proc_calls.proofs.Spaces.{wanted_stays}
use Rattle.run_laws.proofs.Acts.{arrives}
use Rattle.run_laws.proofs.Execs.{execs_fit}
use Rattle.run_units.specs.Leads.{MadeAs, Leads}
use Rattle.run_units.specs.Stepping.{GivesBack, returned, with_holdings}
use Rattle.run_units.specs.Touching.{IsCalledFor}
use Rattle.run_units.proofs.Acting.{between_refused}
use Rattle.step_units.specs.Machines.{RunsOn, MakesCall}
use Rattle.step_units.proofs.Settles.{none_refused}
use Rattle.step_units.proofs.Behind.{StepEnds, step_ends}
use Rattle.step_units.proofs.Entering.{headers, entry_leads, leads_both}
use Rattle.step_units.proofs.Replying.{ready, called_step}
use Rattle.step_units.proofs.Tables.{IsKept, is_kept}
use Rattle.step_units.proofs.Leaving.{GivesUp, Left, has_left, step_stays, due_left, left_acts, left_made}

pub found_back : (m n : Standing) (image : ℕ) → IsReady m n → image_found image n ≡ image_found image m
found_back m n image r =
    ap (λ (p : Params). place_all p.swap_blocks n.kernel.holdings (image_wanted n image)) r.params
    ∙ ap (λ (hs : Holdings). place_all m.params.swap_blocks hs (image_wanted n image)) r.kernel.holdings
    ∙ ap (place_all m.params.swap_blocks m.kernel.holdings) (wanted_stays m n image r)

-- after a new image its stack page is due
exec_due : (facts : List Image) (flat : FlatState) (pid at : ℕ) (written : List Page) (number : ℕ) (top : List ℕ) (q : Placement) (image : Image)
    → facts_numbered facts number ≡ Some image
    → (place_step facts flat pid at written (Exec number top) q).due ≡ Start (Stack flat.next_sid 0) ∷ []
exec_due facts flat pid at written number top q image e =
    unless_due (is_borrower flat.processes pid) (enter_image (touch_all q written) flat.next_sid number (facts_numbered facts number)) (space_of_process (process_of flat pid))
    ∙ ap (λ (o : Option Image). (enter_image (touch_all q written) flat.next_sid number o).due) e

-- what an execve asks of the memory
pub exec_asked : (images : List NamedImage) (F : FlatState) (p : Process) (x : Space) (effect : Effect)
    → reply_asked images F p x Execve effect ≡ execve_reply images effect.regs
unfolding reply_of
exec_asked images F p x effect = refl

returned_pieces : (b : Bool) (k : Kernel) (pid size number : ℕ) (o : Option Image)
    → place_all size (returned b k pid).holdings (image_asked (returned b k pid).place (returned b k pid).next_sid number o)
    ≡ place_all size k.holdings (image_asked k.place k.next_sid number o)
returned_pieces true k pid size number o = refl
returned_pieces false k pid size number o = refl

-- the pieces of an image are those of the change
pub pieces_same : (A : Inputs) (s : State) (m : Standing) (holds : Option (List NamedFile)) (image : SwapImage) (pid number : ℕ) (top : List ℕ)
    → Rattle.step_units.specs.Machines.MachineAt A s m holds image
    → image_found number m ≡ place_all A.swap_blocks m.kernel.holdings (asked (facts_of A.images) m.kernel pid (Exec number top))
pieces_same A s m holds image pid number top h =
    ap (λ (size : ℕ). place_all size m.kernel.holdings (image_wanted m number)) h.blocks
    ∙ ap (λ (facts : List Image). place_all A.swap_blocks m.kernel.holdings (image_asked m.kernel.place m.kernel.next_sid number (facts_numbered facts number))) (headers A s m holds image h)

module _ (A : Inputs) (s : State) (old : Standing) (holds : Option (List NamedFile)) (image : SwapImage) (pid : ℕ) (now : Bool) (p : Process) (x : Space) (effect : Effect)
    (on : RunsOn A s old holds image pid now p x)
    (makes : MakesCall old p x effect Execve) (after_regs : Regs) (number : ℕ) (top : List ℕ)
    (reads : run (kernel_answers old.kernel x.sid) (execve_reply A.images effect.regs) ≡ Ok (Does after_regs (Exec number top))) where
  abbrev reply : Result Reply Refused
  reply = Ok (Does after_regs (Exec number top))

  pub exec_called : IsCalledFor A s p x Execve effect (Ok (Does after_regs (Exec number top)))
  exec_called = ready A s old holds image pid now p x effect Execve reply on makes (ap (run (kernel_answers old.kernel x.sid)) (exec_asked A.images s.point.flat p x effect) ∙ reads) tt

  abbrev step : Step
  step = answered_step A.images s.point.flat p Execve [] after_regs (Exec number top)

  pub exec_step : step_at A s.point pid ≡ answered_step A.images s.point.flat p Execve [] after_regs (Exec number top)
  exec_step =
      called_step A s pid now p x effect Execve reply on.running on.between makes.names exec_called
      ∙ ap (λ (ws : List ByteWrite). answered_step A.images s.point.flat p Execve ws after_regs (Exec number top)) exec_called.writes

  kept : IsKept old.kernel pid p x
  kept = is_kept A s old.kernel image pid now p x on.machine.at on.running

  pub exec_first : (step_at A s.point pid).entries ≡ call_entry pid Execve after_regs ∷ []
  exec_first = ap (λ (z : Step). z.entries) exec_step ∙ ap (λ (n : ℕ). call_entry n Execve after_regs ∷ []) kept.number

  -- the header of the image is there
  header : (i : Image) × (facts_numbered (facts_of A.images) number ≡ Some i)
  header =
      let e : EntersImage A.images (Exec number top) = subst (λ (z : Step). EntersImage A.images z.change) exec_step (execs_fit A s.point.flat pid (is_refused s.point.last pid)) in
      let named : NamedImage = e.0 in
      (named.image.facts, facts_found A.images number named e.1)

  pub exec_gives : is_ok (image_found number old) ≡ true → GivesUp A s pid now p x
  exec_gives ok = record {
    running = on.running;
    unwanted = exec_called.unwanted;
    fits =
        none_refused A s old.kernel image pid now p x step on.machine.at on.running (between_refused s.point.last pid on.between) exec_step
        (ap (λ (r : Result Holdings ℕ). is_ok r) (sym (pieces_same A s old holds image pid number top on.machine)) ∙ ok);
    gives = subst (λ (z : Step). GivesBack z.change) (sym exec_step) tt;
  }

  -- The machine of a process that has its new image stands at a state at which its stack page is due.
  pub record IsImaged (new : Standing) (j : Option SwapImage) : Type 0 where
    pub units : List Entry
    pub state : State
    pub leads : Leads A s old.kernel image units state new.kernel j
    pub due : state.place.due ≡ Start (Stack old.kernel.next_sid 0) ∷ []
    pub images : AreRunImages new.images holds A
    pub between : IsBetween state.point.last
    pub count : state.count ≡ s.count + 1
    pub lines : state.lines ≡ s.lines
    pub mark : state.mark ≡ s.mark

  pub imaged : (new : Standing) (j : Option SwapImage) → is_ok (image_found number old) ≡ true
      → HasStarted old new pid after_regs number top holds (Some image) j → IsImaged new j
  imaged new j ok h =
      let f : LeavesFor (image_found number) old h.asked pid holds (Some image) j = h.finds in
      let between : Standing = f.between in
      let l : Left A s old between image pid now p x j = has_left A s old holds image pid now p x on.machine (exec_gives ok) between j f.left in
      let t : State = l.state in
      let k : Kernel = l.kernel in
      let bytes : SwapImage = l.behind in
      let u : Entry = call_entry pid Execve after_regs in
      let last : State = after A t u in
      let facts : List Image = facts_of A.images in
      let b : Bool = has_lender k.processes pid in
      let same : facts_named between.images ≡ facts = ap facts_named l.images ∙ headers A s old holds image on.machine in
      let blocks : between.params.swap_blocks ≡ A.swap_blocks = ap (λ (q : Rattle.vm_facts.specs.declared.params.Params.Params). q.swap_blocks) l.params ∙ on.machine.blocks in
      let found : image_found number between ≡ place_all A.swap_blocks k.holdings (asked facts k pid (Exec number top)) =
      ap (λ (size : ℕ). place_all size between.kernel.holdings (image_wanted between number)) blocks
      ∙ ap (λ (fs : List Image). place_all A.swap_blocks between.kernel.holdings (image_asked between.kernel.place between.kernel.next_sid number (facts_numbered fs number))) same
      ∙ ap (λ (y : Kernel). place_all A.swap_blocks y.holdings (image_asked y.place y.next_sid number (facts_numbered facts number))) l.back
      ∙ returned_pieces b k pid A.swap_blocks number (facts_numbered facts number) in
      let made : new.kernel ≡ change_step facts (with_holdings between.kernel f.found) pid after_regs u (Exec number top) =
      h.answer.step ∙ ap (λ (m : Standing). change_step (facts_named m.images) m.kernel pid after_regs u (Exec number top)) f.step
      ∙ ap (λ (fs : List Image). change_step fs (with_holdings between.kernel f.found) pid after_regs u (Exec number top)) same in
      let one : MadeAs A t k bytes u new.kernel (Some bytes) =
      left_made A s old between image pid now p x j l new.kernel u step f.found on.machine.at refl exec_step refl tt (sym found ∙ f.finds) made in
      let led : Leads A t k bytes (u ∷ []) last new.kernel (Some bytes) =
      entry_leads A t k new.kernel bytes pid now u l.gives.running.runs l.gives.unwanted (left_acts A s old between image pid now p x j l u (inl on.between) exec_first) one in
      let ends : StepEnds A t pid u last = step_ends A t pid u refl (due_left A s old between image pid now p x j l u (inl on.between) exec_first) in
      record {
        units = l.units ++ u ∷ [];
        state = last;
        leads = subst (λ (o : Option SwapImage). Leads A s old.kernel image (l.units ++ u ∷ []) last new.kernel o) (sym l.told)
            (leads_both A s t last old.kernel k new.kernel image bytes (Some bytes) l.units (u ∷ []) l.leads led);
        due =
            ap (λ (q : Placement). q.due) (arrives A t pid u tt refl).place
            ∙ ap (λ (z : Step). (place_behind A t pid z u).due) (step_stays A s old between image pid now p x j l ∙ exec_step)
            ∙ exec_due facts t.point.flat pid (place_at t u) (pages_written t.point.flat pid step) number top t.place header.0 header.1
            ∙ ap (λ (n : ℕ). let ds : List Due = Start (Stack n 0) ∷ [] in ds) (ap (λ (y : Point). y.flat.next_sid) l.same.point ∙ sym on.machine.at.stands.keeps.coupled.tables.next_sid);
        images =
            subst (λ (ns : List ImageNamed). AreRunImages ns holds A) (sym (ap (λ (m : Standing). m.images) h.answer.rest ∙ ap (λ (m : Standing). m.images) f.step ∙ l.images)) on.machine.images;
        between = subst IsBetween (sym ends.last) tt;
        count = ends.count ∙ ap (λ (n : ℕ). n + 1) l.same.count;
        lines = ends.lines ∙ l.same.lines;
        mark = ends.mark ∙ l.same.mark;
      }
