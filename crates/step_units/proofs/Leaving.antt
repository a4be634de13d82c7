-- A process leaves its space: as a run does next, transfers end until the space is settled, or it goes back to its lender with no
-- unit; then its step comes next.
use Rattle.std.proofs.Common.{◌≡◌, ℕ, Bool, true, false, List, [], ◌∷◌, Option, Some, None, refl, sym, ap, ◌∙◌, subst, ◌⊎◌, inl, inr, Ok, arith}
use Rattle.io_edge.specs.FileHolding.{NamedFile}
use Rattle.vm_facts.specs.declared.entry.Entry.{Entry}
use Rattle.vm_facts.specs.declared.entry.Entry.TheVariants as entries
use Rattle.vm_facts.specs.declared.params.Params.{Params}
use Rattle.vm_facts.specs.declared.stop.Stop.{Stop}
use Rattle.vm_facts.specs.declared.stop.Stop.TheVariants as stops
use Rattle.flat_state.specs.Space.{Space}
use Rattle.flat_state.specs.Flat.{Process, Inputs, can_step}
use Rattle.flat_state.specs.Change.{is_borrower}
use Rattle.flat_state.specs.declared.change.Change.{Change}
use Rattle.flat_state.specs.declared.change.Change.TheVariants as changes
use Rattle.flat_model.specs.Run.{step_at, Point, due, due_at, first_if, IsBetween}
use Rattle.flat_model.specs.Step.{Step}
use Rattle.kernel_model.specs.Kernel.{Kernel, Proc}
use Rattle.kernel_model.specs.Unit.{has_lender, lender_among}
use Rattle.machine_state.specs.Machine.{Standing}
use Rattle.machine_state.specs.Done.{sources}
use Rattle.machine_state.specs.Settled.{StopsSettling}
use Rattle.swapper.proofs.Stopping.{stays_starved, full_here}
use Rattle.swapper.specs.Stops.{StaysPut, StaysStarved, StaysReturned, LeftBy, StopsBefore}
use Rattle.proc_calls.specs.Growth.{space_of_pid}
use Rattle.proc_calls.specs.Leaving.{HasSettled, HasLeftBy, HasLeft, StopsLeaving}
use Rattle.proc_calls.proofs.Leaving.{GoesOn, settled_goes}
use Rattle.run_model.specs.State.{State}
use Rattle.run_model.specs.Wanted.{wanted}
use Rattle.run_model.specs.Act.{loses_pages, must_refuse, must_settle, act, act_if, act_by}
use Rattle.run_units.specs.Leads.{Leads, MadeAs}
use Rattle.run_units.specs.Serving.{SameBut, At}
use Rattle.run_units.specs.Settling.{IsLeaving}
use Rattle.run_units.specs.Stepping.{GivesBack, returned, with_holdings}
use Rattle.run_units.specs.Touching.{RunsInSpace}
use Rattle.run_units.proofs.Units.{none_leads, leads_at}
use Rattle.std.specs.Prelude.{length, ◌<◌, ◌≤◌}
use Rattle.vm_facts.specs.SwapImages.{SwapImage}
use Rattle.swap_book.specs.Holdings.{Holdings}
use Rattle.swap_book.specs.Placing.{place_all}
use Rattle.page_model.specs.Place.{facts_of}
use Rattle.kernel_model.specs.Asks.{asked}
use Rattle.kernel_model.specs.ChangeStep.{change_step}
use Rattle.run_laws.specs.Machine.{Completes}
use Rattle.run_laws.proofs.Flows.{on_steps}
use Rattle.run_units.proofs.Stepping.{returning_made}
use Rattle.step_units.specs.Machines.{MachineAt}
use Rattle.step_units.specs.Stepped.{StopLeads}
use Rattle.step_units.proofs.Begun.{borrows, none_lost, whole_due, refused_due}
use Rattle.step_units.proofs.Tables.{is_kept, held_is}
use Rattle.step_units.proofs.Settles.{is_leaving, IsSettled, has_settled, stops_settling}
use Rattle.step_units.proofs.Entering.{IsOwn, stopped_before, stopped_in, stops_then}

-- A process that runs waits for no page, finds the pieces that its step asks for, or the journal says that it doesn't, and its step
-- gives up its space.
pub record GivesUp (A : Inputs) (s : State) (pid : ℕ) (now : Bool) (p : Process) (x : Space) : Type 0 where
  pub running : RunsInSpace A s pid now p x
  pub unwanted : wanted A s ≡ None
  pub fits : must_refuse A s pid ≡ false
  pub gives : GivesBack (step_at A s.point pid).change

-- units are next units, behind which the process's step comes next; the machine's kernel is the one there, but that a borrowed
-- space is back, and then the journal has room
pub record Left (A : Inputs) (s : State) (old between : Standing) (image : SwapImage) (pid : ℕ) (now : Bool) (p : Process) (x : Space)
    (j : Option SwapImage) : Type 0 where
  pub units : List Entry
  pub state : State
  pub kernel : Kernel
  pub behind : SwapImage
  pub told : j ≡ Some behind
  pub leads : Leads A s old.kernel image units state kernel (Some behind)
  pub same : SameBut s state
  pub gives : GivesUp A state pid now p x
  pub ready : must_settle A state pid ≡ false
  pub back : between.kernel ≡ returned (has_lender kernel.processes pid) kernel pid
  pub room : has_lender kernel.processes pid ≡ true → length between.kernel.journal < between.params.journal
  pub params : between.params ≡ old.params
  pub images : between.images ≡ old.images

-- a borrower gives up no pages, and another gives up those of its space
borrower_keeps : (x : Space) (change : Change) → GivesBack change → loses_pages x true change ≡ false
borrower_keeps x (changes.Exec number top) g = refl
borrower_keeps x (changes.End status) g = refl
borrower_keeps x _ g = absurd g

owner_loses : (x : Space) (change : Change) → GivesBack change → loses_pages x false change ≡ true
owner_loses x (changes.Exec number top) g = refl
owner_loses x (changes.End status) g = refl
owner_loses x _ g = absurd g

-- What comes next.

-- no entry of the process's step is there yet
abbrev pub Begins : Option Entry → ℕ → Type 0
Begins o pid = IsBetween o ⊎ (o ≡ Some (entries.Refused pid))

begins_due : (o : Option Entry) (pid : ℕ) (es : List Entry) → Begins o pid → due o pid es ≡ es
begins_due o pid es b = elim b [
  | inl i ↦ whole_due o pid es i
  | inr e ↦ refused_due o pid es e
]

acts_first : (A : Inputs) (s : State) (pid : ℕ) (e : Entry) (es : List Entry) → can_step s.point.flat pid ≡ true → must_refuse A s pid ≡ false
    → must_settle A s pid ≡ false
    → due_at A s.point pid ≡ e ∷ es → act A s pid ≡ Some e
unfolding act
acts_first A s pid e es c r t d =
    ap (λ (b : Bool). act_if b A s pid) c ∙ ap (λ (b : Bool). act_by A s pid b (must_settle A s pid)) r ∙ ap (act_by A s pid false) t
    ∙ ap (λ (b : Bool). first_if b (due_at A s.point pid)) c ∙ ap (first_if true) d

-- As the space is left.

module _ (A : Inputs) (s : State) (old : Standing) (holds : Option (List NamedFile)) (image : SwapImage) (pid : ℕ) (now : Bool) (p : Process) (x : Space)
    (m : MachineAt A s old holds image)
    (g : GivesUp A s pid now p x) where
  lends : is_borrower s.point.flat.processes pid ≡ has_lender old.kernel.processes pid
  lends = borrows A s old.kernel image pid m.at

  held : space_of_pid old.kernel pid ≡ x.sid
  held = held_is old.kernel pid p x (is_kept A s old.kernel image pid now p x m.at g.running)

  -- a space of its own is settled first
  leaving : has_lender old.kernel.processes pid ≡ false → IsLeaving A s pid now x.sid
  leaving e =
      is_leaving A s pid now p x (step_at A s.point pid) g.running g.unwanted g.fits refl
      (ap (λ (b : Bool). loses_pages x b (step_at A s.point pid).change) (lends ∙ e) ∙ owner_loses x (step_at A s.point pid).change g.gives)

  -- a space that it borrowed needs no transfer to end
  keeps_pages : has_lender old.kernel.processes pid ≡ true → must_settle A s pid ≡ false
  keeps_pages e =
      none_lost A s pid now p x (step_at A s.point pid) g.running refl
      (ap (λ (b : Bool). loses_pages x b (step_at A s.point pid).change) (lends ∙ e) ∙ borrower_keeps x (step_at A s.point pid).change g.gives)

  module _ (between : Standing) (j : Option SwapImage) where
    by : (b : Bool) → has_lender old.kernel.processes pid ≡ b → HasLeftBy b old between pid holds (Some image) j → Left A s old between image pid now p x j
    by true e h = record {
      units = [];
      state = s;
      kernel = old.kernel;
      behind = image;
      told = h.image;
      leads = none_leads A s old.kernel image;
      same = record { point = refl; holdings = refl; count = refl; lines = refl; mark = refl };
      gives = g;
      ready = keeps_pages e;
      back = ap (λ (n : Standing). n.kernel) h.step ∙ sym (ap (λ (b : Bool). returned b old.kernel pid) e);
      room = λ _. subst (λ (n : Standing). length n.kernel.journal < n.params.journal) (sym h.step) h.room;
      params = ap (λ (n : Standing). n.params) h.step;
      images = ap (λ (n : Standing). n.images) h.step;
    }
    by false e h =
        let led : IsSettled A s old between holds image j pid now p x =
        has_settled A s old holds image pid now p x m g.running (leaving e) between j (subst (λ (sid : ℕ). HasSettled old between sid holds (Some image) j) held h) in
        let on : GoesOn old.kernel between.kernel = settled_goes (sources old holds) (space_of_pid old.kernel pid) old.kernel between.kernel (Some image) j h.settled in
        let alone : has_lender between.kernel.processes pid ≡ false = ap (λ (ps : List Proc). has_lender ps pid) on.processes ∙ e in
        record {
          units = led.units;
          state = led.state;
          kernel = between.kernel;
          behind = led.behind;
          told = led.told;
          leads = led.leads;
          same = led.same;
          gives = record {
            running = led.running;
            unwanted = led.unwanted;
            fits = led.allowed;
            gives = subst (λ (z : Step). GivesBack z.change) (sym led.step_is) g.gives;
          };
          ready = led.settles;
          back = sym (ap (λ (b : Bool). returned b between.kernel pid) alone);
          room = λ t. absurd (let z : true ≡ false = sym t ∙ alone in cc);
          params = h.rest.params;
          images = h.rest.images;
        }

    pub has_left : HasLeft old between pid holds (Some image) j → Left A s old between image pid now p x j
    has_left h = by (has_lender old.kernel.processes pid) refl h

  -- The run stops as transfers of the space end, or before the entry of the step.
  pub stops_leaving : (u : Entry) (new : Standing) (j : Option SwapImage) (stop : Stop) → Begins s.point.last pid
      → (step_at A s.point pid).entries ≡ u ∷ [] → IsOwn u
      → StopsLeaving old new pid holds (Some image) j stop → StopLeads A s old.kernel image stop new j
  stops_leaving u new j stop b e own h = elim h [ inl y ↦ settling y.0 y.1 | inr y ↦ back y.0 y.1 y.2 ]
    where
      settling : has_lender old.kernel.processes pid ≡ false → StopsSettling (space_of_pid old.kernel pid) old new holds (Some image) j stop
          → StopLeads A s old.kernel image stop new j
      settling none y =
          stops_settling A s old holds image pid now p x m g.running (leaving none) new j stop
          (subst (λ (sid : ℕ). StopsSettling sid old new holds (Some image) j stop) held y)

      back : has_lender old.kernel.processes pid ≡ true → StopsBefore old new stop → j ≡ Some image → StopLeads A s old.kernel image stop new j
      back lent y same =
          subst (λ (o : Option SwapImage). StopLeads A s old.kernel image stop new o) (sym same)
          (stopped_before A s old new image pid now u stop g.running.runs g.unwanted
          (acts_first A s pid u [] (on_steps A s s.mark pid now g.running.runs.on) g.fits (keeps_pages lent) (begins_due s.point.last pid (step_at A s.point pid).entries b ∙ e)) own y)

-- Once the space was left.

returned_journal : (b : Bool) (k : Kernel) (pid : ℕ) → (returned b k pid).journal ≡ k.journal
returned_journal true k pid = refl
returned_journal false k pid = refl

returned_stopped : (b : Bool) (k : Kernel) (pid : ℕ) → (returned b k pid).stopped ≡ k.stopped
returned_stopped true k pid = refl
returned_stopped false k pid = refl

module _ (A : Inputs) (s : State) (old between : Standing) (image : SwapImage) (pid : ℕ) (now : Bool) (p : Process) (x : Space) (j : Option SwapImage)
    (l : Left A s old between image pid now p x j) where
  -- the step is as it was
  pub step_stays : step_at A l.state.point pid ≡ step_at A s.point pid
  step_stays = ap (λ (y : Point). step_at A y pid) l.same.point

  pub left_at : At A s old.kernel image → At A l.state l.kernel l.behind
  left_at m = leads_at A s l.state old.kernel l.kernel image l.behind l.units m l.leads

  -- its one entry is what is due of it
  pub due_left : (u : Entry) → Begins s.point.last pid → (step_at A s.point pid).entries ≡ u ∷ [] → due_at A l.state.point pid ≡ u ∷ []
  due_left u b e =
      begins_due l.state.point.last pid (step_at A l.state.point pid).entries (subst (λ (y : Point). Begins y.last pid) (sym l.same.point) b)
      ∙ ap (λ (z : Step). z.entries) step_stays ∙ e

  -- and comes next
  pub left_acts : (u : Entry) → Begins s.point.last pid → (step_at A s.point pid).entries ≡ u ∷ [] → act A l.state pid ≡ Some u
  left_acts u b e = acts_first A l.state pid u [] (on_steps A l.state l.state.mark pid now l.gives.running.runs.on) l.gives.fits l.ready (due_left u b e)

  -- The run stops before it.
  pub left_stops : (u : Entry) (new : Standing) (stop : Stop) → Begins s.point.last pid → (step_at A s.point pid).entries ≡ u ∷ [] → IsOwn u
      → StopsBefore between new stop
      → StopLeads A s old.kernel image stop new j
  left_stops u new stop b e own h =
      let journal : between.kernel.journal ≡ l.kernel.journal = ap (λ (k : Kernel). k.journal) l.back ∙ returned_journal (has_lender l.kernel.processes pid) l.kernel pid in
      subst (λ (o : Option SwapImage). StopLeads A s old.kernel image stop new o) (sym l.told)
      (stops_then A s l.state old.kernel l.kernel image l.behind (Some l.behind) l.units stop new l.leads
      (stopped_in A l.state l.kernel new l.behind pid now u stop l.gives.running.runs l.gives.unwanted (left_acts u b e) own (record {
        journal = h.stopped.journal ∙ journal;
        held = left h.cause;
        cause = h.cause;
        full = λ f. subst (λ (js : List Entry). new.params.journal ≤ length js) journal (subst (λ (y : Params). y.journal ≤ length between.kernel.journal) (sym h.stopped.params) (h.full f));
      })))
    where
      -- where the space went back there was room, so the journal isn't full
      stays : (b : Bool) → has_lender l.kernel.processes pid ≡ b → stop ≡ stops.JournalFull → StaysPut l.kernel new
      stays true e f = let full = h.full f in let room = l.room e in absurd (omega arith)
      stays false e f =
          subst (λ (k : Kernel). StaysPut k new) (l.back ∙ ap (λ (b : Bool). returned b l.kernel pid) e) (full_here between new h.stopped h.whole (h.full f))

      -- where it went back it may be that the entry found no memory
      starves : (b : Bool) → has_lender l.kernel.processes pid ≡ b → new.kernel.stopped ≡ l.kernel.stopped → StaysStarved l.kernel new ⊎ StaysReturned l.kernel new
      starves b e running =
          gave b
          (subst (λ (k : Kernel). StaysStarved k new) is (stays_starved between new h.stopped h.whole (running ∙ sym (returned_stopped b l.kernel pid) ∙ sym (ap (λ (k : Kernel). k.stopped) is))))
        where
          is : between.kernel ≡ returned b l.kernel pid
          is = l.back ∙ ap (λ (c : Bool). returned c l.kernel pid) e

          gave : (c : Bool) → StaysStarved (returned c l.kernel pid) new → StaysStarved l.kernel new ⊎ StaysReturned l.kernel new
          gave true put = inr (pid, lender_among l.kernel.processes pid, put)
          gave false put = inl put

      left : (stop ≡ stops.JournalFull) ⊎ (stop ≡ stops.NoMemory) → LeftBy stop l.kernel new
      left (inl f) = subst (λ (z : Stop). LeftBy z l.kernel new) (sym f) (stays (has_lender l.kernel.processes pid) refl f)
      left (inr f) = subst (λ (z : Stop). LeftBy z l.kernel new) (sym f) (starves (has_lender l.kernel.processes pid) refl)

  -- The machine made it, with the pieces that were found for its change.
  pub left_made : (new : Kernel) (u : Entry) (step : Step) (found : Holdings) → At A s old.kernel image → Completes pid u
      → step_at A s.point pid ≡ step → step.writes ≡ [] → GivesBack step.change
      → place_all A.swap_blocks l.kernel.holdings (asked (facts_of A.images) l.kernel pid step.change) ≡ Ok found
      → new ≡ change_step (facts_of A.images) (with_holdings between.kernel found) pid step.regs u step.change
      → MadeAs A l.state l.kernel l.behind u new (Some l.behind)
  left_made new u step found m c e writes gives places made =
      returning_made A l.state l.kernel new l.behind pid now p x u step found (left_at m) l.gives.running c (step_stays ∙ e) writes gives places
      (made ∙ ap (λ (y : Kernel). change_step (facts_of A.images) (with_holdings y found) pid step.regs u step.change) l.back)
