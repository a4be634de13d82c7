-- What the machine makes of each line, by what its calls say.
use Rattle.std.proofs.Common.{◌≡◌, ◌≤◌, ◌<◌, ℕ, Bool, true, false, List, [], ◌∷◌, length, Option, Some, None, Result, Ok, Err, refl, sym, ap, ◌∙◌, subst, arith}
use Rattle.std.specs.Prelude.{◌↔◌}
use Rattle.vm_facts.specs.SwapImages.{SwapImage, with_requests}
use Rattle.vm_facts.specs.declared.event.Event.TheVariants as events
use Rattle.vm_facts.specs.declared.stop.Stop.{Stop}
use Rattle.vm_facts.specs.declared.stop.Stop.TheVariants as stops
use Rattle.io_edge.specs.FileHolding.{NamedFile}
use Rattle.flat_state.specs.Flat.{Inputs}
use Rattle.page_model.specs.Placement.{Placement, Transfer, image_of}
use Rattle.page_model.specs.Swapper.{swap_choice}
use Rattle.kernel_model.specs.Kernel.{note_step, image_after_of}
use Rattle.kernel_model.specs.Requests.{first_asks}
use Rattle.machine_state.specs.Going.{CanGoOn}
use Rattle.machine_state.specs.Machine.{Standing}
use Rattle.machine_state.specs.Sourced.{files_named}
use Rattle.machine_state.specs.Conditions.{HasStopped}
use Rattle.machine_state.specs.Failing.{LosesFor}
use Rattle.machine_state.specs.Done.{sources, IsDone, ImageAfter, StopsFor, SwapAfter, StopsEnding}
use Rattle.proc_run.specs.Stops.{StopsBefore, StopsWhile}
use Rattle.proc_run.specs.Moved.{Moved, moving_hands}
use Rattle.proc_run.specs.Turned.{Turned}
use Rattle.proc_run.specs.Runners.{runners_of, choice_of}
use Rattle.proc_run.specs.Turns.{Turns, StopsTurning}
use Rattle.proc_run.proofs.Transfers.{done_continues}
use Rattle.proc_run.proofs.LinesContinue.{moves_continue, turn_continues}
use Rattle.proc_run.specs.LastMoves.{last_moves}
use Rattle.run_model.specs.State.{State}
use Rattle.run_model.specs.After.{interrupt_mark}
use Rattle.run_model.specs.Next.{owners_of, last_turned}
use Rattle.proc_run.specs.Leads.{Leads}
use Rattle.proc_run.proofs.Units.{none_leads}
use Rattle.proc_run.specs.Stepped.{StopLeads, LeadsFrom, StopsFrom}
use Rattle.proc_run.specs.Lines.{LineLeads}
use Rattle.proc_run.proofs.Asking.{interrupt_made, idle_ends, interrupt_stops, hands_made, hands_stop, audit_made, audit_stops}
use Rattle.proc_run.proofs.PuttingOut.{swapper_made, swapper_stops}
use Rattle.proc_run.specs.Runs.{IsSteady}
use Rattle.vm_core.specs.Steady.{StaysSteady}
use Rattle.vm_core.specs.Lines.{LineAt}
use Rattle.vm_core.proofs.Noting.{same_error}
use Rattle.vm_core.proofs.Steadying.{steady_self, continues_steady, moved_steady}

-- The end of a transfer.

some_still : (A : Inputs) (s : State) (m : Standing) (holds : Option (List NamedFile)) (i : Option SwapImage) (image : SwapImage)
    → LineAt m holds i events.Interrupt A s image → m.kernel.place.transfers ≡ s.place.transfers
some_still A s m holds i image at = ap (λ (p : Placement). p.transfers) at.machine.at.stands.place

idle_makes : (old : Standing) (holds : Option (List NamedFile)) (i j : Option SwapImage) → old.kernel.place.transfers ≡ [] → ImageAfter
    (files_named old.images) old.kernel i j
    → LeadsFrom (LineAt old holds i events.Interrupt) (λ A s image. LineLeads A s old.kernel image old.kernel j)
idle_makes old holds i j none after A s image at =
    let told : j ≡ Some image =
    subst (λ (o : Option SwapImage). ImageAfter (files_named old.images) old.kernel o j) at.told after
    ∙ ap (λ (ts : List Transfer).
    let o : Option SwapImage = Some (with_requests (first_asks (files_named old.images) (image_of old.kernel.place) old.kernel.holdings ts)
    (record image { bytes = image_after_of old.kernel image.bytes ts })) in o) none in
    record {
      units = [];
      state = s;
      leads = subst (λ (o : Option SwapImage). Leads A s old.kernel image [] s old.kernel o) (sym told) (none_leads A s old.kernel image);
      over = idle_ends A s at.clear at.mark (sym (some_still A s old holds i image at) ∙ none);
      point = refl;
      count = refl;
      lines = refl;
      unturned = ap last_turned (at.mark ∙ ap interrupt_mark (sym (some_still A s old holds i image at) ∙ none));
    }

done_makes : (old new : Standing) (holds : Option (List NamedFile)) (i j : Option SwapImage) → IsDone (sources old holds) i old.kernel new.kernel
    → ImageAfter (files_named old.images) old.kernel i j → LeadsFrom (LineAt old holds i events.Interrupt) (λ A s image. LineLeads A s old.kernel image new.kernel j)
done_makes old new holds i j d after A s image at =
    interrupt_made A s old new.kernel holds image j at.machine at.clear at.mark (subst (λ (ts : List Transfer). 0 < length ts) (some_still A s old holds i image at) d.some)
    (subst (λ (o : Option SwapImage). IsDone (sources old holds) o old.kernel new.kernel) at.told d)
    (subst (λ (o : Option SwapImage). ImageAfter (files_named old.images) old.kernel o j) at.told after)

pub interrupt_makes : (old new : Standing) (holds : Option (List NamedFile)) (i j : Option SwapImage) (r : Result Bool Stop) (b : Bool) → r ≡ Ok b
    → ((r ≡ Ok false) ↔ (old.kernel.place.transfers ≡ []))
    → (r ≡ Ok false → new ≡ old) → (r ≡ Ok true → IsDone (sources old holds) i old.kernel new.kernel) → ImageAfter (files_named old.images) old.kernel i j
    → LeadsFrom (LineAt old holds i events.Interrupt) (λ A s image. LineLeads A s old.kernel image new.kernel j)
interrupt_makes old new holds i j r false e idle still step after =
    subst (λ (m : Standing). LeadsFrom (LineAt old holds i events.Interrupt) (λ A s image. LineLeads A s old.kernel image m.kernel j)) (sym (still e)) (idle_makes old holds i j (idle.0 e) after)
interrupt_makes old new holds i j r true e idle still step after = done_makes old new holds i j (step e) after

pub interrupt_steady : (old new : Standing) (holds : Option (List NamedFile)) (i : Option SwapImage) (r : Result Bool Stop) (b : Bool) → IsSteady old → r ≡ Ok b
    → (r ≡ Ok false → new ≡ old)
    → (r ≡ Ok true → IsDone (sources old holds) i old.kernel new.kernel)
    → (r ≡ Ok true → new ≡ record old { kernel = new.kernel; room = None }) → CanGoOn new → StaysSteady old new 0
interrupt_steady old new holds i r false s e still step rest ready = subst (λ (m : Standing). StaysSteady old m 0) (sym (still e)) (steady_self old s)
interrupt_steady old new holds i r true s e still step rest ready =
    continues_steady old new 0 s (done_continues old new (sources old holds) i s.clear (step e) (rest e)) ready

some_flight : (stop : Stop) (ts : List Transfer) → (let r : Result Bool Stop = Err stop in StopsFor r ts) → 0 < length ts
some_flight stop (t ∷ ts) h = omega arith
some_flight stops.NoMemory [] h = h
some_flight stops.JournalFull [] h = h
some_flight stops.FileFault [] h = absurd h
some_flight stops.SwapReadFault [] h = absurd h
some_flight stops.SwapWriteFault [] h = absurd h

module _ (old new : Standing) (holds : Option (List NamedFile)) (i j : Option SwapImage) where
  interrupt_ends : (stop : Stop) → 0 < length old.kernel.place.transfers → StopsEnding old new i j stop
      → StopsFrom (LineAt old holds i events.Interrupt) old new j stop
  interrupt_ends stop some x A s image at =
      interrupt_stops A s old new holds image j stop at.machine at.clear at.mark (subst (λ (ts : List Transfer). 0 < length ts) (some_still A s old holds i image at) some)
      (subst (λ (o : Option SwapImage). StopsEnding old new o j stop) at.told x)

  pub interrupt_halts : (stop : Stop) → old.before ≡ old.kernel.holdings
      → HasStopped old new → (let r : Result Bool Stop = Err stop in StopsFor r old.kernel.place.transfers)
      → (let r : Result Bool Stop = Err stop in
      (r ≡ Err stops.JournalFull) ↔ ((0 < length old.kernel.place.transfers) × (old.params.journal ≤ length old.kernel.journal)))
      → (let r : Result Bool Stop = Err stop in LosesFor r old new) → (let r : Result Bool Stop = Err stop in SwapAfter r (files_named old.images) old.kernel i j)
      → StopsFrom (LineAt old holds i events.Interrupt) old new j stop
  interrupt_halts stop w h c f lost x =
      interrupt_ends stop (some_flight stop old.kernel.place.transfers c)
      (record {
        stopped = h;
        whole = w;
        full = (λ e. f.0 (ap (λ (s : Stop). let r : Result Bool Stop = Err s in r) e), λ e. same_error {T = Bool} stop stops.JournalFull (f.1 e));
        cause = c;
        lost = lost;
        image = x;
      })

  -- Moves of the hands.

  pub hands_make : (n made : ℕ) → Moved n old new made holds i j
      → LeadsFrom (LineAt old holds i (events.Hands n)) (λ A s image. LineLeads A s old.kernel image new.kernel j)
  hands_make n made m A s image at =
      hands_made A s old new holds image j n made at.machine at.clear at.mark (subst (λ (o : Option SwapImage). Moved n old new made holds o j) at.told m)

  pub hands_steady : (n made : ℕ) → IsSteady old → last_moves old.kernel.journal ≡ 0 → n ≤ 1000000 → Moved n old new made holds i j → CanGoOn new
      → StaysSteady old new 0
  hands_steady n made s first few m ready =
      moved_steady old new made s (moves_continue old new n made holds i j s.clear m) first (let most = m.most in omega arith) ready

  pub hands_halt : (n : ℕ) (stop : Stop) → StopsWhile (moving_hands n) old new holds i j stop → StopsFrom (LineAt old holds i (events.Hands n)) old new j stop
  hands_halt n stop x A s image at =
      hands_stop A s old new holds image j n stop at.machine at.clear at.mark (subst (λ (o : Option SwapImage). StopsWhile (moving_hands n) old new holds o j stop) at.told x)

  -- A turn of the swapper.

  pub swapper_makes : (t : Turned) → choice_of t ≡ swap_choice old.kernel.place (runners_of old.kernel) → Turns t old new holds i j
      → LeadsFrom (LineAt old holds i events.Swapper) (λ A s image. LineLeads A s old.kernel image new.kernel j)
  swapper_makes t c x A s image at =
      swapper_made A s old new holds image j t at.machine at.clear at.fit at.mark c (subst (λ (o : Option SwapImage). Turns t old new holds o j) at.told x)

  pub swapper_steady : (t : Turned) → IsSteady old → Turns t old new holds i j → CanGoOn new → StaysSteady old new 0
  swapper_steady t s x ready = continues_steady old new 0 s (turn_continues t old new holds i j s.clear x) ready

module _ (old new : Standing) (holds : Option (List NamedFile)) (i : Option SwapImage) where
  pub swapper_halts : (j : Option SwapImage) (stop : Stop)
      → ((t : Turned) × (choice_of t ≡ swap_choice old.kernel.place (runners_of old.kernel)) × StopsTurning t old new holds i j stop)
      → StopsFrom (LineAt old holds i events.Swapper) old new j stop
  swapper_halts j stop x A s image at =
      swapper_stops A s old new holds image j x.0 stop at.machine at.clear at.mark x.1 (subst (λ (o : Option SwapImage). StopsTurning x.0 old new holds o j stop) at.told x.2)

  -- Numbers of frames and blocks.

  pub audit_makes : new.kernel ≡ note_step old.kernel (owners_of old.kernel.place old.kernel.holdings)
      → LeadsFrom (LineAt old holds i events.Audit) (λ A s image. LineLeads A s old.kernel image new.kernel i)
  audit_makes k A s image at =
      subst (λ (o : Option SwapImage). LineLeads A s old.kernel image new.kernel o) (sym at.told) (audit_made A s old new.kernel holds image at.machine at.clear at.mark k)

  pub audit_halts : (stop : Stop) → StopsBefore old new stop → StopsFrom (LineAt old holds i events.Audit) old new i stop
  audit_halts stop x A s image at =
      subst (λ (o : Option SwapImage). StopLeads A s old.kernel image stop new o) (sym at.told) (audit_stops A s old new holds image stop at.machine at.clear at.mark x)
