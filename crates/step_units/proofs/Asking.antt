-- What a line asks for but a turn of the swapper: the end of a transfer, moves of the hands, numbers.
use Rattle.std.proofs.Common.{◌≡◌, ℕ, ◌-◌, ◌<◌, ◌≤◌, List, [], ◌∷◌, length, Option, Some, refl, sym, ap, ◌∙◌, subst, Result, Err, arith}
use Rattle.vm_facts.specs.SwapImages.{SwapImage}
use Rattle.vm_facts.specs.declared.entry.Entry.{Entry}
use Rattle.vm_facts.specs.declared.entry.Entry.TheVariants as entries
use Rattle.vm_facts.specs.declared.stop.Stop.{Stop}
use Rattle.io_edge.specs.FileHolding.{NamedFile}
use Rattle.flat_state.specs.Flat.{Inputs}
use Rattle.page_model.specs.Placement.{Placement, Transfer}
use Rattle.page_model.specs.Hands.{wants_moves}
use Rattle.page_laws.proofs.Moves.Stays.{done_steady}
use Rattle.kernel_model.specs.Kernel.{Kernel, note_step}
use Rattle.kernel_model.specs.Requests.{ImageFile, image_done}
use Rattle.machine_state.specs.Machine.{Standing}
use Rattle.machine_state.specs.Sourced.{ImageNamed, files_named}
use Rattle.machine_state.specs.Done.{sources, IsDone, ImageAfter, SwapAfter, StopsEnding}
use Rattle.swapper.proofs.Stopping.{ending_left}
use Rattle.swapper.specs.Made.{ground}
use Rattle.swapper.specs.Stops.{StopsAt, StopsBefore, StopsWhile}
use Rattle.proc_calls.specs.Moved.{Moved, moving_hands}
use Rattle.proc_calls.specs.Spans.{moves_of}
use Rattle.run_model.specs.declared.mark.Mark.{Mark}
use Rattle.run_model.specs.declared.mark.Mark.TheVariants as marks
use Rattle.run_model.specs.State.{State}
use Rattle.run_model.specs.After.{after, completed, audited, interrupt_mark}
use Rattle.run_model.specs.Next.{under, move_unit, owners_of, last_turned, next_unit}
use Rattle.run_units.specs.Leads.{Leads}
use Rattle.run_units.specs.Moving.{AsksMoves, LeadsMoving}
use Rattle.run_units.proofs.Units.{one_made, leads_at}
use Rattle.run_units.proofs.Moving.{moving, move_next, moves_end}
use Rattle.run_units.proofs.Swapping.{line_asks, note_made}
use Rattle.step_units.specs.Machines.{MachineAt}
use Rattle.step_units.specs.Stepped.{StopLeads}
use Rattle.step_units.specs.Lines.{IsOver, IsClear, LineLeads}
use Rattle.step_units.proofs.Stopping.{stops_by, stops_behind, note_stops}
use Rattle.step_units.proofs.Beginning.{one_leads}
use Rattle.step_units.proofs.Entering.{longer}

-- The end of a transfer.

interrupts : (s : State) → s.mark ≡ interrupt_mark s.place.transfers → 0 < length s.place.transfers → s.mark ≡ marks.Interrupt
interrupts s m l = m ∙ go s.place.transfers l
  where
    go : (ts : List Transfer) → 0 < length ts → interrupt_mark ts ≡ marks.Interrupt
    go [] h = absurd (omega (arith, h))
    go (t ∷ ts) h = refl

pub idle_ends : (A : Inputs) (s : State) → IsClear s → s.mark ≡ interrupt_mark s.place.transfers → s.place.transfers ≡ [] → IsOver A s
idle_ends A s c m e = record { clear = c.clear; between = c.between; over = ap (under A s) (m ∙ ap interrupt_mark e) }

pub interrupt_made : (A : Inputs) (s : State) (old : Standing) (l : Kernel) (holds : Option (List NamedFile)) (image : SwapImage) (j : Option SwapImage)
    → MachineAt A s old holds image → IsClear s
    → s.mark ≡ interrupt_mark s.place.transfers → 0 < length s.place.transfers → IsDone (sources old holds) (Some image) old.kernel l
    → ImageAfter (files_named old.images) old.kernel (Some image) j
    → LineLeads A s old.kernel image l j
unfolding after
interrupt_made A s old l holds image j at c m n d i =
    let u : Entry = entries.Done in
    let is : s.mark ≡ marks.Interrupt = interrupts s m n in
    let next : next_unit A s ≡ Some u = (line_asks A s c.clear).1 is in
    record {
      units = u ∷ [];
      state = after A s u;
      leads = subst (λ (o : Option SwapImage). Leads A s old.kernel image (u ∷ []) (after A s u) l o)
          (sym (i ∙ ap (λ (files : List ImageFile). Some (image_done files old.kernel image)) at.images.1))
          (one_leads A s old.kernel l image j u next (one_made A (ground old holds []) s old.kernel l image j u at.images tt d i));
      over = record { clear = (done_steady s.place at.at.run.placed.sound.owner.frames).due ∙ c.clear; between = c.between; over = ap (under A (after A s u)) (ap completed is) };
      point = refl;
      count = refl;
      lines = refl;
      unturned = ap (λ (m : Mark). last_turned (completed m)) is;
    }

pub interrupt_stops : (A : Inputs) (s : State) (old new : Standing) (holds : Option (List NamedFile)) (image : SwapImage) (j : Option SwapImage) (stop : Stop)
    → MachineAt A s old holds image → IsClear s
    → s.mark ≡ interrupt_mark s.place.transfers → 0 < length s.place.transfers → StopsEnding old new (Some image) j stop
    → StopLeads A s old.kernel image stop new j
interrupt_stops A s old new holds image j stop at c m n x = record {
  units = [];
  state = s;
  kernel = old.kernel;
  behind = image;
  leads = Rattle.run_units.proofs.Units.none_leads A s old.kernel image;
  journal = x.stopped.journal;
  held = ending_left stop old new x.stopped x.whole (λ e. (x.full.0 e).1) x.lost;
  by = stops_by A s old.kernel image stop new j (record {
    entry = entries.Done;
    next = (line_asks A s c.clear).1 (interrupts s m n);
    full = λ is. (subst (λ (k : ℕ). k ≤ length old.kernel.journal) (sym (ap (λ p. p.journal) x.stopped.params)) (x.full.0 is).1, longer old.kernel.journal entries.Done);
    cause = x.cause;
    spoils = subst (λ (ns : List ImageNamed). SwapAfter (Err stop) (files_named ns) old.kernel (Some image) j) (sym x.stopped.images) x.image;
  });
}

-- Moves of the hands.

pub hands_made : (A : Inputs) (s : State) (old new : Standing) (holds : Option (List NamedFile)) (image : SwapImage) (j : Option SwapImage) (n made : ℕ)
    → MachineAt A s old holds image → IsClear s
    → s.mark ≡ marks.Hands n → Moved n old new made holds (Some image) j → LineLeads A s old.kernel image new.kernel j
hands_made A s old new holds image j n made at c m h =
    let asks : AsksMoves s n = record { mark = m; clear = c.clear } in
    let led : LeadsMoving A s old.kernel image n h.units new.kernel j = moving h.units A (ground old holds []) s old.kernel new.kernel image j n at.at at.images refl asks h.moves h.makes.made in
    let behind = leads_at A s led.state old.kernel new.kernel image led.leads.behind h.units at.at
    (subst (λ (o : Option SwapImage). Leads A s old.kernel image h.units led.state new.kernel o) led.leads.told led.leads) in
    record {
      units = h.units;
      state = led.state;
      leads = led.leads;
      over = record {
        clear = led.asks.clear;
        between = subst (λ p. Rattle.flat_model.specs.Run.IsBetween p.last) (sym led.point) c.between;
        over = moves_end A led.state (n - moves_of h.units) led.asks
            (λ l. ap wants_moves (sym behind.stands.place) ∙ h.fewer (let e = h.counted in let z = h.most in omega (arith, l, e, z)));
      };
      point = led.point;
      count = led.count;
      lines = led.lines;
      unturned = ap last_turned led.asks.mark;
    }

pub hands_stop : (A : Inputs) (s : State) (old new : Standing) (holds : Option (List NamedFile)) (image : SwapImage) (j : Option SwapImage) (n : ℕ)
    (stop : Stop)
    → MachineAt A s old holds image
    → IsClear s
    → s.mark ≡ marks.Hands n → StopsWhile (moving_hands n) old new holds (Some image) j stop → StopLeads A s old.kernel image stop new j
hands_stop A s old new holds image j n stop at c m h =
    let asks : AsksMoves s n = record { mark = m; clear = c.clear } in
    let led : LeadsMoving A s old.kernel image n h.units h.at h.image = moving h.units A (ground old holds []) s old.kernel h.at image h.image n at.at at.images refl asks h.leads.moves h.made in
    let leads = subst (λ (o : Option SwapImage). Leads A s old.kernel image h.units led.state h.at o) led.leads.told led.leads in
    let behind = leads_at A s led.state old.kernel h.at image led.leads.behind h.units at.at leads in
    stops_behind A s led.state old.kernel (record old { kernel = h.at }) image led.leads.behind h.units stop new j h.entry leads
    (move_next A led.state (n - moves_of h.units) led.asks (let l = h.leads.left in omega (arith, l)) (ap wants_moves (sym behind.stands.place) ∙ h.leads.wants)
    ∙ ap (λ (p : Placement). Some (move_unit p [])) (sym behind.stands.place) ∙ h.next)
    (subst (λ (o : Option SwapImage). StopsAt h.entry (record old { kernel = h.at }) new o j stop) led.leads.told h.stops)

-- Numbers.

audits : (A : Inputs) (s : State) (old : Standing) (holds : Option (List NamedFile)) (image : SwapImage) → MachineAt A s old holds image → IsClear s
    → s.mark ≡ marks.Audit
    → next_unit A s ≡ Some (owners_of old.kernel.place old.kernel.holdings)
audits A s old holds image at c m =
    (line_asks A s c.clear).2 m ∙ ap (λ (p : Placement). Some (owners_of p s.holdings)) (sym at.at.stands.place)
    ∙ ap (λ hs. Some (owners_of old.kernel.place hs)) (sym at.at.stands.holdings)

pub audit_made : (A : Inputs) (s : State) (old : Standing) (l : Kernel) (holds : Option (List NamedFile)) (image : SwapImage)
    → MachineAt A s old holds image → IsClear s → s.mark ≡ marks.Audit
    → l ≡ note_step old.kernel (owners_of old.kernel.place old.kernel.holdings) → LineLeads A s old.kernel image l (Some image)
unfolding after
audit_made A s old l holds image at c m e =
    let u : Entry = owners_of old.kernel.place old.kernel.holdings in
    record {
      units = u ∷ [];
      state = after A s u;
      leads = one_leads A s old.kernel l image (Some image) u (audits A s old holds image at c m) (note_made A s old.kernel l image u tt e);
      over = record { clear = c.clear; between = c.between; over = ap (under A (after A s u)) (ap audited m) };
      point = refl;
      count = refl;
      lines = refl;
      unturned = ap (λ (x : Mark). last_turned (audited x)) m;
    }

pub audit_stops : (A : Inputs) (s : State) (old new : Standing) (holds : Option (List NamedFile)) (image : SwapImage) (stop : Stop)
    → MachineAt A s old holds image → IsClear s → s.mark ≡ marks.Audit
    → StopsBefore old new stop → StopLeads A s old.kernel image stop new (Some image)
audit_stops A s old new holds image stop at c m x =
    note_stops A s old new image stop (owners_of old.kernel.place old.kernel.holdings) (audits A s old holds image at c m) tt x
