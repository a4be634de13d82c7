-- Lines of the schedule, from their entries on.
use Rattle.std.proofs.Common.{◌≡◌, ℕ, ◌+◌, ◌≤◌, List, [], ◌∷◌, ◌++◌, Option, Some, refl, sym, ap, ◌∙◌, subst, arith}
use Rattle.std.proofs.lemmas.Option.{same_Some}
use Rattle.vm_facts.specs.SwapImages.{SwapImage}
use Rattle.vm_facts.specs.declared.entry.Entry.{Entry}
use Rattle.vm_facts.specs.declared.entry.Entry.TheVariants as entries
use Rattle.vm_facts.specs.declared.event.Event.{Event}
use Rattle.vm_facts.specs.declared.event.Event.TheVariants as events
use Rattle.vm_facts.specs.declared.stop.Stop.{Stop}
use Rattle.io_edge.specs.FileHolding.{NamedFile}
use Rattle.flat_state.specs.Flat.{Inputs}
use Rattle.page_model.specs.Placement.{Placement}
use Rattle.page_model.specs.Swapper.{swap_choice}
use Rattle.kernel_model.specs.Kernel.{note_step}
use Rattle.machine_state.specs.Machine.{Standing}
use Rattle.proc_run.specs.Stops.{StopsBefore}
use Rattle.flat_model.specs.Run.{Point}
use Rattle.run_model.specs.declared.mark.Mark.TheVariants as marks
use Rattle.run_model.specs.State.{State, runners}
use Rattle.run_model.specs.After.{interrupt_mark, swap_mark, mark_of_event}
use Rattle.economy_laws.proofs.RunLawsFinishing.{units_below}
use Rattle.economy_laws.proofs.Machines.{swaps_follow}
use Rattle.proc_run.specs.Leads.{Leads}
use Rattle.proc_run.proofs.Units.{both_lead}
use Rattle.proc_run.specs.Stepped.{StopLeads, LeadsFrom, StopsFrom}
use Rattle.proc_run.specs.Lines.{LineBegun, LineLeads}
use Rattle.proc_run.proofs.StepUnitsBeginning.{line_begins, line_stops}
use Rattle.proc_run.specs.Running.{CountsTo}
use Rattle.vm_core.specs.Accounts.{StopsAccounted, StopsAccountedFrom}
use Rattle.vm_core.specs.Steady.{StaysSteady}
use Rattle.vm_core.specs.Lines.{LineAt}
use Rattle.vm_core.specs.Cores.{Underway, StandsIn, CoreAt, LineDue, LineTaken, AskedAt, LineDueAt, LineDone}
use Rattle.vm_core.proofs.Accounts.{leads_accounted, leads_economical, leads_swapped, stop_accounted}
use Rattle.vm_core.proofs.Standing.{stands_on, leads_to_stop}

-- What a line asks for.

line_at : (A : Inputs) (s : State) (m : Standing) (holds : Option (List NamedFile)) (i : Option SwapImage) (image : SwapImage) (counted : ℕ) (e : Event)
    → AskedAt m holds i counted e A s image
    → LineAt m holds i e A s image
line_at A s m holds i image counted e at = record {
  machine = at.stands.machine;
  told = at.stands.told;
  clear = at.clear;
  mark = at.mark;
  fit = at.stands.longwords.fit;
}

pub makes_carries : (old new : Standing) (holds : Option (List NamedFile)) (i j : Option SwapImage) (counted : ℕ) (e : Event)
    → LeadsFrom (LineAt old holds i e) (λ A s image. LineLeads A s old.kernel image new.kernel j)
    → LeadsFrom (AskedAt old holds i counted e) (LineDone old new j counted)
makes_carries old new holds i j counted e f A s image at =
    let l = f A s image (line_at A s old holds i image counted e at) in
    record { units = l.units; state = l.state; leads = l.leads; over = l.over; unturned = l.unturned; counts = l.count ∙ at.stands.count; lines = l.lines }

-- After the entry of a line.

record Begun (A : Inputs) (s : State) (old : Underway) (mid : Standing) (holds : Option (List NamedFile)) (i : Option SwapImage) (image : SwapImage)
    (e : Event) : Type 0 where
  units : List Entry
  state : State
  leads : Leads A s old.machine.kernel image units state mid.kernel (Some image)
  at : AskedAt mid holds i old.counted e A state image
  lines : state.lines ≡ s.lines + 1

mark_still : (s t : State) (e : Event) → t.place ≡ s.place → t.point ≡ s.point → t.count ≡ s.count → mark_of_event s e ≡ mark_of_event t e
mark_still s t (events.Dispatch pid n) place point count = ap (λ (m : ℕ). marks.Dispatch pid n m) (sym count)
mark_still s t events.Interrupt place point count = ap (λ (p : Placement). interrupt_mark p.transfers) (sym place)
mark_still s t (events.Hands n) place point count = refl
mark_still s t events.Swapper place point count =
    ap (λ (p : Placement). swap_mark (swap_choice p (runners s.point.flat))) (sym place) ∙ ap (λ (x : Point). swap_mark (swap_choice t.place (runners x.flat))) (sym point)
mark_still s t events.Audit place point count = refl

module _ (A : Inputs) (s : State) (old : Underway) (holds : Option (List NamedFile)) (i : Option SwapImage) (image : SwapImage) (line : ℕ) (e : Event) (at : CoreAt A s old holds i image)
    (due : LineDue A s line e) where
  begun : (mid : Standing) → StaysSteady old.machine mid 0 → mid.kernel ≡ note_step old.machine.kernel (entries.Event line) → Begun A s old mid holds i image e
  begun mid stays k =
      let b : LineBegun A s old.machine.kernel image e mid.kernel =
      line_begins A s old.machine mid.kernel holds image e at.stands.machine at.over due.below due.event (k ∙ ap (λ (n : ℕ). note_step old.machine.kernel (entries.Event n)) (sym due.number)) in
      let stands = stands_on A s b.state old.machine mid holds i (Some image) image (entries.Event (s.lines + 1) ∷ []) old.counted old.counted at.stands b.leads stays.params stays.images
      (b.count ∙ at.stands.count)
      (let below = due.below in let same = at.stands.count in omega arith) in
      let same : b.leads.behind ≡ image = sym (same_Some image b.leads.behind b.leads.told) in
      record {
        units = entries.Event (s.lines + 1) ∷ [];
        state = b.state;
        leads = b.leads;
        at = record {
          stands = subst (λ (o : Option SwapImage). StandsIn A b.state mid holds o image old.counted) (sym at.stands.told)
              (subst (λ (y : SwapImage). StandsIn A b.state mid holds (Some image) y old.counted) same stands);
          clear = b.clear;
          mark = b.mark ∙ mark_still s b.state e b.place b.point b.count;
        };
        lines = b.lines;
      }

  taken : (mid new : Standing) (j : Option SwapImage) (count : ℕ) → StaysSteady old.machine mid 0 → mid.kernel ≡ note_step old.machine.kernel (entries.Event line)
      → LeadsFrom (AskedAt mid holds i old.counted e) (LineDone mid new j count)
      → CountsTo mid new old.counted count → LineTaken old (let u : Underway = record { machine = new; counted = count } in u) holds j A s image
  taken mid new j count stays k f to =
      let b = begun mid stays k in
      let d = f A b.state image b.at in
      let leads = both_lead A s b.state d.state old.machine.kernel mid.kernel new.kernel image (Some image) j b.units d.units b.leads
      (λ between same. subst (λ (y : SwapImage). Leads A b.state mid.kernel y d.units d.state new.kernel j) (same_Some image between same) d.leads) in
      let below : d.state.count ≤ A.limit =
      units_below A (b.units ++ d.units) s d.state (swaps_follow A (b.units ++ d.units) s d.state old.machine.kernel new.kernel image leads.behind leads.makes)
      (let less = due.below in omega arith) in
      let most : count ≤ A.limit = let same = d.counts in omega arith in
      record {
        units = b.units ++ d.units;
        state = d.state;
        behind = d.leads.behind;
        leads = leads;
        at = record {
          stands = stands_on A b.state d.state mid new holds i j image d.units old.counted count b.at.stands d.leads to.params to.images d.counts most;
          over = d.over;
          unturned = d.unturned;
        };
        lines = d.lines ∙ b.lines;
        account = leads_accounted A s d.state old.machine.kernel new.kernel image (b.units ++ d.units) j at.stands.machine.at leads;
        economy = leads_economical A s d.state old.machine.kernel new.kernel image (b.units ++ d.units) j at.stands.machine.at leads at.stands.crowd;
        swapped = leads_swapped A s d.state old.machine.kernel new.kernel image (b.units ++ d.units) j at.stands.machine.at leads d.leads.behind d.leads.told;
      }

  carrying_stops : (mid new : Standing) (j : Option SwapImage) (stop : Stop) → StaysSteady old.machine mid 0 → mid.kernel ≡ note_step old.machine.kernel (entries.Event line)
      → StopsFrom (AskedAt mid holds i old.counted e) mid new j stop
      → StopsAccounted A s old.machine.kernel image stop new j
  carrying_stops mid new j stop stays k f =
      let b = begun mid stays k in
      stop_accounted A s old.machine.kernel image stop new j at.stands.machine.at at.stands.crowd
      (leads_to_stop A s b.state old.machine.kernel mid.kernel image image b.units stop new j b.leads (f A b.state image b.at))

  noting_stops : (new : Standing) (stop : Stop) → StopsBefore old.machine new stop → StopsAccounted A s old.machine.kernel image stop new i
  noting_stops new stop x =
      stop_accounted A s old.machine.kernel image stop new i at.stands.machine.at at.stands.crowd
      (subst (λ (o : Option SwapImage). StopLeads A s old.machine.kernel image stop new o) (sym at.stands.told)
      (line_stops A s old.machine new holds image e stop at.stands.machine at.over due.below due.event x))

-- The whole line.

pub takes_line : (old : Underway) (mid new : Standing) (holds : Option (List NamedFile)) (i j : Option SwapImage) (line count : ℕ) (e : Event)
    → StaysSteady old.machine mid 0
    → mid.kernel ≡ note_step old.machine.kernel (entries.Event line) → LeadsFrom (AskedAt mid holds i old.counted e) (LineDone mid new j count)
    → CountsTo mid new old.counted count
    → LeadsFrom (LineDueAt old line e holds i) (LineTaken old (let u : Underway = record { machine = new; counted = count } in u) holds j)
takes_line old mid new holds i j line count e stays k f to A s image (at, due) = taken A s old holds i image line e at due mid new j count stays k f to

pub stops_carrying : (old after : Underway) (mid : Standing) (holds : Option (List NamedFile)) (i j : Option SwapImage) (line : ℕ) (e : Event) (stop : Stop)
    → StaysSteady old.machine mid 0
    → mid.kernel ≡ note_step old.machine.kernel (entries.Event line) → StopsFrom (AskedAt mid holds i old.counted e) mid after.machine j stop
    → StopsAccountedFrom (LineDueAt old line e holds i) old.machine after.machine j stop
stops_carrying old after mid holds i j line e stop stays k f A s image (at, due) = carrying_stops A s old holds i image line e at due mid after.machine j stop stays k f

pub stops_noted : (old after : Underway) (holds : Option (List NamedFile)) (i : Option SwapImage) (line : ℕ) (e : Event) (stop : Stop)
    → StopsBefore old.machine after.machine stop
    → StopsAccountedFrom (LineDueAt old line e holds i) old.machine after.machine i stop
stops_noted old after holds i line e stop x A s image (at, due) = noting_stops A s old holds i image line e at due after.machine stop x
