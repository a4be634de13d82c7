-- Turns of the closing phase, from their entries on.
use Rattle.std.proofs.Common.{◌≡◌, ℕ, ◌+◌, ◌<◌, ◌≤◌, nat_lt, ◌&&◌, true, false, List, [], ◌∷◌, ◌++◌, length, Option, Some, refl, sym, ap, ◌∙◌, subst, arith}
use Rattle.std.proofs.lemmas.Bool.{and_parts, ltb-true}
use Rattle.std.proofs.lemmas.Option.{same_Some}
use Rattle.vm_facts.specs.SwapImages.{SwapImage}
use Rattle.vm_facts.specs.declared.entry.Entry.{Entry}
use Rattle.vm_facts.specs.declared.entry.Entry.TheVariants as entries
use Rattle.vm_facts.specs.declared.stop.Stop.{Stop}
use Rattle.io_edge.specs.FileHolding.{NamedFile}
use Rattle.flat_state.specs.Flat.{Inputs, can_step}
use Rattle.page_model.specs.Swapper.{is_out}
use Rattle.page_model.specs.Placement.{Placement}
use Rattle.kernel_model.specs.Kernel.{Kernel, note_step}
use Rattle.machine_state.specs.Machine.{Standing}
use Rattle.machine_state.specs.Swapping.{AsksU, IsIn}
use Rattle.proc_run.specs.Stops.{StopsAt, StopsBefore}
use Rattle.run_model.specs.State.{State}
use Rattle.run_model.specs.Next.{goes_on, turn_instructions}
use Rattle.proc_run.specs.Leads.{Leads}
use Rattle.proc_run.proofs.Units.{none_leads, both_lead}
use Rattle.proc_run.specs.Stepped.{StopLeads, LeadsFrom, StopsFrom}
use Rattle.proc_run.specs.Lines.{TurnDue, TurnBegun, CameIn}
use Rattle.proc_run.proofs.StepUnitsBeginning.{turn_stops}
use Rattle.proc_run.proofs.Turning.{turn_begins, comes_in, coming_in_stops}
use Rattle.run_model.specs.declared.mark.Mark.TheVariants as marks
use Rattle.economy_laws.proofs.RunLawsFinishing.{units_below}
use Rattle.economy_laws.proofs.Machines.{swaps_follow}
use Rattle.proc_run.specs.Running.{CountsTo}
use Rattle.vm_core.specs.Steady.{StaysSteady}
use Rattle.vm_core.specs.Cores.{StandsIn}
use Rattle.vm_core.specs.Closing.{TurnAt, ResidentTurn, DueTurn, InTurn, TurnDone, TurnHad}
use Rattle.vm_core.proofs.Standing.{stands_on, leads_to_stop}

-- next units count no more than may be
few_counted : (A : Inputs) (s t : State) (old : Standing) (holds : Option (List NamedFile)) (i : Option SwapImage) (image : SwapImage) (us : List Entry)
    (l : Kernel) (j : Option SwapImage) → s.count ≤ A.limit
    → Leads A s old.kernel image us t l j → t.count ≤ A.limit
few_counted A s t old holds i image us l j below a = units_below A us s t (swaps_follow A us s t old.kernel l image a.behind a.makes) below

-- A process comes in.

-- one that is in has its turn at once
pub in_already : (m : Standing) (pid counted since : ℕ) (holds : Option (List NamedFile)) (i : Option SwapImage)
    → ((A : Inputs) (s : State) (image : SwapImage) → TurnAt m holds i counted since pid A s image → is_out s.place pid ≡ false)
    → LeadsFrom (TurnAt m holds i counted since pid) (InTurn m m holds i counted since pid)
in_already m pid counted since holds i f A s image at = record {
  units = [];
  state = s;
  behind = image;
  leads = subst (λ (o : Option SwapImage). Leads A s m.kernel image [] s m.kernel o) (sym at.stands.told) (none_leads A s m.kernel image);
  at = at;
  resident = f A s image at;
  lines = refl;
}

out_there : (A : Inputs) (s : State) (m : Standing) (holds : Option (List NamedFile)) (i : Option SwapImage) (image : SwapImage) (counted since pid : ℕ)
    → TurnAt m holds i counted since pid A s image → is_out m.kernel.place pid ≡ true
    → is_out s.place pid ≡ true
out_there A s m holds i image counted since pid at o = ap (λ (p : Placement). is_out p pid) (sym at.stands.machine.at.stands.place) ∙ o

pub in_comes : (old new : Standing) (pid counted since : ℕ) (holds : Option (List NamedFile)) (i j : Option SwapImage) → is_out old.kernel.place pid ≡ true
    → IsIn old.kernel new.kernel pid i → new.params ≡ old.params
    → new.images ≡ old.images → AsksU old.kernel pid i j → LeadsFrom (TurnAt old holds i counted since pid) (InTurn old new holds j counted since pid)
in_comes old new pid counted since holds i j o is params images asks A s image at =
    let c : CameIn A s old.kernel image pid since new.kernel j =
    comes_in A s old new holds image j pid since at.stands.machine at.clear at.mark at.on (out_there A s old holds i image counted since pid at o)
    (subst (λ (x : Option SwapImage). IsIn old.kernel new.kernel pid x) at.stands.told is)
    (subst (λ (x : Option SwapImage). AsksU old.kernel pid x j) at.stands.told asks) in
    record {
      units = entries.SwapIn pid ∷ [];
      state = c.state;
      behind = c.leads.behind;
      leads = c.leads;
      at = record {
        stands = stands_on A s c.state old new holds i j image (entries.SwapIn pid ∷ []) counted counted at.stands c.leads params images (c.count ∙ at.stands.count)
            (below A s old holds i image counted since pid at);
        clear = c.clear;
        mark = c.mark;
        on = c.on;
        lines = subst (λ (n : ℕ). length A.lines ≤ n) (sym c.lines) at.lines;
      };
      resident = c.resident;
      lines = c.lines;
    }
  where
    below : (A : Inputs) (s : State) (old : Standing) (holds : Option (List NamedFile)) (i : Option SwapImage) (image : SwapImage) (counted since pid : ℕ)
        → TurnAt old holds i counted since pid A s image → counted ≤ A.limit
    below A s old holds i image counted since pid at =
        let two = and_parts (can_step s.point.flat pid) (nat_lt s.count A.limit && nat_lt s.count (since + turn_instructions)) at.on in
        let l : s.count < A.limit = ltb-true s.count A.limit (and_parts (nat_lt s.count A.limit) (nat_lt s.count (since + turn_instructions)) two.1).0 in
        let same = at.stands.count in
        omega arith

pub in_stops : (old new : Standing) (pid counted since : ℕ) (holds : Option (List NamedFile)) (i j : Option SwapImage) (stop : Stop)
    → is_out old.kernel.place pid ≡ true → StopsAt (entries.SwapIn pid) old new i j stop
    → StopsFrom (TurnAt old holds i counted since pid) old new j stop
in_stops old new pid counted since holds i j stop o x A s image at =
    coming_in_stops A s old new holds image j pid since stop at.stands.machine at.clear at.mark at.on (out_there A s old holds i image counted since pid at o)
    (subst (λ (y : Option SwapImage). StopsAt (entries.SwapIn pid) old new y j stop) at.stands.told x)

-- The entry of a turn.

record TurnStarts (A : Inputs) (s : State) (old mid : Standing) (holds : Option (List NamedFile)) (i : Option SwapImage) (image : SwapImage)
    (counted pid : ℕ) : Type 0 where
  state : State
  leads : Leads A s old.kernel image (entries.Turn pid ∷ []) state mid.kernel (Some image)
  at : TurnAt mid holds i counted counted pid A state image
  lines : state.lines ≡ s.lines

turn_starts : (A : Inputs) (s : State) (old mid : Standing) (holds : Option (List NamedFile)) (i : Option SwapImage) (image : SwapImage) (counted pid : ℕ)
    → StandsIn A s old holds i image counted → TurnDue A s pid
    → StaysSteady old mid 0 → mid.kernel ≡ note_step old.kernel (entries.Turn pid) → TurnStarts A s old mid holds i image counted pid
turn_starts A s old mid holds i image counted pid st due stays k =
    let b : TurnBegun A s old.kernel image pid mid.kernel = turn_begins A s old mid.kernel holds image pid st.machine due k in
    let stands = stands_on A s b.state old mid holds i (Some image) image (entries.Turn pid ∷ []) counted counted st b.leads stays.params stays.images (b.count ∙ st.count)
    (let below = due.below in let same = st.count in omega arith) in
    let same : b.leads.behind ≡ image = sym (same_Some image b.leads.behind b.leads.told) in
    record {
      state = b.state;
      leads = b.leads;
      at = record {
        stands = subst (λ (o : Option SwapImage). StandsIn A b.state mid holds o image counted) (sym st.told)
            (subst (λ (y : SwapImage). StandsIn A b.state mid holds (Some image) y counted) same stands);
        clear = b.clear;
        mark = b.mark ∙ ap (λ (n : ℕ). marks.Turn pid n) st.count;
        on = subst (λ (n : ℕ). goes_on A b.state pid (n + turn_instructions) ≡ true) st.count b.on;
        lines = subst (λ (n : ℕ). length A.lines ≤ n) (sym b.lines) (let e = due.lines in omega arith);
      };
      lines = b.lines;
    }

-- The whole turn.

pub has_turn : (old mid in_ new : Standing) (pid counted count : ℕ) (holds : Option (List NamedFile)) (i h j : Option SwapImage) → StaysSteady old mid 0
    → mid.kernel ≡ note_step old.kernel (entries.Turn pid)
    → LeadsFrom (TurnAt mid holds i counted counted pid) (InTurn mid in_ holds h counted counted pid)
    → LeadsFrom (ResidentTurn in_ holds h counted counted pid) (TurnDone in_ new j pid count) → CountsTo in_ new counted count
    → LeadsFrom (DueTurn old holds i counted pid) (TurnHad old new holds j pid count)
has_turn old mid in_ new pid counted count holds i h j stays k came finishes to A s image (st, due) =
    let b = turn_starts A s old mid holds i image counted pid st due stays k in
    let c = came A b.state image b.at in
    let d = finishes A c.state c.behind (c.at, c.resident) in
    let begun : Leads A s old.kernel image (entries.Turn pid ∷ c.units) c.state in_.kernel (Some c.behind) =
    subst (λ (o : Option SwapImage). Leads A s old.kernel image (entries.Turn pid ∷ c.units) c.state in_.kernel o) c.at.stands.told
    (both_lead A s b.state c.state old.kernel mid.kernel in_.kernel image (Some image) h (entries.Turn pid ∷ []) c.units b.leads
    (λ between same. subst (λ (y : SwapImage). Leads A b.state mid.kernel y c.units c.state in_.kernel h) (same_Some image between same) c.leads)) in
    let leads = both_lead A s c.state d.state old.kernel in_.kernel new.kernel image (Some c.behind) j (entries.Turn pid ∷ c.units) d.units begun
    (λ between same. subst (λ (y : SwapImage). Leads A c.state in_.kernel y d.units d.state new.kernel j) (same_Some c.behind between same) d.leads) in
    let most : d.state.count ≤ A.limit = few_counted A s d.state old holds i image (entries.Turn pid ∷ (c.units ++ d.units)) new.kernel j (let below = due.below in omega arith) leads in
    record {
      more = c.units ++ d.units;
      state = d.state;
      behind = d.leads.behind;
      leads = leads;
      stands = stands_on A c.state d.state in_ new holds h j c.behind d.units counted count c.at.stands d.leads to.params to.images d.counts (let same = d.counts in omega arith);
      over = d.over;
      lines = d.lines ∙ c.lines ∙ b.lines;
      turned = d.turned;
    }

pub turn_noting_stops : (old new : Standing) (pid counted : ℕ) (holds : Option (List NamedFile)) (i : Option SwapImage) (stop : Stop) → StopsBefore old new stop
    → StopsFrom (DueTurn old holds i counted pid) old new i stop
turn_noting_stops old new pid counted holds i stop x A s image (st, due) =
    subst (λ (o : Option SwapImage). StopLeads A s old.kernel image stop new o) (sym st.told) (turn_stops A s old new holds image pid stop st.machine due x)

pub turn_coming_stops : (old mid new : Standing) (pid counted : ℕ) (holds : Option (List NamedFile)) (i j : Option SwapImage) (stop : Stop)
    → StaysSteady old mid 0 → mid.kernel ≡ note_step old.kernel (entries.Turn pid)
    → StopsFrom (TurnAt mid holds i counted counted pid) mid new j stop → StopsFrom (DueTurn old holds i counted pid) old new j stop
turn_coming_stops old mid new pid counted holds i j stop stays k f A s image (st, due) =
    let b = turn_starts A s old mid holds i image counted pid st due stays k in
    leads_to_stop A s b.state old.kernel mid.kernel image image (entries.Turn pid ∷ []) stop new j b.leads (f A b.state image b.at)

pub turn_finish_stops : (old mid in_ new : Standing) (pid counted : ℕ) (holds : Option (List NamedFile)) (i h j : Option SwapImage) (stop : Stop)
    → StaysSteady old mid 0 → mid.kernel ≡ note_step old.kernel (entries.Turn pid)
    → LeadsFrom (TurnAt mid holds i counted counted pid) (InTurn mid in_ holds h counted counted pid)
    → StopsFrom (ResidentTurn in_ holds h counted counted pid) in_ new j stop → StopsFrom (DueTurn old holds i counted pid) old new j stop
turn_finish_stops old mid in_ new pid counted holds i h j stop stays k came f A s image (st, due) =
    let b = turn_starts A s old mid holds i image counted pid st due stays k in
    let c = came A b.state image b.at in
    let leads = subst (λ (o : Option SwapImage). Leads A b.state mid.kernel image c.units c.state in_.kernel o) c.at.stands.told c.leads in
    leads_to_stop A s b.state old.kernel mid.kernel image image (entries.Turn pid ∷ []) stop new j b.leads
    (leads_to_stop A b.state c.state mid.kernel in_.kernel image c.behind c.units stop new j leads (f A c.state c.behind (c.at, c.resident)))
