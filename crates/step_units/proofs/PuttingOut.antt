-- A turn of the swapper.
use Rattle.std.proofs.Common.{◌≡◌, ℕ, ◌+◌, ◌==◌, Bool, true, false, cond, List, [], ◌∷◌, ◌++◌, length, find, Option, Some, None, refl, sym, ap, ◌∙◌, subst, arith}
use Rattle.std.proofs.lemmas.Option.{same_Some}
use Rattle.vm_facts.specs.SwapImages.{SwapImage}
use Rattle.vm_facts.specs.declared.entry.Entry.{Entry}
use Rattle.vm_facts.specs.declared.entry.Entry.TheVariants as entries
use Rattle.vm_facts.specs.declared.stop.Stop.{Stop}
use Rattle.io_edge.specs.FileHolding.{NamedFile}
use Rattle.flat_state.specs.Space.{Space}
use Rattle.flat_state.specs.Flat.{Holding, Holds, Lends, Zombie, Process, FlatState, Inputs, process_of}
use Rattle.page_model.specs.Placement.{Placement}
use Rattle.page_model.specs.Pages.{numbered}
use Rattle.page_model.specs.Place.{place_entry, space_of_holding, space_of_process}
use Rattle.page_model.specs.PuttingOut.{PutsOut}
use Rattle.page_model.specs.Swapper.{is_out, swap_choice, put_out_unit}
use Rattle.kernel_model.specs.Kernel.{Kernel, Proc, HoldsSpace, life_of, out_step}
use Rattle.kernel_model.specs.ChangeStep.{life_of_proc}
use Rattle.kernel_model.specs.Coupled.{Outline, KeepsRegs, SameTables}
use Rattle.kernel_model.specs.UPage.{AreRegs}
use Rattle.kernel_model.specs.Unit.{proc_of}
use Rattle.machine_state.specs.Machine.{Standing}
use Rattle.machine_state.specs.Calls.{life_in}
use Rattle.machine_state.specs.Swapping.{WritesU, AsksU, IsIn}
use Rattle.kernel_laws.proofs.Flat.Lists.{pid_of, found_is}
use Rattle.kernel_laws.proofs.Machine.Tables.{kept_pid, outlines_at, outline_at}
use Rattle.kernel_laws.proofs.Machine.Swaps.{found_at}
use Rattle.flat_model.specs.Run.{Point, IsBetween}
use Rattle.swapper.specs.Made.{Ground, ground, MadeBy, Made}
use Rattle.swapper.specs.Stops.{StopsAt, StopsWhile}
use Rattle.swapper.proofs.PagingUnitsUnits.{unit_place}
use Rattle.swapper.specs.declared.Turned.{Turned}
use Rattle.swapper.specs.declared.Turned.TheVariants as turns
use Rattle.swapper.specs.Runners.{runners_of, choice_of}
use Rattle.swapper.specs.Putting.{HoldsThere, PutOut, putting_out}
use Rattle.swapper.specs.Turns.{Turns, StopsTurning}
use Rattle.run_laws.specs.Longwords.{ProcessesFit}
use Rattle.run_model.specs.declared.mark.Mark.{Mark}
use Rattle.run_model.specs.declared.mark.Mark.TheVariants as marks
use Rattle.run_model.specs.State.{State, runners}
use Rattle.run_model.specs.After.{after, swap_mark, put_out, brought_in}
use Rattle.run_model.specs.Next.{under, last_turned, next_unit}
use Rattle.run_units.specs.Leads.{Leads, MadeAs}
use Rattle.run_units.specs.Serving.{At}
use Rattle.run_units.specs.Swapping.{PutsProcess, LeadsPutting}
use Rattle.run_units.proofs.Units.{none_leads, both_lead, leads_at}
use Rattle.run_units.proofs.Swapping.{putting, put_next, out_made, in_made, line_asks}
use Rattle.step_units.specs.Machines.{MachineAt}
use Rattle.step_units.specs.Stepped.{StopLeads}
use Rattle.step_units.specs.Lines.{IsClear, LineLeads}
use Rattle.step_units.proofs.Stopping.{stops_here, stops_behind}
use Rattle.step_units.proofs.Beginning.{one_leads}
use Rattle.step_units.proofs.Choosing.{runners_same}

-- the mark is that of the choice that was made
chosen_mark : (A : Inputs) (s : State) (old : Standing) (holds : Option (List NamedFile)) (image : SwapImage) (t : Turned) → MachineAt A s old holds image
    → s.mark ≡ swap_mark (swap_choice s.place (runners s.point.flat)) → choice_of t ≡ swap_choice old.kernel.place (runners_of old.kernel)
    → s.mark ≡ swap_mark (choice_of t)
chosen_mark A s old holds image t at m c =
    m ∙ ap swap_mark (ap (swap_choice s.place) (sym (runners_same old.kernel s.point.flat at.at.stands.keeps.coupled.tables))
    ∙ ap (λ (p : Placement). swap_choice p (runners_of old.kernel)) (sym at.at.stands.place) ∙ sym c)

-- Putting out in two parts.

record Parted (us vs : List Entry) (at : ℕ) (p : Placement) (pid sid : ℕ) (r : Placement) : Type 0 where
  between : Placement
  first : PutsOut us at p pid sid between
  behind : PutsOut vs (at + length us) between pid sid r

parted : (us vs : List Entry) (at : ℕ) (p : Placement) (pid sid : ℕ) (r : Placement) → PutsOut (us ++ vs) at p pid sid r → Parted us vs at p pid sid r
parted [] vs at p pid sid r h = record { between = p; first = refl; behind = subst (λ (n : ℕ). PutsOut vs n p pid sid r) (let e : at ≡ at + 0 = omega arith in e) h }
parted (u ∷ us) vs at p pid sid r h =
    let more = parted us vs (at + 1) (place_entry [] (at + 1) p u) pid sid r h.2 in
    record {
      between = more.between;
      first = (h.0, h.1, more.first);
      behind = subst (λ (n : ℕ). PutsOut vs n more.between pid sid r) (let e : (at + 1) + length us ≡ at + length (u ∷ us) = omega arith in e) more.behind;
    }

-- a unit of paging leaves no place in the journal in the placement
anywhere : (g : Ground) (e : Entry) (k l : Kernel) (i : Option SwapImage) (n m : ℕ) (p : Placement) → MadeBy g e k i l
    → place_entry [] n p e ≡ place_entry [] m p e
anywhere g (entries.Zero q) k l i n m p h = refl
anywhere g (entries.Copy q) k l i n m p h = refl
anywhere g (entries.Get q lo c) k l i n m p h = refl
anywhere g (entries.Reclaim q) k l i n m p h = refl
anywhere g (entries.Hands c) k l i n m p h = refl
anywhere g (entries.Put q c) k l i n m p h = refl
anywhere g entries.Done k l i n m p h = refl
anywhere g _ k l i n m p h = absurd h

made_place : (us : List Entry) (g : Ground) (k l : Kernel) (i j : Option SwapImage) (at pid sid : ℕ) (r : Placement) → g.locked ≡ []
    → Made g us k i l j → PutsOut us at k.place pid sid r → r ≡ l.place
made_place [] g k l i j at pid sid r e m h = sym h ∙ ap (λ (x : Kernel). x.place) m.0
made_place (u ∷ us) g k l i j at pid sid r e m h =
    let here : place_entry [] (at + 1) k.place u ≡ m.next.place =
    anywhere g u k m.next i (at + 1) (length (Rattle.flat_state.specs.Journal.append k.journal u)) k.place m.made
    ∙ ap (λ qs. place_entry qs (length (Rattle.flat_state.specs.Journal.append k.journal u)) k.place u) (sym e) ∙ sym (unit_place g u k m.next i m.made) in
    made_place us g m.next l m.image j (at + 1) pid sid r e m.rest (subst (λ (y : Placement). PutsOut us (at + 1) y pid sid r) here h.2)

-- Who goes out, in the flat machine.

-- the process that holds a space in the machine holds it in the flat state
record Holder (flat : FlatState) (pid sid : ℕ) : Type 0 where
  process : Process
  space : Space
  here : process_of flat pid ≡ Some process
  holds : process.holding ≡ Holds space
  own : space.sid ≡ sid

holder_by : (flat : FlatState) (pid sid : ℕ) (q : Process) (h : Holding) → process_of flat pid ≡ Some q → q.holding ≡ h → life_of h ≡ HoldsSpace sid
    → Holder flat pid sid
holder_by flat pid sid q (Holds x) f e l = record { process = q; space = x; here = f; holds = e; own = cc }
holder_by flat pid sid q (Lends x child) f e l = absurd cc
holder_by flat pid sid q (Zombie status) f e l = absurd cc

holder : (k : Kernel) (flat : FlatState) (pid sid : ℕ) → SameTables k flat → life_in k pid ≡ HoldsSpace sid → Holder flat pid sid
holder k flat pid sid t l = kept (numbered kept_pid pid k.processes) refl
  where
    seen : (p : Proc) → numbered kept_pid pid k.processes ≡ Some p → p.life ≡ HoldsSpace sid → (o : Option Process) → numbered pid_of pid flat.processes ≡ o → Holder flat pid sid
    seen p e h None f = absurd (let x = outlines_at k.processes flat.processes t.processes pid in cc)
    seen p e h (Some q) f =
        holder_by flat pid sid q q.holding (found_is flat.processes pid ∙ f) refl (sym (ap (λ (x : Outline). x.life) (outline_at k.processes flat.processes t.processes pid p q e f)) ∙ h)

    kept : (o : Option Proc) → numbered kept_pid pid k.processes ≡ o → Holder flat pid sid
    kept None e = absurd (let x = sym (ap life_of_proc e) ∙ l in cc)
    kept (Some p) e = seen p e (sym (ap life_of_proc e) ∙ l) (numbered pid_of pid flat.processes) refl

own_space : (flat : FlatState) (pid sid : ℕ) → Holder flat pid sid → space_of_process (process_of flat pid) ≡ sid
own_space flat pid sid h = ap space_of_process h.here ∙ ap space_of_holding h.holds ∙ h.own

-- its registers are longwords
fits_found : (qs : List Process) (pid : ℕ) (q : Process) → ProcessesFit qs → find (λ (x : Process). x.pid == pid) qs ≡ Some q → AreRegs q.regs
fits_found [] pid q h e = absurd cc
fits_found (x ∷ qs) pid q h e = go (fits_found qs pid q h.1) (x.pid == pid) e
  where
    go : (find (λ (y : Process). y.pid == pid) qs ≡ Some q → AreRegs q.regs) → (b : Bool) → cond b (Some x) (find (λ (y : Process). y.pid == pid) qs) ≡ Some q → AreRegs q.regs
    go later true k = let same : x ≡ q = cc in subst (λ (y : Process). AreRegs y.regs) same h.0.0
    go later false k = later k

kept_registers : (A : Inputs) (s : State) (k : Kernel) (image : SwapImage) (pid sid : ℕ) → At A s k image → Holder s.point.flat pid sid
    → is_out s.place pid ≡ false → ProcessesFit s.point.flat.processes
    → (p : Proc) → proc_of k pid ≡ Some p → AreRegs p.regs
kept_registers A s k image pid sid at h o fit p e =
    let number : h.process.pid ≡ pid = (found_at s.point.flat pid h.process h.here).0 in
    let resident : is_out k.place h.process.pid ≡ false = ap (is_out k.place) number ∙ ap (λ (y : Placement). is_out y pid) at.stands.place ∙ o in
    let regs = at.stands.keeps.coupled.regs h.process p (ap (process_of s.point.flat) number ∙ h.here) (ap (proc_of k) number ∙ e) in
    let same : p.regs ≡ h.process.regs = subst (λ (b : Bool). KeepsRegs k image.bytes b h.process p.regs (space_of_holding h.process.holding)) resident regs in
    subst AreRegs (sym same) (fits_found s.point.flat.processes pid h.process fit h.here)

-- What the swapper does.

nothing_made : (A : Inputs) (s : State) (old new : Standing) (image : SwapImage) (j : Option SwapImage) → IsClear s → s.mark ≡ marks.Over → new ≡ old
    → j ≡ Some image
    → LineLeads A s old.kernel image new.kernel j
nothing_made A s old new image j c m e i = record {
  units = [];
  state = s;
  leads = subst (λ (n : Standing). Leads A s old.kernel image [] s n.kernel j) (sym e)
      (subst (λ (o : Option SwapImage). Leads A s old.kernel image [] s old.kernel o) (sym i) (none_leads A s old.kernel image));
  over = record { clear = c.clear; between = c.between; over = ap (under A s) m };
  point = refl;
  count = refl;
  lines = refl;
  unturned = ap last_turned m;
}

pub in_comes : (A : Inputs) (s : State) (old new : Standing) (image : SwapImage) (j : Option SwapImage) (pid : ℕ) → IsClear s → s.mark ≡ marks.BringIn pid
    → IsIn old.kernel new.kernel pid (Some image)
    → AsksU old.kernel pid (Some image) j → LineLeads A s old.kernel image new.kernel j
unfolding after
in_comes A s old new image j pid c m i a =
    let u : Entry = entries.SwapIn pid in
    let made : MadeAs A s old.kernel image u new.kernel j = in_made A s old.kernel new.kernel image j pid i a in
    record {
      units = u ∷ [];
      state = after A s u;
      leads = subst (λ (o : Option SwapImage). Leads A s old.kernel image (u ∷ []) (after A s u) new.kernel o) (sym made.told)
          (one_leads A s old.kernel new.kernel image j u ((line_asks A s c.clear).0 pid m) made);
      over = record { clear = c.clear; between = c.between; over = ap (under A (after A s u)) (ap brought_in m) };
      point = refl;
      count = refl;
      lines = refl;
      unturned = ap (λ (x : Mark). last_turned (brought_in x)) m;
    }

puts_process : (s : State) (k : Kernel) (pid sid : ℕ) → IsClear s → s.mark ≡ marks.PutOut pid → Holder s.point.flat pid sid → PutsProcess s pid sid
puts_process s k pid sid c m h = record { mark = m; clear = c.clear; own = own_space s.point.flat pid sid h }

-- after the units that put a process out it goes out
last_out : (A : Inputs) (s : State) (k l : Kernel) (image : SwapImage) (j : Option SwapImage) (pid sid : ℕ) → At A s k image → IsBetween s.point.last
    → PutsProcess s pid sid → Holder s.point.flat pid sid
    → is_out s.place pid ≡ false → ProcessesFit s.point.flat.processes → entries.SwapOut pid ≡ put_out_unit s.place pid sid → l ≡ out_step k pid
    → WritesU k pid (Some image) j → LineLeads A s k image l j
unfolding after
last_out A s k l image j pid sid at b p h o fit e step w =
    let u : Entry = entries.SwapOut pid in
    let next : next_unit A s ≡ Some u = put_next A s pid sid p ∙ ap (λ (x : Entry). Some x) (sym e) in
    let made : MadeAs A s k image u l j = out_made A s k l image j pid (kept_registers A s k image pid sid at h o fit) step w in
    record {
      units = u ∷ [];
      state = after A s u;
      leads = subst (λ (x : Option SwapImage). Leads A s k image (u ∷ []) (after A s u) l x) (sym made.told) (one_leads A s k l image j u next made);
      over = record { clear = p.clear; between = b; over = ap (under A (after A s u)) (ap put_out p.mark) };
      point = refl;
      count = refl;
      lines = refl;
      unturned = ap (λ (x : Mark). last_turned (put_out x)) p.mark;
    }

pub out_comes : (A : Inputs) (s : State) (old new : Standing) (holds : Option (List NamedFile)) (image : SwapImage) (j : Option SwapImage) (pid sid : ℕ)
    → MachineAt A s old holds image → IsClear s
    → ProcessesFit s.point.flat.processes → s.mark ≡ marks.PutOut pid → HoldsThere old.kernel pid sid → PutOut pid sid old new holds (Some image) j
    → LineLeads A s old.kernel image new.kernel j
out_comes A s old new holds image j pid sid at c fit m there o =
    let g : Ground = ground old holds [] in
    let n : ℕ = length old.kernel.journal in
    let h : Holder s.point.flat pid sid = holder old.kernel s.point.flat pid sid at.at.stands.keeps.coupled.tables there.holds in
    let x : Parted o.units (entries.SwapOut pid ∷ []) n old.kernel.place pid sid new.kernel.place = parted o.units (entries.SwapOut pid ∷ []) n old.kernel.place pid sid new.kernel.place o.puts in
    let same : x.between ≡ o.at.place = made_place o.units g old.kernel o.at (Some image) o.image n pid sid x.between refl o.made x.first in
    let led : LeadsPutting A s old.kernel image pid sid o.units o.at o.image =
    putting o.units A g s old.kernel o.at image o.image pid sid n at.at at.images (puts_process s old.kernel pid sid c m h)
    (subst (λ (y : Placement). PutsOut o.units n old.kernel.place pid sid y) same x.first) o.made in
    let b : SwapImage = led.leads.behind in
    let leads : Leads A s old.kernel image o.units led.state o.at (Some b) = subst (λ (z : Option SwapImage). Leads A s old.kernel image o.units led.state o.at z) led.leads.told led.leads in
    let behind : At A led.state o.at b = leads_at A s led.state old.kernel o.at image b o.units at.at leads in
    let here : x.between ≡ led.state.place = same ∙ behind.stands.place in
    let more : LineLeads A led.state o.at b new.kernel j =
    last_out A led.state o.at new.kernel b j pid sid behind (subst (λ (p : Point). IsBetween p.last) (sym led.same.point) c.between) led.puts
    (subst (λ (p : Point). Holder p.flat pid sid) (sym led.same.point) h) (ap (λ (y : Placement). is_out y pid) (sym here) ∙ x.behind.0)
    (subst (λ (p : Point). ProcessesFit p.flat.processes) (sym led.same.point) fit) (x.behind.1 ∙ ap (λ (y : Placement). put_out_unit y pid sid) here) o.step
    (subst (λ (z : Option SwapImage). WritesU o.at pid z j) led.leads.told o.wrote) in
    record {
      units = o.units ++ more.units;
      state = more.state;
      leads = both_lead A s led.state more.state old.kernel o.at new.kernel image (Some b) j o.units more.units leads
          (λ z e. subst (λ (y : SwapImage). Leads A led.state o.at y more.units more.state new.kernel j) (same_Some b z e) more.leads);
      over = more.over;
      point = more.point ∙ led.same.point;
      count = more.count ∙ led.same.count;
      lines = more.lines ∙ led.same.lines;
      unturned = more.unturned;
    }

module _ (A : Inputs) (s : State) (old new : Standing) (holds : Option (List NamedFile)) (image : SwapImage) (j : Option SwapImage) where
  pub swapper_made : (t : Turned) → MachineAt A s old holds image → IsClear s → ProcessesFit s.point.flat.processes
      → s.mark ≡ swap_mark (swap_choice s.place (runners s.point.flat)) → choice_of t ≡ swap_choice old.kernel.place (runners_of old.kernel)
      → Turns t old new holds (Some image) j → LineLeads A s old.kernel image new.kernel j
  swapper_made turns.Nothing at c fit m e t = nothing_made A s old new image j c (chosen_mark A s old holds image turns.Nothing at m e) t.0 t.1
  swapper_made (turns.In pid) at c fit m e t = in_comes A s old new image j pid c (chosen_mark A s old holds image (turns.In pid) at m e) t.0 t.2
  swapper_made (turns.Out pid) at c fit m e t =
      out_comes A s old new holds image j pid t.0 at c fit (chosen_mark A s old holds image (turns.Out pid) at m e) t.1 t.2

  pub out_stops : (pid sid : ℕ) (stop : Stop) → MachineAt A s old holds image → IsClear s → s.mark ≡ marks.PutOut pid → HoldsThere old.kernel pid sid
      → StopsWhile (putting_out pid sid) old new holds (Some image) j stop → StopLeads A s old.kernel image stop new j
  out_stops pid sid stop at c m there o =
      let g : Ground = ground old holds [] in
      let h : Holder s.point.flat pid sid = holder old.kernel s.point.flat pid sid at.at.stands.keeps.coupled.tables there.holds in
      let led : LeadsPutting A s old.kernel image pid sid o.units o.at o.image =
      putting o.units A g s old.kernel o.at image o.image pid sid (length old.kernel.journal) at.at at.images (puts_process s old.kernel pid sid c m h) o.leads.puts o.made in
      let b : SwapImage = led.leads.behind in
      let leads : Leads A s old.kernel image o.units led.state o.at (Some b) = subst (λ (z : Option SwapImage). Leads A s old.kernel image o.units led.state o.at z) led.leads.told led.leads in
      let behind : At A led.state o.at b = leads_at A s led.state old.kernel o.at image b o.units at.at leads in
      stops_behind A s led.state old.kernel (record old { kernel = o.at }) image b o.units stop new j o.entry leads
      (put_next A led.state pid sid led.puts ∙ ap (λ (y : Placement). Some (put_out_unit y pid sid)) (sym behind.stands.place) ∙ o.next)
      (subst (λ (z : Option SwapImage). StopsAt o.entry (record old { kernel = o.at }) new z j stop) led.leads.told o.stops)

  pub swapper_stops : (t : Turned) (stop : Stop) → MachineAt A s old holds image → IsClear s → s.mark ≡ swap_mark (swap_choice s.place (runners s.point.flat))
      → choice_of t ≡ swap_choice old.kernel.place (runners_of old.kernel) → StopsTurning t old new holds (Some image) j stop
      → StopLeads A s old.kernel image stop new j
  swapper_stops turns.Nothing stop at c m e x = absurd x
  swapper_stops (turns.In pid) stop at c m e x =
      stops_here A s old image stop new j (entries.SwapIn pid) ((line_asks A s c.clear).0 pid (chosen_mark A s old holds image (turns.In pid) at m e)) x
  swapper_stops (turns.Out pid) stop at c m e x =
      out_stops pid x.0 stop at c (chosen_mark A s old holds image (turns.Out pid) at m e) x.1 x.2
