-- The start of a run, by that of its machine.
use Rattle.std.proofs.Common.{◌≡◌, inl, inr, ℕ, ◌≤◌, List, length, Option, Some, Result, sym, ap, ◌∙◌, subst, arith}
use Rattle.std.specs.Prelude.{IfErr}
use Rattle.vm_facts.specs.SwapImages.{SwapImage}
use Rattle.vm_facts.specs.declared.stop.Stop.{Stop}
use Rattle.io_edge.specs.FileHolding.{NamedFile}
use Rattle.swap_book.specs.Holdings.{Holdings}
use Rattle.flat_state.specs.Flat.{Inputs}
use Rattle.flat_model.specs.Run.{Point, IsBetween}
use Rattle.machine_state.specs.Machine.{Standing}
use Rattle.economy_laws.specs.Longwords.{ProcessesFit}
use Rattle.economy_laws.proofs.Registers.{start_regs_are}
use Rattle.run_model.specs.State.{start}
use Rattle.run_model.specs.Next.{under, last_turned}
use Rattle.economy_laws.proofs.Sizing.{started_few}
use Rattle.proc_run.specs.RunUnitsServing.{At}
use Rattle.vm_core.specs.FirstProcesses.{HasStarted}
use Rattle.vm_core.specs.Leading.{IsTold, machine_at_start, StartLeads, StartStops}
use Rattle.vm_core.proofs.Led.{stands_at_start}
use Rattle.vm_core.specs.declared.first_processes.Started.{Started}
use Rattle.vm_core.specs.Cores.{Underway, InputsOf, StandsIn}
use Rattle.vm_core.specs.Starting.{CoreStarted, StartsRun, StopsStartingRun}
use Rattle.vm_core.proofs.Accounts.{leads_accounted, leads_economical, leads_swapped, stop_accounted}
use Rattle.vm_core.proofs.Noting.{stops_weaker}
use Rattle.vm_core.proofs.Standing.{inputs_on}

-- no more processes start than were asked for
start_crowd : (A : Inputs) (hs : Holdings) (numbers : List ℕ) → A.first ≡ numbers → length numbers ≤ 16 → length (start A hs).point.flat.processes ≤ 64
start_crowd A hs numbers e few =
    let most = started_few A.images 1 A.first in
    let less : length A.first ≤ 16 = subst (λ (ns : List ℕ). length ns ≤ 16) (sym e) few in
    omega (arith, most, less)

module _ (A : Inputs) (old new : Underway) (numbers : List ℕ) (holds : Option (List NamedFile)) (image : SwapImage) (j : Option SwapImage) (few : length numbers ≤ 16)
    (told : IsTold A old.machine numbers holds image)
    (inputs : InputsOf A old.machine) (on : HasStarted old.machine new.machine) (none : new.counted ≡ 0) (l : StartLeads A new.machine holds image j) where
  crowd : length (start A l.holdings).point.flat.processes ≤ 64
  crowd = start_crowd A l.holdings numbers told.starts.first few

  at_start : At A (start A l.holdings) (machine_at_start A l.holdings) image
  at_start = stands_at_start A l.holdings image l.can told.room

  stands : StandsIn A l.state new.machine holds j l.leads.behind new.counted
  stands = record {
    machine = l.machine;
    told = l.leads.told;
    inputs = inputs_on A old.machine new.machine inputs on.params on.images;
    longwords = record {
      fit = subst (λ (p : Point). ProcessesFit p.flat.processes) (sym l.same.point) (start_regs_are A inputs.images);
      next = let e = ap (λ (p : Point). p.flat.next_pid) l.same.point in omega (arith, e);
    };
    crowd = subst (λ (p : Point). length p.flat.processes ≤ 64) (sym l.same.point) crowd;
    count = l.same.count ∙ sym none;
  }

  core_started : CoreStarted A new holds image j
  core_started = record {
    holdings = l.holdings;
    can = l.can;
    units = l.units;
    state = l.state;
    behind = l.leads.behind;
    leads = l.leads;
    same = l.same;
    at = record {
      stands = stands;
      over = record {
        clear = l.clear;
        between = subst (λ (p : Point). IsBetween p.last) (sym l.same.point) tt;
        over = ap (under A l.state) l.same.mark;
      };
      unturned = ap last_turned l.same.mark;
    };
    account = leads_accounted A (start A l.holdings) l.state (machine_at_start A l.holdings) new.machine.kernel image l.units j at_start l.leads;
    economy = leads_economical A (start A l.holdings) l.state (machine_at_start A l.holdings) new.machine.kernel image l.units j at_start l.leads crowd;
    swapped = leads_swapped A (start A l.holdings) l.state (machine_at_start A l.holdings) new.machine.kernel image l.units j at_start l.leads l.leads.behind l.leads.told;
  }

pub starts_run : (old new : Underway) (numbers : List ℕ) (holds : Option (List NamedFile)) (i j : Option SwapImage) → length numbers ≤ 16 → new.counted ≡ 0
    → HasStarted old.machine new.machine
    → ((A : Inputs) (image : SwapImage) → IsTold A old.machine numbers holds image → i ≡ Some image → StartLeads A new.machine holds image j)
    → StartsRun old new numbers holds i j
starts_run old new numbers holds i j few none on f A image told inputs e = core_started A old new numbers holds image j few told inputs on none (f A image told e)

-- Where it stops.

start_accounted : (A : Inputs) (old new : Standing) (numbers : List ℕ) (holds : Option (List NamedFile)) (image : SwapImage) (j : Option SwapImage)
    → length numbers ≤ 16 → IsTold A old numbers holds image
    → (stop : Stop) → StartStops A new image stop j → StopsStartingRun A new image stop j
start_accounted A old new numbers holds image j few told stop h = elim h [
  | inl x ↦ inl x
  | inr x ↦ inr (x.0, x.1, stop_accounted A (start A x.0) (machine_at_start A x.0) image stop new j (stands_at_start A x.0 image x.1 told.room) (start_crowd A x.0 numbers told.starts.first few) x.2)
]

-- for all inputs that are those of the machine, where the swap image is told
abbrev pub Stopping : Result Started Stop → Standing → List ℕ → Option (List NamedFile) → Option SwapImage → (Inputs → SwapImage → Stop → Type 0) → Type 0
Stopping r old numbers holds i P = (A : Inputs) (image : SwapImage) → IsTold A old numbers holds image → i ≡ Some image → IfErr r (P A image)

pub stops_starting : (r : Result Started Stop) (old new : Standing) (numbers : List ℕ) (holds : Option (List NamedFile)) (i j : Option SwapImage)
    → length numbers ≤ 16
    → Stopping r old numbers holds i (λ A image stop. StartStops A new image stop j)
    → Stopping r old numbers holds i (λ A image stop. StopsStartingRun A new image stop j)
stops_starting r old new numbers holds i j few f A image told e =
    stops_weaker r (λ stop. StartStops A new image stop j) (λ stop. StopsStartingRun A new image stop j) (start_accounted A old new numbers holds image j few told) (f A image told e)
