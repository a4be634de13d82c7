-- The state to which units lead, and stops where a unit is the next one.
use Rattle.std.proofs.Common.{◌≡◌, ℕ, List, [], Option, Some, subst}
use Rattle.vm_facts.specs.SwapImages.{SwapImage}
use Rattle.vm_facts.specs.declared.entry.Entry.{Entry}
use Rattle.vm_facts.specs.declared.entry.Entry.TheVariants as entries
use Rattle.vm_facts.specs.declared.stop.Stop.{Stop}
use Rattle.vm_facts.specs.declared.stop.Stop.TheVariants as stops
use Rattle.flat_state.specs.Flat.{Inputs}
use Rattle.kernel_model.specs.Kernel.{Kernel}
use Rattle.kernel_model.specs.Requests.{ImageFile}
use Rattle.machine_state.specs.Sourced.{files_named}
use Rattle.machine_state.specs.Machine.{Standing}
use Rattle.swapper.specs.Stops.{StopsAt, SpoilsBy}
use Rattle.run_model.specs.State.{State}
use Rattle.run_model.specs.Next.{next_unit}
use Rattle.run_units.specs.Leads.{Leads}
use Rattle.run_units.specs.Serving.{At}
use Rattle.run_units.proofs.Units.{none_leads, leads_at}
use Rattle.step_units.specs.Stepped.{StopsBy, StopLeads}

-- the swap image after units is told
pub led_told : (A : Inputs) (s t : State) (k l : Kernel) (image : SwapImage) (j : Option SwapImage) (us : List Entry) (led : Leads A s k image us t l j)
    → Leads A s k image us t l (Some led.behind)
led_told A s t k l image j us led = subst (λ (o : Option SwapImage). Leads A s k image us t l o) led.told led

pub led_at : (A : Inputs) (s t : State) (k l : Kernel) (image : SwapImage) (j : Option SwapImage) (us : List Entry) → At A s k image
    → (led : Leads A s k image us t l j) → At A t l led.behind
led_at A s t k l image j us at led = leads_at A s t k l image led.behind us at (led_told A s t k l image j us led)

-- Stops.

-- for want of memory no write spoils the swap image
pub none_spoiled : (files : List ImageFile) (e : Entry) (k : Kernel) (i j : Option SwapImage) → SpoilsBy files e stops.NoMemory k i j → j ≡ i
none_spoiled files entries.Done k i j h = h
none_spoiled files (entries.SwapOut pid) k i j h = h
none_spoiled files _ k i j h = h

-- a machine that stopped where a unit comes that is the run's next one
pub stop_by : (A : Inputs) (t : State) (m : Standing) (image : SwapImage) (e : Entry) (stop : Stop) (new : Standing) (j : Option SwapImage)
    → next_unit A t ≡ Some e → StopsAt e m new (Some image) j stop
    → StopsBy A t m.kernel image stop new j
stop_by A t m image e stops.NoMemory new j n h = none_spoiled (files_named new.images) e m.kernel (Some image) j h.image
stop_by A t m image e stops.JournalFull new j n h = record { entry = e; next = n; full = h.full.0; cause = h.cause; spoils = h.image }
stop_by A t m image e stops.FileFault new j n h = record { entry = e; next = n; full = h.full.0; cause = h.cause; spoils = h.image }
stop_by A t m image e stops.SwapReadFault new j n h = record { entry = e; next = n; full = h.full.0; cause = h.cause; spoils = h.image }
stop_by A t m image e stops.SwapWriteFault new j n h = record { entry = e; next = n; full = h.full.0; cause = h.cause; spoils = h.image }

pub stop_at : (A : Inputs) (t : State) (m : Standing) (image : SwapImage) (e : Entry) (stop : Stop) (new : Standing) (j : Option SwapImage)
    → next_unit A t ≡ Some e → StopsAt e m new (Some image) j stop
    → StopLeads A t m.kernel image stop new j
stop_at A t m image e stop new j n h = record {
  units = [];
  state = t;
  kernel = m.kernel;
  behind = image;
  leads = none_leads A t m.kernel image;
  journal = h.journal;
  held = h.held;
  by = stop_by A t m image e stop new j n h;
}
