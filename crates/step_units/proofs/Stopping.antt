-- Where a run stops, the unit that comes next is known.
use Rattle.std.proofs.Common.{◌≡◌, ◌⊎◌, ℕ, ◌<◌, ◌≤◌, List, [], length, Option, Some, refl, sym, ap, subst}
use Rattle.vm_facts.specs.SwapImages.{SwapImage}
use Rattle.vm_facts.specs.declared.entry.Entry.{Entry}
use Rattle.vm_facts.specs.declared.entry.Entry.TheVariants as entries
use Rattle.vm_facts.specs.declared.stop.Stop.{Stop}
use Rattle.vm_facts.specs.declared.stop.Stop.TheVariants as stops
use Rattle.flat_state.specs.Flat.{Inputs}
use Rattle.flat_state.specs.Journal.{append}
use Rattle.page_model.specs.Placement.{Transfer}
use Rattle.kernel_model.specs.Kernel.{Kernel}
use Rattle.kernel_model.specs.Requests.{ImageFile}
use Rattle.machine_state.specs.Sourced.{files_named}
use Rattle.machine_state.specs.Machine.{Standing}
use Rattle.swapper.proofs.Stopping.{held_here}
use Rattle.swapper.specs.Stops.{CauseBy, SpoilsBy, StopsAt, StopsBefore}
use Rattle.run_model.specs.State.{State}
use Rattle.run_model.specs.Next.{next_unit}
use Rattle.run_laws.specs.Machine.{IsJournalEntry}
use Rattle.run_units.specs.Leads.{Leads}
use Rattle.run_units.proofs.Units.{none_leads}
use Rattle.step_units.specs.Stepped.{StopsNext, StopsBy, StopLeads}
use Rattle.step_units.proofs.Leading.{none_spoiled}
use Rattle.step_units.proofs.Entering.{longer}

-- At a unit that a call names.

pub stops_by : (A : Inputs) (t : State) (k : Kernel) (image : SwapImage) (stop : Stop) (new : Standing) (j : Option SwapImage)
    → StopsNext A t k image stop new j → StopsBy A t k image stop new j
stops_by A t k image stops.NoMemory new j n = none_spoiled (files_named new.images) n.entry k (Some image) j n.spoils
stops_by A t k image _ new j n = n

-- units lead to where this one is next, and there the run stopped
pub stops_behind : (A : Inputs) (s t : State) (k : Kernel) (m : Standing) (image behind : SwapImage) (us : List Entry) (stop : Stop) (new : Standing)
    (j : Option SwapImage) (e : Entry)
    → Leads A s k image us t m.kernel (Some behind) → next_unit A t ≡ Some e → StopsAt e m new (Some behind) j stop → StopLeads A s k image stop new j
stops_behind A s t k m image behind us stop new j e leads n at = record {
  units = us;
  state = t;
  kernel = m.kernel;
  behind = behind;
  leads = leads;
  journal = at.journal;
  held = at.held;
  by = stops_by A t m.kernel behind stop new j (record { entry = e; next = n; full = at.full.0; cause = at.cause; spoils = at.image });
}

pub stops_here : (A : Inputs) (s : State) (m : Standing) (image : SwapImage) (stop : Stop) (new : Standing) (j : Option SwapImage) (e : Entry)
    → next_unit A s ≡ Some e → StopsAt e m new (Some image) j stop → StopLeads A s m.kernel image stop new j
stops_here A s m image stop new j e n at = stops_behind A s s m.kernel m image image [] stop new j e (none_leads A s m.kernel image) n at

-- At an entry that goes into the journal alone.

note_longer : (e : Entry) (journal : List Entry) → IsJournalEntry e → length journal < length (append journal e)
note_longer (entries.Event line) journal h = longer journal (entries.Event line)
note_longer (entries.Turn pid) journal h = longer journal (entries.Turn pid)
note_longer (entries.Out pid bytes) journal h = longer journal (entries.Out pid bytes)
note_longer (entries.Refused pid) journal h = longer journal (entries.Refused pid)
note_longer (entries.Owners free used moving held) journal h = longer journal (entries.Owners free used moving held)
note_longer _ journal h = absurd h

note_cause : (e : Entry) (stop : Stop) (ts : List Transfer) → IsJournalEntry e → (stop ≡ stops.JournalFull) ⊎ (stop ≡ stops.NoMemory) → CauseBy e stop ts
note_cause (entries.Event line) stop ts h c = c
note_cause (entries.Turn pid) stop ts h c = c
note_cause (entries.Out pid bytes) stop ts h c = c
note_cause (entries.Refused pid) stop ts h c = c
note_cause (entries.Owners free used moving held) stop ts h c = c
note_cause _ stop ts h c = absurd h

note_spoils : (files : List ImageFile) (e : Entry) (stop : Stop) (k : Kernel) (i : Option SwapImage) → IsJournalEntry e → SpoilsBy files e stop k i i
note_spoils files (entries.Event line) stop k i h = refl
note_spoils files (entries.Turn pid) stop k i h = refl
note_spoils files (entries.Out pid bytes) stop k i h = refl
note_spoils files (entries.Refused pid) stop k i h = refl
note_spoils files (entries.Owners free used moving held) stop k i h = refl
note_spoils files _ stop k i h = absurd h

pub note_stops : (A : Inputs) (s : State) (old new : Standing) (image : SwapImage) (stop : Stop) (e : Entry) → next_unit A s ≡ Some e → IsJournalEntry e
    → StopsBefore old new stop
    → StopLeads A s old.kernel image stop new (Some image)
note_stops A s old new image stop e n h x = record {
  units = [];
  state = s;
  kernel = old.kernel;
  behind = image;
  leads = none_leads A s old.kernel image;
  journal = x.stopped.journal;
  held = held_here stop old new x.stopped x.whole x.cause x.full;
  by = stops_by A s old.kernel image stop new (Some image) (record {
    entry = e;
    next = n;
    full = λ is. (subst (λ (n : ℕ). n ≤ length old.kernel.journal) (sym (ap (λ p. p.journal) x.stopped.params)) (x.full is), note_longer e old.kernel.journal h);
    cause = note_cause e stop old.kernel.place.transfers h x.cause;
    spoils = note_spoils (files_named new.images) e stop old.kernel (Some image) h;
  });
}
