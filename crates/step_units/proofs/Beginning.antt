-- Lines and turns begin.
use Rattle.std.proofs.Common.{◌≡◌, ℕ, ◌+◌, ◌<◌, List, [], ◌∷◌, Option, Some, refl, ap}
use Rattle.std.proofs.lemmas.Option.{slice_get_within}
use Rattle.std.specs.Prelude.{slice_get}
use Rattle.vm_facts.specs.SwapImages.{SwapImage}
use Rattle.vm_facts.specs.declared.entry.Entry.{Entry}
use Rattle.vm_facts.specs.declared.entry.Entry.TheVariants as entries
use Rattle.vm_facts.specs.declared.event.Event.{Event}
use Rattle.vm_facts.specs.declared.stop.Stop.{Stop}
use Rattle.io_edge.specs.FileHolding.{NamedFile}
use Rattle.flat_state.specs.Flat.{Inputs}
use Rattle.kernel_model.specs.Kernel.{Kernel, note_step}
use Rattle.machine_state.specs.Machine.{Standing}
use Rattle.swapper.specs.Stops.{StopsBefore}
use Rattle.run_model.specs.State.{State}
use Rattle.run_model.specs.After.{after, mark_of_line}
use Rattle.run_model.specs.Next.{next_unit}
use Rattle.run_laws.specs.Machine.{unit_swap}
use Rattle.run_units.specs.Leads.{MadeAs, Leads}
use Rattle.run_units.proofs.Units.{none_leads, first_leads}
use Rattle.run_units.proofs.Swapping.{note_made, line_comes, turn_comes}
use Rattle.step_units.specs.Machines.{MachineAt}
use Rattle.step_units.specs.Stepped.{StopLeads}
use Rattle.step_units.specs.Lines.{IsOver, LineBegun, TurnDue}
use Rattle.step_units.proofs.Stopping.{note_stops}

-- one unit leads to the state after it
pub one_leads : (A : Inputs) (s : State) (k l : Kernel) (image : SwapImage) (j : Option SwapImage) (u : Entry) → next_unit A s ≡ Some u
    → MadeAs A s k image u l j
    → Leads A s k image (u ∷ []) (after A s u) l (Some (unit_swap A k image u))
one_leads A s k l image j u n m = first_leads A s (after A s u) k l l image j (Some (unit_swap A k image u)) u [] n m (none_leads A (after A s u) l (unit_swap A k image u))

next_line : (A : Inputs) (s : State) (e : Event) → IsOver A s → s.count < A.limit → slice_get A.lines s.lines ≡ Some e
    → next_unit A s ≡ Some (entries.Event (s.lines + 1))
next_line A s e o c g = line_comes A s o.clear o.over c (slice_get_within A.lines s.lines e g)

pub line_begins : (A : Inputs) (s : State) (old : Standing) (l : Kernel) (holds : Option (List NamedFile)) (image : SwapImage) (e : Event)
    → MachineAt A s old holds image → IsOver A s → s.count < A.limit
    → slice_get A.lines s.lines ≡ Some e → l ≡ note_step old.kernel (entries.Event (s.lines + 1)) → LineBegun A s old.kernel image e l
unfolding after
line_begins A s old l holds image e at o c g m =
    let u : Entry = entries.Event (s.lines + 1) in
    record {
      state = after A s u;
      leads = one_leads A s old.kernel l image (Some image) u (next_line A s e o c g) (note_made A s old.kernel l image u tt m);
      clear = record { clear = o.clear; between = o.between };
      place = refl;
      point = refl;
      holdings = refl;
      count = refl;
      lines = refl;
      mark = ap (mark_of_line s) g;
    }

pub line_stops : (A : Inputs) (s : State) (old new : Standing) (holds : Option (List NamedFile)) (image : SwapImage) (e : Event) (stop : Stop)
    → MachineAt A s old holds image → IsOver A s
    → s.count < A.limit → slice_get A.lines s.lines ≡ Some e → StopsBefore old new stop → StopLeads A s old.kernel image stop new (Some image)
line_stops A s old new holds image e stop at o c g x = note_stops A s old new image stop (entries.Event (s.lines + 1)) (next_line A s e o c g) tt x

pub next_turn : (A : Inputs) (s : State) (pid : ℕ) → TurnDue A s pid → next_unit A s ≡ Some (entries.Turn pid)
next_turn A s pid d = turn_comes A s pid d.over.clear d.over.over d.below d.lines d.turned

pub turn_stops : (A : Inputs) (s : State) (old new : Standing) (holds : Option (List NamedFile)) (image : SwapImage) (pid : ℕ) (stop : Stop)
    → MachineAt A s old holds image → TurnDue A s pid
    → StopsBefore old new stop → StopLeads A s old.kernel image stop new (Some image)
turn_stops A s old new holds image pid stop at d x = note_stops A s old new image stop (entries.Turn pid) (next_turn A s pid d) tt x
