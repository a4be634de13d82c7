-- Turns begin, and a process that is out comes in for its turn.
use Rattle.std.proofs.Common.{◌≡◌, ℕ, ◌+◌, ◌<◌, ◌==◌, nat_lt, Bool, true, false, cond, List, [], ◌∷◌, find, Option, Some, None, refl, sym, ap, ◌∙◌, subst, arith}
use Rattle.std.proofs.lemmas.Bool.{and_parts}
use Rattle.vm_facts.specs.SwapImages.{SwapImage}
use Rattle.vm_facts.specs.declared.entry.Entry.{Entry}
use Rattle.vm_facts.specs.declared.entry.Entry.TheVariants as entries
use Rattle.vm_facts.specs.declared.stop.Stop.{Stop}
use Rattle.io_edge.specs.FileHolding.{NamedFile}
use Rattle.flat_state.specs.Flat.{Process, FlatState, Inputs, can_step, is_ready, ready_if}
use Rattle.flat_state.specs.Numbers.{AllDistinct, pids_of}
use Rattle.page_model.specs.Pages.{changed}
use Rattle.page_model.specs.Swapper.{is_out, residence_of}
use Rattle.page_model.specs.Placement.{Residence, Due}
use Rattle.kernel_model.specs.Kernel.{Kernel, note_step}
use Rattle.machine_state.specs.Machine.{Standing}
use Rattle.machine_state.specs.Swapping.{AsksU, IsIn}
use Rattle.swapper.specs.Stops.{StopsAt}
use Rattle.run_laws.proofs.Finding.{found_by_number, found_passes}
use Rattle.run_model.specs.declared.mark.Mark.TheVariants as marks
use Rattle.run_model.specs.State.{State}
use Rattle.run_model.specs.After.{after, brought_in, place_at}
use Rattle.run_model.specs.Next.{when, or_else, due_unit, next_mark, pid_if, next_ready, next_turned, last_turned, goes_on, turn_instructions, turn_unit, turn_by, under, next_unit}
use Rattle.run_units.specs.Leads.{MadeAs, Leads}
use Rattle.run_units.proofs.Swapping.{note_made, in_made}
use Rattle.step_units.specs.Machines.{MachineAt}
use Rattle.step_units.specs.Stepped.{StopLeads}
use Rattle.step_units.specs.Lines.{IsClear, TurnDue, TurnBegun, CameIn}
use Rattle.step_units.proofs.Stopping.{stops_here}
use Rattle.step_units.proofs.Beginning.{one_leads, next_turn}
use Rattle.run_laws.proofs.Turning.{turned_ready}
use Rattle.economy_laws.proofs.Turns.{all_three, below}

-- it goes on, where the limit isn't reached
fresh_goes : (A : Inputs) (s : State) (pid : ℕ) → can_step s.point.flat pid ≡ true → s.count < A.limit → goes_on A s pid (s.count + turn_instructions) ≡ true
fresh_goes A s pid steps l =
    all_three (can_step s.point.flat pid) (nat_lt s.count A.limit) (nat_lt s.count (s.count + turn_instructions)) steps (below s.count A.limit l)
    (below s.count (s.count + turn_instructions) (omega arith))

pub turn_begins : (A : Inputs) (s : State) (old : Standing) (l : Kernel) (holds : Option (List NamedFile)) (image : SwapImage) (pid : ℕ)
    → MachineAt A s old holds image → TurnDue A s pid
    → l ≡ note_step old.kernel (entries.Turn pid) → TurnBegun A s old.kernel image pid l
unfolding after
turn_begins A s old l holds image pid at d m =
    let u : Entry = entries.Turn pid in
    record {
      state = after A s u;
      leads = one_leads A s old.kernel l image (Some image) u (next_turn A s pid d) (note_made A s old.kernel l image u tt m);
      clear = record { clear = d.over.clear; between = d.over.between };
      place = refl;
      point = refl;
      count = refl;
      lines = refl;
      mark = refl;
      on = fresh_goes A (after A s u) pid (turned_ready s.point.flat (last_turned s.mark) pid at.at.run.numbers.pids d.turned) d.below;
    }

-- Coming in.

pub moved_in : (rs : List Residence) (pid at : ℕ)
    → (residence_of (changed (λ (r : Residence). r.pid) pid (λ (r : Residence). record r { out = false; since = at }) rs) pid).out ≡ false
moved_in [] pid at = refl
moved_in (r ∷ rs) pid at = go (moved_in rs pid at) (r.pid == pid) refl
  where
    more : List Residence
    more = changed (λ (x : Residence). x.pid) pid (λ (x : Residence). record x { out = false; since = at }) rs

    go : (residence_of more pid).out ≡ false → (b : Bool) → (r.pid == pid) ≡ b → (residence_of (cond b (record r { out = false; since = at } ∷ rs) (r ∷ more)) pid).out ≡ false
    go later true e = ap (λ (b : Bool). Residence.out (cond b (record r { out = false; since = at }) (residence_of rs pid))) e
    go later false e = ap (λ (b : Bool). Residence.out (cond b r (residence_of more pid))) e ∙ later

comes_next : (A : Inputs) (s : State) (pid since : ℕ) → IsClear s → s.mark ≡ marks.Turn pid since → goes_on A s pid (since + turn_instructions) ≡ true
    → is_out s.place pid ≡ true
    → next_unit A s ≡ Some (entries.SwapIn pid)
unfolding next_unit
comes_next A s pid since c m g o =
    ap (λ (ds : List Due). or_else (due_unit s.place ds) (or_else (under A s s.mark) (next_mark A s))) c.clear
    ∙ ap (λ (x : Option Entry). or_else x (next_mark A s)) (ap (under A s) m ∙ ap (λ (b : Bool). when b (turn_unit A s pid)) g ∙ ap (turn_by A s pid) o)

pub comes_in : (A : Inputs) (s : State) (old new : Standing) (holds : Option (List NamedFile)) (image : SwapImage) (j : Option SwapImage) (pid since : ℕ)
    → MachineAt A s old holds image → IsClear s
    → s.mark ≡ marks.Turn pid since → goes_on A s pid (since + turn_instructions) ≡ true → is_out s.place pid ≡ true
    → IsIn old.kernel new.kernel pid (Some image) → AsksU old.kernel pid (Some image) j
    → CameIn A s old.kernel image pid since new.kernel j
unfolding after
comes_in A s old new holds image j pid since at c m g o i a =
    let u : Entry = entries.SwapIn pid in
    let made : MadeAs A s old.kernel image u new.kernel j = in_made A s old.kernel new.kernel image j pid i a in
    record {
      state = after A s u;
      leads = subst (λ (x : Option SwapImage). Leads A s old.kernel image (u ∷ []) (after A s u) new.kernel x) (sym made.told)
          (one_leads A s old.kernel new.kernel image j u (comes_next A s pid since c m g o) made);
      clear = record { clear = c.clear; between = c.between };
      resident = moved_in s.place.residents pid (place_at s u);
      point = refl;
      count = refl;
      lines = refl;
      mark = ap brought_in m;
      on = g;
    }

pub coming_in_stops : (A : Inputs) (s : State) (old new : Standing) (holds : Option (List NamedFile)) (image : SwapImage) (j : Option SwapImage)
    (pid since : ℕ) (stop : Stop)
    → MachineAt A s old holds image
    → IsClear s → s.mark ≡ marks.Turn pid since → goes_on A s pid (since + turn_instructions) ≡ true → is_out s.place pid ≡ true
    → StopsAt (entries.SwapIn pid) old new (Some image) j stop → StopLeads A s old.kernel image stop new j
coming_in_stops A s old new holds image j pid since stop at c m g o x =
    stops_here A s old image stop new j (entries.SwapIn pid) (comes_next A s pid since c m g o) x
