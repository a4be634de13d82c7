-- Machines that go on after what a line of the schedule asks for, and after the fill of a stack page.
use Rattle.std.proofs.Common.{◌≡◌, ℕ, ◌+◌, ◌≤◌, List, [], ◌∷◌, length, Option, None, refl, sym, ap, ◌∙◌, subst, arith}
use Rattle.vm_facts.specs.SwapImages.{SwapImage}
use Rattle.vm_facts.specs.declared.page.Page.{Page}
use Rattle.vm_facts.specs.declared.entry.Entry.{Entry}
use Rattle.vm_facts.specs.declared.entry.Entry.TheVariants as entries
use Rattle.io_edge.specs.FileHolding.{NamedFile}
use Rattle.flat_state.specs.Journal.{append}
use Rattle.page_model.specs.Placement.{Due, Start}
use Rattle.page_model.specs.Place.{due_after}
use Rattle.proc_calls.specs.Spans.{moves, moves_of}
use Rattle.kernel_model.specs.Kernel.{Kernel, zero_step}
use Rattle.machine_state.specs.Machine.{Standing}
use Rattle.machine_state.specs.Settled.{IsSameBeside}
use Rattle.machine_state.specs.Swapping.{IsIn}
use Rattle.swapper.specs.LastMoves.{last_moves}
use Rattle.swapper.specs.Made.{Ground, ground, MadeBy, Made}
use Rattle.swapper.proofs.LastMoves.{last_more}
use Rattle.swapper.proofs.PagingUnitsUnits.{unit_journal}
use Rattle.proc_calls.specs.Moved.{Moved}
use Rattle.proc_calls.specs.Filling.{FillsStart}
use Rattle.swapper.specs.declared.Turned.{Turned}
use Rattle.swapper.specs.declared.Turned.TheVariants as turns
use Rattle.swapper.specs.Putting.{PutOut}
use Rattle.swapper.specs.Turns.{Turns}
use Rattle.step_units.specs.Ready.{CountsOn, Continues, RunsDue, RunsMoved}
use Rattle.step_units.proofs.Placements.{entry_frames, forces_due, first_gone}
use Rattle.step_units.proofs.Journals.{last_plain, counts_one}
use Rattle.step_units.proofs.Running.{continues_self, entry_on, runs_both, made_counted, made_frames, made_clear, units_run}

-- Moves of the hands.

unit_last : (g : Ground) (e : Entry) (k l : Kernel) (i : Option SwapImage) → MadeBy g e k i l → last_moves (append k.journal e) ≤ last_moves k.journal + moves e
unit_last g (entries.Hands n) k l i h =
    subst (λ (m : ℕ). last_moves (append k.journal (entries.Hands m)) ≤ last_moves k.journal + m) (sym h.0) (last_more k.journal)
unit_last g (entries.Zero q) k l i h = let last = last_plain k.journal (entries.Zero q) tt in omega arith
unit_last g (entries.Copy q) k l i h = let last = last_plain k.journal (entries.Copy q) tt in omega arith
unit_last g (entries.Get q lo n) k l i h = let last = last_plain k.journal (entries.Get q lo n) tt in omega arith
unit_last g (entries.Reclaim q) k l i h = let last = last_plain k.journal (entries.Reclaim q) tt in omega arith
unit_last g (entries.Put q n) k l i h = let last = last_plain k.journal (entries.Put q n) tt in omega arith
unit_last g entries.Done k l i h = let last = last_plain k.journal entries.Done tt in omega arith
unit_last g _ k l i h = absurd h

made_last : (g : Ground) (us : List Entry) (k l : Kernel) (i j : Option SwapImage) → Made g us k i l j
    → last_moves l.journal ≤ last_moves k.journal + moves_of us
made_last g [] k l i j m = let same = ap (λ (x : Kernel). last_moves x.journal) m.0 in omega arith
made_last g (e ∷ us) k l i j m =
    let rest = made_last g us m.next l m.image j m.rest in
    let one = unit_last g e k m.next i m.made in
    let same = ap last_moves (unit_journal g e k m.next i m.made) in
    omega arith

pub moves_continue : (old new : Standing) (n made : ℕ) (holds : Option (List NamedFile)) (i j : Option SwapImage) → old.kernel.place.due ≡ []
    → Moved n old new made holds i j → RunsMoved old new made
moves_continue old new n made holds i j d m =
    let g = ground old holds [] in
    record {
      on = units_run g m.units old new i j m.makes;
      clear = made_clear g m.units old.kernel new.kernel i j d m.makes.made;
      most = let last = made_last g m.units old.kernel new.kernel i j m.makes.made in let same = m.counted in omega arith;
    }

-- The swapper.

in_continues : (old new : Standing) (pid : ℕ) (i : Option SwapImage) → old.kernel.place.due ≡ [] → IsIn old.kernel new.kernel pid i → IsSameBeside old new
    → Continues old new 0
in_continues old new pid i d h b =
    entry_on old new (entries.SwapIn pid) (record { params = b.params; images = b.images }) (ap (λ (k : Kernel). k.place.due) h.step ∙ d)
    (ap (λ (k : Kernel). length k.place.holds) h.step) (ap (λ (k : Kernel). k.journal) h.step) (last_plain old.kernel.journal (entries.SwapIn pid) tt)

out_continues : (old new : Standing) (pid sid : ℕ) (holds : Option (List NamedFile)) (i j : Option SwapImage) → old.kernel.place.due ≡ []
    → PutOut pid sid old new holds i j → Continues old new 0
out_continues old new pid sid holds i j d h =
    let e : Entry = entries.SwapOut pid in
    let journal : new.kernel.journal ≡ append h.at.journal e = ap (λ (k : Kernel). k.journal) h.step in
    record {
      params = h.beside.params;
      images = h.beside.images;
      clear = ap (λ (k : Kernel). k.place.due) h.step ∙ made_clear (ground old holds []) h.units old.kernel h.at i h.image d h.made;
      frames = ap (λ (k : Kernel). length k.place.holds) h.step ∙ made_frames (ground old holds []) h.units old.kernel h.at i h.image h.made;
      low = let last = ap last_moves journal ∙ last_plain h.at.journal e tt in omega arith;
      counted =
          let one = counts_one h.at.journal new.kernel.journal e journal in
          let none = made_counted (ground old holds []) h.units old.kernel h.at i h.image h.made in
          omega arith;
    }

pub turn_continues : (turned : Turned) (old new : Standing) (holds : Option (List NamedFile)) (i j : Option SwapImage) → old.kernel.place.due ≡ []
    → Turns turned old new holds i j → Continues old new 0
turn_continues turns.Nothing old new holds i j d h = subst (λ (m : Standing). Continues old m 0) (sym h.0) (continues_self old d)
turn_continues (turns.In pid) old new holds i j d h = in_continues old new pid i d h.0 h.1
turn_continues (turns.Out pid) old new holds i j d h = out_continues old new pid h.0 holds i j d h.2

-- The fill of a stack page.

-- after a fill the pages are due that were after this one, and the last entry counts no moves
pub record Filled (page : Page) (old new : Standing) : Type 0 where
  pub on : CountsOn old new 0
  pub due : new.kernel.place.due ≡ due_after old.kernel.place.due page
  pub last : last_moves new.kernel.journal ≡ 0

zero_fills : (roomy : Standing) (page : Page)
    → (let new : Standing = record roomy { kernel = zero_step roomy.kernel page; room = None } in Filled page roomy new)
zero_fills roomy page = record {
  on = record {
    params = refl;
    images = refl;
    frames = entry_frames [] 0 roomy.kernel.place (entries.Zero page);
    counted = counts_one roomy.kernel.journal (append roomy.kernel.journal (entries.Zero page)) (entries.Zero page) refl;
  };
  due = refl;
  last = last_plain roomy.kernel.journal (entries.Zero page) tt;
}

pub start_fills : (old new : Standing) (page : Page) (holds : Option (List NamedFile)) (i j : Option SwapImage) → FillsStart page old new holds i j
    → Filled page old new
start_fills old new page holds i j f =
    let z : Filled page f.roomy new = subst (Filled page f.roomy) (sym f.fills) (zero_fills f.roomy page) in
    record {
      on = runs_both old f.roomy new 0 0 (units_run (ground old holds []) f.forces.units old f.roomy i j f.forces.makes) z.on;
      due = z.due ∙ ap (λ (ds : List Due). due_after ds page) (forces_due f.forces.units old.kernel.place f.roomy.kernel.place [] f.forces.forces);
      last = z.last;
    }

pub fill_continues : (old new : Standing) (page : Page) (ds : List Due) (holds : Option (List NamedFile)) (i j : Option SwapImage)
    → old.kernel.place.due ≡ Start page ∷ ds → FillsStart page old new holds i j → RunsDue old new 0 ds
fill_continues old new page ds holds i j d f =
    let z = start_fills old new page holds i j f in
    record {
      on = z.on;
      due = z.due ∙ ap (λ (xs : List Due). due_after xs page) d ∙ first_gone page ds;
      low = let last = z.last in omega arith;
    }
