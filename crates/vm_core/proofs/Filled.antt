-- What is due is filled, one page after another.
use Rattle.std.proofs.Common.{◌≡◌, inl, inr, ℕ, suc, ◌<◌, ◌≤◌, Bool, cond, List, [], ◌∷◌, length, Option, Some, None, refl, sym, ap, ◌∙◌, subst, arith}
use Rattle.std.specs.Option.{option_map}
use Rattle.std.specs.Prelude.{slice_get, Result, Ok, Err, OnOk, MatchResult}
use Rattle.std.proofs.lemmas.Option.{same_Some}
use Rattle.vm_facts.specs.SwapImages.{SwapImage}
use Rattle.vm_facts.specs.declared.entry.Entry.TheVariants as entries
use Rattle.vm_facts.specs.declared.page.Page.{Page}
use Rattle.vm_facts.specs.declared.params.Params.{Params}
use Rattle.vm_facts.specs.declared.stop.Stop.{Stop}
use Rattle.io_edge.specs.FileHolding.{NamedFile}
use Rattle.flat_state.specs.Flat.{Inputs}
use Rattle.flat_state.proofs.PageNames.{same_page_self}
use Rattle.page_model.specs.Placement.{Placement, Due, Start, CopyOf}
use Rattle.page_model.specs.Place.{due_after}
use Rattle.page_model.specs.Rank.{HasRoom}
use Rattle.kernel_model.specs.Kernel.{Kernel}
use Rattle.machine_state.specs.Calls.{due_and_parent}
use Rattle.machine_state.specs.Files.{AreRunImages}
use Rattle.machine_state.specs.Machine.{Standing}
use Rattle.machine_state.specs.Sourced.{ImageNamed}
use Rattle.proc_run.specs.Copying.{IsCopyFirst, CopiesPage, StopsPage, OnceCopied}
use Rattle.proc_run.specs.Filling.{IsStartFirst, FillsStart, StopsFilling}
use Rattle.proc_run.specs.LastMoves.{last_moves}
use Rattle.proc_run.specs.Ready.{CountsOn, RunsDue, Continues}
use Rattle.proc_run.specs.Sizes.{KeptAtStop}
use Rattle.proc_run.proofs.LinesContinue.{fill_continues}
use Rattle.proc_run.proofs.Running.{runs_self, runs_both, continues}
use Rattle.proc_run.proofs.SpacesContinue.{page_counts}
use Rattle.proc_run.proofs.StopsKeep.{kept_through, filling_same, page_same}
use Rattle.run_model.specs.State.{State}
use Rattle.proc_run.specs.RunUnitsFilling.{FillsFirst}
use Rattle.proc_run.specs.Machines.{MachineAt}
use Rattle.proc_run.specs.Stepped.{StopLeads, LeadsFrom, StopsFrom}
use Rattle.proc_run.proofs.Copying.{page_copied, page_stops}
use Rattle.proc_run.proofs.Entering.{stops_then}
use Rattle.proc_run.proofs.Filling.{LeadsTo, stays, goes_on, forced_fill, filling_stops}
use Rattle.proc_run.proofs.Leading.{led_told, led_at}
use Rattle.vm_core.specs.Filling.{due_of, IsDueFirst, FillsDue, StopsDue}
use Rattle.vm_core.specs.Leading.{ToldAt, FillsLead}

-- What is due first.

pub first_of : (p : Placement) (page : Page) (parent : Option Page) → option_map due_and_parent (slice_get p.due 0) ≡ Some (page, parent)
    → IsDueFirst p (due_of page parent)
first_of p page parent e = go p.due refl e
  where
    is_first : (d : Due) (ds : List Due) → p.due ≡ d ∷ ds → d ≡ due_of page parent → IsDueFirst p (due_of page parent)
    is_first d ds same e = record { others = ds; first = same ∙ ap (λ (x : Due). x ∷ ds) e }

    shown : (d : Due) → due_and_parent d ≡ (page, parent) → d ≡ due_of page parent
    shown (Start q) e = ap (λ (x : Page × Option Page). due_of x.0 x.1) e
    shown (CopyOf q other) e = ap (λ (x : Page × Option Page). due_of x.0 x.1) e

    go : (ds : List Due) → p.due ≡ ds → option_map due_and_parent (slice_get ds 0) ≡ Some (page, parent) → IsDueFirst p (due_of page parent)
    go [] same e = absurd cc
    go (d ∷ ds) same e = is_first d ds same (shown d (same_Some (due_and_parent d) (page, parent) e))

pub none_due : (ds : List Due) → option_map due_and_parent (slice_get ds 0) ≡ None → ds ≡ []
none_due [] e = refl
none_due (d ∷ ds) e = absurd cc

pub fewer : (old next : Standing) (d : Due) (f : IsDueFirst old.kernel.place d) → RunsDue old next 0 f.others
    → length next.kernel.place.due < length old.kernel.place.due
fewer old next d f r =
    let more : length old.kernel.place.due ≡ suc (length f.others) = ap (λ (xs : List Due). length xs) f.first in
    let same : length next.kernel.place.due ≡ length f.others = ap (λ (xs : List Due). length xs) r.due in
    omega (arith, more, same)

pub copy_first : (p : Placement) (page parent : Page) → IsDueFirst p (CopyOf page parent) → IsCopyFirst p page parent
copy_first p page parent f = record { others = f.others; first = f.first }

pub start_due : (p : Placement) (page : Page) → IsDueFirst p (Start page) → IsStartFirst p page
start_due p page f = record { others = f.others; first = f.first }

-- the room of the hands
pub room_none : (p : Placement) (q : Page) → HasRoom p (q ∷ []) → HasRoom p []
room_none p q r = record { quarter = r.quarter; rest = let l = r.rest in omega (arith, l) }

pub room_one : (p : Placement) (q : Page) → 64 ≤ length p.holds → HasRoom p (q ∷ [])
room_one p q l = record { quarter = omega (arith, l); rest = omega (arith, l) }

-- It is filled.

pub copy_fills : {A : Type 0} (r : Result A Stop) (page parent : Page) (o : Option Page) (old new : Standing) (holds : Option (List NamedFile))
    (i j : Option SwapImage) → o ≡ Some parent
    → MatchResult r (λ x. CopiesPage page parent old new holds i j) (StopsPage page parent old new holds i j) → OnOk r (OnceCopied page old new)
    → MatchResult r (λ x. FillsDue (due_of page o) old new holds i j) (StopsDue (due_of page o) old new holds i j)
copy_fills r page parent o old new holds i j e m on =
    subst (λ (x : Option Page). MatchResult r (λ y. FillsDue (due_of page x) old new holds i j) (StopsDue (due_of page x) old new holds i j)) (sym e) (both r m on)
  where
    both : {A : Type 0} (r : Result A Stop) → MatchResult r (λ x. CopiesPage page parent old new holds i j) (StopsPage page parent old new holds i j) → OnOk r (OnceCopied page old new)
        → MatchResult r (λ x. CopiesPage page parent old new holds i j × OnceCopied page old new) (StopsPage page parent old new holds i j)
    both (Ok x) m on = (m, on)
    both (Err stop) m on = m

pub start_fills : {A : Type 0} (r : Result A Stop) (page : Page) (o : Option Page) (old new : Standing) (holds : Option (List NamedFile))
    (i j : Option SwapImage) → o ≡ None
    → MatchResult r (λ x. FillsStart page old new holds i j) (StopsFilling (entries.Zero page) [] old new holds i j)
    → MatchResult r (λ x. FillsDue (due_of page o) old new holds i j) (StopsDue (due_of page o) old new holds i j)
start_fills r page o old new holds i j e m =
    subst (λ (x : Option Page). MatchResult r (λ y. FillsDue (due_of page x) old new holds i j) (StopsDue (due_of page x) old new holds i j)) (sym e) m

pub due_filled : (d : Due) (ds : List Due) (old next : Standing) (holds : Option (List NamedFile)) (i j : Option SwapImage)
    → old.kernel.place.due ≡ d ∷ ds → FillsDue d old next holds i j → RunsDue old next 0 ds
due_filled (Start q) ds old next holds i j e f = fill_continues old next q ds holds i j e f
due_filled (CopyOf q parent) ds old next holds i j e f =
    let g : OnceCopied q old next = f.1 in
    record {
      on = record {
        params = g.params;
        images = g.images;
        frames = g.frames;
        counted = let c = page_counts q parent old next holds i j f.0 in omega (arith, c);
      };
      due = g.due ∙ ap (λ (xs : List Due). due_after xs q) e ∙ ap (λ (b : Bool). cond b ds (CopyOf q parent ∷ ds)) (same_page_self q);
      low = let last = g.last in omega (arith, last);
    }

stop_keeps : (d : Due) (old new : Standing) (holds : Option (List NamedFile)) (i j : Option SwapImage) (stop : Stop) → StopsDue d old new holds i j stop
    → KeptAtStop old new stop
stop_keeps (Start q) old new holds i j stop f = filling_same (entries.Zero q) [] old new holds i j stop f
stop_keeps (CopyOf q parent) old new holds i j stop f = page_same q parent old new holds i j stop f

-- Its units are next units.

start_first : (s : State) (page : Page) (ds : List Due) → s.place.due ≡ Start page ∷ ds → FillsFirst s.place s.place.due (entries.Zero page) []
start_first s page ds e = subst (λ (xs : List Due). FillsFirst s.place xs (entries.Zero page) []) (sym e) (refl, refl)

due_leads : (d : Due) (ds : List Due) (A : Inputs) (s : State) (old next : Standing) (holds : Option (List NamedFile)) (image : SwapImage)
    (j : Option SwapImage)
    → MachineAt A s old holds image
    → s.place.due ≡ d ∷ ds → FillsDue d old next holds (Some image) j → LeadsTo A s old.kernel image ds next.kernel j
due_leads (Start q) ds A s old next holds image j at e f =
    subst (λ (k : Kernel). LeadsTo A s old.kernel image ds k j) (sym (ap (λ (n : Standing). n.kernel) f.fills))
    (forced_fill A s old f.roomy holds image j (Start q) ds [] at.at at.images e (start_first s q ds e) f.forces)
due_leads (CopyOf q parent) ds A s old next holds image j at e f = page_copied A s old next holds image j q parent ds at.at at.images e f.0

start_stops : (A : Inputs) (s : State) (old new : Standing) (holds : Option (List NamedFile)) (image : SwapImage) (j : Option SwapImage) (page : Page)
    (ds : List Due) (stop : Stop) → MachineAt A s old holds image
    → s.place.due ≡ Start page ∷ ds → StopsFilling (entries.Zero page) [] old new holds (Some image) j stop → StopLeads A s old.kernel image stop new j
start_stops A s old new holds image j page ds stop at e f =
    filling_stops A s old new holds image j (entries.Zero page) [] stop at.at at.images (start_first s page ds e) f

due_stops : (d : Due) (ds : List Due) (A : Inputs) (s : State) (old new : Standing) (holds : Option (List NamedFile)) (image : SwapImage) (j : Option SwapImage)
    (stop : Stop) → MachineAt A s old holds image
    → s.place.due ≡ d ∷ ds → StopsDue d old new holds (Some image) j stop → StopLeads A s old.kernel image stop new j
due_stops (Start q) ds A s old new holds image j stop at e f = start_stops A s old new holds image j q ds stop at e f
due_stops (CopyOf q parent) ds A s old new holds image j stop at e f = page_stops A s old new holds image j q parent ds stop at.at at.images e f

-- What was filled so far.

-- The machine goes on, but for what is due still, and next units led there.
pub record FilledSoFar (old now : Standing) (holds later : Option (List NamedFile)) (i h : Option SwapImage) : Type 0 where
  pub on : CountsOn old now 0
  pub low : last_moves now.kernel.journal ≤ last_moves old.kernel.journal
  pub files : later ≡ holds
  pub leads : (A : Inputs) (s : State) (image : SwapImage) → MachineAt A s old holds image → i ≡ Some image
      → LeadsTo A s old.kernel image now.kernel.place.due now.kernel h

pub filled_none : (old : Standing) (holds : Option (List NamedFile)) (i : Option SwapImage) → FilledSoFar old old holds holds i i
filled_none old holds i = record {
  on = runs_self old;
  low = omega arith;
  files = refl;
  leads = λ A s image at e.
      subst (λ (o : Option SwapImage). LeadsTo A s old.kernel image old.kernel.place.due old.kernel o) (sym e)
      (stays A s old.kernel image old.kernel.place.due (ap (λ (p : Placement). p.due) (sym at.at.stands.place)));
}

-- the machine stands where they led
there : (A : Inputs) (s : State) (old now : Standing) (holds : Option (List NamedFile)) (image : SwapImage) (h : Option SwapImage) (ds : List Due)
    → MachineAt A s old holds image → CountsOn old now 0
    → (led : LeadsTo A s old.kernel image ds now.kernel h) → MachineAt A led.state now holds led.leads.behind
there A s old now holds image h ds at on led = record {
  at = led_at A s led.state old.kernel now.kernel image h led.units at.at led.leads;
  images = subst (λ (ns : List ImageNamed). AreRunImages ns holds A) (sym on.images) at.images;
  blocks = ap (λ (p : Params). p.swap_blocks) on.params ∙ at.blocks;
}

module _ (old now : Standing) (holds later : Option (List NamedFile)) (i h : Option SwapImage) (so : FilledSoFar old now holds later i h) where
  pub filled_one : (next : Standing) (latest : Option (List NamedFile)) (k : Option SwapImage) (d : Due) → IsDueFirst now.kernel.place d → latest ≡ later
      → FillsDue d now next later h k
      → FilledSoFar old next holds latest i k
  filled_one next latest k d first same f =
      let one : RunsDue now next 0 first.others = due_filled d first.others now next later h k first.first f in
      record {
        on = runs_both old now next 0 0 so.on one.on;
        low = let a = so.low in let b = one.low in omega (arith, a, b);
        files = same ∙ so.files;
        leads = λ A s image at e.
            let led : LeadsTo A s old.kernel image now.kernel.place.due now.kernel h = so.leads A s image at e in
            let behind : SwapImage = led.leads.behind in
            let here : FillsDue d now next holds (Some behind) k =
            subst (λ (o : Option SwapImage). FillsDue d now next holds o k) led.leads.told (subst (λ (x : Option (List NamedFile)). FillsDue d now next x h k) so.files f) in
            let more : LeadsTo A led.state now.kernel behind first.others next.kernel k =
            due_leads d first.others A led.state now next holds behind k (there A s old now holds image h now.kernel.place.due at so.on led) (led.due ∙ first.first) here in
            subst (λ (ds : List Due). LeadsTo A s old.kernel image ds next.kernel k) (sym one.due)
            (goes_on A s led.state old.kernel now.kernel next.kernel image behind k led.units first.others
            (led_told A s led.state old.kernel now.kernel image h led.units led.leads) led.same more);
      }

  pub filled_all : now.kernel.place.due ≡ [] → LeadsFrom (ToldAt old holds i) (FillsLead old now holds h)
  filled_all none A s image at =
      let led : LeadsTo A s old.kernel image now.kernel.place.due now.kernel h = so.leads A s image at.machine at.told in
      record {
        units = led.units;
        state = led.state;
        leads = led.leads;
        same = led.same;
        clear = led.due ∙ none;
        machine = there A s old now holds image h now.kernel.place.due at.machine so.on led;
      }

  pub filled_goes_on : now.kernel.place.due ≡ [] → Continues old now 0
  filled_goes_on none = continues old now 0 so.on none so.low

  pub filled_stops : (new : Standing) (k : Option SwapImage) (d : Due) (stop : Stop) → IsDueFirst now.kernel.place d → StopsDue d now new later h k stop
      → StopsFrom (ToldAt old holds i) old new k stop
  filled_stops new k d stop first f A s image at =
      let led : LeadsTo A s old.kernel image now.kernel.place.due now.kernel h = so.leads A s image at.machine at.told in
      let behind : SwapImage = led.leads.behind in
      let here : StopsDue d now new holds (Some behind) k stop =
      subst (λ (o : Option SwapImage). StopsDue d now new holds o k stop) led.leads.told (subst (λ (x : Option (List NamedFile)). StopsDue d now new x h k stop) so.files f) in
      stops_then A s led.state old.kernel now.kernel image behind k led.units stop new (led_told A s led.state old.kernel now.kernel image h led.units led.leads)
      (due_stops d first.others A led.state now new holds behind k stop (there A s old now holds image h now.kernel.place.due at.machine so.on led) (led.due ∙ first.first) here)

  pub filled_kept : (new : Standing) (k : Option SwapImage) (d : Due) (stop : Stop) → StopsDue d now new later h k stop → KeptAtStop old new stop
  filled_kept new k d stop f = kept_through old now new stop (record { params = so.on.params; images = so.on.images }) (stop_keeps d now new later h k stop f)
