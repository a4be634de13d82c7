-- The page that is due first is filled by next units of a run.
use Rattle.std.proofs.Common.{◌≡◌, inl, inr, ℕ, ◌<◌, List, [], ◌∷◌, ◌++◌, length, Option, Some, refl, sym, ap, ◌∙◌, subst}
use Rattle.vm_facts.specs.SwapImages.{SwapImage}
use Rattle.vm_facts.specs.declared.page.Page.{Page}
use Rattle.vm_facts.specs.declared.entry.Entry.{Entry}
use Rattle.vm_facts.specs.declared.entry.Entry.TheVariants as entries
use Rattle.vm_facts.specs.declared.stop.Stop.{Stop}
use Rattle.io_edge.specs.FileHolding.{NamedFile}
use Rattle.flat_state.specs.Flat.{Inputs}
use Rattle.page_model.specs.Placement.{Placement, Due, Start, CopyOf, due_page}
use Rattle.page_model.specs.Place.{due_after, place_entry}
use Rattle.page_model.specs.Serve.{force_entry, Forces}
use Rattle.kernel_model.specs.Kernel.{Kernel, zero_step, copy_step}
use Rattle.machine_state.specs.Machine.{Standing}
use Rattle.machine_state.specs.Files.{AreRunImages}
use Rattle.swapper.specs.Made.{ground, Made}
use Rattle.swapper.specs.Stops.{StopsAt, StopsWhile}
use Rattle.proc_calls.specs.Forced.{Forced, forcing_frame}
use Rattle.proc_calls.specs.Filling.{StopsFilling}
use Rattle.run_model.specs.State.{State}
use Rattle.run_model.specs.Wanted.{locked as locked_now}
use Rattle.run_model.specs.After.{after, place_at}
use Rattle.run_model.specs.Next.{next_unit}
use Rattle.machine_state.proofs.Copying.{head_is}
use Rattle.run_laws.specs.Machine.{unit_swap}
use Rattle.run_laws.proofs.Marks.{IsFree, due_free}
use Rattle.run_laws.proofs.Allowed.{first_after}
use Rattle.run_units.specs.Leads.{MadeAs, Leads}
use Rattle.run_units.specs.Serving.{SameBut, At}
use Rattle.run_units.specs.Filling.{FillsFirst, LeadsDue}
use Rattle.run_units.proofs.Units.{none_leads, first_leads}
use Rattle.run_units.proofs.Serving.{Paged, paged, same_both}
use Rattle.run_units.proofs.Filling.{forcing, forced_next, fill_next}
use Rattle.step_units.specs.Stepped.{StopLeads}
use Rattle.step_units.proofs.Entering.{leads_both, stops_then}
use Rattle.step_units.proofs.Leading.{led_told, led_at, stop_at}

-- units lead to a state with the same but for pages and journal, at which these are due
pub record LeadsTo (A : Inputs) (s : State) (k : Kernel) (image : SwapImage) (ds : List Due) (l : Kernel) (j : Option SwapImage) : Type 0 where
  pub units : List Entry
  pub state : State
  pub leads : Leads A s k image units state l j
  pub same : SameBut s state
  pub due : state.place.due ≡ ds

pub stays : (A : Inputs) (s : State) (k : Kernel) (image : SwapImage) (ds : List Due) → s.place.due ≡ ds → LeadsTo A s k image ds k (Some image)
stays A s k image ds d = record {
  units = [];
  state = s;
  leads = none_leads A s k image;
  same = record { point = refl; holdings = refl; count = refl; lines = refl; mark = refl };
  due = d;
}

-- after units that lead to a state
pub goes_on : (A : Inputs) (s t : State) (k l m : Kernel) (image behind : SwapImage) (j : Option SwapImage) (us : List Entry) (ds : List Due)
    → Leads A s k image us t l (Some behind)
    → SameBut s t → LeadsTo A t l behind ds m j → LeadsTo A s k image ds m j
goes_on A s t k l m image behind j us ds led same more = record {
  units = us ++ more.units;
  state = more.state;
  leads = leads_both A s t more.state k l m image behind j us more.units led more.leads;
  same = same_both s t more.state same more.same;
  due = more.due;
}

-- The fill.

-- what fills a page that is due, and what it makes of the machine
abbrev pub fill_entry : Due → Entry
fill_entry (Start q) = entries.Zero q
fill_entry (CopyOf q parent) = entries.Copy q

abbrev pub fill_step : Kernel → Due → Kernel
fill_step k (Start q) = zero_step k q
fill_step k (CopyOf q parent) = copy_step k q

fill_made : (A : Inputs) (s : State) (k : Kernel) (image : SwapImage) (d : Due) → MadeAs A s k image (fill_entry d) (fill_step k d) (Some image)
fill_made A s k image (Start q) = record { read = []; given = tt; made = refl; told = refl }
fill_made A s k image (CopyOf q parent) = record { read = []; given = tt; made = refl; told = refl }

fill_image : (A : Inputs) (k : Kernel) (image : SwapImage) (d : Due) → unit_swap A k image (fill_entry d) ≡ image
fill_image A k image (Start q) = refl
fill_image A k image (CopyOf q parent) = refl

fill_paged : (A : Inputs) (s : State) (d : Due) → IsFree s.mark → Paged A s (fill_entry d)
fill_paged A s (Start q) f = paged A s (entries.Zero q) tt f
fill_paged A s (CopyOf q parent) f = paged A s (entries.Copy q) tt f

fill_due : (locked : List Page) (at : ℕ) (p : Placement) (d : Due) → (place_entry locked at p (fill_entry d)).due ≡ due_after p.due (due_page d)
fill_due locked at p (Start q) = refl
fill_due locked at p (CopyOf q parent) = refl

-- where a frame is free, the fill is next, and leads to where the others are due
pub fill_leads : (A : Inputs) (s : State) (k : Kernel) (image : SwapImage) (d : Due) (ds : List Due) (locked : List Page) → At A s k image
    → s.place.due ≡ d ∷ ds
    → FillsFirst s.place s.place.due (fill_entry d) locked → 0 < length k.place.free → LeadsTo A s k image ds (fill_step k d) (Some image)
fill_leads A s k image d ds locked at e first free =
    let u : Entry = fill_entry d in
    let some = head_is k.place.free free in
    let next : next_unit A s ≡ Some u = fill_next A s u locked some.0 some.1 first (sym (ap (λ (p : Placement). p.free) at.stands.place) ∙ some.2) in
    let same : Paged A s u = fill_paged A s d (due_free s d ds e s.mark at.run.mark) in
    record {
      units = u ∷ [];
      state = after A s u;
      leads = first_leads A s (after A s u) k (fill_step k d) (fill_step k d) image (Some image) (Some image) u [] next (fill_made A s k image d)
          (subst (λ (x : SwapImage). Leads A (after A s u) (fill_step k d) x [] (after A s u) (fill_step k d) (Some image)) (sym (fill_image A k image d))
          (none_leads A (after A s u) (fill_step k d) image));
      same = same.same;
      due = ap (λ (p : Placement). p.due) same.place ∙ fill_due (locked_now A s) (place_at s u) s.place d ∙ ap (λ (l : List Due). due_after l (due_page d)) e ∙ first_after d ds;
    }

-- A frame is forced for it first.

-- what forcing led to
forced_to : (A : Inputs) (s : State) (m : Standing) (l : Kernel) (holds : Option (List NamedFile)) (image : SwapImage) (j : Option SwapImage) (e : Entry)
    (locked : List Page) (us : List Entry)
    → At A s m.kernel image → AreRunImages m.images holds A → FillsFirst s.place s.place.due e locked → Forces us m.kernel.place locked l.place
    → Made (ground m holds locked) us m.kernel (Some image) l j
    → (led : LeadsDue A s m.kernel image us l j) × FillsFirst led.state.place led.state.place.due e locked
forced_to A s m l holds image j e locked us at images first forces made = forcing A (ground m holds locked) s m.kernel l image j e us at images first forces made

pub forced_fill : (A : Inputs) (s : State) (m roomy : Standing) (holds : Option (List NamedFile)) (image : SwapImage) (j : Option SwapImage) (d : Due)
    (ds : List Due) (locked : List Page)
    → At A s m.kernel image → AreRunImages m.images holds A → s.place.due ≡ d ∷ ds → FillsFirst s.place s.place.due (fill_entry d) locked
    → Forced locked m roomy holds (Some image) j → LeadsTo A s m.kernel image ds (fill_step roomy.kernel d) j
forced_fill A s m roomy holds image j d ds locked at images e first f =
    let to = forced_to A s m roomy.kernel holds image j (fill_entry d) locked f.units at images first f.forces f.makes.made in
    let t : State = to.0.state in
    let behind : SwapImage = to.0.leads.behind in
    let filled : LeadsTo A t roomy.kernel behind ds (fill_step roomy.kernel d) (Some behind) =
    fill_leads A t roomy.kernel behind d ds locked (led_at A s t m.kernel roomy.kernel image j f.units at to.0.leads) (to.0.due ∙ e) to.1 f.free in
    subst (λ (o : Option SwapImage). LeadsTo A s m.kernel image ds (fill_step roomy.kernel d) o) (sym to.0.leads.told)
    (goes_on A s t m.kernel roomy.kernel (fill_step roomy.kernel d) image behind (Some behind) f.units ds (led_told A s t m.kernel roomy.kernel image j f.units to.0.leads) to.0.same filled)

-- Stops.

forcing_stops : (A : Inputs) (s : State) (m new : Standing) (holds : Option (List NamedFile)) (image : SwapImage) (j : Option SwapImage) (e : Entry)
    (locked : List Page) (stop : Stop)
    → At A s m.kernel image → AreRunImages m.images holds A → FillsFirst s.place s.place.due e locked → StopsWhile (forcing_frame locked) m new holds (Some image) j stop
    → StopLeads A s m.kernel image stop new j
forcing_stops A s m new holds image j e locked stop at images first h =
    let to = forced_to A s m h.at holds image h.image e locked h.units at images first h.leads.forces h.made in
    let t : State = to.0.state in
    let behind : SwapImage = to.0.leads.behind in
    let here : h.at.place ≡ t.place = (led_at A s t m.kernel h.at image h.image h.units at to.0.leads).stands.place in
    let u : Entry = h.entry in
    let next : next_unit A t ≡ Some u =
    forced_next A t e locked to.1 (sym (ap (λ (p : Placement). p.free) here) ∙ h.leads.none) ∙ ap (λ (p : Placement). Some (force_entry p.transfers)) (sym here)
    ∙ h.next in
    stops_then A s t m.kernel h.at image behind j h.units stop new (led_told A s t m.kernel h.at image h.image h.units to.0.leads)
    (stop_at A t (record m { kernel = h.at }) behind u stop new j next (subst (λ (o : Option SwapImage). StopsAt u (record m { kernel = h.at }) new o j stop) to.0.leads.told h.stops))

fill_stops : (A : Inputs) (s : State) (m roomy new : Standing) (holds : Option (List NamedFile)) (image : SwapImage) (i j : Option SwapImage) (e : Entry)
    (locked : List Page) (stop : Stop)
    → At A s m.kernel image → AreRunImages m.images holds A → FillsFirst s.place s.place.due e locked → Forced locked m roomy holds (Some image) i
    → StopsAt e roomy new i j stop → StopLeads A s m.kernel image stop new j
fill_stops A s m roomy new holds image i j e locked stop at images first f h =
    let to = forced_to A s m roomy.kernel holds image i e locked f.units at images first f.forces f.makes.made in
    let t : State = to.0.state in
    let behind : SwapImage = to.0.leads.behind in
    let here : roomy.kernel.place ≡ t.place = (led_at A s t m.kernel roomy.kernel image i f.units at to.0.leads).stands.place in
    let some = head_is roomy.kernel.place.free f.free in
    let next : next_unit A t ≡ Some e = fill_next A t e locked some.0 some.1 to.1 (sym (ap (λ (p : Placement). p.free) here) ∙ some.2) in
    stops_then A s t m.kernel roomy.kernel image behind j f.units stop new (led_told A s t m.kernel roomy.kernel image i f.units to.0.leads)
    (stop_at A t roomy behind e stop new j next (subst (λ (o : Option SwapImage). StopsAt e roomy new o j stop) to.0.leads.told h))

pub filling_stops : (A : Inputs) (s : State) (m new : Standing) (holds : Option (List NamedFile)) (image : SwapImage) (j : Option SwapImage) (e : Entry)
    (locked : List Page) (stop : Stop)
    → At A s m.kernel image → AreRunImages m.images holds A → FillsFirst s.place s.place.due e locked
    → StopsFilling e locked m new holds (Some image) j stop → StopLeads A s m.kernel image stop new j
filling_stops A s m new holds image j e locked stop at images first h = elim h [
  | inl x ↦ forcing_stops A s m new holds image j e locked stop at images first x
  | inr x ↦ fill_stops A s m x.reached new holds image j j e locked stop at images first x.far x.stops
]
