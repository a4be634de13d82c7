-- Pages of a child are copied by next units of a run.
use Rattle.std.proofs.Common.{◌≡◌, inl, inr, ℕ, true, List, [], ◌∷◌, Option, Some, refl, sym, ap, ◌∙◌, subst}
use Rattle.vm_facts.specs.SwapImages.{SwapImage}
use Rattle.vm_facts.specs.declared.page.Page.{Page}
use Rattle.vm_facts.specs.declared.entry.Entry.{Entry}
use Rattle.vm_facts.specs.declared.entry.Entry.TheVariants as entries
use Rattle.vm_facts.specs.declared.stop.Stop.{Stop}
use Rattle.io_edge.specs.FileHolding.{NamedFile}
use Rattle.flat_state.specs.Flat.{Inputs}
use Rattle.page_model.specs.Pages.{is_valid}
use Rattle.page_model.specs.Placement.{Placement, Due, Start, CopyOf, state_of}
use Rattle.page_model.specs.Serve.{serve_unit}
use Rattle.kernel_model.specs.Kernel.{copy_step}
use Rattle.machine_state.specs.Machine.{Standing}
use Rattle.machine_state.specs.Sourced.{ImageNamed}
use Rattle.machine_state.specs.Files.{AreRunImages}
use Rattle.swapper.specs.Made.{ground}
use Rattle.swapper.specs.Stops.{StopsAt, StopsWhile}
use Rattle.proc_calls.specs.Forced.{Forced}
use Rattle.proc_calls.specs.Serving.{serving_page}
use Rattle.proc_calls.specs.Answers.{ServesNow}
use Rattle.proc_calls.specs.Answered.{StopsOnce}
use Rattle.proc_calls.specs.Copying.{CopiesPage, StopsPage, CopiesAll, StopsCopying}
use Rattle.proc_calls.specs.Filling.{StopsFilling}
use Rattle.run_model.specs.State.{State}
use Rattle.run_model.specs.Next.{next_unit}
use Rattle.run_units.specs.Serving.{At}
use Rattle.run_units.specs.Filling.{FillsFirst, LeadsDue}
use Rattle.run_units.proofs.Filling.{bringing, brought_next}
use Rattle.step_units.specs.Stepped.{StopLeads}
use Rattle.step_units.proofs.Entering.{stops_then}
use Rattle.step_units.proofs.Leading.{led_told, led_at, stop_at}
use Rattle.step_units.proofs.Filling.{LeadsTo, stays, goes_on, forced_fill, filling_stops}

-- The parent's page.

-- once it is valid, the child's page is filled by a copy
record Brought (A : Inputs) (s : State) (m served : Standing) (holds : Option (List NamedFile)) (image : SwapImage) (i : Option SwapImage) (child parent : Page)
    (ds : List Due) : Type 0 where
  pub units : List Entry
  pub led : LeadsDue A s m.kernel image units served.kernel i
  pub at : At A led.state served.kernel led.leads.behind
  pub images : AreRunImages served.images holds A
  pub due : led.state.place.due ≡ CopyOf child parent ∷ ds
  pub first : FillsFirst led.state.place led.state.place.due (entries.Copy child) (parent ∷ [])

brought : (A : Inputs) (s : State) (m served : Standing) (holds : Option (List NamedFile)) (image : SwapImage) (i : Option SwapImage)
    (child parent : Page) (ds : List Due)
    → At A s m.kernel image
    → AreRunImages m.images holds A → s.place.due ≡ CopyOf child parent ∷ ds → ServesNow (parent ∷ []) parent m served holds (Some image) i
    → Brought A s m served holds image i child parent ds
brought A s m served holds image i child parent ds at images d serves =
    let us : List Entry = serves.0.units in
    let led : LeadsDue A s m.kernel image us served.kernel i =
    bringing us A (ground m holds (parent ∷ [])) s m.kernel served.kernel image i child parent ds at images refl d serves.0.leads serves.0.makes.made in
    let there : At A led.state served.kernel led.leads.behind = led_at A s led.state m.kernel served.kernel image i us at led.leads in
    let valid : is_valid (state_of led.state.place parent) ≡ true = subst (λ (p : Placement). is_valid (state_of p parent) ≡ true) there.stands.place serves.1 in
    record {
      units = us;
      led = led;
      at = there;
      images = subst (λ (ns : List ImageNamed). AreRunImages ns holds A) (sym serves.0.makes.beside.images) images;
      due = led.due ∙ d;
      first = subst (λ (l : List Due). FillsFirst led.state.place l (entries.Copy child) (parent ∷ [])) (sym (led.due ∙ d)) (refl, refl, valid);
    }

-- One page.

copied_images : (A : Inputs) (old new : Standing) (holds : Option (List NamedFile)) (i j : Option SwapImage) (child parent : Page)
    → AreRunImages old.images holds A
    → CopiesPage child parent old new holds i j → AreRunImages new.images holds A
copied_images A old new holds i j child parent images c =
    subst (λ (ns : List ImageNamed). AreRunImages ns holds A)
    (sym (ap (λ (m : Standing). m.images) c.copies ∙ c.forces.makes.beside.images ∙ c.serves.0.makes.beside.images)) images

pub page_copied : (A : Inputs) (s : State) (old new : Standing) (holds : Option (List NamedFile)) (image : SwapImage) (j : Option SwapImage)
    (child parent : Page) (ds : List Due)
    → At A s old.kernel image
    → AreRunImages old.images holds A → s.place.due ≡ CopyOf child parent ∷ ds → CopiesPage child parent old new holds (Some image) j
    → LeadsTo A s old.kernel image ds new.kernel j
page_copied A s old new holds image j child parent ds at images d c =
    let b : Brought A s old c.served holds image c.behind child parent ds = brought A s old c.served holds image c.behind child parent ds at images d c.serves in
    let t : State = b.led.state in
    let behind : SwapImage = b.led.leads.behind in
    let filled : LeadsTo A t c.served.kernel behind ds (copy_step c.roomy.kernel child) j =
    forced_fill A t c.served c.roomy holds behind j (CopyOf child parent) ds (parent ∷ []) b.at b.images b.due b.first
    (subst (λ (o : Option SwapImage). Forced (parent ∷ []) c.served c.roomy holds o j) b.led.leads.told c.forces) in
    subst (λ (m : Standing). LeadsTo A s old.kernel image ds m.kernel j) (sym c.copies)
    (goes_on A s t old.kernel c.served.kernel (copy_step c.roomy.kernel child) image behind j b.units ds
    (led_told A s t old.kernel c.served.kernel image c.behind b.units b.led.leads) b.led.same filled)

-- All pages.

pub all_copied : (ds : List Due) (A : Inputs) (s : State) (old new : Standing) (holds : Option (List NamedFile)) (image : SwapImage) (j : Option SwapImage)
    → At A s old.kernel image
    → AreRunImages old.images holds A → s.place.due ≡ ds → CopiesAll ds old new holds (Some image) j → LeadsTo A s old.kernel image [] new.kernel j
all_copied [] A s old new holds image j at images d c =
    subst (λ (m : Standing). LeadsTo A s old.kernel image [] m.kernel j) (sym c.0)
    (subst (λ (o : Option SwapImage). LeadsTo A s old.kernel image [] old.kernel o) (sym c.1) (stays A s old.kernel image [] d))
all_copied (Start q ∷ ds) A s old new holds image j at images d c = absurd c
all_copied (CopyOf child parent ∷ ds) A s old new holds image j at images d c =
    let next : Standing = c.0 in
    let one : LeadsTo A s old.kernel image ds next.kernel c.1 = page_copied A s old next holds image c.1 child parent ds at images d c.2 in
    let t : State = one.state in
    let behind : SwapImage = one.leads.behind in
    let more : LeadsTo A t next.kernel behind [] new.kernel j =
    all_copied ds A t next new holds behind j (led_at A s t old.kernel next.kernel image c.1 one.units at one.leads)
    (copied_images A old next holds (Some image) c.1 child parent images c.2) one.due
    (subst (λ (o : Option SwapImage). CopiesAll ds next new holds o j) one.leads.told c.3) in
    goes_on A s t old.kernel next.kernel new.kernel image behind j one.units [] (led_told A s t old.kernel next.kernel image c.1 one.units one.leads) one.same more

-- Stops.

serving_stops : (A : Inputs) (s : State) (m new : Standing) (holds : Option (List NamedFile)) (image : SwapImage) (j : Option SwapImage) (child parent : Page)
    (ds : List Due) (stop : Stop)
    → At A s m.kernel image → AreRunImages m.images holds A → s.place.due ≡ CopyOf child parent ∷ ds
    → StopsWhile (serving_page true (parent ∷ []) parent) m new holds (Some image) j stop
    → StopLeads A s m.kernel image stop new j
serving_stops A s m new holds image j child parent ds stop at images d h =
    let led : LeadsDue A s m.kernel image h.units h.at h.image =
    bringing h.units A (ground m holds (parent ∷ [])) s m.kernel h.at image h.image child parent ds at images refl d h.leads h.made in
    let t : State = led.state in
    let behind : SwapImage = led.leads.behind in
    let here : h.at.place ≡ t.place = (led_at A s t m.kernel h.at image h.image h.units at led.leads).stands.place in
    let u : Entry = h.entry in
    let next : next_unit A t ≡ Some u =
    brought_next A t child parent ds u (led.due ∙ d) (subst (λ (p : Placement). serve_unit p parent true ≡ Some u) here h.next) in
    stops_then A s t m.kernel h.at image behind j h.units stop new (led_told A s t m.kernel h.at image h.image h.units led.leads)
    (stop_at A t (record m { kernel = h.at }) behind u stop new j next (subst (λ (o : Option SwapImage). StopsAt u (record m { kernel = h.at }) new o j stop) led.leads.told h.stops))

behind_stops : (A : Inputs) (s : State) (old new : Standing) (holds : Option (List NamedFile)) (image : SwapImage) (told j : Option SwapImage)
    (child parent : Page)
    (ds : List Due) (stop : Stop)
    → At A s old.kernel image → AreRunImages old.images holds A → s.place.due ≡ CopyOf child parent ∷ ds
    → StopsOnce (λ m. ServesNow (parent ∷ []) parent old m holds (Some image) told)
    (λ m. StopsFilling (entries.Copy child) (parent ∷ []) m new holds told j stop)
    → StopLeads A s old.kernel image stop new j
behind_stops A s old new holds image told j child parent ds stop at images d h =
    let served : Standing = h.reached in
    let b : Brought A s old served holds image told child parent ds = brought A s old served holds image told child parent ds at images d h.far in
    let t : State = b.led.state in
    let behind : SwapImage = b.led.leads.behind in
    stops_then A s t old.kernel served.kernel image behind j b.units stop new (led_told A s t old.kernel served.kernel image told b.units b.led.leads)
    (filling_stops A t served new holds behind j (entries.Copy child) (parent ∷ []) stop b.at b.images b.first
    (subst (λ (o : Option SwapImage). StopsFilling (entries.Copy child) (parent ∷ []) served new holds o j stop) b.led.leads.told h.stops))

pub page_stops : (A : Inputs) (s : State) (old new : Standing) (holds : Option (List NamedFile)) (image : SwapImage) (j : Option SwapImage)
    (child parent : Page)
    (ds : List Due) (stop : Stop)
    → At A s old.kernel image → AreRunImages old.images holds A → s.place.due ≡ CopyOf child parent ∷ ds
    → StopsPage child parent old new holds (Some image) j stop
    → StopLeads A s old.kernel image stop new j
page_stops A s old new holds image j child parent ds stop at images d h = elim h [
  | inl x ↦ serving_stops A s old new holds image j child parent ds stop at images d x
  | inr x ↦ behind_stops A s old new holds image x.0 j child parent ds stop at images d x.1
]

pub copying_stops : (ds : List Due) (A : Inputs) (s : State) (old new : Standing) (holds : Option (List NamedFile)) (image : SwapImage)
    (j : Option SwapImage) (stop : Stop)
    → At A s old.kernel image
    → AreRunImages old.images holds A → s.place.due ≡ ds → StopsCopying ds old new holds (Some image) j stop → StopLeads A s old.kernel image stop new j
copying_stops [] A s old new holds image j stop at images d h = absurd h
copying_stops (Start q ∷ ds) A s old new holds image j stop at images d h = absurd h
copying_stops (CopyOf child parent ∷ ds) A s old new holds image j stop at images d h = elim h [
  | inl x ↦ page_stops A s old new holds image j child parent ds stop at images d x
  | inr x ↦
      let next : Standing = x.1.reached in
      let one : LeadsTo A s old.kernel image ds next.kernel x.0 = page_copied A s old next holds image x.0 child parent ds at images d x.1.far in
      let t : State = one.state in
      let behind : SwapImage = one.leads.behind in
      stops_then A s t old.kernel next.kernel image behind j one.units stop new (led_told A s t old.kernel next.kernel image x.0 one.units one.leads)
      (copying_stops ds A t next new holds behind j stop (led_at A s t old.kernel next.kernel image x.0 one.units at one.leads)
      (copied_images A old next holds (Some image) x.0 child parent images x.1.far) one.due (subst (λ (o : Option SwapImage). StopsCopying ds next new holds o j stop) one.leads.told x.1.stops))
]
