-- The rest of a step and of a mark, together, and the whole way.
use Rattle.std.proofs.Common.{◌≡◌, ℕ, ◌+◌, ◌<◌, ◌≤◌, ◌^◌, List, ◌++◌, length, Option, sym, ap, ◌∙◌, subst, arith}
use Rattle.vm_facts.specs.SwapImages.{SwapImage}
use Rattle.vm_facts.specs.declared.event.Event.{Event}
use Rattle.vm_facts.specs.declared.params.Params.{Params}
use Rattle.vm_facts.specs.declared.stop.Stop.{Stop}
use Rattle.io_edge.specs.FileHolding.{NamedFile}
use Rattle.flat_state.specs.Flat.{Inputs}
use Rattle.machine_state.specs.Machine.{Standing}
use Rattle.run_model.specs.declared.mark.Mark.{Mark}
use Rattle.run_model.specs.State.{State}
use Rattle.run_model.specs.Next.{last_turned}
use Rattle.vm_core.specs.Stepped.{StepLeads, AtSome, LeadsFrom, StopsFrom}
use Rattle.vm_core.specs.Running.{CountsTo}
use Rattle.film_core.specs.Films.{IsInOrder}
use Rattle.film_core.specs.Ways.{WayAt, RestAt, UnderAt, StaysOn, OverAt, GoesAt, StepSettled, RestDone, RunsOut}
use Rattle.film_core.proofs.Composing.{then_lead, then_stop, then_out, leads_reached, reached_below, stands_then, leads_longer}

-- what is so under a mark, whatever the lines are
under_at : (A : Inputs) (s : State) (m : Standing) (last : Mark) (schedule : List Event) (taken counted : ℕ) (holds : Option (List NamedFile))
    (i : Option SwapImage) (image : SwapImage) → GoesAt m last schedule taken counted holds i A s image
    → UnderAt m last counted holds i A s image
under_at A s m last schedule taken counted holds i image at = record {
  stands = at.stands;
  reached = at.reached;
  mark = at.mark;
  order = subst (λ (es : List Event). IsInOrder es s.lines last) (sym at.are) (subst (λ (n : ℕ). IsInOrder schedule n last) (sym at.lines) at.order);
}

pub going_under : (m : Standing) (last : Mark) (schedule : List Event) (taken counted : ℕ) (holds : Option (List NamedFile)) (i : Option SwapImage)
    → AtSome (GoesAt m last schedule taken counted holds i) → AtSome (UnderAt m last counted holds i)
going_under m last schedule taken counted holds i (A, s, image, at) = (A, s, image, under_at A s m last schedule taken counted holds i image at)

pub leads_going : (m : Standing) (last : Mark) (schedule : List Event) (taken counted : ℕ) (holds : Option (List NamedFile)) (i : Option SwapImage)
    (Leads : Inputs → State → SwapImage → Type 0)
    → LeadsFrom (UnderAt m last counted holds i) Leads → LeadsFrom (GoesAt m last schedule taken counted holds i) Leads
leads_going m last schedule taken counted holds i Leads f A s image at = f A s image (under_at A s m last schedule taken counted holds i image at)

pub stops_going_on : (old new : Standing) (last : Mark) (schedule : List Event) (taken counted : ℕ) (holds : Option (List NamedFile))
    (i h : Option SwapImage) (stop : Stop)
    → StopsFrom (UnderAt old last counted holds i) old new h stop → StopsFrom (GoesAt old last schedule taken counted holds i) old new h stop
stops_going_on old new last schedule taken counted holds i h stop f A s image at = f A s image (under_at A s old last schedule taken counted holds i image at)

pub under_fits : (m : Standing) (last : Mark) (counted : ℕ) (holds : Option (List NamedFile)) (i : Option SwapImage)
    → AtSome (UnderAt m last counted holds i) → counted + 1 < 2 ^ 32
under_fits m last counted holds i (A, s, image, at) =
    let few = at.stands.inputs.few in let below = reached_below A s at.reached in let same = at.stands.count in omega (arith, few, below, same)

way_at : (A : Inputs) (s : State) (m : Standing) (last : Mark) (counted : ℕ) (holds : Option (List NamedFile)) (i : Option SwapImage) (image : SwapImage)
    → UnderAt m last counted holds i A s image → WayAt m holds i A s image
way_at A s m last counted holds i image at = record { machine = at.stands.machine; told = at.stands.told; reached = at.reached }

pub under_way : (m : Standing) (last : Mark) (counted : ℕ) (holds : Option (List NamedFile)) (i : Option SwapImage)
    → AtSome (UnderAt m last counted holds i) → AtSome (WayAt m holds i)
under_way m last counted holds i (A, s, image, at) = (A, s, image, way_at A s m last counted holds i image at)

pub way_stops : (old new : Standing) (last : Mark) (counted : ℕ) (holds : Option (List NamedFile)) (i h : Option SwapImage) (stop : Stop)
    → StopsFrom (WayAt old holds i) old new h stop → StopsFrom (UnderAt old last counted holds i) old new h stop
way_stops old new last counted holds i h stop f A s image at = f A s image (way_at A s old last counted holds i image at)

module _ (old mid : Standing) (last : Mark) (counted count : ℕ) (holds : Option (List NamedFile)) (i h : Option SwapImage)
    (to : CountsTo old mid counted count)
    (f : LeadsFrom (WayAt old holds i) (StepSettled old mid counted count h))
    (A : Inputs) (s : State) (image : SwapImage) (at : UnderAt old last counted holds i A s image) where
  settled : (n : ℕ) × (count ≡ counted + n) × StepLeads A s old.kernel image n mid.kernel h
  settled = f A s image (way_at A s old last counted holds i image at)

  led : StepLeads A s old.kernel image settled.0 mid.kernel h
  led = settled.2

  rest_at : RestAt mid last count holds h A led.state led.leads.behind
  rest_at = record {
    stands = stands_then A s led.state old mid holds i h image led.units counted count at.reached at.stands led.leads to.params to.images
        (let c = led.count in let same = at.stands.count in let all = settled.1 in omega (arith, c, same, all));
    reached = leads_reached A s led.state old.kernel mid.kernel image led.units h at.reached led.leads;
    clear = record { clear = led.clear; between = led.between };
    mark = led.mark ∙ at.mark;
    order = subst (λ (n : ℕ). IsInOrder A.lines n last) (sym led.lines) at.order;
  }

pub settled_rest : (old mid : Standing) (last : Mark) (counted count : ℕ) (holds : Option (List NamedFile)) (i h : Option SwapImage)
    → CountsTo old mid counted count
    → LeadsFrom (WayAt old holds i) (StepSettled old mid counted count h) → AtSome (UnderAt old last counted holds i)
    → AtSome (RestAt mid last count holds h)
settled_rest old mid last counted count holds i h to f (A, s, image, at) =
    let l = led old mid last counted count holds i h to f A s image at in
    (A, l.state, l.leads.behind, rest_at old mid last counted count holds i h to f A s image at)

pub gets_over : (old mid new : Standing) (last : Mark) (counted count more : ℕ) (holds : Option (List NamedFile)) (i h j : Option SwapImage)
    → CountsTo old mid counted count
    → LeadsFrom (WayAt old holds i) (StepSettled old mid counted count h) → LeadsFrom (RestAt mid last count holds h) (RestDone mid new last more j)
    → LeadsFrom (UnderAt old last counted holds i) (RestDone old new last more j)
gets_over old mid new last counted count more holds i h j to f r A s image at =
    let l = led old mid last counted count holds i h to f A s image at in
    let d = r A l.state l.leads.behind (rest_at old mid last counted count holds i h to f A s image at) in
    record {
      units = l.units ++ d.units;
      state = d.state;
      leads = then_lead A s l.state d.state old.kernel mid.kernel new.kernel image h j l.units d.units l.leads d.leads;
      over = d.over;
      counts = d.counts;
      lines = d.lines ∙ l.lines;
      turned = d.turned;
    }

pub rest_stops_under : (old mid new : Standing) (last : Mark) (counted count : ℕ) (holds : Option (List NamedFile)) (i h j : Option SwapImage) (stop : Stop)
    → CountsTo old mid counted count
    → LeadsFrom (WayAt old holds i) (StepSettled old mid counted count h) → StopsFrom (RestAt mid last count holds h) mid new j stop
    → StopsFrom (UnderAt old last counted holds i) old new j stop
rest_stops_under old mid new last counted count holds i h j stop to f r A s image at =
    let l = led old mid last counted count holds i h to f A s image at in
    then_stop A s l.state old.kernel mid.kernel image h j l.units stop new l.leads (r A l.state l.leads.behind (rest_at old mid last counted count holds i h to f A s image at))

-- The whole way.

module _ (old mid : Standing) (last : Mark) (schedule : List Event) (taken counted count turn : ℕ) (holds : Option (List NamedFile)) (i h : Option SwapImage)
    (on : StaysOn old mid count)
    (f : LeadsFrom (GoesAt old last schedule taken counted holds i) (RestDone old mid last count h)) (e : turn ≡ last_turned last) where
  past_at : (A : Inputs) (s : State) (image : SwapImage) (at : GoesAt old last schedule taken counted holds i A s image) → let d =
      f A s image at in OverAt mid schedule taken count turn holds h A d.state d.leads.behind
  past_at A s image at =
      let d = f A s image at in
      record {
        stands = stands_then A s d.state old mid holds i h image d.units counted count at.reached at.stands d.leads on.params on.images d.counts;
        reached = leads_reached A s d.state old.kernel mid.kernel image d.units h at.reached d.leads;
        over = d.over;
        are = at.are;
        lines = d.lines ∙ at.lines;
        turned = d.turned ∙ sym e;
      }

  pub going_past : AtSome (GoesAt old last schedule taken counted holds i) → AtSome (OverAt mid schedule taken count turn holds h)
  going_past (A, s, image, at) = let d = f A s image at in (A, d.state, d.leads.behind, past_at A s image at)

  -- an entry more has room at most
  pub going_wide : AtSome (GoesAt old last schedule taken counted holds i) → old.params.journal ≤ length old.kernel.journal + 1 → mid.params.journal ≤ length mid.kernel.journal + 1
  going_wide (A, s, image, at) wide =
      let d = f A s image at in
      let o = past_at A s image at in
      let long = leads_longer A s d.state old.kernel mid.kernel image d.leads.behind d.units h at.stands.machine.at.stands o.stands.machine.at.stands d.leads in
      let same = ap (λ (p : Params). p.journal) on.params in
      omega (arith, long, same, wide)

  pub goes_over : (new : Standing) (j : Option SwapImage) → LeadsFrom (OverAt mid schedule taken count turn holds h) (RunsOut mid new j)
      → LeadsFrom (GoesAt old last schedule taken counted holds i) (RunsOut old new j)
  goes_over new j p A s image at =
      let d = f A s image at in then_out A s d.state old mid new image h j d.units d.leads (p A d.state d.leads.behind (past_at A s image at))

  pub stops_going : (new : Standing) (j : Option SwapImage) (stop : Stop) → StopsFrom (OverAt mid schedule taken count turn holds h) mid new j stop
      → StopsFrom (GoesAt old last schedule taken counted holds i) old new j stop
  stops_going new j stop p A s image at =
      let d = f A s image at in then_stop A s d.state old.kernel mid.kernel image h j d.units stop new d.leads (p A d.state d.leads.behind (past_at A s image at))
