-- Filling the page that is due first is what a run does next.
use Rattle.std.proofs.Common.{◌≡◌, ℕ, true, List, [], ◌∷◌, Option, Some, refl, sym, ap, ◌∙◌, subst}
use Rattle.vm_facts.specs.SwapImages.{SwapImage}
use Rattle.vm_facts.specs.declared.entry.Entry.{Entry}
use Rattle.vm_facts.specs.declared.entry.Entry.TheVariants as entries
use Rattle.vm_facts.specs.declared.page.Page.{Page}
use Rattle.flat_state.specs.Flat.{Inputs}
use Rattle.flat_state.specs.PageNames.{is_among}
use Rattle.economy_laws.proofs.Distinct.{among_first}
use Rattle.page_model.specs.Placement.{Placement, Due, Start, CopyOf, Transfer}
use Rattle.page_model.specs.Conditions.{Spares}
use Rattle.page_model.specs.Dues.{NotDue}
use Rattle.page_model.specs.Ownership.{OwnsFrames}
use Rattle.page_model.specs.Place.{place_entry}
use Rattle.page_model.specs.Serve.{force, force_entry, serve_unit, serve_step, Forces, Serves, Serving, unit_of_serving}
use Rattle.page_laws.proofs.Moves.Units.{unit_is, forcing_place}
use Rattle.page_laws.proofs.Moves.Locks.{force_spares}
use Rattle.page_laws.proofs.Moves.Stays.{force_stays}
use Rattle.page_laws.proofs.Moves.Cases.{forcing_entry, serving_valid}
use Rattle.page_laws.proofs.Due.Entries.{serve_dues}
use Rattle.kernel_model.specs.Kernel.{Kernel}
use Rattle.run_model.specs.State.{State}
use Rattle.run_model.specs.Wanted.{locked, locked_by}
use Rattle.run_model.specs.After.{after, place_at}
use Rattle.run_model.specs.Next.{next_unit, or_else, under, next_mark, due_unit, fill_unit, fill_by, copy_unit_by}
use Rattle.economy_laws.specs.Machine.{unit_swap}
use Rattle.economy_laws.specs.RunLawsRunning.{IsRun}
use Rattle.economy_laws.proofs.Plain.{IsPaging, serve_paging}
use Rattle.economy_laws.proofs.Marks.{due_free}
use Rattle.economy_laws.proofs.Units.{not_due}
use Rattle.economy_laws.proofs.Left.{after_served}
use Rattle.economy_laws.proofs.Stretching.{source_of}
use Rattle.fault_fill.specs.Made.{Ground, Made}
use Rattle.fault_fill.proofs.PagingUnitsUnits.{forced_place, served_place}
use Rattle.run_units.specs.Leads.{HasImages, MadeAs, Leads}
use Rattle.run_units.specs.Serving.{At}
use Rattle.run_units.specs.Filling.{FillsFirst, LeadsDue}
use Rattle.run_units.proofs.Units.{one_made, none_leads, first_leads, leads_at}
use Rattle.run_units.proofs.Serving.{Paged, paged, same_both, moving_locked}

-- What is due comes first.

due_next : (A : Inputs) (s : State) (u : Entry) → due_unit s.place s.place.due ≡ Some u → next_unit A s ≡ Some u
unfolding next_unit
due_next A s u h = ap (λ (o : Option Entry). or_else o (or_else (under A s s.mark) (next_mark A s))) h

-- the unit that fills, or forces a frame first
fills_unit : (p : Placement) (ds : List Due) (e : Entry) (locked : List Page) → FillsFirst p ds e locked → due_unit p ds ≡ Some (fill_unit p e)
fills_unit p [] e locked h = absurd h
fills_unit p (Start q ∷ ds) e locked h = ap (λ (x : Entry). Some (fill_unit p x)) (sym h.0)
fills_unit p (CopyOf q parent ∷ ds) e locked h =
    ap (λ (o : Option Entry). Some (copy_unit_by p q o)) (ap (λ (x : Serving). unit_of_serving x true) (serving_valid p parent h.2)) ∙ ap (λ (x : Entry). Some (fill_unit p x)) (sym h.0)

pub forced_next : (A : Inputs) (s : State) (e : Entry) (locked : List Page) → FillsFirst s.place s.place.due e locked → s.place.free ≡ []
    → next_unit A s ≡ Some (force_entry s.place.transfers)
forced_next A s e locked h n =
    due_next A s (force_entry s.place.transfers) (fills_unit s.place s.place.due e locked h ∙ ap (λ (fr : List ℕ). Some (fill_by s.place e fr)) n)

pub fill_next : (A : Inputs) (s : State) (e : Entry) (locked : List Page) (f : ℕ) (free : List ℕ) → FillsFirst s.place s.place.due e locked
    → s.place.free ≡ f ∷ free → next_unit A s ≡ Some e
fill_next A s e locked f free h n = due_next A s e (fills_unit s.place s.place.due e locked h ∙ ap (λ (fr : List ℕ). Some (fill_by s.place e fr)) n)

-- the pages over which the hands pass
first_locked : (A : Inputs) (s : State) (ds : List Due) (e : Entry) (kept : List Page) → FillsFirst s.place ds e kept → kept ≡ locked_by A s ds
first_locked A s [] e kept h = absurd h
first_locked A s (Start q ∷ ds) e kept h = h.1
first_locked A s (CopyOf q parent ∷ ds) e kept h = h.1

force_paging : (ts : List Transfer) → IsPaging (force_entry ts)
force_paging = forcing_entry IsPaging tt tt

-- the page that is due first is filled by the same after a unit that forces a frame
fills_on : (p q : Placement) (ds : List Due) (e : Entry) (locked : List Page) → Spares p q locked → FillsFirst p ds e locked → FillsFirst q ds e locked
fills_on p q [] e locked s h = absurd h
fills_on p q (Start x ∷ ds) e locked s h = h
fills_on p q (CopyOf x parent ∷ ds) e locked s h =
    (h.0, h.1, s parent (subst (λ (qs : List Page). is_among parent qs ≡ true) (sym h.1) (among_first parent [])) h.2)

mark_free : (A : Inputs) (s : State) (e : Entry) (kept : List Page) → IsRun A s → FillsFirst s.place s.place.due e kept
    → Rattle.economy_laws.proofs.Marks.IsFree s.mark
mark_free A s e kept run h = go s.place.due refl h
  where
    go : (ds : List Due) → s.place.due ≡ ds → FillsFirst s.place ds e kept → Rattle.economy_laws.proofs.Marks.IsFree s.mark
    go [] k x = absurd x
    go (d ∷ ds) k x = due_free s d ds k s.mark run.mark

pub record Forced (A : Inputs) (g : Ground) (s : State) (k : Kernel) (image : SwapImage) (e : Entry) (us : List Entry) (l : Kernel)
    (j : Option SwapImage) : Type 0 where
  pub led : LeadsDue A s k image us l j
  pub fills : FillsFirst led.state.place led.state.place.due e g.locked

forced : (us : List Entry) (A : Inputs) (g : Ground) (s : State) (k l : Kernel) (image : SwapImage) (j : Option SwapImage) (e : Entry) → At A s k image
    → HasImages g A
    → FillsFirst s.place s.place.due e g.locked → Forces us k.place g.locked l.place → Made g us k (Some image) l j → Forced A g s k image e us l j
forced [] A g s k l image j e at f h x m = record {
  led = record {
    state = s;
    leads = subst (λ (y : Kernel). Leads A s k image [] s y j) m.0 (subst (λ (o : Option SwapImage). Leads A s k image [] s k o) m.1 (none_leads A s k image));
    same = record { point = refl; holdings = refl; count = refl; lines = refl; mark = refl };
    due = refl;
  };
  fills = h;
}
forced (u ∷ us) A g s k l image j e at f h x m =
    let here : k.place ≡ s.place = at.stands.place in
    let is : u ≡ force_entry s.place.transfers = x.1 ∙ ap (λ (y : Placement). force_entry y.transfers) here in
    let none : s.place.free ≡ [] = sym (ap (λ (y : Placement). y.free) here) ∙ x.0 in
    let next : next_unit A s ≡ Some u = forced_next A s e g.locked h none ∙ ap (λ (y : Entry). Some y) (sym is) in
    let kept : g.locked ≡ locked A s = first_locked A s s.place.due e g.locked h in
    let one : MadeAs A s k image u m.next m.image = one_made A g s k m.next image m.image u f (moving_locked g A s u kept) m.made m.told in
    let p : Paged A s u = paged A s u (subst IsPaging (sym is) (force_paging s.place.transfers)) (mark_free A s e g.locked at.run h) in
    let own : OwnsFrames s.place = at.run.placed.sound.owner.frames in
    let place : (after A s u).place ≡ force s.place g.locked =
    p.place ∙ ap (λ (qs : List Page). place_entry qs (place_at s u) s.place u) (sym kept) ∙ ap (λ (y : Entry). place_entry g.locked (place_at s u) s.place y) is
    ∙ forcing_place g.locked (place_at s u) s.place in
    let due : (after A s u).place.due ≡ s.place.due = ap (λ (y : Placement). y.due) place ∙ (force_stays s.place g.locked own).due in
    let image1 : SwapImage = unit_swap A k image u in
    let first : Leads A s k image (u ∷ []) (after A s u) m.next (Some image1) =
    first_leads A s (after A s u) k m.next m.next image m.image (Some image1) u [] next one (none_leads A (after A s u) m.next image1) in
    let fills : FillsFirst (after A s u).place (after A s u).place.due e g.locked =
    subst (λ (ds : List Due). FillsFirst (after A s u).place ds e g.locked) (sym due)
    (subst (λ (y : Placement). FillsFirst y s.place.due e g.locked) (sym place) (fills_on s.place (force s.place g.locked) s.place.due e g.locked (force_spares s.place g.locked own) h)) in
    let rest : Forces us m.next.place g.locked l.place =
    subst (λ (y : Placement). Forces us y g.locked l.place)
    (sym (forced_place g k m.next (Some image) (subst (λ (y : Entry). Rattle.fault_fill.specs.Made.MadeBy g y k (Some image) m.next) x.1 m.made))) x.2 in
    let more : Forced A g (after A s u) m.next image1 e us l j =
    forced us A g (after A s u) m.next l image1 j e (leads_at A s (after A s u) k m.next image image1 (u ∷ []) at first) f fills rest
    (subst (λ (o : Option SwapImage). Made g us m.next o l j) one.told m.rest) in
    record {
      led = record {
        state = more.led.state;
        leads = first_leads A s more.led.state k m.next l image m.image j u us next one more.led.leads;
        same = same_both s (after A s u) more.led.state p.same more.led.same;
        due = more.led.due ∙ due;
      };
      fills = more.fills;
    }

pub forcing : (A : Inputs) (g : Ground) (s : State) (k l : Kernel) (image : SwapImage) (j : Option SwapImage) (e : Entry) (us : List Entry)
    → At A s k image → HasImages g A
    → FillsFirst s.place s.place.due e g.locked → Forces us k.place g.locked l.place → Made g us k (Some image) l j
    → (led : LeadsDue A s k image us l j) × FillsFirst led.state.place led.state.place.due e g.locked
forcing A g s k l image j e us at f h x m = let r = forced us A g s k l image j e at f h x m in (r.led, r.fills)

-- The parent's page.

pub brought_next : (A : Inputs) (s : State) (child parent : Page) (ds : List Due) (u : Entry) → s.place.due ≡ CopyOf child parent ∷ ds
    → serve_unit s.place parent true ≡ Some u → next_unit A s ≡ Some u
brought_next A s child parent ds u d h =
    due_next A s u (ap (due_unit s.place) d ∙ ap (λ (o : Option Entry). Some (copy_unit_by s.place child o)) h)

pub bringing : (us : List Entry) (A : Inputs) (g : Ground) (s : State) (k l : Kernel) (image : SwapImage) (j : Option SwapImage)
    (child parent : Page) (ds : List Due)
    → At A s k image → HasImages g A
    → g.locked ≡ parent ∷ [] → s.place.due ≡ CopyOf child parent ∷ ds → Serves us k.place g.locked parent true l.place → Made g us k (Some image) l j
    → LeadsDue A s k image us l j
bringing [] A g s k l image j child parent ds at f e d x m = record {
  state = s;
  leads = subst (λ (y : Kernel). Leads A s k image [] s y j) m.0 (subst (λ (o : Option SwapImage). Leads A s k image [] s k o) m.1 (none_leads A s k image));
  same = record { point = refl; holdings = refl; count = refl; lines = refl; mark = refl };
  due = refl;
}
bringing (u ∷ us) A g s k l image j child parent ds at f e d x m =
    let here : k.place ≡ s.place = at.stands.place in
    let asked : serve_unit s.place parent true ≡ Some u = subst (λ (y : Placement). serve_unit y parent true ≡ Some u) here x.0 in
    let n = unit_is s.place parent true u asked in
    let next : next_unit A s ≡ Some u = brought_next A s child parent ds u d asked in
    let kept : g.locked ≡ locked A s = e ∙ sym (ap (locked_by A s) d) in
    let one : MadeAs A s k image u m.next m.image = one_made A g s k m.next image m.image u f (moving_locked g A s u kept) m.made m.told in
    let p : Paged A s u = paged A s u (subst IsPaging (sym n.1) (serve_paging s.place parent)) (due_free s (CopyOf child parent) ds d s.mark at.run.mark) in
    let own : OwnsFrames s.place = at.run.placed.sound.owner.frames in
    let idle : NotDue s.place.due parent = not_due s.place parent at.run.placed.dues (source_of A s child parent ds at.run d).source.1 in
    let place : (after A s u).place ≡ serve_step s.place g.locked parent = after_served A s u g.locked parent (sym kept) asked in
    let due : (after A s u).place.due ≡ s.place.due = ap (λ (y : Placement). y.due) place ∙ serve_dues s.place g.locked parent own idle in
    let image1 : SwapImage = unit_swap A k image u in
    let first : Leads A s k image (u ∷ []) (after A s u) m.next (Some image1) =
    first_leads A s (after A s u) k m.next m.next image m.image (Some image1) u [] next one (none_leads A (after A s u) m.next image1) in
    let rest : Serves us m.next.place g.locked parent true l.place =
    subst (λ (y : Placement). Serves us y g.locked parent true l.place) (sym (served_place g parent true u k m.next (Some image) x.0 m.made)) x.1 in
    let more : LeadsDue A (after A s u) m.next image1 us l j =
    bringing us A g (after A s u) m.next l image1 j child parent ds (leads_at A s (after A s u) k m.next image image1 (u ∷ []) at first) f e (due ∙ d) rest
    (subst (λ (o : Option SwapImage). Made g us m.next o l j) one.told m.rest) in
    record {
      state = more.state;
      leads = first_leads A s more.state k m.next l image m.image j u us next one more.leads;
      same = same_both s (after A s u) more.state p.same more.same;
      due = more.due ∙ due;
    }
