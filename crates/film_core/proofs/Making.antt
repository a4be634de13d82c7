-- One entry more, where the journal has room for no other.
use Rattle.std.proofs.Common.{◌≡◌, ℕ, suc, ◌+◌, ◌<◌, ◌≤◌, true, false, List, [], ◌∷◌, length, Option, Some, None, refl, sym, ap, ◌∙◌, subst, arith}
use Rattle.std.proofs.lemmas.Option.{same_Some}
use Rattle.vm_facts.specs.SwapImages.{SwapImage}
use Rattle.vm_facts.specs.declared.entry.Entry.{Entry}
use Rattle.vm_facts.specs.declared.entry.Entry.TheVariants as entries
use Rattle.vm_facts.specs.declared.event.Event.{Event}
use Rattle.vm_facts.specs.declared.params.Params.{Params}
use Rattle.vm_facts.specs.declared.stop.Stop.{Stop}
use Rattle.vm_facts.specs.declared.stop.Stop.TheVariants as stops
use Rattle.io_edge.specs.FileHolding.{NamedFile}
use Rattle.flat_state.specs.Flat.{Inputs}
use Rattle.flat_state.specs.Journal.{append, appended}
use Rattle.kernel_model.specs.Kernel.{Kernel}
use Rattle.kernel_model.specs.Requests.{ImageFile}
use Rattle.machine_state.specs.Sourced.{files_named}
use Rattle.machine_state.specs.Going.{CanGoOn, IsRunning}
use Rattle.machine_state.specs.Machine.{Standing}
use Rattle.run_model.specs.declared.mark.Mark.{Mark}
use Rattle.run_model.specs.State.{State}
use Rattle.run_model.specs.Next.{next_unit}
use Rattle.run_model.specs.Lawful.{Follows}
use Rattle.run_model.proofs.After.{units_journal}
use Rattle.run_laws.specs.Machine.{StandsAt}
use Rattle.run_laws.proofs.Lawful.{follows_state}
use Rattle.vm_core.specs.Leads.{Leads}
use Rattle.vm_core.specs.Stops.{SpoilsBy}
use Rattle.vm_core.proofs.RunUnitsJournals.{leads_follow}
use Rattle.vm_core.specs.Sizes.{KeptAtStop}
use Rattle.vm_core.specs.Stepped.{StopsNext, StopLeads, AtSome, LeadsFrom, StopsFrom}
use Rattle.vm_core.specs.Cores.{StandsIn}
use Rattle.film_core.specs.Ways.{GoesAt, RunsOut, EndsRunning}
use Rattle.film_core.proofs.Composing.{stands_then, leads_run}
use Rattle.run_laws.proofs.LongerJournals.{Behind, goes_behind, behind_longer}
use Rattle.film_core.specs.Entries.{FullAt, EntryMade}

-- The journal of a machine has room for one entry more.

abbrev pub widened : Standing → Standing
widened m = record m { params = record m.params { journal = m.params.journal + 1 } }

pub widened_by : (old mid : Standing) (p : Params) → p ≡ old.params
    → (let m : Standing = record old { params = record old.params { journal = p.journal + 1 } } in mid ≡ m) → mid ≡ widened old
widened_by old mid p e h = h ∙ ap (λ (x : Params). let m : Standing = record old { params = record old.params { journal = x.journal + 1 } } in m) e

wide_stands : (A : Inputs) (s : State) (m : Standing) (holds : Option (List NamedFile)) (i : Option SwapImage) (image : SwapImage) (counted : ℕ)
    → StandsIn A s m holds i image counted
    → StandsIn A s (widened m) holds i image counted
wide_stands A s m holds i image counted st = record {
  machine = record { at = st.machine.at; images = st.machine.images; blocks = st.machine.blocks };
  told = st.told;
  inputs = record { named = st.inputs.named; limit = st.inputs.limit; images = st.inputs.images; few = st.inputs.few };
  longwords = st.longwords;
  crowd = st.crowd;
  count = st.count;
}

wide_goes : (A : Inputs) (s : State) (old mid : Standing) (mark : Mark) (lines : List Event) (taken counted : ℕ) (holds : Option (List NamedFile))
    (i : Option SwapImage) (image : SwapImage) → mid ≡ widened old
    → GoesAt old mark lines taken counted holds i A s image → GoesAt mid mark lines taken counted holds i A s image
wide_goes A s old mid mark lines taken counted holds i image e at = subst (λ (m : Standing). GoesAt m mark lines taken counted holds i A s image) (sym e) (record {
  stands = wide_stands A s old holds i image counted at.stands;
  reached = at.reached;
  are = at.are;
  lines = at.lines;
  mark = at.mark;
  order = at.order;
})

-- Units that lead to where none comes make a journal longer.

grown : (A : Inputs) (s t : State) (k l : Kernel) (image behind : SwapImage) (us : List Entry) (j : Option SwapImage) → StandsAt A s k image.bytes
    → StandsAt A t l behind.bytes
    → Leads A s k image us t l j
    → l.journal ≡ appended k.journal us
grown A s t k l image behind us j at there a =
    there.journal
    ∙ ap (λ (x : State). x.journal) (sym (follows_state A us s t (leads_follow A s t k l image us j a)))
    ∙ units_journal A s us
    ∙ ap (λ (es : List Entry). appended es us) (sym at.journal)

some_made : (A : Inputs) (us : List Entry) (s t : State) (journal : List Entry) → Follows A s us t → (next_unit A s ≡ None → ⊥)
    → ((u : Entry) → next_unit A s ≡ Some u → length journal < length (append journal u)) → next_unit A t ≡ None → Behind journal (appended journal us)
some_made A [] s t journal f more complete none = absurd (more (ap (next_unit A) f ∙ none))
some_made A (u ∷ us) s t journal f more complete none = goes_behind journal u us (complete u f.0)

-- where a journal is full the swap image is as it was
full_spoils : (files : List ImageFile) (u : Entry) (k : Kernel) (i j : Option SwapImage) → SpoilsBy files u stops.JournalFull k i j → j ≡ i
full_spoils files entries.Done k i j h = h
full_spoils files (entries.SwapOut pid) k i j h = h
full_spoils files _ k i j h = h

module _ (old mid new : Standing) (mark : Mark) (lines : List Event) (taken counted : ℕ) (holds : Option (List NamedFile)) (i j : Option SwapImage)
    (wide : mid ≡ widened old)
    (within : length new.kernel.journal ≤ new.params.journal) where
  same_kernel : mid.kernel ≡ old.kernel
  same_kernel = ap (λ (m : Standing). m.kernel) wide

  room_is : (p : Params) → p ≡ mid.params → (length old.kernel.journal ≡ old.params.journal) → p.journal ≡ suc (length old.kernel.journal)
  room_is p e full = let a = ap (λ (x : Params). x.journal) e in let b = ap (λ (m : Standing). m.params.journal) wide in omega (arith, a, b, full)

  pub over_made : LeadsFrom (GoesAt mid mark lines taken counted holds i) (RunsOut mid new j) → EndsRunning mid new
      → LeadsFrom (FullAt old mark lines taken counted holds i) (EntryMade old new true holds j)
  over_made f ends A s image full =
      let goes : GoesAt mid mark lines taken counted holds i A s image = wide_goes A s old mid mark lines taken counted holds i image wide full.going in
      let o : RunsOut mid new j A s image = f A s image goes in
      let st : StandsIn A o.state new holds j o.leads.behind o.state.count =
      stands_then A s o.state mid new holds i j image o.units counted o.state.count goes.reached goes.stands o.leads ends.params ends.images refl in
      let journal : new.kernel.journal ≡ appended old.kernel.journal o.units =
      grown A s o.state mid.kernel new.kernel image o.leads.behind o.units j goes.stands.machine.at.stands st.machine.at.stands o.leads ∙ ap (λ (k : Kernel). appended k.journal o.units) same_kernel in
      let behind : Behind old.kernel.journal (appended old.kernel.journal o.units) =
      some_made A o.units s o.state old.kernel.journal (leads_follow A s o.state mid.kernel new.kernel image o.units j o.leads) full.more full.complete o.none in
      let longer = behind_longer old.kernel.journal (appended old.kernel.journal o.units) behind in
      let size : length new.kernel.journal ≡ length (appended old.kernel.journal o.units) = ap (λ (es : List Entry). length es) journal in
      let room : new.params.journal ≡ suc (length old.kernel.journal) = room_is new.params ends.params (sym full.bound) in
      record {
        units = o.units;
        state = o.state;
        behind = o.leads.behind;
        leads = subst (λ (k : Kernel). Leads A s k image o.units o.state new.kernel j) same_kernel o.leads;
        stands = st;
        complete = λ u e. absurd (let z : None ≡ Some u = sym o.none ∙ e in cc);
        bound = omega (arith, longer, size, room, within);
        longer = omega (arith, longer, size, room, within);
        over = (λ e. o.none, λ e. refl);
      }

  pub full_made : StopsFrom (GoesAt mid mark lines taken counted holds i) mid new j stops.JournalFull → KeptAtStop mid new stops.JournalFull
      → LeadsFrom (FullAt old mark lines taken counted holds i) (EntryMade old new false holds j)
  full_made f kept A s image full =
      let goes : GoesAt mid mark lines taken counted holds i A s image = wide_goes A s old mid mark lines taken counted holds i image wide full.going in
      let x : StopLeads A s mid.kernel image stops.JournalFull new j = f A s image goes in
      let n : StopsNext A x.state x.kernel x.behind stops.JournalFull new j = x.by in
      let still : new.kernel ≡ x.kernel = x.held.kernel in
      let there : Leads A s mid.kernel image x.units x.state new.kernel j =
      subst (λ (o : Option SwapImage). Leads A s mid.kernel image x.units x.state new.kernel o) (sym (full_spoils (files_named new.images) n.entry x.kernel (Some x.behind) j n.spoils))
      (subst (λ (k : Kernel). Leads A s mid.kernel image x.units x.state k (Some x.behind)) (sym still) x.leads) in
      let size : length new.kernel.journal ≡ length x.kernel.journal = ap (λ (k : Kernel). length k.journal) still in
      let room : new.params.journal ≡ suc (length old.kernel.journal) = room_is new.params kept.sizes.params (sym full.bound) in
      let filled = (n.full refl).0 in
      record {
        units = x.units;
        state = x.state;
        behind = there.behind;
        leads = subst (λ (k : Kernel). Leads A s k image x.units x.state new.kernel j) same_kernel there;
        stands = stands_then A s x.state mid new holds i j image x.units counted x.state.count goes.reached goes.stands there kept.sizes.params kept.sizes.images refl;
        complete = λ u e.
            subst (λ (v : Entry). length new.kernel.journal < length (append new.kernel.journal v)) (same_Some n.entry u (sym n.next ∙ e))
            (subst (λ (k : Kernel). length k.journal < length (append k.journal n.entry)) (sym still) (n.full refl).1);
        bound = omega (arith, size, filled, within);
        longer = omega (arith, size, room, filled, within);
        over = (λ e. absurd (let z : false ≡ true = e in cc), λ e. absurd (let z : None ≡ Some n.entry = sym e ∙ n.next in cc));
      }

  pub full_ready : StopsFrom (GoesAt mid mark lines taken counted holds i) mid new j stops.JournalFull → AtSome (FullAt old mark lines taken counted holds i) → CanGoOn mid
      → (new.kernel.stopped ≡ false → IsRunning new) → CanGoOn new
  full_ready f (A, s, image, full) ready runs =
      let x : StopLeads A s mid.kernel image stops.JournalFull new j = f A s image (wide_goes A s old mid mark lines taken counted holds i image wide full.going) in
      record {
        running = runs (ap (λ (k : Kernel). k.stopped) x.held.kernel ∙ leads_run A s x.state mid.kernel x.kernel image x.units (Some x.behind) x.leads ready.running.runs);
        whole = x.held.whole;
      }

  pub other_stops : (stop : Stop) → (stop ≡ stops.JournalFull → ⊥) → StopsFrom (GoesAt mid mark lines taken counted holds i) mid new j stop
      → (stop ≡ stops.JournalFull → ⊥) × StopsFrom (FullAt old mark lines taken counted holds i) old new j stop
  other_stops stop other f = (
    other,
    λ A s image full.
        subst (λ (k : Kernel). StopLeads A s k image stop new j) same_kernel (f A s image (wide_goes A s old mid mark lines taken counted holds i image wide full.going)),
  )
