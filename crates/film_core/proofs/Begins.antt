-- A film begins: it stands before the first entry.
use Rattle.std.proofs.Common.{◌≡◌, inl, inr, ◌↔◌, ℕ, ◌+◌, ◌<◌, ◌≤◌, true, false, List, [], ◌∷◌, length, slice_get, Option, Some, None, refl, sym, ap, ◌∙◌, subst, arith}
use Rattle.std.proofs.lemmas.Option.{same_Some}
use Rattle.vm_facts.specs.SwapImages.{SwapImage}
use Rattle.vm_facts.specs.declared.entry.Entry.{Entry}
use Rattle.vm_facts.specs.declared.entry.Entry.TheVariants as entries
use Rattle.vm_facts.specs.declared.event.Event.{Event}
use Rattle.vm_facts.specs.declared.params.Params.{Params}
use Rattle.vm_facts.specs.declared.stop.Stop.TheVariants as stops
use Rattle.io_edge.specs.FileHolding.{NamedFile}
use Rattle.swap_book.specs.Holdings.{Holdings}
use Rattle.flat_state.specs.Flat.{Inputs}
use Rattle.flat_state.specs.Journal.{append, appended}
use Rattle.kernel_model.specs.Kernel.{Kernel}
use Rattle.machine_state.specs.Files.{AreRunImages}
use Rattle.machine_state.specs.Going.{CanGoOn, IsRunning}
use Rattle.machine_state.specs.Sourced.{ImageNamed, files_named}
use Rattle.run_model.specs.State.{State, start}
use Rattle.run_model.specs.Next.{next_unit, next_turned, under, last_turned}
use Rattle.run_model.specs.Lawful.{Follows}
use Rattle.run_model.proofs.After.{units_journal}
use Rattle.run_laws.specs.Longwords.{ProcessesFit}
use Rattle.run_laws.specs.Machine.{MakesSwap}
use Rattle.run_laws.specs.Running.{CanRun}
use Rattle.run_laws.proofs.Lawful.{follows_state}
use Rattle.run_laws.proofs.Registers.{start_regs_are}
use Rattle.vm_core.proofs.Swapping.{line_comes, turn_comes}
use Rattle.flat_model.specs.Run.{IsBetween}
use Rattle.vm_core.specs.Leads.{Leads}
use Rattle.vm_core.specs.Serving.{At}
use Rattle.vm_core.proofs.RunUnitsJournals.{leads_follow}
use Rattle.vm_core.proofs.Units.{leads_at}
use Rattle.vm_core.specs.Leading.{IsTold, machine_at_start, StartLeads, StartStops}
use Rattle.vm_core.specs.StepUnitsLines.{IsOver}
use Rattle.vm_core.specs.Stepped.{StopsNext}
use Rattle.vm_core.specs.Stops.{StaysPut}
use Rattle.vm_core.proofs.Led.{stands_at_start}
use Rattle.vm_core.specs.Choosing.{turn_after as chosen_next}
use Rattle.vm_core.proofs.Ready.{turned_same}
use Rattle.vm_core.specs.Cores.{InputsOf, StandsIn}
use Rattle.vm_core.specs.RunEnds.{IsAskedOf}
use Rattle.vm_core.proofs.Journals.{same_left}
use Rattle.vm_core.proofs.Standing.{inputs_on}
use Rattle.film_core.specs.Films.{Filming, IsInOrder, IsUnbegun, FilmBegun}
use Rattle.film_core.specs.Ways.{IsReached, OverAt}
use Rattle.film_core.proofs.Composing.{journal_of_reached, leads_run}
use Rattle.run_laws.proofs.LongerJournals.{goes_behind, behind_longer}
use Rattle.run_laws.proofs.Sizing.{started_few}
use Rattle.film_core.proofs.Passing.{over_none}

-- A process whose pieces find no place.

-- No unit makes no entry.

some_appended : (u : Entry) → 0 < length (append [] u)
some_appended (entries.Ran q n) = omega arith
some_appended (entries.Hands n) = omega arith
some_appended _ = omega arith

pub none_made : (us : List Entry) → appended [] us ≡ [] → us ≡ []
none_made [] e = refl
none_made (u ∷ us) e =
    absurd (let more = behind_longer [] (appended (append [] u) us) (goes_behind [] u us (some_appended u)) in let same = ap (λ (es : List Entry). length es) e in omega (arith, more, same))

empty : (es : List Entry) → length es ≤ 0 → es ≡ []
empty [] l = refl
empty (e ∷ es) l = absurd (omega (arith, l))

-- The machine stands at the start, with no entry.

pub told_of : (A : Inputs) (old : Filming) (numbers : List ℕ) (lines : List Event) (holds : Option (List NamedFile)) (image : SwapImage)
    → IsAskedOf A old.machine numbers lines holds image → IsTold A old.machine numbers holds image
told_of A old numbers lines holds image asked = record {
  starts = record { named = asked.named; first = asked.first; frames = asked.frames; blocks = asked.blocks };
  images = asked.images;
  fit = asked.fit;
  room = asked.room;
}

module _ (A : Inputs) (old new : Filming) (numbers : List ℕ) (lines : List Event) (holds : Option (List NamedFile)) (image : SwapImage) (j : Option SwapImage)
    (asked : IsAskedOf A old.machine numbers lines holds image)
    (few : length numbers ≤ 16) (unbegun : IsUnbegun old) (params : new.machine.params ≡ old.machine.params) (images : new.machine.images ≡ old.machine.images)
    (within : length new.machine.kernel.journal ≤ new.machine.params.journal) (none_taken : new.lines ≡ old.lines) (same_mark : new.mark ≡ old.mark) (none_counted : new.counted ≡ old.counted) where
  inputs : InputsOf A old.machine
  inputs = record { named = asked.named; limit = asked.limit; images = asked.octets; few = asked.few }

  few_first : length A.first ≤ 64
  few_first = let e = ap (λ (ns : List ℕ). length ns) asked.first in omega (arith, e, few)

  no_room : new.machine.params.journal ≡ 0
  no_room = ap (λ (p : Params). p.journal) params ∙ unbegun.bound

  no_entry : new.machine.kernel.journal ≡ []
  no_entry = empty new.machine.kernel.journal (let b = no_room in omega (arith, within, b))

  module _ (hs : Holdings) (can : CanRun A hs) (us : List Entry) (t : State) (behind : SwapImage) (l : Leads A (start A hs) (machine_at_start A hs) image us t new.machine.kernel (Some behind))
      (told : j ≡ Some behind) where
    at_start : At A (start A hs) (machine_at_start A hs) image
    at_start = stands_at_start A hs image can asked.room

    there : At A t new.machine.kernel behind
    there = leads_at A (start A hs) t (machine_at_start A hs) new.machine.kernel image behind us at_start l

    follows : Follows A (start A hs) us t
    follows = leads_follow A (start A hs) t (machine_at_start A hs) new.machine.kernel image us (Some behind) l

    no_unit : us ≡ []
    no_unit =
        none_made us
        (sym (ap (λ (x : State). x.journal) (sym (follows_state A us (start A hs) t follows)) ∙ units_journal A (start A hs) us) ∙ sym there.stands.journal ∙ no_entry)

    is_start : start A hs ≡ t
    is_start = subst (λ (xs : List Entry). Follows A (start A hs) xs t) no_unit follows

    same_image : behind ≡ image
    same_image =
        let none : MakesSwap A (start A hs) (machine_at_start A hs) image [] t new.machine.kernel l.behind =
        subst (λ (xs : List Entry). MakesSwap A (start A hs) (machine_at_start A hs) image xs t new.machine.kernel l.behind) no_unit l.makes in
        same_Some behind l.behind l.told ∙ sym none.2

    stands : StandsIn A t new.machine holds j behind new.counted
    stands = record {
      machine = record {
        at = there;
        images = subst (λ (ns : List ImageNamed). AreRunImages ns holds A) (sym images) asked.images;
        blocks = ap (λ (p : Params). p.swap_blocks) params ∙ sym asked.blocks;
      };
      told = told;
      inputs = inputs_on A old.machine new.machine inputs params images;
      longwords = record {
        fit = subst (λ (x : State). ProcessesFit x.point.flat.processes) is_start (start_regs_are A asked.octets);
        next = let e = ap (λ (x : State). x.point.flat.next_pid) is_start in omega (arith, e);
      };
      crowd = subst (λ (x : State). length x.point.flat.processes ≤ 64) is_start (let most = started_few A.images 1 A.first in let f = few_first in omega (arith, most, f));
      count = ap (λ (x : State). x.count) (sym is_start) ∙ sym unbegun.counted ∙ sym none_counted;
    }

    reached : IsReached A t
    reached = record { holdings = hs; can = can; units = us; follows = follows }

    begun_at : CanGoOn new.machine → (new.over ≡ true) ↔ (next_unit A t ≡ None) → FilmBegun A new holds j image
    begun_at ready over = subst (FilmBegun A new holds j) same_image (record {
      state = t;
      at = record {
        stands = stands;
        made = journal_of_reached A t new.machine.kernel behind few_first reached there.stands;
        ready = ready;
        complete = λ u e. subst (λ (es : List Entry). length es < length (append es u)) (sym no_entry) (some_appended u);
        bound = no_room ∙ sym (ap (λ (es : List Entry). length es) no_entry);
        lines = ap (λ (x : State). x.lines) (sym is_start) ∙ sym unbegun.lines ∙ sym none_taken;
        mark = ap (λ (x : State). x.mark) (sym is_start) ∙ sym unbegun.mark ∙ sym same_mark;
        order = subst (IsInOrder A.lines new.lines) (sym (same_mark ∙ unbegun.mark)) tt;
        over = over;
        few = few_first;
      };
      first = no_entry;
    })

    -- nothing is due
    module _ (clear : t.place.due ≡ []) where
      is_over : IsOver A t
      is_over = record {
        clear = clear;
        between = subst (λ (x : State). IsBetween x.point.last) is_start tt;
        over = ap (under A t) (ap (λ (x : State). x.mark) (sym is_start));
      }

      over_at : OverAt new.machine lines 0 new.counted 0 holds j A t behind
      over_at = record {
        stands = stands;
        reached = reached;
        over = is_over;
        are = asked.lines_are;
        lines = ap (λ (x : State). x.lines) (sym is_start);
        turned = ap (λ (x : State). last_turned x.mark) (sym is_start);
      }

      below : 0 < old.machine.params.limit → t.count < A.limit
      below some = let a = asked.limit in let b = ap (λ (x : State). x.count) is_start in omega (arith, some, a, b)

      nothing : lines ≡ [] → chosen_next new.machine.kernel 0 ≡ None → next_unit A t ≡ None
      nothing e n = over_none A t new.machine lines 0 new.counted 0 holds j behind over_at (inr (ap (λ (es : List Event). slice_get es 0) e, n))

      a_line : 0 < old.machine.params.limit → (e : Event) (es : List Event) → lines ≡ e ∷ es → next_unit A t ≡ None → ⊥
      a_line some e es is none =
          let some_lines : t.lines < length A.lines = let a = ap (λ (xs : List Event). length xs) (asked.lines_are ∙ is) in let b = ap (λ (x : State). x.lines) is_start in omega (arith, a, b) in
          let z : None ≡ Some (entries.Event (t.lines + 1)) = sym none ∙ line_comes A t clear is_over.over (below some) some_lines in cc

      a_turn : 0 < old.machine.params.limit → lines ≡ [] → (pid : ℕ) → chosen_next new.machine.kernel 0 ≡ Some pid → next_unit A t ≡ None → ⊥
      a_turn some e pid n none =
          let no_lines : length A.lines ≡ t.lines = ap (λ (xs : List Event). length xs) (asked.lines_are ∙ e) ∙ ap (λ (x : State). x.lines) is_start in
          let z : None ≡ Some (entries.Turn pid) = sym none ∙ turn_comes A t pid clear is_over.over (below some) no_lines
          (sym (turned_same new.machine.kernel t.point.flat 0 there.stands.keeps.coupled.tables ∙ ap (next_turned t.point.flat) (ap (λ (x : State). last_turned x.mark) is_start)) ∙ n) in cc

      no_line : 0 < old.machine.params.limit → (es : List Event) → lines ≡ es → next_unit A t ≡ None → lines ≡ []
      no_line some [] e n = e
      no_line some (x ∷ xs) e n = absurd (a_line some x xs e n)

      no_turn : 0 < old.machine.params.limit → lines ≡ [] → (o : Option ℕ) → chosen_next new.machine.kernel 0 ≡ o → next_unit A t ≡ None → chosen_next new.machine.kernel 0 ≡ None
      no_turn some e None c n = c
      no_turn some e (Some pid) c n = absurd (a_turn some e pid c n)

      -- the run is over where there is no line, and nobody who can step
      pub over_so : 0 < old.machine.params.limit → (new.over ≡ true) ↔ ((lines ≡ []) × (chosen_next new.machine.kernel 0 ≡ None)) → (new.over ≡ true) ↔ (next_unit A t ≡ None)
      over_so some e = (
        λ o. let x = e.0 o in nothing x.0 x.1,
        λ n. let x = no_line some lines refl n in e.1 (x, no_turn some x (chosen_next new.machine.kernel 0) refl n),
      )

  -- It was started.
  pub started : CanGoOn new.machine → (l : StartLeads A new.machine holds image j) → 0 < old.machine.params.limit
      → (new.over ≡ true) ↔ ((lines ≡ []) × (chosen_next new.machine.kernel 0 ≡ None)) → FilmBegun A new holds j image
  started ready l some e =
      let led : Leads A (start A l.holdings) (machine_at_start A l.holdings) image l.units l.state new.machine.kernel (Some l.leads.behind) =
      subst (λ (o : Option SwapImage). Leads A (start A l.holdings) (machine_at_start A l.holdings) image l.units l.state new.machine.kernel o) l.leads.told l.leads in
      begun_at l.holdings l.can l.units l.state l.leads.behind led l.leads.told ready
      (over_so l.holdings l.can l.units l.state l.leads.behind led l.leads.told l.clear some e)

  -- or the journal has no room for what is due first
  pub stopped : StartStops A new.machine image stops.JournalFull j → new.over ≡ false → (new.machine.kernel.stopped ≡ false → IsRunning new.machine)
      → FilmBegun A new holds j image
  stopped (inl b) o runs = absurd (let z : stops.JournalFull ≡ stops.NoMemory = b.cause in cc)
  stopped (inr (hs, can, x)) o runs =
      let put : StaysPut x.kernel new.machine = x.held in
      let led : Leads A (start A hs) (machine_at_start A hs) image x.units x.state new.machine.kernel (Some x.behind) =
      subst (λ (k : Kernel). Leads A (start A hs) (machine_at_start A hs) image x.units x.state k (Some x.behind)) (sym put.kernel) x.leads in
      let next : StopsNext A x.state x.kernel x.behind stops.JournalFull new.machine j = x.by in
      begun_at hs can x.units x.state x.behind led (same_left (files_named new.machine.images) next.entry stops.JournalFull x.kernel (Some x.behind) j tt next.spoils)
      (record { running = runs (leads_run A (start A hs) x.state (machine_at_start A hs) new.machine.kernel image x.units (Some x.behind) led refl); whole = put.whole })
      (λ e. let z : false ≡ true = sym o ∙ e in absurd cc, λ n. let z : Some next.entry ≡ None = sym next.next ∙ n in absurd cc)
