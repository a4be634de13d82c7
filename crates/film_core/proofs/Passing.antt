-- What comes after a mark, and the whole way, by what the parts say.
use Rattle.std.proofs.Common.{◌≡◌, ◌⊎◌, inl, inr, ℕ, zero, suc, ◌+◌, ◌<◌, ◌≤◌, nat_lt, Bool, true, false, List, [], ◌∷◌, length, slice_get, Option, Some, None, refl, sym, ap, ◌∙◌, subst, arith}
use Rattle.std.proofs.lemmas.Bool.Decides.{nat_tests}
use Rattle.vm_facts.specs.SwapImages.{SwapImage}
use Rattle.vm_facts.specs.declared.entry.Entry.{Entry}
use Rattle.vm_facts.specs.declared.entry.Entry.TheVariants as entries
use Rattle.vm_facts.specs.declared.event.Event.{Event}
use Rattle.vm_facts.specs.declared.params.Params.{Params}
use Rattle.vm_facts.specs.declared.stop.Stop.{Stop}
use Rattle.vm_facts.specs.declared.stop.Stop.TheVariants as stops
use Rattle.io_edge.specs.FileHolding.{NamedFile}
use Rattle.flat_state.specs.Flat.{Inputs}
use Rattle.page_model.specs.Placement.{Due}
use Rattle.kernel_model.specs.Kernel.{note_step}
use Rattle.machine_state.specs.Machine.{Standing}
use Rattle.vm_core.specs.Stops.{StopsBefore}
use Rattle.run_model.specs.declared.mark.Mark.{Mark}
use Rattle.run_model.specs.declared.mark.Mark.TheVariants as marks
use Rattle.run_model.specs.State.{State, start}
use Rattle.run_model.specs.Next.{or_else, when, due_unit, under, turn_of, line_or_turn, next_mark, next_unit, next_turned, last_turned}
use Rattle.vm_core.specs.Leads.{Leads}
use Rattle.vm_core.proofs.RunUnitsJournals.{leads_follow}
use Rattle.vm_core.specs.Sizes.{KeptAtStop}
use Rattle.vm_core.specs.Stepped.{StopLeads, AtSome, LeadsFrom, StopsFrom}
use Rattle.vm_core.specs.StepUnitsLines.{IsOver, LineBegun, TurnBegun, TurnDue}
use Rattle.vm_core.proofs.Beginning.{line_begins, line_stops, turn_stops}
use Rattle.vm_core.proofs.Turning.{turn_begins}
use Rattle.vm_core.specs.Choosing.{turn_after as chosen_next}
use Rattle.vm_core.proofs.Ready.{turned_same}
use Rattle.vm_core.specs.Cores.{StandsIn}
use Rattle.vm_core.specs.Schedules.{HaveFewMoves}
use Rattle.vm_core.specs.Steady.{StaysSteady}
use Rattle.vm_core.proofs.Going.{few_at}
use Rattle.film_core.specs.Films.{IsInOrder}
use Rattle.film_core.specs.Marks.{marked_by, marked_if}
use Rattle.film_core.specs.Ways.{RestDone, MayNote, StaysOn, OverAt, PastAt, OverBeforeTurn, RunsOut, RoundAt, RestAt}
use Rattle.film_core.proofs.Composing.{then_stop, then_out, here_leads, leads_reached, stands_then, leads_longer}
use Rattle.film_core.proofs.Marking.{asked_order, few_lines, mark_follows}

-- The run is over.

none_after : (A : Inputs) (t : State) → IsOver A t → next_mark A t ≡ None → next_unit A t ≡ None
unfolding next_unit
none_after A t o e =
    ap (λ (ds : List Due). or_else (due_unit t.place ds) (or_else (under A t t.mark) (next_mark A t))) o.clear
    ∙ ap (λ (x : Option Entry). or_else x (next_mark A t)) o.over ∙ e

limit_ends : (A : Inputs) (t : State) → A.limit ≤ t.count → next_mark A t ≡ None
limit_ends A t l = ap (λ (more : Bool). when more (line_or_turn t (nat_lt t.lines (length A.lines)))) full
  where
    full : nat_lt t.count A.limit ≡ false
    full = grind (arith, nat_tests)

none_there : (lines : List Event) (n : ℕ) → slice_get lines n ≡ None → length lines ≤ n
none_there [] n e = omega arith
none_there (x ∷ xs) zero e = absurd cc
none_there (x ∷ xs) (suc n) e = let more = none_there xs n e in omega (arith, more)

pub some_there : (lines : List Event) (n : ℕ) (x : Event) → slice_get lines n ≡ Some x → n < length lines
some_there [] n x e = absurd cc
some_there (y ∷ ys) zero x e = omega arith
some_there (y ∷ ys) (suc n) x e = let more = some_there ys n x e in omega (arith, more)

idle_ends : (A : Inputs) (t : State) → length A.lines ≤ t.lines → next_turned t.point.flat (last_turned t.mark) ≡ None → next_mark A t ≡ None
idle_ends A t l e = go (nat_lt t.count A.limit) (nat_lt t.lines (length A.lines)) refl
  where
    never : nat_lt t.lines (length A.lines) ≡ true → ⊥
    never x = absurd (let less : t.lines < length A.lines = grind (arith, nat_tests) in omega (arith, less, l))

    go : (a b : Bool) → nat_lt t.lines (length A.lines) ≡ b → when a (line_or_turn t b) ≡ None
    go false b x = refl
    go true true x = absurd (never x)
    go true false x = ap turn_of e

module _ (A : Inputs) (s : State) (m : Standing) (schedule : List Event) (taken count : ℕ) (holds : Option (List NamedFile)) (i : Option SwapImage)
    (image : SwapImage)
    (at : PastAt m schedule taken count holds i A s image) where
  turned : next_turned s.point.flat (last_turned s.mark) ≡ chosen_next m.kernel (last_turned s.mark)
  turned = sym (turned_same m.kernel s.point.flat (last_turned s.mark) at.stands.machine.at.stands.keeps.coupled.tables)

  all_taken : slice_get schedule taken ≡ None → length A.lines ≤ s.lines
  all_taken e = let less = none_there schedule taken e in let a = ap (λ (es : List Event). length es) at.are in let b = at.lines in omega (arith, less, a, b)

  past_none : (m.params.limit ≤ count) ⊎ ((slice_get schedule taken ≡ None) × (chosen_next m.kernel (last_turned s.mark) ≡ None)) → next_unit A s ≡ None
  past_none why = none_after A s at.over (elim why [
    | inl l ↦ limit_ends A s (let a = at.stands.inputs.limit in let b = at.stands.count in omega (arith, l, a, b))
    | inr e ↦ idle_ends A s (all_taken e.0) (turned ∙ e.1)
  ])

  below : count < m.params.limit → s.count < A.limit
  below l = let a = at.stands.inputs.limit in let b = at.stands.count in omega (arith, l, a, b)

  pub due_line : (e : Event) → slice_get schedule taken ≡ Some e → slice_get A.lines s.lines ≡ Some e
  due_line e x = ap (λ (n : ℕ). slice_get A.lines n) at.lines ∙ ap (λ (es : List Event). slice_get es taken) at.are ∙ x

  most_taken : s.lines ≤ length A.lines
  most_taken = few_lines A at.reached.units (start A at.reached.holdings) s at.reached.follows (omega arith)

  pub due_turn : (pid : ℕ) → count < m.params.limit → slice_get schedule taken ≡ None → chosen_next m.kernel (last_turned s.mark) ≡ Some pid → TurnDue A s pid
  due_turn pid l e x = record {
    over = at.over;
    below = below l;
    lines = let all = all_taken e in let most = most_taken in omega (arith, all, most);
    turned = turned ∙ x;
  }

module _ (A : Inputs) (s : State) (m : Standing) (schedule : List Event) (taken count last : ℕ) where
  -- whoever had the last turn
  past_of : (holds : Option (List NamedFile)) (i : Option SwapImage)
      (image : SwapImage) → OverAt m schedule taken count last holds i A s image → PastAt m schedule taken count holds i A s image
  past_of holds i image at = record { stands = at.stands; reached = at.reached; over = at.over; are = at.are; lines = at.lines }

  turn_of_last : (pid : ℕ) (holds : Option (List NamedFile)) (i : Option SwapImage) (image : SwapImage) → chosen_next m.kernel last ≡ Some pid
      → OverAt m schedule taken count last holds i A s image → OverBeforeTurn m schedule taken count pid holds i A s image
  turn_of_last pid holds i image y at = record {
    past = past_of holds i image at;
    next = ap (chosen_next m.kernel) at.turned ∙ y;
  }

  pub over_none : (holds : Option (List NamedFile)) (i : Option SwapImage) (image : SwapImage) → OverAt m schedule taken count last holds i A s image
      → (m.params.limit ≤ count) ⊎ ((slice_get schedule taken ≡ None) × (chosen_next m.kernel last ≡ None)) → next_unit A s ≡ None
  over_none holds i image at why =
      past_none A s m schedule taken count holds i image (past_of holds i image at) (elim why [
        | inl l ↦ inl l
        | inr e ↦ inr (e.0, ap (chosen_next m.kernel) at.turned ∙ e.1)
      ])

-- A mark is over.

pub over_at : (A : Inputs) (s : State) (old new : Standing) (last : Mark) (schedule : List Event) (taken counted count turn : ℕ)
    (holds : Option (List NamedFile)) (i j : Option SwapImage) (image : SwapImage)
    → (at : RoundAt old last schedule taken counted holds i A s image) → (d : RestDone old new last count j A s image) → StaysOn old new count
    → turn ≡ last_turned last
    → OverAt new schedule taken count turn holds j A d.state d.leads.behind
over_at A s old new last schedule taken counted count turn holds i j image at d on e = record {
  stands = stands_then A s d.state old new holds i j image d.units counted count at.rest.reached at.rest.stands d.leads on.params on.images d.counts;
  reached = leads_reached A s d.state old.kernel new.kernel image d.units j at.rest.reached d.leads;
  over = d.over;
  are = at.are;
  lines = d.lines ∙ at.lines;
  turned = d.turned ∙ sym e;
}

pub over_rounds : (old new : Standing) (last : Mark) (schedule : List Event) (taken counted count turn : ℕ) (holds : Option (List NamedFile))
    (i j : Option SwapImage) → LeadsFrom (RestAt old last counted holds i) (RestDone old new last count j)
    → StaysOn old new count → turn ≡ last_turned last → (new.params.limit ≤ count) ⊎ ((slice_get schedule taken ≡ None) × (chosen_next new.kernel turn ≡ None))
    → LeadsFrom (RoundAt old last schedule taken counted holds i) (RunsOut old new j)
over_rounds old new last schedule taken counted count turn holds i j f on e why A s image at =
    let d = f A s image at.rest in
    record {
      units = d.units;
      state = d.state;
      leads = d.leads;
      none = over_none A d.state new schedule taken count turn holds j d.leads.behind (over_at A s old new last schedule taken counted count turn holds i j image at d on e) why;
    }

-- The journal has no room for the next mark.

stops_full : (m : Standing) → MayNote m → m.params.journal ≤ length m.kernel.journal → StopsBefore m m stops.JournalFull
stops_full m may full = record {
  stopped = record { journal = refl; params = refl; images = refl; full = λ f. refl; held = λ r. refl };
  whole = may.ready.whole;
  cause = inl refl;
  full = λ e. full;
}

-- what comes after a mark is a line or a turn
abbrev pub ComesNext : Standing → List Event → ℕ → ℕ → ℕ → Type 0
ComesNext m schedule taken count turn =
    ((e : Event) × (count < m.params.limit) × (slice_get schedule taken ≡ Some e))
    ⊎ ((pid : ℕ) × (count < m.params.limit) × (slice_get schedule taken ≡ None) × (chosen_next m.kernel turn ≡ Some pid))

module _ (A : Inputs) (s : State) (m : Standing) (schedule : List Event) (taken count : ℕ) (holds : Option (List NamedFile)) (i : Option SwapImage)
    (image : SwapImage)
    (at : PastAt m schedule taken count holds i A s image) where
  pub stop_line : (new : Standing) (e : Event) (stop : Stop) → count < m.params.limit → slice_get schedule taken ≡ Some e → StopsBefore m new stop → StopLeads A s m.kernel image stop new i
  stop_line new e stop l x n =
      subst (λ (o : Option SwapImage). StopLeads A s m.kernel image stop new o) (sym at.stands.told)
      (line_stops A s m new holds image e stop at.stands.machine at.over (below A s m schedule taken count holds i image at l) (due_line A s m schedule taken count holds i image at e x) n)

  pub stop_turn : (new : Standing) (pid : ℕ) (stop : Stop) → count < m.params.limit → slice_get schedule taken ≡ None
      → chosen_next m.kernel (last_turned s.mark) ≡ Some pid → StopsBefore m new stop
      → StopLeads A s m.kernel image stop new i
  stop_turn new pid stop l x y n =
      subst (λ (o : Option SwapImage). StopLeads A s m.kernel image stop new o) (sym at.stands.told)
      (turn_stops A s m new holds image pid stop at.stands.machine (due_turn A s m schedule taken count holds i image at pid l x y) n)

stop_full : (A : Inputs) (s : State) (m : Standing) (schedule : List Event) (taken count last : ℕ) (holds : Option (List NamedFile)) (i : Option SwapImage)
    (image : SwapImage) → OverAt m schedule taken count last holds i A s image
    → MayNote m → m.params.journal ≤ length m.kernel.journal → ComesNext m schedule taken count last → StopLeads A s m.kernel image stops.JournalFull m i
stop_full A s m schedule taken count last holds i image at may full (inl (e, l, x)) =
    stop_line A s m schedule taken count holds i image (past_of A s m schedule taken count last holds i image at) m e stops.JournalFull l x (stops_full m may full)
stop_full A s m schedule taken count last holds i image at may full (inr (pid, l, x, y)) =
    stop_turn A s m schedule taken count holds i image (past_of A s m schedule taken count last holds i image at) m pid stops.JournalFull l x
    (ap (chosen_next m.kernel) at.turned ∙ y) (stops_full m may full)

grown_full : (A : Inputs) (s t : State) (old new : Standing) (holds : Option (List NamedFile)) (i j : Option SwapImage) (image behind : SwapImage)
    (us : List Entry)
    (counted count room : ℕ)
    → StandsIn A s old holds i image counted → StandsIn A t new holds j behind count → Leads A s old.kernel image us t new.kernel j
    → room ≤ length old.kernel.journal → room ≤ length new.kernel.journal
grown_full A s t old new holds i j image behind us counted count room st there a full =
    let long = leads_longer A s t old.kernel new.kernel image behind us j st.machine.at.stands there.machine.at.stands a in omega (arith, long, full)

same_room : (old new : Standing) → new.params ≡ old.params → (n : ℕ) → old.params.journal ≤ n → new.params.journal ≤ n
same_room old new e n l = subst (λ (p : Params). p.journal ≤ n) (sym e) l

module _ (old new : Standing) (last : Mark) (schedule : List Event) (taken counted count turn : ℕ) (holds : Option (List NamedFile)) (i j : Option SwapImage)
    (f : LeadsFrom (RestAt old last counted holds i) (RestDone old new last count j))
    (on : StaysOn old new count) (e : turn ≡ last_turned last) (full : old.params.journal ≤ length old.kernel.journal) where
  round_full : (A : Inputs) (s : State) (image : SwapImage) → RoundAt old last schedule taken counted holds i A s image
      → new.params.journal ≤ length new.kernel.journal
  round_full A s image at =
      let d = f A s image at.rest in
      let o = over_at A s old new last schedule taken counted count turn holds i j image at d on e in
      same_room old new on.params (length new.kernel.journal)
      (grown_full A s d.state old new holds i j image d.leads.behind d.units counted count old.params.journal at.rest.stands o.stands d.leads full)

  pub full_round : ComesNext new schedule taken count turn → StopsFrom (RoundAt old last schedule taken counted holds i) old new j stops.JournalFull
  full_round next A s image at =
      let d = f A s image at.rest in
      let o = over_at A s old new last schedule taken counted count turn holds i j image at d on e in
      then_stop A s d.state old.kernel new.kernel image j j d.units stops.JournalFull new d.leads
      (stop_full A d.state new schedule taken count turn holds j d.leads.behind o on.may (round_full A s image at) next)

  pub full_kept : AtSome (RoundAt old last schedule taken counted holds i) → KeptAtStop old new stops.JournalFull
  full_kept (A, s, image, at) = record { sizes = record { params = on.params; images = on.images }; full = λ x. round_full A s image at }

-- The next line, or a turn, begins.

pub record NextBegun (A : Inputs) (s : State) (old new : Standing) (mark : Mark) (schedule : List Event) (taken counted : ℕ) (holds : Option (List NamedFile))
    (i : Option SwapImage) (image : SwapImage) : Type 0 where
  pub units : List Entry
  pub state : State
  pub leads : Leads A s old.kernel image units state new.kernel i
  pub at : RoundAt new mark schedule taken counted holds i A state leads.behind

pub line_begun : (A : Inputs) (s : State) (old new : Standing) (mark : Mark) (schedule : List Event) (taken counted : ℕ) (holds : Option (List NamedFile))
    (i : Option SwapImage) (image : SwapImage) (e : Event)
    → PastAt old schedule taken counted holds i A s image → counted < old.params.limit → slice_get schedule taken ≡ Some e → HaveFewMoves schedule
    → StaysSteady old new 0 → new.kernel ≡ note_step old.kernel (entries.Event (taken + 1))
    → mark ≡ marked_by new.kernel counted e → NextBegun A s old new mark schedule (taken + 1) counted holds i image
line_begun A s old new mark schedule taken counted holds i image e at l x few n k m =
    let number : taken + 1 ≡ s.lines + 1 = ap (λ (n : ℕ). n + 1) (sym at.lines) in
    let b : LineBegun A s old.kernel image e new.kernel = line_begins A s old new.kernel holds image e at.stands.machine at.over (below A s old schedule taken counted holds i image at l)
    (due_line A s old schedule taken counted holds i image at e x) (k ∙ ap (λ (n : ℕ). note_step old.kernel (entries.Event n)) number) in
    let a : Leads A s old.kernel image (entries.Event (s.lines + 1) ∷ []) b.state new.kernel i =
    subst (λ (o : Option SwapImage). Leads A s old.kernel image (entries.Event (s.lines + 1) ∷ []) b.state new.kernel o) (sym at.stands.told) b.leads in
    let st = stands_then A s b.state old new holds i i image (entries.Event (s.lines + 1) ∷ []) counted counted at.reached at.stands a n.params n.images (b.count ∙ at.stands.count) in
    let marked : b.state.mark ≡ mark =
    mark_follows A s b.state new.kernel a.behind st.machine.at (entries.Event (s.lines + 1)) (leads_follow A s b.state old.kernel new.kernel image (entries.Event (s.lines + 1) ∷ []) i a)
    ∙ ap (λ (o : Option Event). marked_if new.kernel b.state.count o) (due_line A s old schedule taken counted holds i image at e x)
    ∙ ap (λ (n : ℕ). marked_by new.kernel n e) (b.count ∙ at.stands.count) ∙ sym m in
    record {
      units = entries.Event (s.lines + 1) ∷ [];
      state = b.state;
      leads = a;
      at = record {
        rest = record {
          stands = st;
          reached = leads_reached A s b.state old.kernel new.kernel image (entries.Event (s.lines + 1) ∷ []) i at.reached a;
          clear = b.clear;
          mark = marked;
          order = subst (IsInOrder A.lines b.state.lines) (sym m) (asked_order new.kernel A.lines b.state.lines counted e (few_at schedule taken e few x));
        };
        are = at.are;
        lines = b.lines ∙ sym number;
      };
    }

pub turn_begun : (A : Inputs) (s : State) (old new : Standing) (schedule : List Event) (taken counted : ℕ) (holds : Option (List NamedFile))
    (i : Option SwapImage) (image : SwapImage) (pid : ℕ)
    → OverBeforeTurn old schedule taken counted pid holds i A s image → counted < old.params.limit → slice_get schedule taken ≡ None
    → StaysSteady old new 0 → new.kernel ≡ note_step old.kernel (entries.Turn pid)
    → NextBegun A s old new (marks.Turn pid counted) schedule taken counted holds i image
turn_begun A s old new schedule taken counted holds i image pid turns l x n k =
    let at : PastAt old schedule taken counted holds i A s image = turns.past in
    let due = due_turn A s old schedule taken counted holds i image at pid l x turns.next in
    let b : TurnBegun A s old.kernel image pid new.kernel = turn_begins A s old new.kernel holds image pid at.stands.machine due k in
    let a : Leads A s old.kernel image (entries.Turn pid ∷ []) b.state new.kernel i =
    subst (λ (o : Option SwapImage). Leads A s old.kernel image (entries.Turn pid ∷ []) b.state new.kernel o) (sym at.stands.told) b.leads in
    let st = stands_then A s b.state old new holds i i image (entries.Turn pid ∷ []) counted counted at.reached at.stands a n.params n.images (b.count ∙ at.stands.count) in
    record {
      units = entries.Turn pid ∷ [];
      state = b.state;
      leads = a;
      at = record {
        rest = record {
          stands = st;
          reached = leads_reached A s b.state old.kernel new.kernel image (entries.Turn pid ∷ []) i at.reached a;
          clear = b.clear;
          mark = b.mark ∙ ap (λ (n : ℕ). marks.Turn pid n) at.stands.count;
          order = let d = due.lines in let e = b.lines in omega (arith, d, e);
        };
        are = at.are;
        lines = b.lines ∙ at.lines;
      };
    }

-- what is led to from there is led to from before
begun_over : (A : Inputs) (s : State) (old mid new : Standing) (mark : Mark) (schedule : List Event) (taken counted : ℕ) (holds : Option (List NamedFile))
    (i j : Option SwapImage) (image : SwapImage)
    → (b : NextBegun A s old mid mark schedule taken counted holds i image) → LeadsFrom (RoundAt mid mark schedule taken counted holds i) (RunsOut mid new j)
    → RunsOut old new j A s image
begun_over A s old mid new mark schedule taken counted holds i j image b f =
    then_out A s b.state old mid new image i j b.units b.leads (f A b.state b.leads.behind b.at)

begun_stops : (A : Inputs) (s : State) (old mid new : Standing) (mark : Mark) (schedule : List Event) (taken counted : ℕ) (holds : Option (List NamedFile))
    (i j : Option SwapImage) (image : SwapImage) (stop : Stop)
    → (b : NextBegun A s old mid mark schedule taken counted holds i image) → StopsFrom (RoundAt mid mark schedule taken counted holds i) mid new j stop
    → StopLeads A s old.kernel image stop new j
begun_stops A s old mid new mark schedule taken counted holds i j image stop b f =
    then_stop A s b.state old.kernel mid.kernel image i j b.units stop new b.leads (f A b.state b.leads.behind b.at)

-- A line.

module _ (old mid new : Standing) (mark : Mark) (schedule : List Event) (taken counted : ℕ) (holds : Option (List NamedFile)) (i j : Option SwapImage)
    (e : Event)
    (l : counted < old.params.limit) (x : slice_get schedule taken ≡ Some e) (few : HaveFewMoves schedule) (n : StaysSteady old mid 0)
    (k : mid.kernel ≡ note_step old.kernel (entries.Event (taken + 1))) (m : mark ≡ marked_by mid.kernel counted e) where
  line_there : (A : Inputs) (s : State) (image : SwapImage) → PastAt old schedule taken counted holds i A s image
      → NextBegun A s old mid mark schedule (taken + 1) counted holds i image
  line_there A s image at = line_begun A s old mid mark schedule taken counted holds i image e at l x few n k m

  pub line_round : AtSome (PastAt old schedule taken counted holds i) → AtSome (RoundAt mid mark schedule (taken + 1) counted holds i)
  line_round (A, s, image, at) = let b = line_there A s image at in (A, b.state, b.leads.behind, b.at)

  pub line_passes : LeadsFrom (RoundAt mid mark schedule (taken + 1) counted holds i) (RunsOut mid new j) → LeadsFrom (PastAt old schedule taken counted holds i) (RunsOut old new j)
  line_passes f A s image at = begun_over A s old mid new mark schedule (taken + 1) counted holds i j image (line_there A s image at) f

  pub line_stops_passing : (stop : Stop) → StopsFrom (RoundAt mid mark schedule (taken + 1) counted holds i) mid new j stop → StopsFrom (PastAt old schedule taken counted holds i) old new j stop
  line_stops_passing stop f A s image at = begun_stops A s old mid new mark schedule (taken + 1) counted holds i j image stop (line_there A s image at) f

-- A turn.

module _ (old mid new : Standing) (schedule : List Event) (taken counted : ℕ) (holds : Option (List NamedFile)) (i j : Option SwapImage) (pid : ℕ)
    (l : counted < old.params.limit) (x : slice_get schedule taken ≡ None) (n : StaysSteady old mid 0)
    (k : mid.kernel ≡ note_step old.kernel (entries.Turn pid)) where
  turn_there : (A : Inputs) (s : State) (image : SwapImage) → OverBeforeTurn old schedule taken counted pid holds i A s image
      → NextBegun A s old mid (marks.Turn pid counted) schedule taken counted holds i image
  turn_there A s image at = turn_begun A s old mid schedule taken counted holds i image pid at l x n k

  pub turn_round : AtSome (OverBeforeTurn old schedule taken counted pid holds i) → AtSome (RoundAt mid (marks.Turn pid counted) schedule taken counted holds i)
  turn_round (A, s, image, at) = let b = turn_there A s image at in (A, b.state, b.leads.behind, b.at)

  pub turn_passes : LeadsFrom (RoundAt mid (marks.Turn pid counted) schedule taken counted holds i) (RunsOut mid new j)
      → LeadsFrom (OverBeforeTurn old schedule taken counted pid holds i) (RunsOut old new j)
  turn_passes f A s image at = begun_over A s old mid new (marks.Turn pid counted) schedule taken counted holds i j image (turn_there A s image at) f

  pub turn_stops_passing : (stop : Stop) → StopsFrom (RoundAt mid (marks.Turn pid counted) schedule taken counted holds i) mid new j stop
      → StopsFrom (OverBeforeTurn old schedule taken counted pid holds i) old new j stop
  turn_stops_passing stop f A s image at = begun_stops A s old mid new (marks.Turn pid counted) schedule taken counted holds i j image stop (turn_there A s image at) f

pub line_noting : (old new : Standing) (schedule : List Event) (taken counted : ℕ) (holds : Option (List NamedFile)) (i : Option SwapImage) (e : Event)
    (stop : Stop) → counted < old.params.limit
    → slice_get schedule taken ≡ Some e → StopsBefore old new stop → StopsFrom (PastAt old schedule taken counted holds i) old new i stop
line_noting old new schedule taken counted holds i e stop l x n A s image at = stop_line A s old schedule taken counted holds i image at new e stop l x n

pub turn_noting : (old new : Standing) (schedule : List Event) (taken counted : ℕ) (holds : Option (List NamedFile)) (i : Option SwapImage) (pid : ℕ)
    (stop : Stop) → counted < old.params.limit
    → slice_get schedule taken ≡ None → StopsBefore old new stop
    → StopsFrom (OverBeforeTurn old schedule taken counted pid holds i) old new i stop
turn_noting old new schedule taken counted holds i pid stop l x n A s image at = stop_turn A s old schedule taken counted holds i image at.past new pid stop l x at.next n

-- What follows where a process had the last turn.

module _ (m : Standing) (schedule : List Event) (taken counted last : ℕ) where
  pub over_past : (holds : Option (List NamedFile)) (i : Option SwapImage)
      → AtSome (OverAt m schedule taken counted last holds i) → AtSome (PastAt m schedule taken counted holds i)
  over_past holds i (A, s, image, at) = (A, s, image, past_of A s m schedule taken counted last holds i image at)

  pub over_turn : (pid : ℕ) (holds : Option (List NamedFile)) (i : Option SwapImage) → chosen_next m.kernel last ≡ Some pid
      → AtSome (OverAt m schedule taken counted last holds i) → AtSome (OverBeforeTurn m schedule taken counted pid holds i)
  over_turn pid holds i y (A, s, image, at) = (A, s, image, turn_of_last A s m schedule taken counted last pid holds i image y at)

  pub leads_past : (holds : Option (List NamedFile)) (i : Option SwapImage) (Leads : Inputs → State → SwapImage → Type 0)
      → LeadsFrom (PastAt m schedule taken counted holds i) Leads → LeadsFrom (OverAt m schedule taken counted last holds i) Leads
  leads_past holds i Leads f A s image at = f A s image (past_of A s m schedule taken counted last holds i image at)

  pub leads_turn : (pid : ℕ) (holds : Option (List NamedFile)) (i : Option SwapImage)
      (Leads : Inputs → State → SwapImage → Type 0) → chosen_next m.kernel last ≡ Some pid
      → LeadsFrom (OverBeforeTurn m schedule taken counted pid holds i) Leads → LeadsFrom (OverAt m schedule taken counted last holds i) Leads
  leads_turn pid holds i Leads y f A s image at =
      f A s image (turn_of_last A s m schedule taken counted last pid holds i image y at)

pub stops_past : (old new : Standing) (schedule : List Event) (taken counted last : ℕ) (holds : Option (List NamedFile)) (i j : Option SwapImage) (stop : Stop)
    → StopsFrom (PastAt old schedule taken counted holds i) old new j stop → StopsFrom (OverAt old schedule taken counted last holds i) old new j stop
stops_past old new schedule taken counted last holds i j stop f A s image at = f A s image (past_of A s old schedule taken counted last holds i image at)

pub stops_turn : (old new : Standing) (schedule : List Event) (taken counted last pid : ℕ) (holds : Option (List NamedFile)) (i j : Option SwapImage)
    → chosen_next old.kernel last ≡ Some pid → (stop : Stop)
    → StopsFrom (OverBeforeTurn old schedule taken counted pid holds i) old new j stop → StopsFrom (OverAt old schedule taken counted last holds i) old new j stop
stops_turn old new schedule taken counted last pid holds i j y stop f A s image at =
    f A s image (turn_of_last A s old schedule taken counted last pid holds i image y at)

pub none_passes : (m : Standing) (schedule : List Event) (taken counted turn : ℕ) (holds : Option (List NamedFile)) (i : Option SwapImage)
    → (m.params.limit ≤ counted) ⊎ ((slice_get schedule taken ≡ None) × (chosen_next m.kernel turn ≡ None))
    → LeadsFrom (OverAt m schedule taken counted turn holds i) (RunsOut m m i)
none_passes m schedule taken counted turn holds i why A s image at = record {
  units = [];
  state = s;
  leads = here_leads A s m.kernel image i at.stands.told;
  none = over_none A s m schedule taken counted turn holds i image at why;
}
