-- With room for one entry a process makes one unit, which is what it does next.
use Rattle.std.proofs.Common.{◌≡◌, ℕ, ◌+◌, ◌-◌, ◌≤◌, false, List, [], ◌∷◌, ◌++◌, length, slice_get, append_assoc, Option, Some, None, refl, sym, ap, ◌∙◌, subst, arith}
use Rattle.std.proofs.lemmas.List.{length-append}
use Rattle.vm_facts.specs.SwapImages.{SwapImage}
use Rattle.vm_facts.specs.declared.entry.Entry.{Entry}
use Rattle.vm_facts.specs.declared.entry.Entry.TheVariants as entries
use Rattle.vm_facts.specs.declared.params.Params.{Params}
use Rattle.vm_facts.specs.declared.stop.Stop.TheVariants as stops
use Rattle.io_edge.specs.FileHolding.{NamedFile}
use Rattle.flat_state.specs.Flat.{Inputs}
use Rattle.flat_state.specs.Journal.{join, append, appended, IsPlain}
use Rattle.flat_state.proofs.Joins.{append_plain}
use Rattle.kernel_model.specs.Kernel.{Kernel}
use Rattle.flat_model.specs.Run.{process_of_entry}
use Rattle.kernel_model.specs.Requests.{ImageFile}
use Rattle.machine_state.specs.Sourced.{files_named}
use Rattle.machine_state.specs.Going.{CanGoOn, IsRunning}
use Rattle.machine_state.specs.Machine.{Standing}
use Rattle.proc_run.specs.Sizes.{KeptAtStop}
use Rattle.proc_run.specs.Stops.{SpoilsBy}
use Rattle.run_model.specs.declared.mark.Mark.TheVariants as marks
use Rattle.run_model.specs.State.{State}
use Rattle.run_model.specs.Act.{act}
use Rattle.run_model.specs.Kinds.{ProcessRuns}
use Rattle.run_model.specs.Next.{work_by, under, next_unit}
use Rattle.run_model.proofs.After.{units_journal}
use Rattle.run_laws.specs.Machine.{MakesSwap}
use Rattle.run_laws.specs.Running.{IsRun}
use Rattle.run_laws.proofs.Flows.{Acted, Settles, Refuses, Steps, acted, runs_work, runs_next, steps_own}
use Rattle.run_laws.proofs.Going.{unit_goes}
use Rattle.run_laws.proofs.Lawful.{follows_state}
use Rattle.run_laws.proofs.LongerJournals.{joined_beyond, units_long}
use Rattle.run_laws.proofs.Machines.{swaps_follow}
use Rattle.economy_laws.proofs.Steps.{act_some}
use Rattle.proc_run.specs.Leads.{MadeAs, Leads}
use Rattle.proc_run.specs.RunUnitsServing.{At}
use Rattle.proc_run.proofs.Units.{leads_at}
use Rattle.proc_run.specs.Stepped.{StepLeads, StopsNext, StopLeads, AtSome, LeadsFrom, StopsFrom}
use Rattle.paged_laws.specs.Paged.{under_dispatch}
use Rattle.paged_laws.proofs.Virtual.{act_same}
use Rattle.proc_run.specs.declared.finishing.Begun.{Begun}
use Rattle.proc_run.specs.Rests.{BegunAt}
use Rattle.proc_run.specs.Running.{AsksRun, UnderMark, RunLeads, CountsTo}
use Rattle.proc_run.proofs.BegunTold.{none_between}
use Rattle.step_judge.specs.At.{JudgedAt, SoonAt, ReadyAt, ActsAt}
use Rattle.step_judge.specs.Told.{ActMade, GoesOnWith}
use Rattle.step_judge.proofs.Dispatched.{run_then, at_then, machine_then, asks_one, runs_then}

-- Journals.

join_plain : (u w : Entry) → IsPlain u → join u w ≡ u ∷ w ∷ []
join_plain (entries.Ran q n) w k = absurd k
join_plain (entries.Hands n) w k = absurd k
join_plain _ w k = refl

-- behind an entry that isn't joined another stands
second : (js : List Entry) (u w : Entry) → IsPlain u → append (js ++ u ∷ []) w ≡ js ++ u ∷ w ∷ []
second js u (entries.Ran q n) k = joined_beyond js u [] (entries.Ran q n) ∙ ap (λ (es : List Entry). js ++ es) (join_plain u (entries.Ran q n) k)
second js u (entries.Hands n) k = joined_beyond js u [] (entries.Hands n) ∙ ap (λ (es : List Entry). js ++ es) (join_plain u (entries.Hands n) k)
second js u w k = append_assoc js (u ∷ []) (w ∷ [])

two_long : (js : List Entry) (u w : Entry) → IsPlain u → length (append (append js u) w) ≡ length js + 2
two_long js u w k =
    let whole = ap (λ (es : List Entry). length es) (ap (λ (es : List Entry). append es w) (append_plain js u k) ∙ second js u w k) in
    let sum = length-append js (u ∷ w ∷ []) in
    omega (arith, whole, sum)

never_two : (js us : List Entry) (u w : Entry) → IsPlain u → length (appended js (u ∷ w ∷ us)) ≤ length js + 1 → ⊥
never_two js us u w k few =
    let two = two_long js u w k in
    let more = units_long us (append (append js u) w) in
    omega (arith, two, more, few)

behind_seam : (js : List Entry) (u : Entry) → slice_get (js ++ u ∷ []) (length js) ≡ Some u
behind_seam [] u = refl
behind_seam (e ∷ js) u = behind_seam js u

last_at : (js : List Entry) (u : Entry) → slice_get (js ++ u ∷ []) (length (js ++ u ∷ []) - 1) ≡ Some u
last_at js u =
    let sum = length-append js (u ∷ []) in
    let place : length (js ++ u ∷ []) - 1 ≡ length js = omega (arith, sum) in
    ap (slice_get (js ++ u ∷ [])) place ∙ behind_seam js u

-- A unit is the same under each mark.

module _ (A : Inputs) (s : State) (pid : ℕ) (k l : Kernel) (image : SwapImage) (j : Option SwapImage) where
  own_here : (u : Entry) → process_of_entry u ≡ Some pid → MadeAs A (under_dispatch s pid) k image u l j → MadeAs A s k image u l j
  own_here (entries.Ran p n) e x = record { read = x.read; given = tt; made = x.made; told = x.told }
  own_here (entries.Out p bytes) e x = record { read = x.read; given = tt; made = x.made; told = x.told }
  own_here (entries.Grew p n) e x = record { read = x.read; given = tt; made = x.made; told = x.told }
  own_here (entries.Call p n c r0 r1) e x = record { read = x.read; given = tt; made = x.made; told = x.told }
  own_here (entries.Refused p) e x = record { read = x.read; given = tt; made = x.made; told = x.told }
  own_here (entries.Sleeps p) e x = record { read = x.read; given = tt; made = x.made; told = x.told }
  own_here (entries.Ended p n) e x = record { read = x.read; given = tt; made = x.made; told = x.told }
  own_here _ e x = absurd cc

  done_here : MadeAs A (under_dispatch s pid) k image entries.Done l j → MadeAs A s k image entries.Done l j
  done_here x = record { read = x.read; given = x.given; made = x.made; told = x.told }

  -- of what a process does
  made_here : (u : Entry) → act A s pid ≡ Some u → MadeAs A (under_dispatch s pid) k image u l j → MadeAs A s k image u l j
  made_here u e x = go (acted A s pid u e)
    where
      go : Acted A s pid u → MadeAs A s k image u l j
      go (Settles z) =
          subst (λ (w : Entry). MadeAs A s k image w l j) (sym z) (done_here (subst (λ (w : Entry). MadeAs A (under_dispatch s pid) k image w l j) z x))
      go (Refuses z) = own_here u (ap process_of_entry z) x
      go (Steps f g z) = own_here u (steps_own A s.point pid u z) x

-- where a journal is full the swap image is as it was
full_spoils : (files : List ImageFile) (u : Entry) (k : Kernel) (i j : Option SwapImage) → SpoilsBy files u stops.JournalFull k i j → j ≡ i
full_spoils files entries.Done k i j h = h
full_spoils files (entries.SwapOut pid) k i j h = h
full_spoils files _ k i j h = h

-- One unit.

module _ (m : Standing) (n : ℕ) (b : Option Begun) (holds : Option (List NamedFile)) (i : Option SwapImage) (pid : ℕ) (A : Inputs) (s : State) (image : SwapImage)
    (x : ActsAt m n b holds i pid A s image) where
  abbrev v : State
  v = under_dispatch s pid

  may : ReadyAt m n b holds i pid A s image
  may = x.ready

  soon : SoonAt m n b holds i pid A s image
  soon = may.soon

  here : JudgedAt m n b holds i A s image
  here = soon.at

  at : At A v m.kernel image
  at = at_then m n b holds i pid A s image may

  runs : ProcessRuns A v pid false
  runs = runs_then m n b holds i pid A s image may

  never_none : act A v pid ≡ None → ⊥
  never_none e = let r : IsRun A v = run_then m n b holds i pid A s image may in act_some A v pid false r runs e

  -- what comes next under the dispatch is what it does
  acts : (u : Entry) → next_unit A v ≡ Some u → act A s pid ≡ Some u
  acts u h = go (act A v pid) refl
    where
      go : (o : Option Entry) → act A v pid ≡ o → act A s pid ≡ Some u
      go None e = absurd (never_none e)
      go (Some w) e = sym (act_same A s (marks.Dispatch pid 1 s.count) pid) ∙ e ∙ (sym (runs_next A v pid false w runs x.unwanted e) ∙ h)

  -- that isn't joined
  plain : (u : Entry) → act A s pid ≡ Some u → IsPlain u
  plain u e = go (acted A s pid u e)
    where
      own : (w : Entry) → act A s pid ≡ Some w → process_of_entry w ≡ Some pid → IsPlain w
      own (entries.Ran q k) y z = absurd (x.other q k y)
      own (entries.Hands k) y z = absurd cc
      own _ y z = tt

      go : Acted A s pid u → IsPlain u
      go (Settles z) = subst IsPlain (sym z) tt
      go (Refuses z) = subst IsPlain (sym z) tt
      go (Steps f g z) = own u e (steps_own A s.point pid u z)

  module _ (l : Kernel) (j : Option SwapImage) where
    journal_of : (us : List Entry) (t : State) → Leads A v m.kernel image us t l j → l.journal ≡ appended m.kernel.journal us
    journal_of us t y =
        let there : At A t l y.behind = leads_at A v t m.kernel l image y.behind us at (subst (λ (o : Option SwapImage). Leads A v m.kernel image us t l o) y.told y) in
        there.stands.journal
        ∙ ap (λ (z : State). z.journal) (sym (follows_state A us v t (swaps_follow A us v t m.kernel l image y.behind y.makes)))
        ∙ units_journal A v us
        ∙ ap (λ (es : List Entry). appended es us) (sym at.stands.journal)

    one_unit : (us : List Entry) (t : State) → Leads A v m.kernel image us t l j → (us ≡ [] → ⊥) → length l.journal ≤ length m.kernel.journal + 1
        → ActMade m.kernel l j pid A s image
    one_unit [] t y some few = absurd (some refl)
    one_unit (u ∷ []) t y some few =
        let h = y.makes in
        let does : act A s pid ≡ Some u = acts u h.0 in
        let journal : l.journal ≡ m.kernel.journal ++ u ∷ [] = journal_of (u ∷ []) t y ∙ append_plain m.kernel.journal u (plain u does) in
        record {
          entry = u;
          acts = does;
          made = made_here A s pid m.kernel l image j u does
              (record { read = h.1.0; given = h.1.1; made = sym h.1.2.1; told = y.told ∙ ap (λ (z : SwapImage). Some z) (sym h.1.2.2) });
          last = subst (λ (es : List Entry). slice_get es (length es - 1) ≡ Some u) (sym journal) (last_at m.kernel.journal u);
        }
    one_unit (u ∷ w ∷ us) t y some few =
        let h = y.makes in
        absurd (never_two m.kernel.journal us u w (plain u (acts u h.0))
        (subst (λ (es : List Entry). length es ≤ length m.kernel.journal + 1) (journal_of (u ∷ w ∷ us) t y) few))

    -- no units lead to where nothing more is to come of the dispatch
    over_some : (us : List Entry) (t : State) → Leads A v m.kernel image us t l j → under A t t.mark ≡ None → us ≡ [] → ⊥
    over_some us t y over e =
        let z : MakesSwap A v m.kernel image [] t l y.behind = subst (λ (es : List Entry). MakesSwap A v m.kernel image es t l y.behind) e y.makes in
        let none : under A v v.mark ≡ None = subst (λ (q : State). under A q q.mark ≡ None) (sym z.0) over in
        never_none (sym (runs_work A v pid false runs ∙ ap (work_by A v pid false) x.unwanted) ∙ none)

    -- nor to one instruction more
    count_some : (us : List Entry) (t : State) → Leads A v m.kernel image us t l j → t.count ≡ s.count + 1 → us ≡ [] → ⊥
    count_some us t y more e =
        let z : MakesSwap A v m.kernel image [] t l y.behind = subst (λ (es : List Entry). MakesSwap A v m.kernel image es t l y.behind) e y.makes in
        let same : s.count ≡ t.count = ap (λ (q : State). q.count) z.0 in
        omega (arith, more, same)

  -- Where the run stops since the journal is full.

  module _ (IsAt : Inputs → State → SwapImage → Type 0) (there : IsAt A v image) (new : Standing) (j : Option SwapImage) (bound : m.params.journal ≡ length m.kernel.journal + 1)
      (within : length new.kernel.journal ≤ new.params.journal) (f : StopsFrom IsAt m new j stops.JournalFull) (kept : KeptAtStop m new stops.JournalFull) where
    y : StopLeads A v m.kernel image stops.JournalFull new j
    y = f A v image there

    next : StopsNext A y.state y.kernel y.behind stops.JournalFull new j
    next = y.by

    size : new.params.journal ≡ length m.kernel.journal + 1
    size = ap (λ (p : Params). p.journal) kept.sizes.params ∙ bound

    led : Leads A v m.kernel image y.units y.state new.kernel j
    led =
        subst (λ (o : Option SwapImage). Leads A v m.kernel image y.units y.state new.kernel o) (sym (full_spoils (files_named new.images) next.entry y.kernel (Some y.behind) j next.spoils))
        (subst (λ (k : Kernel). Leads A v m.kernel image y.units y.state k (Some y.behind)) (sym y.held.kernel) y.leads)

    -- not before the first unit
    full_some : y.units ≡ [] → ⊥
    full_some e =
        let z : MakesSwap A v m.kernel image [] y.state y.kernel y.leads.behind =
        subst (λ (es : List Entry). MakesSwap A v m.kernel image es y.state y.kernel y.leads.behind) e y.leads.makes in
        let same = ap (λ (k : Kernel). length k.journal) z.1 in
        let full = (next.full refl).0 in
        let room = size in
        omega (arith, same, full, room)

    pub full_acts : ActMade m.kernel new.kernel j pid A s image
    full_acts = one_unit new.kernel j y.units y.state led full_some (let room = size in omega (arith, within, room))

    pub full_whole : new.before ≡ new.kernel.holdings
    full_whole = y.held.whole

  -- What is so under the dispatch.

  pub begun_there : (c : Begun) → b ≡ Some c → BegunAt m c holds i A v image
  begun_there c e = record { machine = machine_then m n b holds i pid A s image may; told = here.told; begun = here.begun ∙ e }

  pub under_there : b ≡ None → UnderMark m holds i pid false n (n + 1) A v image
  under_there e = record {
    machine = machine_then m n b holds i pid A s image may;
    named = here.named;
    told = here.told;
    clear = record { clear = soon.clear; between = none_between s.point.last (here.begun ∙ e) };
    count = here.count;
    asks = subst (λ (k : ℕ). AsksRun A v pid false (k + 1)) here.count (asks_one m n b holds i pid A s image may);
  }

  pub run_acts : (new : Standing) (j : Option SwapImage) (count : ℕ) → b ≡ None → length new.kernel.journal ≤ length m.kernel.journal + 1
      → LeadsFrom (UnderMark m holds i pid false n (n + 1)) (RunLeads m.kernel pid false new.kernel j count) → ActMade m.kernel new.kernel j pid A s image
  run_acts new j count e few f =
      let z : RunLeads m.kernel pid false new.kernel j count A v image = f A v image (under_there e) in
      one_unit new.kernel j z.units z.state z.leads (over_some new.kernel j z.units z.state z.leads (z.over (λ p. absurd cc))) few

  pub rest_acts : (new : Standing) (j : Option SwapImage) (c : Begun) → b ≡ Some c → length new.kernel.journal ≤ length m.kernel.journal + 1
      → LeadsFrom (BegunAt m c holds i) (λ B t behind. StepLeads B t m.kernel behind 1 new.kernel j) → ActMade m.kernel new.kernel j pid A s image
  rest_acts new j c e few f =
      let z : StepLeads A v m.kernel image 1 new.kernel j = f A v image (begun_there c e) in
      one_unit new.kernel j z.units z.state z.leads (count_some new.kernel j z.units z.state z.leads z.count) few

-- From wherever the machine may stand.

pub some_begun_there : (m : Standing) (n : ℕ) (c : Begun) (holds : Option (List NamedFile)) (i : Option SwapImage) (pid : ℕ)
    → AtSome (ActsAt m n (Some c) holds i pid) → AtSome (BegunAt m c holds i)
some_begun_there m n c holds i pid (A, s, image, x) = (A, under_dispatch s pid, image, begun_there m n (Some c) holds i pid A s image x c refl)

pub counts_on : (old new : Standing) (n count : ℕ) → CountsTo old new n count → GoesOnWith old new
counts_on old new n count c = record { ready = c.steady.ready; params = c.params; images = c.images }

few_made : (old new : Standing) → new.params ≡ old.params → old.params.journal ≡ length old.kernel.journal + 1 → length new.kernel.journal ≤ new.params.journal
    → length new.kernel.journal ≤ length old.kernel.journal + 1
few_made old new params bound within = let same = ap (λ (p : Params). p.journal) params in omega (arith, same, bound, within)

module _ (old new : Standing) (n : ℕ) (holds : Option (List NamedFile)) (i j : Option SwapImage) (pid : ℕ) (bound : old.params.journal ≡ length old.kernel.journal + 1)
    (within : length new.kernel.journal ≤ new.params.journal) where
  pub act_made : (count : ℕ) → LeadsFrom (UnderMark old holds i pid false n (n + 1)) (RunLeads old.kernel pid false new.kernel j count) → CountsTo old new n count
      → LeadsFrom (ActsAt old n None holds i pid) (ActMade old.kernel new.kernel j pid)
  act_made count f c A s image x = run_acts old n None holds i pid A s image x new j count refl (few_made old new c.params bound within) f

  pub rest_made : (c : Begun) (count : ℕ) → LeadsFrom (BegunAt old c holds i) (λ B t behind. StepLeads B t old.kernel behind 1 new.kernel j) → CountsTo old new count (count + 1)
      → LeadsFrom (ActsAt old n (Some c) holds i pid) (ActMade old.kernel new.kernel j pid)
  rest_made c count f d A s image x = rest_acts old n (Some c) holds i pid A s image x new j c refl (few_made old new d.params bound within) f

  module _ (kept : KeptAtStop old new stops.JournalFull) where
    pub full_act_made : StopsFrom (UnderMark old holds i pid false n (n + 1)) old new j stops.JournalFull
        → LeadsFrom (ActsAt old n None holds i pid) (ActMade old.kernel new.kernel j pid)
    full_act_made f A s image x =
        full_acts old n None holds i pid A s image x (UnderMark old holds i pid false n (n + 1)) (under_there old n None holds i pid A s image x refl) new j bound within f kept

    pub full_rest_made : (c : Begun) → StopsFrom (BegunAt old c holds i) old new j stops.JournalFull
        → LeadsFrom (ActsAt old n (Some c) holds i pid) (ActMade old.kernel new.kernel j pid)
    full_rest_made c f A s image x =
        full_acts old n (Some c) holds i pid A s image x (BegunAt old c holds i) (begun_there old n (Some c) holds i pid A s image x c refl) new j bound within f kept

    -- the machine can go on, since it runs as before
    made_runs : (A : Inputs) (s : State) (image : SwapImage) → ActMade old.kernel new.kernel j pid A s image → old.kernel.stopped ≡ false → new.kernel.stopped ≡ false
    made_runs A s image d r =
        let y : MadeAs A s old.kernel image d.entry new.kernel j = d.made in
        ap (λ (k : Kernel). k.stopped) y.made ∙ unit_goes A s old.kernel image.bytes y.read d.entry ∙ r

    pub full_act_on : CanGoOn old → AtSome (ActsAt old n None holds i pid) → StopsFrom (UnderMark old holds i pid false n (n + 1)) old new j stops.JournalFull
        → (new.kernel.stopped ≡ false → IsRunning new) → GoesOnWith old new
    full_act_on ready (A, s, image, x) f runs = record {
      ready = record {
        running = runs (made_runs A s image (full_act_made f A s image x) ready.running.runs);
        whole = full_whole old n None holds i pid A s image x (UnderMark old holds i pid false n (n + 1)) (under_there old n None holds i pid A s image x refl) new j bound within f kept;
      };
      params = kept.sizes.params;
      images = kept.sizes.images;
    }

    pub full_rest_on : (c : Begun) → CanGoOn old → AtSome (ActsAt old n (Some c) holds i pid) → StopsFrom (BegunAt old c holds i) old new j stops.JournalFull
        → (new.kernel.stopped ≡ false → IsRunning new) → GoesOnWith old new
    full_rest_on c ready (A, s, image, x) f runs = record {
      ready = record {
        running = runs (made_runs A s image (full_rest_made c f A s image x) ready.running.runs);
        whole = full_whole old n (Some c) holds i pid A s image x (BegunAt old c holds i) (begun_there old n (Some c) holds i pid A s image x c refl) new j bound within f kept;
      };
      params = kept.sizes.params;
      images = kept.sizes.images;
    }
