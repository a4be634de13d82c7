-- Turns in a row, up to the end of the closing phase.
use Rattle.std.proofs.Common.{◌≡◌, ◌⊎◌, inl, inr, ℕ, ◌+◌, ◌<◌, ◌≤◌, nat_lt, Bool, true, false, List, [], ◌∷◌, ◌++◌, length, Option, Some, None, refl, sym, ap, ◌∙◌, subst, arith}
use Rattle.std.proofs.lemmas.Bool.Decides.{nat_tests}
use Rattle.std.proofs.lemmas.Option.{same_Some}
use Rattle.vm_facts.specs.SwapImages.{SwapImage}
use Rattle.vm_facts.specs.declared.entry.Entry.{Entry}
use Rattle.vm_facts.specs.declared.entry.Entry.TheVariants as entries
use Rattle.vm_facts.specs.declared.stop.Stop.{Stop}
use Rattle.io_edge.specs.FileHolding.{NamedFile}
use Rattle.flat_state.specs.Flat.{Inputs}
use Rattle.flat_state.specs.Journal.{counted}
use Rattle.page_model.specs.Placement.{Due}
use Rattle.machine_state.specs.Machine.{Standing}
use Rattle.run_model.specs.State.{State}
use Rattle.run_model.specs.After.{after}
use Rattle.run_model.specs.Next.{or_else, when, due_unit, under, turn_of, line_or_turn, next_mark, next_unit, next_turned, last_turned}
use Rattle.run_model.specs.Lawful.{Follows}
use Rattle.run_model.proofs.After.{after_count}
use Rattle.economy_laws.proofs.Lawful.{next_is_unit}
use Rattle.economy_laws.proofs.Machines.{swaps_follow}
use Rattle.economy_laws.proofs.Finishing.Wholes.{counts_one}
use Rattle.economy_laws.specs.Stretch.{turns_of, counts, NoneCounts}
use Rattle.economy_laws.proofs.Idle.{count_most, few_turns}
use Rattle.proc_run.specs.Leads.{Leads}
use Rattle.proc_run.proofs.Units.{none_leads, both_lead}
use Rattle.proc_run.specs.Lines.{IsOver, TurnDue}
use Rattle.proc_run.specs.Stepped.{LeadsFrom, StopsFrom}
use Rattle.proc_run.specs.Choosing.{turn_after as chosen_next}
use Rattle.proc_run.proofs.Ready.{turned_same}
use Rattle.vm_core.specs.Cores.{Underway, StandsIn, CoreAt}
use Rattle.vm_core.specs.Closing.{TurnHad, IdleSince, LinesAre, CountsTurn, EndsPhase, DueTurn, AllTaken, Closing, Closed}
use Rattle.vm_core.specs.Accounts.{StopsAccountedFrom}
use Rattle.vm_core.proofs.Accounts.{leads_accounted, leads_economical, leads_swapped, stop_accounted}
use Rattle.vm_core.proofs.Standing.{leads_to_stop}

-- Units that count nothing.

counts_up : (A : Inputs) (us : List Entry) (s t : State) → Follows A s us t → s.count ≤ t.count
counts_up A [] s t f = let e = ap (λ (x : State). x.count) f in omega arith
counts_up A (u ∷ us) s t f = let more = counts_up A us (after A s u) t f.1 in let c = after_count A s u in omega arith

none_counts : (A : Inputs) (us : List Entry) (s t : State) → Follows A s us t → t.count ≤ s.count → NoneCounts us
none_counts A [] s t f l = tt
none_counts A (u ∷ us) s t f l =
    let more = counts_up A us (after A s u) t f.1 in
    let c = after_count A s u in
    (not_one (counts u) refl more c, none_counts A us (after A s u) t f.1 (omega arith))
  where
    not_one : (b : Bool) → counts u ≡ b → (after A s u).count ≤ t.count → (after A s u).count ≡ s.count + counted u → counts u ≡ false
    not_one false e more c = e
    not_one true e more c = absurd (let one = counts_one u (next_is_unit A s u f.0) e in omega arith)

follows_on : (A : Inputs) (us vs : List Entry) (s t r : State) → Follows A s us t → Follows A t vs r → Follows A s (us ++ vs) r
follows_on A [] vs s t r f h = subst (λ (x : State). Follows A x vs r) (sym f) h
follows_on A (u ∷ us) vs s t r f h = (f.0, follows_on A us vs (after A s u) t r f.1 h)

none_on : (us vs : List Entry) → NoneCounts us → NoneCounts vs → NoneCounts (us ++ vs)
none_on [] vs h k = k
none_on (u ∷ us) vs h k = (h.0, none_on us vs h.1 k)

turns_on : (us vs : List Entry) → turns_of (us ++ vs) ≡ turns_of us + turns_of vs
turns_on [] vs = omega arith
turns_on (u ∷ us) vs = let more = turns_on us vs in omega arith

-- The phase begins.

idle_none : (A : Inputs) (s : State) (m : Standing) (holds : Option (List NamedFile)) (i : Option SwapImage) (image : SwapImage) (count : ℕ)
    → StandsIn A s m holds i image count → length A.lines ≡ s.lines → IdleSince A s 0
idle_none A s m holds i image count st lines = record {
  from = s;
  run = st.machine.at.run;
  lines = omega arith;
  crowd = st.crowd;
  units = [];
  follows = refl;
  none = tt;
  many = omega arith;
}

pub closing_starts : (m : Standing) (counted : ℕ) (holds : Option (List NamedFile)) (i : Option SwapImage)
    → LeadsFrom (LinesAre m holds i counted) (Closing m m holds i counted 0 0)
closing_starts m counted holds i A s image at = record {
  units = [];
  state = s;
  behind = image;
  leads = subst (λ (o : Option SwapImage). Leads A s m.kernel image [] s m.kernel o) (sym at.stands.told) (none_leads A s m.kernel image);
  stands = at.stands;
  over = at.over;
  lines = at.lines;
  turned = at.unturned;
  since = idle_none A s m holds i image counted at.stands at.lines;
}

-- It goes on by a turn.

turn_due : (A : Inputs) (t : State) (m : Standing) (holds : Option (List NamedFile)) (i : Option SwapImage) (image : SwapImage) (count last pid : ℕ)
    → StandsIn A t m holds i image count → IsOver A t
    → length A.lines ≡ t.lines → last_turned t.mark ≡ last → chosen_next m.kernel last ≡ Some pid → count < m.params.limit → TurnDue A t pid
turn_due A t m holds i image count last pid st over lines turned next below = record {
  over = over;
  below = let same = st.count in let limit = st.inputs.limit in omega arith;
  lines = lines;
  turned = ap (next_turned t.point.flat) turned ∙ sym (turned_same m.kernel t.point.flat last st.machine.at.stands.keeps.coupled.tables) ∙ next;
}

idle_on : (A : Inputs) (t r : State) (m : Standing) (holds : Option (List NamedFile)) (i : Option SwapImage) (image : SwapImage) (count idle now : ℕ) (pid : ℕ)
    (us : List Entry) → StandsIn A r m holds i image count
    → length A.lines ≡ r.lines → IdleSince A t idle → Follows A t (entries.Turn pid ∷ us) r → CountsTurn t.count r.count idle now → IdleSince A r now
idle_on A t r m holds i image count idle now pid us st lines since f (inl e) = subst (λ (n : ℕ). IdleSince A r n) (sym e) (idle_none A r m holds i image count st lines)
idle_on A t r m holds i image count idle now pid us st lines since f (inr e) =
    let sum = turns_on since.units (entries.Turn pid ∷ us) in
    let many = since.many in
    let same = e.0 in
    let one = e.1 in
    record {
      from = since.from;
      run = since.run;
      lines = since.lines;
      crowd = since.crowd;
      units = since.units ++ entries.Turn pid ∷ us;
      follows = follows_on A since.units (entries.Turn pid ∷ us) since.from t r since.follows f;
      none = none_on since.units (entries.Turn pid ∷ us) since.none (none_counts A (entries.Turn pid ∷ us) t r f (omega arith));
      many = omega arith;
    }

pub closing_on : (old mid new : Standing) (holds : Option (List NamedFile)) (i h j : Option SwapImage) (counted count last idle pid more now : ℕ)
    → LeadsFrom (LinesAre old holds i counted) (Closing old mid holds h count last idle)
    → chosen_next mid.kernel last ≡ Some pid → count < mid.params.limit → LeadsFrom (DueTurn mid holds h count pid) (TurnHad mid new holds j pid more)
    → CountsTurn count more idle now
    → LeadsFrom (LinesAre old holds i counted) (Closing old new holds j more pid now)
closing_on old mid new holds i h j counted count last idle pid more now f next below had kind A s image at =
    let c = f A s image at in
    let d : TurnHad mid new holds j pid more A c.state c.behind =
    had A c.state c.behind (c.stands, turn_due A c.state mid holds h c.behind count last pid c.stands c.over c.lines c.turned next below) in
    let first : Leads A s old.kernel image c.units c.state mid.kernel (Some c.behind) =
    subst (λ (o : Option SwapImage). Leads A s old.kernel image c.units c.state mid.kernel o) c.stands.told c.leads in
    let lines : length A.lines ≡ d.state.lines = c.lines ∙ sym d.lines in
    let follows : Follows A c.state (entries.Turn pid ∷ d.more) d.state = swaps_follow A (entries.Turn pid ∷ d.more) c.state d.state mid.kernel new.kernel c.behind d.leads.behind d.leads.makes in
    record {
      units = c.units ++ entries.Turn pid ∷ d.more;
      state = d.state;
      behind = d.behind;
      leads = both_lead A s c.state d.state old.kernel mid.kernel new.kernel image (Some c.behind) j c.units (entries.Turn pid ∷ d.more) first
          (λ between same. subst (λ (y : SwapImage). Leads A c.state mid.kernel y (entries.Turn pid ∷ d.more) d.state new.kernel j) (same_Some c.behind between same) d.leads);
      stands = d.stands;
      over = d.over;
      lines = lines;
      turned = d.turned;
      since = idle_on A c.state d.state new holds j d.behind more idle now pid d.more d.stands lines c.since follows
          (subst (λ (n : ℕ). CountsTurn n d.state.count idle now) (sym c.stands.count) (subst (λ (n : ℕ). CountsTurn count n idle now) (sym d.stands.count) kind));
    }

pub closing_stops : (old mid new : Standing) (holds : Option (List NamedFile)) (i h j : Option SwapImage) (counted count last idle pid : ℕ) (stop : Stop)
    → LeadsFrom (LinesAre old holds i counted) (Closing old mid holds h count last idle)
    → chosen_next mid.kernel last ≡ Some pid → count < mid.params.limit → StopsFrom (DueTurn mid holds h count pid) mid new j stop
    → StopsFrom (LinesAre old holds i counted) old new j stop
closing_stops old mid new holds i h j counted count last idle pid stop f next below x A s image at =
    let c = f A s image at in
    leads_to_stop A s c.state old.kernel mid.kernel image c.behind c.units stop new j (subst (λ (o : Option SwapImage). Leads A s old.kernel image c.units c.state mid.kernel o) c.stands.told c.leads)
    (x A c.state c.behind (c.stands, turn_due A c.state mid holds h c.behind count last pid c.stands c.over c.lines c.turned next below))

-- It ends.

none_comes : (A : Inputs) (t : State) → IsOver A t → length A.lines ≡ t.lines
    → (A.limit ≤ t.count) ⊎ (next_turned t.point.flat (last_turned t.mark) ≡ None) → next_unit A t ≡ None
unfolding next_unit
none_comes A t o lines h =
    ap (λ (ds : List Due). or_else (due_unit t.place ds) (or_else (under A t t.mark) (next_mark A t))) o.clear
    ∙ ap (λ (x : Option Entry). or_else x (next_mark A t)) o.over ∙ mark h
  where
    full : A.limit ≤ t.count → nat_lt t.count A.limit ≡ false
    full l = grind (arith, nat_tests)

    behind : nat_lt t.lines (length A.lines) ≡ false
    behind = let e = lines in grind (arith, nat_tests)

    by : (b : Bool) → next_turned t.point.flat (last_turned t.mark) ≡ None → when b (line_or_turn t false) ≡ None
    by true e = ap turn_of e
    by false e = refl

    mark : (A.limit ≤ t.count) ⊎ (next_turned t.point.flat (last_turned t.mark) ≡ None) → next_mark A t ≡ None
    mark (inl l) = ap (λ (b : Bool). when b (line_or_turn t (nat_lt t.lines (length A.lines)))) (full l)
    mark (inr e) = ap (λ (b : Bool). when (nat_lt t.count A.limit) (line_or_turn t b)) behind ∙ by (nat_lt t.count A.limit) e

-- no more than 64 turns in a row count nothing
few_idle : (A : Inputs) (t : State) (m : Standing) (holds : Option (List NamedFile)) (i : Option SwapImage) (image : SwapImage) (count idle : ℕ)
    → StandsIn A t m holds i image count → IdleSince A t idle → idle ≤ 64
few_idle A t m holds i image count idle st since =
    let few = few_turns A since.from t since.units st.machine.at.fit since.run since.lines since.follows since.none in
    let most = count_most since.from.point.flat.processes in
    let many = since.many in
    let crowd = since.crowd in
    omega arith

pub closing_ends : (old new : Standing) (holds : Option (List NamedFile)) (i j : Option SwapImage) (counted count last idle : ℕ)
    → LeadsFrom (LinesAre old holds i counted) (Closing old new holds j count last idle) → EndsPhase new count last idle
    → LeadsFrom (LinesAre old holds i counted) (Closed old new holds j count)
closing_ends old new holds i j counted count last idle f e A s image at =
    let c = f A s image at in
    let why : (A.limit ≤ c.state.count) ⊎ (next_turned c.state.point.flat (last_turned c.state.mark) ≡ None) = elim e [
      | inl l ↦ inl (let same = c.stands.count in let limit = c.stands.inputs.limit in omega arith)
      | inr (inl l) ↦ absurd (let few = few_idle A c.state new holds j c.behind count idle c.stands c.since in omega arith)
      | inr (inr n) ↦ inr (ap (next_turned c.state.point.flat) c.turned ∙ sym (turned_same new.kernel c.state.point.flat last c.stands.machine.at.stands.keeps.coupled.tables) ∙ n)
    ] in
    record {
      units = c.units;
      state = c.state;
      behind = c.behind;
      leads = c.leads;
      stands = c.stands;
      none = none_comes A c.state c.over c.lines why;
      account = leads_accounted A s c.state old.kernel new.kernel image c.units j at.stands.machine.at c.leads;
      economy = leads_economical A s c.state old.kernel new.kernel image c.units j at.stands.machine.at c.leads at.stands.crowd;
      swapped = leads_swapped A s c.state old.kernel new.kernel image c.units j at.stands.machine.at c.leads c.behind c.stands.told;
    }

-- Of a run.

lines_are : (A : Inputs) (s : State) (c : Underway) (holds : Option (List NamedFile)) (i : Option SwapImage) (image : SwapImage) → CoreAt A s c holds i image
    → length A.lines ≡ s.lines
    → LinesAre c.machine holds i c.counted A s image
lines_are A s c holds i image at lines = record { stands = at.stands; over = at.over; lines = lines; unturned = at.unturned }

pub run_stops : (old new : Underway) (holds : Option (List NamedFile)) (i j : Option SwapImage) (stop : Stop)
    → StopsFrom (LinesAre old.machine holds i old.counted) old.machine new.machine j stop
    → StopsAccountedFrom (AllTaken old holds i) old.machine new.machine j stop
run_stops old new holds i j stop f A s image (at, lines) =
    stop_accounted A s old.machine.kernel image stop new.machine j at.stands.machine.at at.stands.crowd (f A s image (lines_are A s old holds i image at lines))
