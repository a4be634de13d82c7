-- The rest of a mark, by what the machine's calls say.
use Rattle.std.proofs.Common.{◌≡◌, ◌⊎◌, inl, inr, ℕ, ◌+◌, ◌<◌, ◌≤◌, Bool, true, false, List, [], ◌++◌, Option, None, refl, sym, ap, ◌∙◌, subst, arith}
use Rattle.std.specs.Prelude.{min}
use Rattle.std.proofs.lemmas.Option.{same_Some}
use Rattle.vm_facts.specs.SwapImages.{SwapImage}
use Rattle.vm_facts.specs.declared.entry.Entry.TheVariants as entries
use Rattle.vm_facts.specs.declared.event.Event.TheVariants as events
use Rattle.vm_facts.specs.declared.stop.Stop.{Stop}
use Rattle.io_edge.specs.FileHolding.{NamedFile}
use Rattle.flat_state.specs.Flat.{Inputs}
use Rattle.flat_state.specs.Journal.{instructions_of}
use Rattle.kernel_model.specs.Unit.{proc_of}
use Rattle.machine_state.specs.Going.{CanGoOn}
use Rattle.machine_state.specs.Machine.{Standing}
use Rattle.machine_state.specs.Swapping.{AsksU, IsIn}
use Rattle.run_model.specs.declared.mark.Mark.{Mark}
use Rattle.run_model.specs.declared.mark.Mark.TheVariants as marks
use Rattle.run_model.specs.State.{State}
use Rattle.run_model.specs.Next.{under, goes_on, turn_instructions, turn_unit, when, last_turned}
use Rattle.vm_core.specs.Leads.{Leads}
use Rattle.vm_core.specs.Moved.{Moved, moving_hands}
use Rattle.vm_core.specs.Stops.{StopsAt, StopsWhile}
use Rattle.vm_core.proofs.Swapping.{line_asks}
use Rattle.vm_core.specs.Stepped.{StopLeads, LeadsFrom, StopsFrom}
use Rattle.vm_core.specs.StepUnitsLines.{LineLeads}
use Rattle.vm_core.proofs.LinesContinue.{moves_continue}
use Rattle.vm_core.specs.Putting.{HoldsThere, PutOut, putting_out}
use Rattle.vm_core.proofs.Asking.{hands_made, hands_stop}
use Rattle.vm_core.proofs.Finding.{interrupt_waits}
use Rattle.vm_core.proofs.PuttingOut.{in_comes, out_comes, out_stops}
use Rattle.vm_core.proofs.Stopping.{stops_here}
use Rattle.vm_core.specs.Choosing.{steps_by}
use Rattle.vm_core.specs.Runs.{IsSteady}
use Rattle.vm_core.specs.Running.{UnderMark, CountsTo, RunLeads}
use Rattle.vm_core.proofs.Marks.{steps_same, goes_true, goes_false, idle}
use Rattle.vm_core.specs.Closing.{TurnAt, ResidentTurn, InTurn, TurnDone}
use Rattle.vm_core.specs.Lines.{LineAt}
use Rattle.vm_core.specs.Steady.{StaysSteady}
use Rattle.film_core.specs.Ways.{RestAt, RestDone, MayNote, StaysOn}
use Rattle.film_core.proofs.Composing.{then_lead, then_stop, here_leads}

-- What stays of the machine.

steady_may : (m : Standing) → IsSteady m → MayNote m
steady_may m s = record { ready = s.ready; clear = s.clear; frames = s.frames }

pub counts_stay : (old new : Standing) (counted count : ℕ) → CountsTo old new counted count → StaysOn old new count
counts_stay old new counted count c = record { may = steady_may new c.steady; params = c.params; images = c.images; counts = c.counts }

pub steady_stays : (old new : Standing) (counted : ℕ) → instructions_of old.kernel.journal ≡ counted → StaysSteady old new 0 → StaysOn old new counted
steady_stays old new counted is s = record {
  may = steady_may new s.steady;
  params = s.params;
  images = s.images;
  counts = let c = s.counted in omega (arith, c, is);
}

-- A mark that is over.

over_rest : (A : Inputs) (s : State) (m : Standing) (mark : Mark) (counted : ℕ) (holds : Option (List NamedFile)) (i : Option SwapImage) (image : SwapImage)
    → RestAt m mark counted holds i A s image
    → under A s mark ≡ None → RestDone m m mark counted i A s image
over_rest A s m mark counted holds i image at over = record {
  units = [];
  state = s;
  leads = here_leads A s m.kernel image i at.stands.told;
  over = record { clear = at.clear.clear; between = at.clear.between; over = ap (under A s) at.mark ∙ over };
  counts = at.stands.count;
  lines = refl;
  turned = ap last_turned at.mark;
}

pub over_rests : (m : Standing) (counted : ℕ) (holds : Option (List NamedFile)) (i : Option SwapImage)
    → LeadsFrom (RestAt m marks.Over counted holds i) (RestDone m m marks.Over counted i)
over_rests m counted holds i A s image at = over_rest A s m marks.Over counted holds i image at refl

-- A line whose last unit was made.

line_rest : (A : Inputs) (s : State) (old new : Standing) (mark : Mark) (counted : ℕ) (holds : Option (List NamedFile)) (i j : Option SwapImage)
    (image : SwapImage)
    → RestAt old mark counted holds i A s image
    → last_turned mark ≡ 0 → LineLeads A s old.kernel image new.kernel j → RestDone old new mark counted j A s image
line_rest A s old new mark counted holds i j image at none l = record {
  units = l.units;
  state = l.state;
  leads = l.leads;
  over = l.over;
  counts = l.count ∙ at.stands.count;
  lines = l.lines;
  turned = l.unturned ∙ sym none;
}

-- Dispatches.

dispatched : (A : Inputs) (s : State) (m : Standing) (pid more since counted until : ℕ) (holds : Option (List NamedFile)) (i : Option SwapImage)
    (image : SwapImage)
    → until ≡ min (since + more) m.params.limit
    → RestAt m (marks.Dispatch pid more since) counted holds i A s image → UnderMark m holds i pid false counted until A s image
dispatched A s m pid more since counted until holds i image u at = record {
  machine = at.stands.machine;
  named = at.stands.inputs.named;
  told = at.stands.told;
  clear = at.clear;
  count = at.stands.count;
  asks = (more, since, at.mark, u ∙ ap (min (since + more)) (sym at.stands.inputs.limit));
}

pub dispatch_rests : (old new : Standing) (pid more since counted until count : ℕ) (holds : Option (List NamedFile)) (i j : Option SwapImage)
    → until ≡ min (since + more) old.params.limit
    → LeadsFrom (UnderMark old holds i pid false counted until) (RunLeads old.kernel pid false new.kernel j count)
    → LeadsFrom (RestAt old (marks.Dispatch pid more since) counted holds i) (RestDone old new (marks.Dispatch pid more since) count j)
dispatch_rests old new pid more since counted until count holds i j u f A s image at =
    let l = f A s image (dispatched A s old pid more since counted until holds i image u at) in
    record {
      units = l.units;
      state = l.state;
      leads = l.leads;
      over = record { clear = l.clear.clear; between = l.clear.between; over = l.over (λ e. absurd cc) };
      counts = l.counts;
      lines = l.lines;
      turned = ap last_turned (l.mark ∙ at.mark);
    }

pub dispatch_stops : (old new : Standing) (pid more since counted until : ℕ) (holds : Option (List NamedFile)) (i j : Option SwapImage) (stop : Stop)
    → until ≡ min (since + more) old.params.limit
    → StopsFrom (UnderMark old holds i pid false counted until) old new j stop
    → StopsFrom (RestAt old (marks.Dispatch pid more since) counted holds i) old new j stop
dispatch_stops old new pid more since counted until holds i j stop u f A s image at = f A s image (dispatched A s old pid more since counted until holds i image u at)

-- Turns.

-- where no instruction is left, or the process can't step, the turn is over
turn_idle : (A : Inputs) (s : State) (pid since : ℕ) → goes_on A s pid (since + turn_instructions) ≡ false → under A s (marks.Turn pid since) ≡ None
turn_idle A s pid since e = ap (λ (b : Bool). when b (turn_unit A s pid)) e

pub turn_spent : (m : Standing) (pid since counted until : ℕ) (holds : Option (List NamedFile)) (i : Option SwapImage)
    → until ≡ min (since + turn_instructions) m.params.limit
    → (until ≤ counted) ⊎ (steps_by (proc_of m.kernel pid) ≡ false)
    → LeadsFrom (RestAt m (marks.Turn pid since) counted holds i) (RestDone m m (marks.Turn pid since) counted i)
turn_spent m pid since counted until holds i u why A s image at =
    over_rest A s m (marks.Turn pid since) counted holds i image at (turn_idle A s pid since (elim why [
      | inl l ↦ goes_false A s pid (since + turn_instructions) until (u ∙ ap (min (since + turn_instructions)) (sym at.stands.inputs.limit)) (let same = at.stands.count in omega (arith, l, same))
      | inr e ↦ idle A s pid (since + turn_instructions) (steps_same m.kernel s.point.flat pid at.stands.machine.at.stands.keeps.coupled.tables ∙ e)
    ]))

turn_at : (A : Inputs) (s : State) (m : Standing) (pid since counted until : ℕ) (holds : Option (List NamedFile)) (i : Option SwapImage) (image : SwapImage)
    → until ≡ min (since + turn_instructions) m.params.limit → counted < until → steps_by (proc_of m.kernel pid) ≡ true
    → RestAt m (marks.Turn pid since) counted holds i A s image
    → TurnAt m holds i counted since pid A s image
turn_at A s m pid since counted until holds i image u l e at = record {
  stands = at.stands;
  clear = at.clear;
  mark = at.mark;
  on = goes_true A s pid (since + turn_instructions) until (u ∙ ap (min (since + turn_instructions)) (sym at.stands.inputs.limit)) (let same = at.stands.count in omega (arith, l, same))
      (steps_same m.kernel s.point.flat pid at.stands.machine.at.stands.keeps.coupled.tables ∙ e);
  lines = at.order;
}

pub turn_rests : (old mid new : Standing) (pid since counted until count : ℕ) (holds : Option (List NamedFile)) (i h j : Option SwapImage)
    → until ≡ min (since + turn_instructions) old.params.limit
    → counted < until → steps_by (proc_of old.kernel pid) ≡ true → LeadsFrom (TurnAt old holds i counted since pid) (InTurn old mid holds h counted since pid)
    → LeadsFrom (ResidentTurn mid holds h counted since pid) (TurnDone mid new j pid count)
    → LeadsFrom (RestAt old (marks.Turn pid since) counted holds i) (RestDone old new (marks.Turn pid since) count j)
turn_rests old mid new pid since counted until count holds i h j u l e comes finishes A s image at =
    let c = comes A s image (turn_at A s old pid since counted until holds i image u l e at) in
    let same : c.behind ≡ c.leads.behind = same_Some c.behind c.leads.behind (sym c.at.stands.told ∙ c.leads.told) in
    let d = finishes A c.state c.behind (c.at, c.resident) in
    record {
      units = c.units ++ d.units;
      state = d.state;
      leads = then_lead A s c.state d.state old.kernel mid.kernel new.kernel image h j c.units d.units c.leads
          (subst (λ (y : SwapImage). Leads A c.state mid.kernel y d.units d.state new.kernel j) same d.leads);
      over = d.over;
      counts = d.counts;
      lines = d.lines ∙ c.lines;
      turned = d.turned;
    }

pub turn_coming_stops : (old new : Standing) (pid since counted until : ℕ) (holds : Option (List NamedFile)) (i j : Option SwapImage) (stop : Stop)
    → until ≡ min (since + turn_instructions) old.params.limit
    → counted < until → steps_by (proc_of old.kernel pid) ≡ true → StopsFrom (TurnAt old holds i counted since pid) old new j stop
    → StopsFrom (RestAt old (marks.Turn pid since) counted holds i) old new j stop
turn_coming_stops old new pid since counted until holds i j stop u l e f A s image at = f A s image (turn_at A s old pid since counted until holds i image u l e at)

pub turn_stops : (old mid new : Standing) (pid since counted until : ℕ) (holds : Option (List NamedFile)) (i h j : Option SwapImage) (stop : Stop)
    → until ≡ min (since + turn_instructions) old.params.limit
    → counted < until → steps_by (proc_of old.kernel pid) ≡ true → LeadsFrom (TurnAt old holds i counted since pid) (InTurn old mid holds h counted since pid)
    → StopsFrom (ResidentTurn mid holds h counted since pid) mid new j stop
    → StopsFrom (RestAt old (marks.Turn pid since) counted holds i) old new j stop
turn_stops old mid new pid since counted until holds i h j stop u l e comes f A s image at =
    let c = comes A s image (turn_at A s old pid since counted until holds i image u l e at) in
    let same : c.behind ≡ c.leads.behind = same_Some c.behind c.leads.behind (sym c.at.stands.told ∙ c.leads.told) in
    then_stop A s c.state old.kernel mid.kernel image h j c.units stop new c.leads
    (subst (λ (y : SwapImage). StopLeads A c.state mid.kernel y stop new j) same (f A c.state c.behind (c.at, c.resident)))

-- The end of a transfer.

waiting : (A : Inputs) (s : State) (m : Standing) (counted : ℕ) (holds : Option (List NamedFile)) (i : Option SwapImage) (image : SwapImage)
    → RestAt m marks.Interrupt counted holds i A s image
    → LineAt m holds i events.Interrupt A s image
waiting A s m counted holds i image at = record {
  machine = at.stands.machine;
  told = at.stands.told;
  clear = at.clear;
  mark = (interrupt_waits A s m.kernel image at.stands.machine.at at.mark).0;
  fit = at.stands.longwords.fit;
}

pub wait_rests : (old new : Standing) (counted : ℕ) (holds : Option (List NamedFile)) (i j : Option SwapImage)
    → LeadsFrom (LineAt old holds i events.Interrupt) (λ A s image. LineLeads A s old.kernel image new.kernel j)
    → LeadsFrom (RestAt old marks.Interrupt counted holds i) (RestDone old new marks.Interrupt counted j)
wait_rests old new counted holds i j f A s image at =
    line_rest A s old new marks.Interrupt counted holds i j image at refl (f A s image (waiting A s old counted holds i image at))

pub wait_stops : (old new : Standing) (counted : ℕ) (holds : Option (List NamedFile)) (i j : Option SwapImage) (stop : Stop)
    → StopsFrom (LineAt old holds i events.Interrupt) old new j stop
    → StopsFrom (RestAt old marks.Interrupt counted holds i) old new j stop
wait_stops old new counted holds i j stop f A s image at = f A s image (waiting A s old counted holds i image at)

-- Numbers that are noted.

auditing : (A : Inputs) (s : State) (m : Standing) (counted : ℕ) (holds : Option (List NamedFile)) (i : Option SwapImage) (image : SwapImage)
    → RestAt m marks.Audit counted holds i A s image
    → LineAt m holds i events.Audit A s image
auditing A s m counted holds i image at = record {
  machine = at.stands.machine;
  told = at.stands.told;
  clear = at.clear;
  mark = at.mark;
  fit = at.stands.longwords.fit;
}

pub audit_rests : (old new : Standing) (counted : ℕ) (holds : Option (List NamedFile)) (i j : Option SwapImage)
    → LeadsFrom (LineAt old holds i events.Audit) (λ A s image. LineLeads A s old.kernel image new.kernel j)
    → LeadsFrom (RestAt old marks.Audit counted holds i) (RestDone old new marks.Audit counted j)
audit_rests old new counted holds i j f A s image at =
    line_rest A s old new marks.Audit counted holds i j image at refl (f A s image (auditing A s old counted holds i image at))

pub audit_stops : (old new : Standing) (counted : ℕ) (holds : Option (List NamedFile)) (i j : Option SwapImage) (stop : Stop)
    → StopsFrom (LineAt old holds i events.Audit) old new j stop
    → StopsFrom (RestAt old marks.Audit counted holds i) old new j stop
audit_stops old new counted holds i j stop f A s image at = f A s image (auditing A s old counted holds i image at)

-- Moves of the hands.

pub hands_rest : (old new : Standing) (left made counted : ℕ) (holds : Option (List NamedFile)) (i j : Option SwapImage) → Moved left old new made holds i j
    → LeadsFrom (RestAt old (marks.Hands left) counted holds i) (RestDone old new (marks.Hands left) counted j)
hands_rest old new left made counted holds i j m A s image at =
    line_rest A s old new (marks.Hands left) counted holds i j image at refl
    (hands_made A s old new holds image j left made at.stands.machine at.clear at.mark (subst (λ (o : Option SwapImage). Moved left old new made holds o j) at.stands.told m))

pub hands_stops : (old new : Standing) (left counted : ℕ) (holds : Option (List NamedFile)) (i j : Option SwapImage) (stop : Stop)
    → StopsWhile (moving_hands left) old new holds i j stop
    → StopsFrom (RestAt old (marks.Hands left) counted holds i) old new j stop
hands_stops old new left counted holds i j stop x A s image at =
    hands_stop A s old new holds image j left stop at.stands.machine at.clear at.mark
    (subst (λ (o : Option SwapImage). StopsWhile (moving_hands left) old new holds o j stop) at.stands.told x)

pub hands_stay : (old new : Standing) (left made counted : ℕ) (holds : Option (List NamedFile)) (i j : Option SwapImage) → IsSteady old
    → instructions_of old.kernel.journal ≡ counted
    → Moved left old new made holds i j → CanGoOn new → StaysOn old new counted
hands_stay old new left made counted holds i j s is m ready =
    let r = moves_continue old new left made holds i j s.clear m in
    record {
      may = record {
        ready = ready;
        clear = r.clear;
        frames = let f = r.on.frames in let many = s.frames in omega (arith, f, many);
      };
      params = r.on.params;
      images = r.on.images;
      counts = let c = r.on.counted in omega (arith, c, is);
    }

-- the line asked for few
pub hands_fit : (A : Inputs) (s : State) (m : Standing) (left counted : ℕ) (holds : Option (List NamedFile)) (i : Option SwapImage) (image : SwapImage)
    → RestAt m (marks.Hands left) counted holds i A s image
    → left ≤ 1000000
hands_fit A s m left counted holds i image at = at.order

-- Processes that come in and go out.

pub bring_rests : (old new : Standing) (pid counted : ℕ) (holds : Option (List NamedFile)) (i j : Option SwapImage) → IsIn old.kernel new.kernel pid i
    → AsksU old.kernel pid i j
    → LeadsFrom (RestAt old (marks.BringIn pid) counted holds i) (RestDone old new (marks.BringIn pid) counted j)
bring_rests old new pid counted holds i j is asks A s image at =
    line_rest A s old new (marks.BringIn pid) counted holds i j image at refl
    (in_comes A s old new image j pid at.clear at.mark (subst (λ (o : Option SwapImage). IsIn old.kernel new.kernel pid o) at.stands.told is)
    (subst (λ (o : Option SwapImage). AsksU old.kernel pid o j) at.stands.told asks))

pub bring_stops : (old new : Standing) (pid counted : ℕ) (holds : Option (List NamedFile)) (i j : Option SwapImage) (stop : Stop)
    → StopsAt (entries.SwapIn pid) old new i j stop
    → StopsFrom (RestAt old (marks.BringIn pid) counted holds i) old new j stop
bring_stops old new pid counted holds i j stop x A s image at =
    stops_here A s old image stop new j (entries.SwapIn pid) ((line_asks A s at.clear.clear).0 pid at.mark)
    (subst (λ (o : Option SwapImage). StopsAt (entries.SwapIn pid) old new o j stop) at.stands.told x)

pub put_rests : (old new : Standing) (pid sid counted : ℕ) (holds : Option (List NamedFile)) (i j : Option SwapImage) → HoldsThere old.kernel pid sid
    → PutOut pid sid old new holds i j
    → LeadsFrom (RestAt old (marks.PutOut pid) counted holds i) (RestDone old new (marks.PutOut pid) counted j)
put_rests old new pid sid counted holds i j there o A s image at =
    line_rest A s old new (marks.PutOut pid) counted holds i j image at refl
    (out_comes A s old new holds image j pid sid at.stands.machine at.clear at.stands.longwords.fit at.mark there
    (subst (λ (x : Option SwapImage). PutOut pid sid old new holds x j) at.stands.told o))

pub put_stops : (old new : Standing) (pid sid counted : ℕ) (holds : Option (List NamedFile)) (i j : Option SwapImage) (stop : Stop)
    → HoldsThere old.kernel pid sid
    → StopsWhile (putting_out pid sid) old new holds i j stop → StopsFrom (RestAt old (marks.PutOut pid) counted holds i) old new j stop
put_stops old new pid sid counted holds i j stop there x A s image at =
    out_stops A s old new holds image j pid sid stop at.stands.machine at.clear at.mark there
    (subst (λ (o : Option SwapImage). StopsWhile (putting_out pid sid) old new holds o j stop) at.stands.told x)
