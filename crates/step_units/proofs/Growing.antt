-- Growth of a stack and its refusal are units of a run; after growth its process waits for the new page.
use Rattle.std.proofs.Common.{◌≡◌, ◌⊎◌, inl, inr, ℕ, ◌+◌, ◌-◌, ◌≤◌, ◌&&◌, nat_lt, Bool, true, false, List, [], ◌∷◌, ◌++◌, length, Option, Some, None, Ok, Err, refl, sym, ap, ◌∙◌, subst}
use Rattle.std.specs.Prelude.{is_ok}
use Rattle.vm_facts.specs.SwapImages.{SwapImage}
use Rattle.io_edge.specs.FileHolding.{NamedFile}
use Rattle.vm_facts.proofs.Tests.{eq_self}
use Rattle.vm_facts.specs.declared.entry.Entry.{Entry}
use Rattle.vm_facts.specs.declared.entry.Entry.TheVariants as entries
use Rattle.vm_facts.specs.declared.page.Page.{Page}
use Rattle.vm_facts.specs.declared.page.Page.TheVariants as pages
use Rattle.vm_facts.specs.declared.stop.Stop.{Stop}
use Rattle.vm_facts.specs.declared.stop.Stop.TheVariants as stops
use Rattle.swap_book.specs.Placing.{place_all}
use Rattle.user_vax.specs.declared.refused.Refused.TheVariants.{Below}
use Rattle.aout_image.specs.declared.Image.{Image}
use Rattle.flat_state.specs.declared.change.Change.{Change}
use Rattle.flat_state.specs.declared.change.Change.TheVariants.{Resize}
use Rattle.flat_state.specs.Change.{apply_change, apply_writes, resized}
use Rattle.flat_state.specs.Flat.{Holds, Process, FlatState, Inputs, process_of, can_step, is_ready, ready_if}
use Rattle.flat_state.specs.Space.{Space}
use Rattle.flat_model.specs.Run.{Point, step_at, is_refused, due_at, behind, IsBetween}
use Rattle.flat_model.specs.Step.{Step, step_of, ended_step, data_pages_of, pages_down_to}
use Rattle.flat_model.specs.Touched.{touched}
use Rattle.run_laws.proofs.FlatLawsAsking.{own_space}
use Rattle.page_model.specs.Pages.{numbered}
use Rattle.page_model.specs.Placement.{Placement, space_number}
use Rattle.page_model.specs.Place.{facts_of, data_count}
use Rattle.kernel_model.specs.Asks.{asked}
use Rattle.kernel_model.specs.ChangeStep.{change_step}
use Rattle.kernel_model.specs.Coupled.{Fits}
use Rattle.kernel_model.specs.Kernel.{Kernel}
use Rattle.machine_state.specs.Applying.{facts_named}
use Rattle.machine_state.specs.Machine.{Standing}
use Rattle.swapper.specs.Stops.{StopsBefore}
use Rattle.swapper.proofs.Stopping.{held_here}
use Rattle.swapper.specs.Made.{ground}
use Rattle.proc_calls.specs.Growth.{growth, growth_found, Grown, GrowthRefused}
use Rattle.run_model.specs.After.{after}
use Rattle.run_model.specs.Kinds.{GoesOn}
use Rattle.run_model.specs.Next.{next_unit, goes_on, turn_instructions}
use Rattle.run_model.specs.State.{State}
use Rattle.run_model.specs.Wanted.{running, touched_next, wanted, AllValid}
use Rattle.run_model.specs.declared.mark.Mark.{Mark}
use Rattle.run_model.specs.declared.mark.Mark.TheVariants as marks
use Rattle.economy_laws.proofs.Growth.{grown_process, growth_touches}
use Rattle.run_laws.proofs.Flows.{on_running, on_steps}
use Rattle.economy_laws.proofs.Growing.{all_grown}
use Rattle.economy_laws.proofs.Left.{next_on}
use Rattle.economy_laws.specs.Stretch.{TouchesMore as Touches}
use Rattle.run_units.specs.Leads.{MadeAs, Leads}
use Rattle.run_units.specs.Serving.{At}
use Rattle.run_units.specs.Stepping.{with_holdings, growth_to}
use Rattle.run_units.specs.Touching.{RunsInSpace}
use Rattle.run_units.proofs.Stepping.{step_known, growth_made, headers_agree}
use Rattle.run_units.proofs.Units.{none_leads, first_leads, leads_at}
use Rattle.run_units.proofs.Acting.{between_refused, between_due}
use Rattle.step_units.specs.Machines.{RunsOn}
use Rattle.step_units.specs.Running.{EndsUngrown}
use Rattle.step_units.specs.Stepped.{StepLeads, MarkEnds, StopsNext, StopsBy, StopLeads}
use Rattle.step_units.proofs.Falling.{Falls, low, grown_first, growth_next, refusal_next}
use Rattle.step_units.proofs.Grown.{grown_ready, grown_sizes, touched_grown}
use Rattle.step_units.proofs.Serving.{WaitsFor, LeadsMore}
use Rattle.step_units.proofs.Entering.{longer}

-- A process that goes on as before, after an entry that counts no instruction.

goes_same : (A : Inputs) (s t : State) (pid : ℕ) (now : Bool) (m : Mark) → can_step t.point.flat pid ≡ can_step s.point.flat pid → t.count ≡ s.count
    → GoesOn A s m pid now → GoesOn A t m pid now
goes_same A s t pid false (marks.Dispatch p count since) e c h = (h.0, on)
  where
    on : goes_on A t pid (since + count) ≡ true
    on = ap (λ (b : Bool). b && (nat_lt t.count A.limit && nat_lt t.count (since + count))) e
        ∙ ap (λ (n : ℕ). can_step s.point.flat pid && (nat_lt n A.limit && nat_lt n (since + count))) c ∙ h.1
goes_same A s t pid true (marks.Turn p since) e c h = (h.0, on)
  where
    on : goes_on A t pid (since + turn_instructions) ≡ true
    on = ap (λ (b : Bool). b && (nat_lt t.count A.limit && nat_lt t.count (since + turn_instructions))) e
        ∙ ap (λ (n : ℕ). can_step s.point.flat pid && (nat_lt n A.limit && nat_lt n (since + turn_instructions))) c ∙ h.1
goes_same A s t pid now _ e c h = absurd h

-- The refusal.

record Noted (A : Inputs) (s : State) (pid : ℕ) : Type 0 where
  point : (after A s (entries.Refused pid)).point ≡ record { flat = s.point.flat; last = Some (entries.Refused pid) }
  place : (after A s (entries.Refused pid)).place ≡ s.place
  count : (after A s (entries.Refused pid)).count ≡ s.count
  lines : (after A s (entries.Refused pid)).lines ≡ s.lines
  mark : (after A s (entries.Refused pid)).mark ≡ s.mark
  wants : wanted A (after A s (entries.Refused pid)) ≡ wanted A s

noted : (A : Inputs) (s : State) (pid : ℕ) → Noted A s pid
unfolding after
noted A s pid = record { point = refl; place = refl; count = refl; lines = refl; mark = refl; wants = refl }

pub growth_refused : (A : Inputs) (s : State) (old new : Standing) (holds : Option (List NamedFile)) (image : SwapImage) (pid : ℕ) (now : Bool) (p : Process)
    (x : Space) (address : ℕ)
    → RunsOn A s old holds image pid now p x → Falls A s old pid p x address → GrowthRefused old new pid (pages_down_to address)
    → EndsUngrown A s old new holds image pid now p x
growth_refused A s old new holds image pid now p x address r f g = record {
  state = t;
  leads = first_leads A s t old.kernel new.kernel new.kernel image (Some image) (Some image) (entries.Refused pid) []
      (refusal_next A s old holds image pid now p x address r f g.none) (record { read = []; given = tt; made = ap (λ (z : Standing). z.kernel) g.machine; told = refl })
      (none_leads A t new.kernel image);
  running = running;
  ends = record { unwanted = unwanted; step = step; begins = inr (ap (λ (z : Point). z.last) n.point) };
  count = n.count;
  lines = n.lines;
  mark = n.mark;
}
  where
    t : State
    t = after A s (entries.Refused pid)

    n : Noted A s pid
    n = noted A s pid

    flat : t.point.flat ≡ s.point.flat
    flat = ap (λ (z : Point). z.flat) n.point

    on : GoesOn A t t.mark pid now
    on = subst (λ (m : Mark). GoesOn A t m pid now) (sym n.mark) (goes_same A s t pid now s.mark (ap (λ (F : FlatState). can_step F pid) flat) n.count r.running.runs.on)

    running : RunsInSpace A t pid now p x
    running = record {
      runs = record {
        clear = ap (λ (z : Placement). z.due) n.place ∙ r.running.runs.clear;
        on = on;
        resident = ap (λ (z : Placement). Rattle.page_model.specs.Swapper.is_out z pid) n.place ∙ r.running.runs.resident;
      };
      here = ap (λ (F : FlatState). process_of F pid) flat ∙ r.running.here;
      holds = r.running.holds;
    }

    unwanted : wanted A t ≡ None
    unwanted = n.wants ∙ f.ready.unwanted

    refused : is_refused t.point.last pid ≡ true
    refused = ap (λ (z : Point). is_refused z.last pid) n.point ∙ eq_self pid

    step : step_at A t.point pid ≡ ended_step A.images t.point.flat p [] 11
    step =
        step_known A t pid now p x (Err (Below address)) running (record { unwanted = unwanted; same = f.ready.same })
        ∙ ap (λ (b : Bool). step_of A.images t.point.flat p x b (Err (Below address))) refused

-- Growth.

record Behind (A : Inputs) (s : State) (pid n : ℕ) : Type 0 where
  point : (after A s (entries.Grew pid n)).point ≡ record { flat = (step_at A s.point pid).after; last = Some (entries.Grew pid n) }
  count : (after A s (entries.Grew pid n)).count ≡ s.count
  lines : (after A s (entries.Grew pid n)).lines ≡ s.lines
  mark : (after A s (entries.Grew pid n)).mark ≡ s.mark

behind_growth : (A : Inputs) (s : State) (pid n : ℕ) → due_at A s.point pid ≡ entries.Grew pid n ∷ [] → Behind A s pid n
unfolding after
behind_growth A s pid n e = record { point = ap (behind s.point (step_at A s.point pid).after) e; count = refl; lines = refl; mark = refl }

-- the unit that was made, and the state after it, at which the new page is waited for
pub record GrownBefore (A : Inputs) (s : State) (old between : Standing) (holds : Option (List NamedFile)) (image : SwapImage) (pid : ℕ) (now : Bool)
    (before : List Page) (q : Page) : Type 0 where
  pub entry : Entry
  pub next : next_unit A s ≡ Some entry
  pub made : MadeAs A s old.kernel image entry between.kernel (Some image)
  pub plain : Rattle.run_laws.specs.Machine.unit_swap A old.kernel image entry ≡ image
  pub waits : WaitsFor A (after A s entry) between holds image pid now before q
  pub count : (after A s entry).count ≡ s.count
  pub lines : (after A s entry).lines ≡ s.lines
  pub mark : (after A s entry).mark ≡ s.mark

pub growth_before : (A : Inputs) (s : State) (old between : Standing) (holds : Option (List NamedFile)) (image : SwapImage) (pid : ℕ) (now : Bool) (p : Process)
    (x : Space) (address : ℕ)
    (before : List Page) → RunsOn A s old holds image pid now p x → Falls A s old pid p x address → touched_next A s ≡ before → AllValid s.place before
    → Grown old between pid (pages_down_to address) → GrownBefore A s old between holds image pid now before (pages.Stack x.sid (pages_down_to address - 1))
growth_before A s old between holds image pid now p x address before r f same valid g = record {
  entry = u;
  next = next;
  made = made;
  plain = refl;
  waits = record {
    machine = record {
      at = leads_at A s t old.kernel between.kernel image image (u ∷ []) at
          (first_leads A s t old.kernel between.kernel between.kernel image (Some image) (Some image) u [] next made (none_leads A t between.kernel image));
      images = subst (λ (z : Standing). Rattle.machine_state.specs.Files.AreRunImages z.images holds A) (sym g.rest) r.machine.images;
      blocks = ap (λ (z : Standing). z.params.swap_blocks) g.rest ∙ r.machine.blocks;
    };
    runs = record { clear = h.clear; on = on; resident = h.resident i.runs.resident };
    between = subst (λ (z : Point). IsBetween z.last) (sym b.point) tt;
    rest = more.0;
    touched = next_on A t pid (ap running b.mark ∙ on_running A s s.mark pid now i.runs.on) ∙ more.1
        ∙ ap (λ (qs : List Page). qs ++ pages.Stack x.sid (pages_down_to address - 1) ∷ more.0) (sym old_touched ∙ same);
    valid = subst (AllValid t.place) (sym old_touched ∙ same) (h.valid (subst (AllValid s.place) (sym same ∙ old_touched) valid));
  };
  count = b.count;
  lines = b.lines;
  mark = b.mark;
}
  where
    u : Entry
    u = entries.Grew pid (pages_down_to address)

    t : State
    t = after A s u

    F : FlatState
    F = s.point.flat

    at : At A s old.kernel image
    at = r.machine.at

    i : RunsInSpace A s pid now p x
    i = r.running

    found : is_ok (growth_found old pid (pages_down_to address)) ≡ true
    found = ap is_ok g.finds

    next : next_unit A s ≡ Some u
    next = growth_next A s old holds image pid now p x address r f found

    headers : facts_named old.images ≡ facts_of A.images
    headers = headers_agree A (ground old holds []) r.machine.images

    change : growth old.kernel pid (pages_down_to address) ≡ growth_to old.kernel x address
    change = ap (λ (n : ℕ). let c : Change = Resize (data_count old.kernel.place n) (pages_down_to address) in c) f.held

    finds : place_all A.swap_blocks old.kernel.holdings (asked (facts_of A.images) old.kernel pid (growth_to old.kernel x address)) ≡ Ok g.found
    finds =
        subst (λ (c : Change). place_all A.swap_blocks old.kernel.holdings (asked (facts_of A.images) old.kernel pid c) ≡ Ok g.found) change
        (subst (λ (fs : List Image). place_all A.swap_blocks old.kernel.holdings (asked fs old.kernel pid (growth old.kernel pid (pages_down_to address))) ≡ Ok g.found) headers
        (subst (λ (n : ℕ). place_all n old.kernel.holdings (asked (facts_named old.images) old.kernel pid (growth old.kernel pid (pages_down_to address))) ≡ Ok g.found) r.machine.blocks g.finds))

    made : MadeAs A s old.kernel image u between.kernel (Some image)
    made =
        growth_made A s old.kernel between.kernel image pid now p x address g.process g.found at i f.ready (between_refused s.point.last pid r.between) g.there finds
        (g.step ∙ ap (λ (fs : List Image). change_step fs (with_holdings old.kernel g.found) pid g.process.regs u (growth old.kernel pid (pages_down_to address))) headers
        ∙ ap (change_step (facts_of A.images) (with_holdings old.kernel g.found) pid g.process.regs u) change)

    b : Behind A s pid (pages_down_to address)
    b = behind_growth A s pid (pages_down_to address) (between_due s.point.last pid (step_at A s.point pid).entries r.between ∙ grown_first A s old pid p x address f)

    h : Touches A s t pid
    h = all_grown A (growth_touches A) s pid (pages_down_to address) at.run next

    flat : t.point.flat ≡ apply_change A.images (apply_writes F pid []) pid p.regs (Resize (data_pages_of x) (pages_down_to address))
    flat =
        ap (λ (z : Point). z.flat) b.point ∙ ap (λ (z : Step). z.after) f.step
        ∙ ap (λ (n : ℕ). apply_change A.images (apply_writes F n []) n p.regs (Resize (data_pages_of x) (pages_down_to address))) f.number

    there : process_of t.point.flat pid ≡ Some (record p { regs = p.regs; holding = Holds (resized x (data_pages_of x) (pages_down_to address)) })
    there = ap (λ (G : FlatState). process_of G pid) flat ∙ grown_process A.images F pid p x p.regs (data_pages_of x) (pages_down_to address) i.here i.holds

    ready : is_ready p ≡ true
    ready = ap ready_if (sym i.here) ∙ on_steps A s s.mark pid now i.runs.on

    steps : can_step t.point.flat pid ≡ can_step F pid
    steps = ap ready_if there ∙ grown_ready p (resized x (data_pages_of x) (pages_down_to address)) ready ∙ sym (on_steps A s s.mark pid now i.runs.on)

    on : GoesOn A t t.mark pid now
    on = subst (λ (m : Mark). GoesOn A t m pid now) (sym b.mark) (goes_same A s t pid now s.mark steps b.count i.runs.on)

    old_touched : touched_next A s ≡ touched A F pid
    old_touched = next_on A s pid (on_running A s s.mark pid now i.runs.on)

    fitted : Fits (Some x) (numbered space_number x.sid old.kernel.place.spaces)
    fitted =
        subst (λ (o : Option Space). Fits o (numbered space_number x.sid old.kernel.place.spaces)) (own_space F pid p x at.run.numbers i.here i.holds)
        (at.stands.keeps.coupled.tables.spaces x.sid)

    more : (others : List Page) × (touched A t.point.flat pid ≡ touched A F pid ++ pages.Stack x.sid (pages_down_to address - 1) ∷ others)
    more =
        touched_grown A F t.point.flat pid p x (data_pages_of x) address i.here i.holds ready there
        (grown_sizes x (numbered space_number x.sid old.kernel.place.spaces) address fitted (low A s old pid p x address f)) f.ready.same

-- What comes after growth comes after the state before it.

pub grown_leads : (A : Inputs) (s : State) (old between : Standing) (holds : Option (List NamedFile)) (image : SwapImage) (pid : ℕ) (now : Bool)
    (before : List Page) (q : Page) (us : List Entry)
    (t : State) (l : Kernel) (j : Option SwapImage) → (b : GrownBefore A s old between holds image pid now before q)
    → Leads A (after A s b.entry) between.kernel image us t l j
    → Leads A s old.kernel image (b.entry ∷ us) t l j
grown_leads A s old between holds image pid now before q us t l j b d =
    first_leads A s t old.kernel between.kernel l image (Some image) j b.entry us b.next b.made
    (subst (λ (z : SwapImage). Leads A (after A s b.entry) between.kernel z us t l j) (sym b.plain) d)

pub grown_steps : (A : Inputs) (s : State) (old between : Standing) (holds : Option (List NamedFile)) (image : SwapImage) (pid : ℕ) (now : Bool)
    (before : List Page) (q : Page) (l : Kernel)
    (j : Option SwapImage) → (b : GrownBefore A s old between holds image pid now before q) → StepLeads A (after A s b.entry) between.kernel image 0 l j
    → StepLeads A s old.kernel image 0 l j
grown_steps A s old between holds image pid now before q l j b d = record {
  units = b.entry ∷ d.units;
  state = d.state;
  leads = grown_leads A s old between holds image pid now before q d.units d.state l j b d.leads;
  clear = d.clear;
  between = d.between;
  count = d.count ∙ ap (λ (n : ℕ). n + 0) b.count;
  lines = d.lines ∙ b.lines;
  mark = d.mark ∙ b.mark;
}

-- and one page more is valid after both
pub grown_more : (A : Inputs) (s : State) (old between : Standing) (holds : Option (List NamedFile)) (image : SwapImage) (pid : ℕ) (now : Bool)
    (before : List Page) (q : Page) (l : Kernel)
    (j : Option SwapImage) → (b : GrownBefore A s old between holds image pid now before q) → LeadsMore A (after A s b.entry) between.kernel image before l j
    → LeadsMore A s old.kernel image before l j
unfolding grown_steps
grown_more A s old between holds image pid now before q l j b d = record { led = grown_steps A s old between holds image pid now before q l j b d.led; more = d.more }

pub grown_ends : (A : Inputs) (s : State) (old between : Standing) (holds : Option (List NamedFile)) (image : SwapImage) (pid : ℕ) (now : Bool)
    (before : List Page) (q : Page) (l : Kernel)
    (j : Option SwapImage) → (b : GrownBefore A s old between holds image pid now before q) → MarkEnds A (after A s b.entry) between.kernel image l j
    → MarkEnds A s old.kernel image l j
unfolding grown_steps
grown_ends A s old between holds image pid now before q l j b d = record { led = grown_steps A s old between holds image pid now before q l j b d.led; over = d.over }

pub grown_stops : (A : Inputs) (s : State) (old between new : Standing) (holds : Option (List NamedFile)) (image : SwapImage) (pid : ℕ) (now : Bool)
    (before : List Page) (q : Page) (stop : Stop)
    (j : Option SwapImage) → (b : GrownBefore A s old between holds image pid now before q) → StopLeads A (after A s b.entry) between.kernel image stop new j
    → StopLeads A s old.kernel image stop new j
grown_stops A s old between new holds image pid now before q stop j b d = record {
  units = b.entry ∷ d.units;
  state = d.state;
  kernel = d.kernel;
  behind = d.behind;
  leads = grown_leads A s old between holds image pid now before q d.units d.state d.kernel (Some d.behind) b d.leads;
  journal = d.journal;
  held = d.held;
  by = d.by;
}

-- Stops where growth, or its refusal, comes next.

-- neither is joined to another entry
apart_next : (A : Inputs) (t : State) (k : Kernel) (image : SwapImage) (stop : Stop) (old new : Standing) (j : Option SwapImage) (pid n : ℕ) (u : Entry)
    → next_unit A t ≡ Some u
    → (u ≡ entries.Grew pid n) ⊎ (u ≡ entries.Refused pid) → (stop ≡ stops.JournalFull) ⊎ (stop ≡ stops.NoMemory)
    → (stop ≡ stops.JournalFull → new.params.journal ≤ length k.journal) → j ≡ Some image
    → StopsNext A t k image stop new j
apart_next A t k image stop old new j pid n u next (inl e) c f i = record {
  entry = entries.Grew pid n;
  next = next ∙ ap (λ (z : Entry). Some z) e;
  full = λ z. (f z, longer k.journal (entries.Grew pid n));
  cause = c;
  spoils = i;
}
apart_next A t k image stop old new j pid n u next (inr e) c f i = record {
  entry = entries.Refused pid;
  next = next ∙ ap (λ (z : Entry). Some z) e;
  full = λ z. (f z, longer k.journal (entries.Refused pid));
  cause = c;
  spoils = i;
}

pub growth_stops : (A : Inputs) (s : State) (old new : Standing) (holds : Option (List NamedFile)) (image : SwapImage) (j : Option SwapImage) (pid : ℕ)
    (now : Bool)
    (p : Process) (x : Space) (address : ℕ)
    (stop : Stop) → RunsOn A s old holds image pid now p x → Falls A s old pid p x address → StopsBefore old new stop → j ≡ Some image
    → StopLeads A s old.kernel image stop new j
growth_stops A s old new holds image j pid now p x address stop r f g same = record {
  units = [];
  state = s;
  kernel = old.kernel;
  behind = image;
  leads = none_leads A s old.kernel image;
  journal = g.stopped.journal;
  held = held_here stop old new g.stopped g.whole g.cause g.full;
  by = stopped_by stop g.cause g.full;
}
  where
    n : ℕ
    n = pages_down_to address

    comes : (b : Bool) → is_ok (growth_found old pid n) ≡ b → (u : Entry) × (next_unit A s ≡ Some u) × ((u ≡ entries.Grew pid n) ⊎ (u ≡ entries.Refused pid))
    comes true e = (entries.Grew pid n, growth_next A s old holds image pid now p x address r f e, inl refl)
    comes false e = (entries.Refused pid, refusal_next A s old holds image pid now p x address r f e, inr refl)

    next : (stop : Stop) → (stop ≡ stops.JournalFull) ⊎ (stop ≡ stops.NoMemory) → (stop ≡ stops.JournalFull → old.params.journal ≤ length old.kernel.journal)
        → StopsNext A s old.kernel image stop new j
    next stop c h =
        let u = comes (is_ok (growth_found old pid n)) refl in
        apart_next A s old.kernel image stop old new j pid n u.0 u.1 u.2 c
        (λ z. subst (λ (b : ℕ). b ≤ length old.kernel.journal) (ap (λ (y : Rattle.vm_facts.specs.declared.params.Params.Params). y.journal) (sym g.stopped.params)) (h z)) same

    stopped_by : (stop : Stop) → (stop ≡ stops.JournalFull) ⊎ (stop ≡ stops.NoMemory) → (stop ≡ stops.JournalFull → old.params.journal ≤ length old.kernel.journal)
        → StopsBy A s old.kernel image stop new j
    stopped_by stops.NoMemory c h = same
    stopped_by stops.JournalFull c h = next stops.JournalFull c h
    stopped_by stops.FileFault c h = next stops.FileFault c h
    stopped_by stops.SwapReadFault c h = next stops.SwapReadFault c h
    stopped_by stops.SwapWriteFault c h = next stops.SwapWriteFault c h
