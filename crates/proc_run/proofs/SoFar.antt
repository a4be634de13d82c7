-- What a process has led to so far in a run, an attempt after another.
use Rattle.std.proofs.Common.{◌≡◌, ℕ, zero, suc, ◌+◌, ◌<◌, ◌≤◌, Bool, true, false, not, List, [], ◌++◌, length, Option, Some, None, refl, sym, ap, ◌∙◌, subst, arith}
use Rattle.std.proofs.lemmas.Bool.{and_parts}
use Rattle.vm_facts.specs.SwapImages.{SwapImage}
use Rattle.io_edge.specs.FileHolding.{NamedFile}
use Rattle.vm_facts.specs.declared.entry.Entry.{Entry}
use Rattle.vm_facts.specs.declared.params.Params.{Params}
use Rattle.vm_facts.specs.declared.stop.Stop.{Stop}
use Rattle.flat_state.specs.Flat.{Inputs}
use Rattle.kernel_model.specs.Kernel.{Kernel, Proc, Life, New, HoldsSpace, LendsSpace, Ended}
use Rattle.kernel_model.specs.ChangeStep.{life_of_proc}
use Rattle.kernel_model.specs.Unit.{proc_of}
use Rattle.page_model.specs.Swapper.{is_out}
use Rattle.machine_state.specs.Calls.{life_in}
use Rattle.machine_state.specs.Files.{AreRunImages}
use Rattle.machine_state.specs.Going.{CanGoOn}
use Rattle.machine_state.specs.Machine.{Standing}
use Rattle.machine_state.specs.UserMemory.{CanLend}
use Rattle.step_units.specs.Reading.{AreNamed}
use Rattle.economy_laws.proofs.LockedRoom.{locked_few}
use Rattle.economy_laws.proofs.Sized.{sized_whole}
use Rattle.run_model.specs.Next.{under}
use Rattle.run_model.specs.State.{State}
use Rattle.run_model.specs.Wanted.{locked}
use Rattle.step_units.specs.Leads.{Leads}
use Rattle.step_units.proofs.Units.{none_leads, leads_at}
use Rattle.step_units.specs.Machines.{MachineAt}
use Rattle.step_units.specs.Stepped.{StepLeads, LeadsFrom, StopsFrom}
use Rattle.step_units.proofs.Entering.{leads_both, stops_then}
use Rattle.step_units.specs.Lines.{IsClear}
use Rattle.step_units.specs.Ready.{Continues}
use Rattle.step_units.proofs.Running.{continues_self, continues_both}
use Rattle.proc_run.specs.declared.advancing.Advance.TheVariants as advances
use Rattle.proc_run.specs.Choosing.{is_space_holder, steps_by, may_run}
use Rattle.proc_run.specs.Runs.{IsSteady, HasRunner, AdvancesTo}
use Rattle.proc_run.specs.Stretch.{RanOne, RanOn}
use Rattle.proc_run.specs.Running.{AsksRun, UnderMark, RunLeads}
use Rattle.proc_run.proofs.Marks.{runs, over_counted, over_idle}

-- Next units led to a state under the same mark, at which as many instructions are counted, and at least so many pages are valid of
-- those that the process touches first.
pub record SoFar (A : Inputs) (s : State) (k : Kernel) (image : SwapImage) (m : Standing) (holds : Option (List NamedFile)) (j : Option SwapImage)
    (count waits : ℕ) : Type 0 where
  pub units : List Entry
  pub state : State
  pub behind : SwapImage
  pub leads : Leads A s k image units state m.kernel (Some behind)
  pub told : j ≡ Some behind
  pub machine : MachineAt A state m holds behind
  pub named : AreNamed A.images m.images
  pub clear : IsClear state
  pub counted : state.count ≡ count
  pub lines : state.lines ≡ s.lines
  pub mark : state.mark ≡ s.mark
  pub waited : waits ≤ length (locked A state)

-- for every state at which the machine stood
abbrev pub LedSoFar : Standing → Standing → ℕ → Bool → ℕ → ℕ → Option (List NamedFile) → Option SwapImage → Option SwapImage → ℕ → ℕ → Type 0
LedSoFar old m pid now counted until holds i j count waits =
    (A : Inputs) (s : State) (image : SwapImage) → UnderMark old holds i pid now counted until A s image → SoFar A s old.kernel image m holds j count waits

pub none_so_far : (old : Standing) (pid : ℕ) (now : Bool) (counted until : ℕ) (holds : Option (List NamedFile)) (i : Option SwapImage)
    → LedSoFar old old pid now counted until holds i i counted 0
none_so_far old pid now counted until holds i A s image u = record {
  units = [];
  state = s;
  behind = image;
  leads = none_leads A s old.kernel image;
  told = u.told;
  machine = u.machine;
  named = u.named;
  clear = u.clear;
  counted = u.count;
  lines = refl;
  mark = refl;
  waited = omega arith;
}

asks_still : (A : Inputs) (s t : State) (pid : ℕ) (now : Bool) (until : ℕ) → t.mark ≡ s.mark → AsksRun A s pid now until → AsksRun A t pid now until
asks_still A s t pid false until e (n, since, m, u) = (n, since, e ∙ m, u)
asks_still A s t pid true until e (since, m, u) = (since, e ∙ m, u)

module _ (old m new : Standing) (pid : ℕ) (now : Bool) (counted until : ℕ) (holds : Option (List NamedFile)) (i j h : Option SwapImage) (count waits : ℕ)
    (so_far : LedSoFar old m pid now counted until holds i j count waits) where
  -- the process runs there
  runs_there : count < until → may_run m.kernel pid ≡ true → (A : Inputs) (s : State) (image : SwapImage) (u : UnderMark old holds i pid now counted until A s image)
      → (let f = so_far A s image u in HasRunner m holds j pid now A f.state f.behind)
  runs_there l r A s image u =
      let f = so_far A s image u in
      let w = runs A f.state m.kernel f.behind pid until f.machine.at now (asks_still A s f.state pid now until f.mark u.asks) f.clear.clear (let c = f.counted in omega (arith, c, l)) r in
      (w.0, w.1, record { on = record { machine = f.machine; running = w.2; between = f.clear.between }; named = f.named; told = f.told })

  module _ (more : count < until) (can : may_run m.kernel pid ≡ true) where
    -- one attempt more
    step_far : (n waited : ℕ) (A : Inputs) (s : State) (image : SwapImage) (u : UnderMark old holds i pid now counted until A s image)
        → (let f = so_far A s image u in (led : StepLeads A f.state m.kernel f.behind n new.kernel h) → new.params ≡ m.params → new.images ≡ m.images → waited ≤ length (locked A led.state)
        → SoFar A s old.kernel image new holds h (count + n) waited)
    step_far n waited A s image u led params images w =
        let f = so_far A s image u in
        let there : Leads A f.state m.kernel f.behind led.units led.state new.kernel (Some led.leads.behind) =
        subst (λ (o : Option SwapImage). Leads A f.state m.kernel f.behind led.units led.state new.kernel o) led.leads.told led.leads in
        record {
          units = f.units ++ led.units;
          state = led.state;
          behind = led.leads.behind;
          leads = leads_both A s f.state led.state old.kernel m.kernel new.kernel image f.behind (Some led.leads.behind) f.units led.units f.leads there;
          told = led.leads.told;
          machine = record {
            at = leads_at A f.state led.state m.kernel new.kernel f.behind led.leads.behind led.units f.machine.at there;
            images = subst (λ ns. AreRunImages ns holds A) (sym images) f.machine.images;
            blocks = ap (λ (y : Params). y.swap_blocks) params ∙ f.machine.blocks;
          };
          named = subst (AreNamed A.images) (sym images) f.named;
          clear = record { clear = led.clear; between = led.between };
          counted = let a = led.count in let b = f.counted in omega arith;
          lines = led.lines ∙ f.lines;
          mark = led.mark ∙ f.mark;
          waited = w;
        }

    pub counted_far : new.params ≡ m.params → new.images ≡ m.images → LeadsFrom (HasRunner m holds j pid now) (AdvancesTo m.kernel new.kernel h advances.Counted)
        → LedSoFar old new pid now counted until holds i h (count + 1) 0
    counted_far params images a A s image u =
        let f = so_far A s image u in
        let r = runs_there more can A s image u in
        step_far 1 0 A s image u (a A f.state f.behind r) params images (omega arith)

    pub served_far : new.params ≡ m.params → new.images ≡ m.images → LeadsFrom (HasRunner m holds j pid now) (AdvancesTo m.kernel new.kernel h advances.Served)
        → LedSoFar old new pid now counted until holds i h count (waits + 1)
    served_far params images a A s image u =
        let f = so_far A s image u in
        let r = runs_there more can A s image u in
        let b = a A f.state f.behind r in
        let e : count + 0 ≡ count = omega arith in
        subst (λ (n : ℕ). SoFar A s old.kernel image new holds h n (waits + 1)) e
        (step_far 0 (waits + 1) A s image u b.0 params images (let w = f.waited in let l = b.1 in omega arith))

    -- nothing more is to come
    pub stuck_runs : new.params ≡ m.params → new.images ≡ m.images → LeadsFrom (HasRunner m holds j pid now) (AdvancesTo m.kernel new.kernel h advances.Stuck)
        → LeadsFrom (UnderMark old holds i pid now counted until) (RunLeads old.kernel pid now new.kernel h count)
    unfolding step_far
    stuck_runs params images a A s image u =
        let f = so_far A s image u in
        let r = runs_there more can A s image u in
        let b = a A f.state f.behind r in
        let z = step_far 0 0 A s image u b.led params images (omega arith) in
        record {
          units = z.units;
          state = z.state;
          leads = subst (λ (o : Option SwapImage). Leads A s old.kernel image z.units z.state new.kernel o) (sym z.told) z.leads;
          clear = z.clear;
          over = λ e. b.over;
          counts = let c = z.counted in omega arith;
          lines = z.lines;
          mark = z.mark;
        }

    pub stops_far : (stop : Stop) → StopsFrom (HasRunner m holds j pid now) m new h stop → StopsFrom (UnderMark old holds i pid now counted until) old new h stop
    stops_far stop a A s image u =
        let f = so_far A s image u in
        let r = runs_there more can A s image u in
        stops_then A s f.state old.kernel m.kernel image f.behind h f.units stop new f.leads (a A f.state f.behind r)

-- Where it ends.

module _ (old m : Standing) (pid : ℕ) (now : Bool) (counted until : ℕ) (holds : Option (List NamedFile)) (i j : Option SwapImage) (count waits : ℕ)
    (so_far : LedSoFar old m pid now counted until holds i j count waits) where
  ends : (A : Inputs) (s : State) (image : SwapImage) (u : UnderMark old holds i pid now counted until A s image)
      → (let f = so_far A s image u in ((now ≡ true → is_out f.state.place pid ≡ false) → under A f.state f.state.mark ≡ None) → RunLeads old.kernel pid now m.kernel j count A s image)
  ends A s image u over =
      let f = so_far A s image u in
      record {
        units = f.units;
        state = f.state;
        leads = subst (λ (o : Option SwapImage). Leads A s old.kernel image f.units f.state m.kernel o) (sym f.told) f.leads;
        clear = f.clear;
        over = over;
        counts = f.counted;
        lines = f.lines;
        mark = f.mark;
      }

  -- it can't step, or is out
  pub idle_runs : may_run m.kernel pid ≡ false → LeadsFrom (UnderMark old holds i pid now counted until) (RunLeads old.kernel pid now m.kernel j count)
  idle_runs e A s image u =
      let f = so_far A s image u in
      ends A s image u (over_idle A f.state m.kernel f.behind pid until f.machine.at now (asks_still A s f.state pid now until f.mark u.asks) e)

  -- all its instructions are counted
  pub done_runs : until ≤ count → LeadsFrom (UnderMark old holds i pid now counted until) (RunLeads old.kernel pid now m.kernel j count)
  done_runs l A s image u =
      let f = so_far A s image u in
      ends A s image u (λ r. over_counted A f.state m.kernel f.behind pid until f.machine.at now (asks_still A s f.state pid now until f.mark u.asks) (let c = f.counted in omega (arith, c, l)))

  -- it never waits for more pages than an instruction touches
  pub waited_runs : 32 ≤ waits → LeadsFrom (UnderMark old holds i pid now counted until) (RunLeads old.kernel pid now m.kernel j count)
  waited_runs w A s image u =
      let f = so_far A s image u in
      let few = locked_few A f.state (sized_whole f.state.point.flat f.machine.at.run.sized) in
      absurd (let z = f.waited in omega (arith, few, w, z))

-- Whatever the devices tell.

pub steady_on : (m new : Standing) (n : ℕ) → IsSteady m → Continues m new n → CanGoOn new → IsSteady new
steady_on m new n s c r = record {
  ready = r;
  clear = c.clear;
  frames = let f = s.frames in let e = c.frames in omega arith;
  low = let l = s.low in let k = c.low in omega arith;
}

-- who can step and is in holds a space that is there
pub lends_there : (m : Standing) (pid : ℕ) → IsSteady m → may_run m.kernel pid ≡ true → CanLend m.kernel pid
lends_there m pid s r =
    let parts = and_parts (steps_by (proc_of m.kernel pid)) (not (is_out m.kernel.place pid)) r in
    let held = holds_by (proc_of m.kernel pid) refl parts.0 in
    record { sid = held.0; holds = held.1; there = s.ready.running.holders.spaces pid held.0 held.1; resident = in_by (is_out m.kernel.place pid) parts.1 }
  where
    in_by : (b : Bool) → not b ≡ true → b ≡ false
    in_by true e = absurd cc
    in_by false e = refl

    life_by : (life : Life) → is_space_holder life ≡ true → (sid : ℕ) × (life ≡ HoldsSpace sid)
    life_by New e = absurd cc
    life_by (HoldsSpace sid) e = (sid, refl)
    life_by (LendsSpace sid child) e = absurd cc
    life_by (Ended status) e = absurd cc

    holds_by : (o : Option Proc) → proc_of m.kernel pid ≡ o → steps_by o ≡ true → (sid : ℕ) × (life_in m.kernel pid ≡ HoldsSpace sid)
    holds_by None e t = absurd cc
    holds_by (Some p) e t =
        let h = life_by p.life (and_parts (is_space_holder p.life) (not p.asleep) t).0 in
        (h.0, ap life_of_proc e ∙ h.1)

-- Instructions that were counted one after another.

pub ran_far : (n pid : ℕ) (old m new : Standing) (now : Bool) (counted until : ℕ) (holds : Option (List NamedFile)) (i j : Option SwapImage) (count : ℕ)
    → LedSoFar old m pid now counted until holds i j count 0 → RanOn m pid n new → count + n ≤ until
    → LedSoFar old new pid now counted until holds i j (count + n) 0
ran_far zero pid old m new now counted until holds i j count so_far h few =
    let none : count ≡ count + 0 = omega arith in
    subst (λ (k : ℕ). LedSoFar old new pid now counted until holds i j k 0) none
    (subst (λ (x : Standing). LedSoFar old x pid now counted until holds i j count 0) (sym h) so_far)
ran_far (suc n) pid old m new now counted until holds i j count so_far h few =
    let mid : Standing = h.0 in
    let one : RanOne mid pid new = h.2 in
    let before : LedSoFar old mid pid now counted until holds i j (count + n) 0 = ran_far n pid old m mid now counted until holds i j count so_far h.1 (omega (arith, few)) in
    let more : count + n + 1 ≡ count + suc n = omega arith in
    subst (λ (k : ℕ). LedSoFar old new pid now counted until holds i j k 0) more
    (counted_far old mid new pid now counted until holds i j j (count + n) 0 before (omega (arith, few)) one.can one.continues.params one.continues.images (one.advances now holds j))

-- so the machine goes on
pub ran_all_continue : (n pid : ℕ) (old new : Standing) → old.kernel.place.due ≡ [] → RanOn old pid n new → Continues old new n
ran_all_continue zero pid old new clear h = subst (λ (m : Standing). Continues old m 0) (sym h) (continues_self old clear)
ran_all_continue (suc n) pid old new clear h =
    let more : n + 1 ≡ suc n = omega arith in
    subst (λ (k : ℕ). Continues old new k) more (continues_both old h.0 new n 1 (ran_all_continue n pid old h.0 clear h.1) h.2.continues)
