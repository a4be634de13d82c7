-- A break is the step of its process.
use Rattle.std.proofs.Common.{◌≡◌, ◌⊎◌, inl, inr, ℕ, ◌*◌, ◌/◌, ◌<◌, ◌≤◌, ◌||◌, nat_lt, Bool, true, false, cond, List, [], ◌∷◌, find, length, Option, Some, Result, Ok, Err, refl, sym, ap, ◌∙◌, subst, arith}
use Rattle.std.specs.Prelude.{is_ok, nat_le, ◌==◌}
use Rattle.std.proofs.lemmas.Bool.{le-ltb, lt-ltb}
use Rattle.vm_facts.specs.SwapImages.{SwapImage}
use Rattle.io_edge.specs.FileHolding.{NamedFile}
use Rattle.vm_facts.specs.Answers.{Answers}
use Rattle.vm_facts.specs.declared.entry.Entry.{Entry}
use Rattle.vm_facts.specs.declared.regs.Regs.{Regs}
use Rattle.vm_facts.specs.declared.stop.Stop.{Stop}
use Rattle.aout_image.specs.declared.Image.{Image}
use Rattle.user_vax.specs.Program.{run}
use Rattle.user_vax.specs.Effects.{Effect}
use Rattle.user_vax.specs.declared.refused.Refused.{Refused}
use Rattle.swap_book.specs.Placing.{place_all}
use Rattle.flat_state.specs.Space.{Space}
use Rattle.flat_state.specs.Flat.{Process, FlatState, NamedImage, Inputs}
use Rattle.flat_state.specs.Change.{is_borrower}
use Rattle.flat_state.specs.declared.change.Change.{Change}
use Rattle.flat_state.specs.declared.change.Change.TheVariants.{Resize}
use Rattle.page_model.specs.Place.{facts_of, data_count, stack_count}
use Rattle.kernel_model.specs.Kernel.{Kernel}
use Rattle.kernel_model.specs.Asks.{asked}
use Rattle.kernel_model.specs.Coupled.{image_text}
use Rattle.machine_state.specs.Machine.{Standing}
use Rattle.machine_state.specs.Settled.{StopsSettling}
use Rattle.machine_state.specs.Applying.{facts_named}
use Rattle.machine_state.specs.UserMemory.{kernel_answers}
use Rattle.swapper.specs.Stops.{StopsBefore}
use Rattle.run_laws.specs.Whole.{IsSized, HasSize, AllSized}
use Rattle.run_laws.proofs.FlatLawsAsking.{own_space}
use Rattle.flat_model.specs.declared.calls.Reply.{Reply}
use Rattle.flat_model.specs.declared.calls.Reply.TheVariants.{Fails, Does}
use Rattle.flat_model.specs.declared.calls.SystemCall.TheVariants as system_calls
use Rattle.flat_model.specs.Calls.{argument, break_by, data_limit, no_memory, replied, stack_pages_of}
use Rattle.flat_model.specs.Step.{Step, data_pages_of, call_entry, reply_asked, replied_step}
use Rattle.flat_model.specs.Run.{Point, step_at, due_at, IsBetween}
use Rattle.proc_calls.specs.declared.replying.Called.{Called}
use Rattle.proc_calls.specs.Answered.{Replied, StopsOnce, StopsReading}
use Rattle.proc_calls.specs.Growth.{space_of_pid, with_pieces}
use Rattle.proc_calls.specs.Leaving.{HasSettled}
use Rattle.proc_calls.specs.Sizing.{process_data_pages as pages_held, process_stack_pages as stack_held, pages_to, data_sized, break_at, break_read, SameData, GrownData, NoPieces, CutData, Plain, MovesEnd, BreakComes, StopsPlain, StopsBreaking}
use Rattle.proc_calls.proofs.Sizes.{replies as sized_reply, fails as sized_failure, none_asked as none_sized}
use Rattle.proc_calls.proofs.Breaks.{break_flat}
use Rattle.run_model.specs.State.{State}
use Rattle.run_model.specs.Act.{loses_pages}
use Rattle.run_laws.specs.Standing.{IsText, HasText}
use Rattle.run_laws.proofs.Touching.{found_process}
use Rattle.run_units.specs.Settling.{IsLeaving}
use Rattle.run_units.specs.Touching.{IsCalledFor}
use Rattle.run_units.proofs.Stepping.{growth_counts, none_asked}
use Rattle.run_units.proofs.Acting.{between_refused}
use Rattle.step_units.specs.Machines.{RunsOn, MakesCall}
use Rattle.step_units.specs.Sizing.{BreakIsMade, BreakStops}
use Rattle.step_units.specs.Stepped.{StepLeads, CallLeads, StopLeads}
use Rattle.step_units.proofs.Begun.{whole_due}
use Rattle.step_units.proofs.Entering.{IsOwn, headers, leads_then, stops_then}
use Rattle.step_units.proofs.Halting.{stopped_here}
use Rattle.step_units.proofs.PlainCalls.{asked_plainly}
use Rattle.step_units.proofs.Quiet.{comes_made, stops_reading}
use Rattle.step_units.proofs.Refusing.{IsRefusal, call_refusal, refused_fails, refused_stops}
use Rattle.step_units.proofs.Replying.{ready, called_on, called_step, answers, answers_settled, fails}
use Rattle.step_units.proofs.Settles.{is_leaving, none_refused, IsSettled, has_settled, stops_settling}
use Rattle.step_units.proofs.Tables.{IsKept, is_kept, held_is}

-- Sizes.

sized_found : (ps : List Process) (pid : ℕ) (p : Process) → AllSized ps → find (λ q. q.pid == pid) ps ≡ Some p → HasSize p.holding
sized_found [] pid p a e = absurd cc
sized_found (q ∷ qs) pid p a e = go (sized_found qs pid p a.1) (q.pid == pid) e
  where
    go : (find (λ y. y.pid == pid) qs ≡ Some p → HasSize p.holding) → (b : Bool) → cond b (Some q) (find (λ y. y.pid == pid) qs) ≡ Some p → HasSize p.holding
    go more true k = let same : q ≡ p = cc in subst (λ (y : Process). HasSize y.holding) same a.0
    go more false k = more k

few_pages : (bytes : ℕ) → bytes ≤ 4096 * 1024 → bytes / 1024 ≤ 4096
few_pages bytes h = omega (arith, h)

-- no page is dropped, or some page of data
kept_pages : (x : Space) (b : Bool) (pages stack : ℕ) → data_pages_of x ≤ pages → stack ≡ stack_pages_of x → loses_pages x b (Resize pages stack) ≡ false
kept_pages x b pages stack more is =
    ap (λ (c : Bool). c || nat_lt stack (stack_pages_of x)) (le-ltb pages (data_pages_of x) more) ∙ le-ltb stack (stack_pages_of x) (let h = is in omega (arith, h))

dropped_pages : (x : Space) (b : Bool) (pages stack : ℕ) → pages < data_pages_of x → loses_pages x b (Resize pages stack) ≡ true
dropped_pages x b pages stack fewer = ap (λ (c : Bool). c || nat_lt stack (stack_pages_of x)) (lt-ltb pages (data_pages_of x) fewer)

-- the entry of the reply
break_entry : (b : Bool) (images : List NamedImage) (F : FlatState) (p : Process) (effect : Effect) (regs : Regs) (pages stack : ℕ)
    → (e : Entry) × ((replied_step images F p system_calls.Break effect (break_by b regs pages stack)).entries ≡ e ∷ []) × IsOwn e
break_entry true images F p effect regs pages stack = (call_entry p.pid system_calls.Break (replied regs false 0), refl, tt)
break_entry false images F p effect regs pages stack = (call_entry p.pid system_calls.Break (replied effect.regs true no_memory), refl, tt)

module _ (A : Inputs) (s : State) (old : Standing) (holds : Option (List NamedFile)) (image : SwapImage) (pid : ℕ) (now : Bool) (p : Process) (x : Space) (effect : Effect)
    (h : RunsOn A s old holds image pid now p x) (m : MakesCall old p x effect system_calls.Break) where
  abbrev k : Kernel
  k = old.kernel

  abbrev flat : FlatState
  flat = s.point.flat

  abbrev memory : Answers
  memory = kernel_answers k x.sid

  kept : IsKept k pid p x
  kept = is_kept A s k image pid now p x h.machine.at h.running

  held : space_of_pid k pid ≡ x.sid
  held = held_is k pid p x kept

  data_is : pages_held k pid ≡ data_pages_of x
  data_is = ap (data_count k.place) held ∙ (growth_counts A s k image pid now p x h.machine.at h.running).0

  stack_is : stack_held k pid ≡ stack_pages_of x
  stack_is = ap (stack_count k.place) held ∙ (growth_counts A s k image pid now p x h.machine.at h.running).1

  few_held : pages_held k pid ≤ 4096
  few_held =
      let sized : IsSized x = subst HasSize h.running.holds (sized_found flat.processes pid p h.machine.at.run.sized h.running.here) in
      subst (λ (n : ℕ). n ≤ 4096) (sym data_is) (few_pages (length x.data_bytes) sized.data_fits)

  text : IsText A.images x
  text = subst (HasText A.images) h.running.holds (found_process (λ y. HasText A.images y.holding) flat.processes pid p h.machine.at.run.texts h.running.here)

  asked_is : run memory (reply_asked A.images flat p x system_calls.Break effect) ≡ break_read k pid effect.regs (run memory (argument effect.regs 1))
  asked_is =
      asked_plainly A s old holds image pid now p x effect system_calls.Break h m
      ∙ break_flat A.images k flat x h.machine.at.stands.keeps.coupled.tables h.machine.at.stands.keeps.stands.texts
      (own_space flat pid p x h.machine.at.run.numbers h.running.here h.running.holds) (text.same ∙ sym (ap image_text text.image)) pid effect.regs held p memory

  -- By a number of pages.

  module _ (address : ℕ) (e : run memory (argument effect.regs 1) ≡ Ok address) where
    abbrev pages : ℕ
    pages = pages_to k pid address

    abbrev reply : Reply
    reply = break_at k pid effect.regs pages

    abbrev r : Result Reply Refused
    r = Ok reply

    called : IsCalledFor A s p x system_calls.Break effect r
    called = ready A s old holds image pid now p x effect system_calls.Break r h m (asked_is ∙ ap (break_read k pid effect.regs) e) tt

    abbrev after : Regs
    after = replied effect.regs false 0

    abbrev change : Change
    change = data_sized k pid pages

    few_is : pages ≤ 4096 → reply ≡ Does after change
    few_is few = sym (sized_reply k pid effect.regs pages (stack_held k pid) few refl)

    step_is : pages ≤ 4096 → step_at A s.point pid ≡ replied_step A.images flat p system_calls.Break effect (Does after change)
    step_is few = called_step A s pid now p x effect system_calls.Break r h.running h.between m.names called ∙ ap (replied_step A.images flat p system_calls.Break effect) (few_is few)

    none_wanted : pages ≤ pages_held k pid → place_all A.swap_blocks k.holdings (asked (facts_of A.images) k pid change) ≡ Ok k.holdings
    none_wanted few =
        ap (place_all A.swap_blocks k.holdings) (none_sized (facts_of A.images) k.place (space_of_pid k pid) k.next_sid pages few) ∙ (none_asked A.swap_blocks k).0

    found_is : place_all old.params.swap_blocks k.holdings (asked (facts_named old.images) k pid change) ≡ place_all A.swap_blocks k.holdings (asked (facts_of A.images) k pid change)
    found_is =
        ap (λ (n : ℕ). place_all n k.holdings (asked (facts_named old.images) k pid change)) h.machine.blocks
        ∙ ap (λ (fs : List Image). place_all A.swap_blocks k.holdings (asked fs k pid change)) (headers A s old holds image h.machine)

    -- as many pages, or more than may be
    same_made : (new : Standing) (c : Called) → SameData old new pid effect.regs pages c → CallLeads A s k image x c new.kernel (Some image)
    same_made new c g = go g.which
      where
        go : (pages ≡ pages_held k pid) ⊎ (data_limit < pages) → CallLeads A s k image x c new.kernel (Some image)
        go (inl same) =
            let few : pages ≤ 4096 = let a = few_held in let b = same in omega (arith, a, b) in
            let got : Replied old new pid system_calls.Break effect.regs (Does after change) c = subst (λ (y : Reply). Replied old new pid system_calls.Break effect.regs y c) (few_is few) g.replied in
            subst (λ (z : Called). CallLeads A s k image x z new.kernel (Some image)) (sym got.0)
            (answers A s old new.kernel holds image pid now p x effect system_calls.Break r after change k.holdings h m.names called
            (ap (replied_step A.images flat p system_calls.Break effect) (few_is few)) tt tt
            (kept_pages x (is_borrower flat.processes pid) pages (stack_held k pid) (let a = data_is in let b = same in omega (arith, a, b)) stack_is)
            (none_wanted (let b = same in omega (arith, b))) got.1.step)
        go (inr many) =
            let is : reply ≡ Fails no_memory = sym (sized_failure k pid effect.regs pages many) in
            let got : Replied old new pid system_calls.Break effect.regs (Fails no_memory) c = subst (λ (y : Reply). Replied old new pid system_calls.Break effect.regs y c) is g.replied in
            subst (λ (z : Called). CallLeads A s k image x z new.kernel (Some image)) (sym got.0)
            (fails A s old new.kernel holds image pid now p x effect system_calls.Break r no_memory h m.names called is got.1.step)

    -- more, whose pieces were found
    grown_made : (new : Standing) (c : Called) → GrownData old new pid effect.regs pages c → CallLeads A s k image x c new.kernel (Some image)
    grown_made new c g =
        let got : Replied (with_pieces old g.found) new pid system_calls.Break effect.regs (Does after change) c =
        subst (λ (y : Reply). Replied (with_pieces old g.found) new pid system_calls.Break effect.regs y c) (few_is g.few) g.replied in
        subst (λ (z : Called). CallLeads A s k image x z new.kernel (Some image)) (sym got.0)
        (answers A s old new.kernel holds image pid now p x effect system_calls.Break r after change g.found h m.names called
        (ap (replied_step A.images flat p system_calls.Break effect) (few_is g.few)) tt tt
        (kept_pages x (is_borrower flat.processes pid) pages (stack_held k pid) (let a = data_is in let b = g.more in omega (arith, a, b)) stack_is)
        (sym found_is ∙ g.finds) got.1.step)

    -- or not
    no_pieces : pages ≤ 4096 → is_ok (place_all old.params.swap_blocks k.holdings (asked (facts_named old.images) k pid change)) ≡ false → IsRefusal A s old holds image pid now p x
    no_pieces few none =
        call_refusal A s old holds image pid now p x effect system_calls.Break r after change h m.names called (few_is few) (ap is_ok (sym found_is) ∙ none)

    refused_made : (new : Standing) (c : Called) → NoPieces old new pid effect.regs pages c → CallLeads A s k image x c new.kernel (Some image)
    refused_made new c g =
        subst (λ (z : Called). CallLeads A s k image x z new.kernel (Some image)) (sym g.replied.0)
        (refused_fails A s old holds image pid now p x effect system_calls.Break r after change m.names called (few_is g.few) refl (no_pieces g.few g.none) new.kernel g.replied.1.step)

    -- fewer: the space settles first
    leaving : pages < pages_held k pid → IsLeaving A s pid now x.sid
    leaving fewer =
        let few : pages ≤ 4096 = let a = few_held in omega (arith, a, fewer) in
        let step : Step = replied_step A.images flat p system_calls.Break effect (Does after change) in
        is_leaving A s pid now p x step h.running called.unwanted
        (none_refused A s k image pid now p x step h.machine.at h.running (between_refused s.point.last pid h.between) (step_is few) (ap is_ok (none_wanted (let a = fewer in omega (arith, a)))))
        (step_is few) (dropped_pages x (is_borrower flat.processes pid) pages (stack_held k pid) (let a = data_is in omega (arith, a, fewer)))

    settled_on : (between : Standing) (j : Option SwapImage) → pages < pages_held k pid → HasSettled old between (space_of_pid k pid) holds (Some image) j
        → IsSettled A s old between holds image j pid now p x
    settled_on between j fewer g =
        has_settled A s old holds image pid now p x h.machine h.running (leaving fewer) between j (subst (λ (n : ℕ). HasSettled old between n holds (Some image) j) held g)

    runs_settled : (between : Standing) (j : Option SwapImage) (t : IsSettled A s old between holds image j pid now p x) → RunsOn A t.state between holds t.behind pid now p x
    runs_settled between j t =
        record { machine = t.machine; running = t.running; between = subst (λ (y : Point). IsBetween y.last) (sym t.same.point) h.between }

    cut_made : (new : Standing) (j : Option SwapImage) (c : Called) → CutData old new pid effect.regs pages holds (Some image) j c → CallLeads A s k image x c new.kernel j
    cut_made new j c g =
        let between : Standing = g.between in
        let few : pages ≤ 4096 = let a = few_held in let b = g.fewer in omega (arith, a, b) in
        let got : Replied between new pid system_calls.Break effect.regs (Does after change) c =
        subst (λ (y : Reply). Replied between new pid system_calls.Break effect.regs y c) (few_is few) g.replied in
        let t : IsSettled A s old between holds image j pid now p x = settled_on between j g.fewer g.settled in
        let on : RunsOn A t.state between holds t.behind pid now p x = runs_settled between j t in
        let there : IsCalledFor A t.state p x system_calls.Break effect r =
        called_on A s t.state p x effect system_calls.Break r (ap (λ (y : Point). y.flat) t.same.point) t.unwanted called in
        let l : Kernel = between.kernel in
        let counts = growth_counts A t.state l t.behind pid now p x t.machine.at t.running in
        let sid : space_of_pid l pid ≡ x.sid = held_is l pid p x (is_kept A t.state l t.behind pid now p x t.machine.at t.running) in
        let stack : stack_held k pid ≡ stack_count l.place (space_of_pid l pid) = stack_is ∙ sym (ap (stack_count l.place) sid ∙ counts.1) in
        let fewer : pages ≤ data_count l.place (space_of_pid l pid) =
        let a = data_is in let b = g.fewer in let d : data_count l.place (space_of_pid l pid) ≡ data_pages_of x = ap (data_count l.place) sid ∙ counts.0 in omega (arith, a, b, d) in
        let wants : place_all A.swap_blocks l.holdings (asked (facts_of A.images) l pid change) ≡ Ok l.holdings =
        ap (λ (n : ℕ). place_all A.swap_blocks l.holdings (asked (facts_of A.images) l pid (Resize pages n))) stack
        ∙ ap (place_all A.swap_blocks l.holdings) (none_sized (facts_of A.images) l.place (space_of_pid l pid) l.next_sid pages fewer) ∙ (none_asked A.swap_blocks l).0 in
        let made : StepLeads A t.state l t.behind 1 new.kernel (Some t.behind) =
        answers_settled A t.state between new.kernel holds t.behind pid now p x effect system_calls.Break r after change l.holdings on m.names there
        (ap (replied_step A.images t.state.point.flat p system_calls.Break effect) (few_is few)) tt tt t.settles wants got.1.step in
        subst (λ (o : Option SwapImage). CallLeads A s k image x c new.kernel o) (sym t.told)
        (subst (λ (z : Called). CallLeads A s k image x z new.kernel (Some t.behind)) (sym got.0)
        (leads_then A s t.state k l new.kernel image t.behind (Some t.behind) t.units 1 t.leads t.same.count t.same.lines t.same.mark made))

    plain_made : (new : Standing) (c : Called) → Plain old new pid effect.regs pages c → CallLeads A s k image x c new.kernel (Some image)
    plain_made new c (inl g) = same_made new c g
    plain_made new c (inr (inl g)) = grown_made new c g
    plain_made new c (inr (inr g)) = refused_made new c g

    moves_made : (new : Standing) (j : Option SwapImage) (c : Called) → MovesEnd old new pid effect.regs pages holds (Some image) j c → CallLeads A s k image x c new.kernel j
    moves_made new j c (inl g) = subst (λ (o : Option SwapImage). CallLeads A s k image x c new.kernel o) (sym g.1) (plain_made new c g.0)
    moves_made new j c (inr g) = cut_made new j c g

    -- Where the run stops.

    left_at : (t : State) (on : t.point ≡ s.point) → (e : Entry) × (due_at A t.point pid ≡ e ∷ []) × IsOwn e
    left_at t on =
        let first = break_entry (nat_le pages data_limit) A.images flat p effect effect.regs pages (stack_held k pid) in (
          first.0,
          ap (λ (y : Point). due_at A y pid) on ∙ whole_due s.point.last pid (step_at A s.point pid).entries h.between
              ∙ ap (λ (z : Step). z.entries) (called_step A s pid now p x effect system_calls.Break r h.running h.between m.names called) ∙ first.1,
          first.2,
        )

    stops_plainly : (new : Standing) (stop : Stop) → StopsPlain old new pid pages stop → StopLeads A s k image stop new (Some image)
    stops_plainly new stop (inl g) =
        let left = left_at s refl in
        stopped_here A s old new image pid now p x left.0 [] stop h.machine.at h.running called.unwanted left.1 left.2 g
    stops_plainly new stop (inr g) =
        refused_stops A s old holds image pid now p x effect system_calls.Break r after change m.names called (few_is g.1) refl (no_pieces g.1 g.2) new stop g.3

    stops_cutting : (new : Standing) (j : Option SwapImage) (stop : Stop) → pages < pages_held k pid
        → StopsSettling (space_of_pid k pid) old new holds (Some image) j stop
        ⊎ StopsOnce (λ m. HasSettled old m (space_of_pid k pid) holds (Some image) j) (λ m. StopsBefore m new stop)
        → StopLeads A s k image stop new j
    stops_cutting new j stop fewer (inl y) =
        stops_settling A s old holds image pid now p x h.machine h.running (leaving fewer) new j stop
        (subst (λ (n : ℕ). StopsSettling n old new holds (Some image) j stop) held y)
    stops_cutting new j stop fewer (inr y) =
        let t : IsSettled A s old y.reached holds image j pid now p x = settled_on y.reached j fewer y.far in
        let left = left_at t.state t.same.point in
        subst (λ (o : Option SwapImage). StopLeads A s k image stop new o) (sym t.told)
        (stops_then A s t.state k y.reached.kernel image t.behind (Some t.behind) t.units stop new t.leads
        (stopped_here A t.state y.reached new t.behind pid now p x left.0 [] stop t.machine.at t.running t.unwanted left.1 left.2 y.stops))

    stops_moving : (new : Standing) (j : Option SwapImage) (stop : Stop) → StopsBreaking old new pid pages holds (Some image) j stop → StopLeads A s k image stop new j
    stops_moving new j stop (inl g) = subst (λ (o : Option SwapImage). StopLeads A s k image stop new o) (sym g.1) (stops_plainly new stop g.0)
    stops_moving new j stop (inr g) = stops_cutting new j stop g.0 g.1

  -- By what the argument reads as.

  break_comes : (new : Standing) (j : Option SwapImage) (c : Called) (o : Result ℕ Refused) → run memory (argument effect.regs 1) ≡ o → BreakComes old new pid effect.regs o holds (Some image) j c
      → CallLeads A s k image x c new.kernel j
  break_comes new j c (Ok address) e g = moves_made address e new j c g
  break_comes new j c (Err refused) e g =
      subst (λ (o : Option SwapImage). CallLeads A s k image x c new.kernel o) (sym g.1)
      (comes_made A s old new holds image pid now p x effect system_calls.Break (Err refused) c h m (asked_is ∙ ap (break_read k pid effect.regs) e) tt g.0)

  stops_at : (new : Standing) (j : Option SwapImage) (stop : Stop) (o : Result ℕ Refused) → run memory (argument effect.regs 1) ≡ o
      → StopsReading o (λ address. StopsBreaking old new pid (pages_to old.kernel pid address) holds) old new (Some image) j stop
      → StopLeads A s k image stop new j
  stops_at new j stop (Ok address) e g = stops_moving address e new j stop g
  stops_at new j stop (Err refused) e g =
      subst (λ (o : Option SwapImage). StopLeads A s k image stop new o) (sym g.1)
      (stops_reading A s old new holds image pid now p x effect system_calls.Break refused stop h m (asked_is ∙ ap (break_read k pid effect.regs) e) g.0)

pub break_made : BreakIsMade
break_made A s old new holds image behind pid now p x effect called h m g =
    break_comes A s old holds image pid now p x effect h m new behind called (run (kernel_answers old.kernel x.sid) (argument effect.regs 1)) refl g

pub break_stops : BreakStops
break_stops A s old new holds image behind pid now p x effect stop h m g =
    stops_at A s old holds image pid now p x effect h m new behind stop (run (kernel_answers old.kernel x.sid) (argument effect.regs 1)) refl g
