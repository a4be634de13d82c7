-- A process that has left its space may start an image, once its pieces are found.
use Rattle.std.proofs.Common.{◌≡◌, ◌<◌, ◌≤◌, ℕ, Bool, true, false, List, [], length, Option, refl, sym, ap, ◌∙◌, subst, inl, inr}
use Rattle.std.specs.Prelude.{Result, Ok, Err, IfOk, OnOk, IfErr}
use Rattle.vm_facts.specs.SwapImages.{SwapImage}
use Rattle.io_edge.specs.FileHolding.{NamedFile}
use Rattle.vm_facts.specs.declared.page.Page.{Page}
use Rattle.vm_facts.specs.declared.page.Page.TheVariants.{Stack}
use Rattle.vm_facts.specs.declared.regs.Regs.{Regs}
use Rattle.vm_facts.specs.declared.entry.Entry.TheVariants as entries
use Rattle.vm_facts.specs.declared.stop.Stop.{Stop}
use Rattle.vm_facts.specs.declared.stop.Stop.TheVariants as stops
use Rattle.user_vax.specs.declared.refused.Refused.{Refused}
use Rattle.swap_book.specs.Holdings.{Holdings}
use Rattle.swap_book.specs.Placing.{place_all}
use Rattle.flat_state.specs.declared.change.Change.TheVariants.{Exec}
use Rattle.flat_model.specs.Step.{call_entry}
use Rattle.flat_model.specs.declared.calls.Reply.{Reply}
use Rattle.flat_model.specs.declared.calls.Reply.TheVariants.{Does}
use Rattle.flat_model.specs.declared.calls.SystemCall.TheVariants.{Execve}
use Rattle.page_model.specs.Pages.{numbered}
use Rattle.page_model.specs.Swapper.{is_settled}
use Rattle.page_laws.proofs.Swapper.PuttingOut.{same_out}
use Rattle.kernel_model.specs.Kernel.{Life, HoldsSpace, Proc}
use Rattle.kernel_model.specs.Asks.{HasSpace}
use Rattle.kernel_model.specs.Sound.{lives}
use Rattle.kernel_model.specs.ChangeStep.{life_of_proc, space_of_life, gave_back, pass_step}
use Rattle.kernel_model.specs.Unit.{has_lender, lender_among, proc_of}
use Rattle.machine_state.proofs.KernelLawsSoundSteps.{pass_lives}
use Rattle.machine_state.specs.Calls.{life_in}
use Rattle.machine_state.specs.Machine.{Standing}
use Rattle.machine_state.specs.Sourced.{ImageNamed}
use Rattle.machine_state.specs.Performing.{IsAtBound, StopsForRoom}
use Rattle.machine_state.specs.Applying.{CanApply, MayAct}
use Rattle.machine_state.specs.Done.{sources}
use Rattle.vfork_pass.specs.Passed.{HasGivenBack}
use Rattle.proc_calls.specs.declared.replying.Called.{Called}
use Rattle.proc_calls.specs.declared.replying.Called.TheVariants as calls
use Rattle.proc_calls.specs.Callers.{IsCaller}
use Rattle.proc_calls.specs.Answered.{Answered, StopsReading}
use Rattle.proc_calls.specs.Filling.{StopsFilling}
use Rattle.proc_calls.specs.Leaving.{HasSettled, HasLeftBy}
use Rattle.proc_calls.specs.Starting.{image_wanted, image_found, LeavesFor, FindsBy, Finds, Starts, ExecComes, StopsExec}
use Rattle.proc_calls.proofs.Callers.{caller_lives}
use Rattle.machine_state.proofs.Asked.{stopped_found}
use Rattle.fault_fill.specs.Growth.{space_of_pid, with_pieces}
use Rattle.proc_calls.proofs.Stopping.{stops_before}
use Rattle.proc_calls.proofs.Starts.{is_ready}
use Rattle.proc_calls.proofs.Leaving.{GoesOn, settled_goes, space_stays, lender_lives}

-- Once its space is settled.

can_start_settled : (m b : Standing) (hs : Holdings) (pid image : ℕ) (regs : Regs) (top : List ℕ) (holds : Option (List NamedFile))
    (before after : Option SwapImage)
    → IsCaller m pid → has_lender m.kernel.processes pid ≡ false → HasSettled m b (space_of_pid m.kernel pid) holds before after → image_found image b ≡ Ok hs
    → 0 < image → image ≤ length m.images → length top ≡ 1024 → CanApply (with_pieces b hs) pid (call_entry pid Execve regs) (Exec image top)
can_start_settled m b hs pid image regs top holds before after c alone s found above within page = record {
  clear = on.due ∙ c.clear;
  ready = record {
    alive = ap (λ (ps : List Proc). lives ps pid) on.processes ∙ caller_lives m.kernel pid c.lends;
    next = tt;
    reaps = tt;
    space = λ _. (
      subst (HasSpace b.kernel.place) (sym space) (space_stays m.kernel.place b.kernel.place c.lends.sid on.spaces c.lends.there),
      ap (is_settled b.kernel.place) (space ∙ sym (ap space_of_life c.lends.holds)) ∙ s.settled.settled,
    );
  };
  acts = subst (λ (l : Life). MayAct l (Exec image top)) (sym held) tt;
  resident = same_out m.kernel.place b.kernel.place pid on.residents ∙ c.lends.resident;
  returned = λ _. ap (λ (ps : List Proc). has_lender ps pid) on.processes ∙ alone;
  entry = (refl, tt);
  whole = (above, subst (λ (ns : List ImageNamed). image ≤ length ns) (sym s.rest.images) within, page);
  few = λ t. absurd (let z : false ≡ true = t in cc);
  found = ap (λ (h : Holdings). place_all b.params.swap_blocks h (image_wanted b image)) (s.rest.before ∙ c.ready.whole ∙ sym on.holdings) ∙ found;
}
  where
    on : GoesOn m.kernel b.kernel
    on = settled_goes (sources m holds) (space_of_pid m.kernel pid) m.kernel b.kernel before after s.settled

    held : life_in b.kernel pid ≡ HoldsSpace c.lends.sid
    held = ap (λ (ps : List Proc). life_of_proc (numbered (λ (p : Proc). p.pid) pid ps)) on.processes ∙ c.lends.holds

    space : space_of_life (life_in b.kernel pid) ≡ c.lends.sid
    space = ap space_of_life held

-- Once the space that it borrowed went back.

can_start_returned : (m : Standing) (hs : Holdings) (pid image : ℕ) (regs : Regs) (top : List ℕ) → IsCaller m pid
    → (let b : Standing = record m { kernel = pass_step m.kernel pid (lender_among m.kernel.processes pid) } in
    HasGivenBack m.kernel b.kernel pid (lender_among m.kernel.processes pid) → image_found image b ≡ Ok hs
    → 0 < image → image ≤ length m.images → length top ≡ 1024 → CanApply (with_pieces b hs) pid (call_entry pid Execve regs) (Exec image top))
can_start_returned m hs pid image regs top c g found above within page = record {
  clear = c.clear;
  ready = record {
    alive = pass_lives m.kernel pid lender giver taker pid ∙ giver;
    next = tt;
    reaps = tt;
    space = λ e. absurd (let z : true ≡ false = sym (ap gave_back g.left) ∙ e in cc);
  };
  acts = subst (λ (l : Life). MayAct l (Exec image top)) (sym g.left) tt;
  resident = c.lends.resident;
  returned = λ _. g.none;
  entry = (refl, tt);
  whole = (above, within, page);
  few = λ t. absurd (let z : false ≡ true = t in cc);
  found = ap (λ (h : Holdings). place_all m.params.swap_blocks h (image_wanted left image)) c.ready.whole ∙ found;
}
  where
    lender : ℕ
    lender = lender_among m.kernel.processes pid

    left : Standing
    left = record m { kernel = pass_step m.kernel pid (lender_among m.kernel.processes pid) }

    giver : lives m.kernel.processes pid ≡ true
    giver = caller_lives m.kernel pid c.lends

    taker : lives m.kernel.processes (lender_among m.kernel.processes pid) ≡ true
    taker = lender_lives (proc_of m.kernel (lender_among m.kernel.processes pid)) g.lent pid g.lends

-- Either way.

module _ (m n : Standing) (pid image : ℕ) (holds : Option (List NamedFile)) (before after : Option SwapImage) (c : IsCaller m pid) where
  can_by : (lent : Bool) (b : Standing) (hs : Holdings) (regs : Regs) (top : List ℕ) → has_lender m.kernel.processes pid ≡ lent → HasLeftBy lent m b pid holds before after
      → (has_lender m.kernel.processes pid ≡ true → HasGivenBack m.kernel b.kernel pid (lender_among m.kernel.processes pid)) → image_found image b ≡ Ok hs
      → 0 < image → image ≤ length m.images → length top ≡ 1024 → CanApply (with_pieces b hs) pid (call_entry pid Execve regs) (Exec image top)
  can_by false b hs regs top e left given found above within page =
      can_start_settled m b hs pid image regs top holds before after c e left found above within page
  can_by true b hs regs top e left given found above within page =
      subst (λ (s : Standing). CanApply (with_pieces s hs) pid (call_entry pid Execve regs) (Exec image top)) (sym left.step)
      (can_start_returned m hs pid image regs top c
      (subst (λ (s : Standing). HasGivenBack m.kernel s.kernel pid (lender_among m.kernel.processes pid)) left.step (given e))
      (subst (λ (s : Standing). image_found image s ≡ Ok hs) left.step found) above within page)

  -- who gave the space back has it no more, whatever pieces are found then
  given_before : (b : Standing) (hs : Holdings) → HasGivenBack m.kernel (with_pieces b hs).kernel pid (lender_among m.kernel.processes pid)
      → HasGivenBack m.kernel b.kernel pid (lender_among m.kernel.processes pid)
  given_before b hs g = record { sid = g.sid; held = g.held; lent = g.lent; lends = g.lends; holds = g.holds; left = g.left; none = g.none; others = g.others }

  pub can_start : (regs : Regs) (top : List ℕ) → LeavesFor (image_found image) m n pid holds before after
      → (has_lender m.kernel.processes pid ≡ true → HasGivenBack m.kernel n.kernel pid (lender_among m.kernel.processes pid))
      → 0 < image → image ≤ length m.images → length top ≡ 1024 → CanApply n pid (call_entry pid Execve regs) (Exec image top)
  can_start regs top f given above within page =
      subst (λ (s : Standing). CanApply s pid (call_entry pid Execve regs) (Exec image top)) (sym f.step)
      (can_by (has_lender m.kernel.processes pid) f.between f.found regs top refl f.left
      (λ e. given_before f.between f.found (subst (λ (s : Standing). HasGivenBack m.kernel s.kernel pid (lender_among m.kernel.processes pid)) f.step (given e)))
      f.finds above within page)

-- What was found.

pub found_of : (fits b : Bool) (m n : Standing) (pid image : ℕ) (holds : Option (List NamedFile)) (before after : Option SwapImage) → fits ≡ b
    → Finds (image_found image) fits m n pid holds before after → FindsBy b (image_found image) m n pid holds before after
found_of fits b m n pid image holds before after e f = subst (λ (x : Bool). FindsBy x (image_found image) m n pid holds before after) e f.finds

pub exec_ok : (r : Result Called Stop) (old m new : Standing) (pid image : ℕ) (regs after : Regs) (top : List ℕ) (asked : Result Reply Refused)
    (holds : Option (List NamedFile)) (i j : Option SwapImage) → m ≡ old → asked ≡ Ok (Does after (Exec image top)) → IfOk r (λ called. called ≡ calls.Ready)
    → OnOk r (Starts m new pid regs after image top holds i j) → IfOk r (λ called. ExecComes old new pid regs asked holds i j called)
exec_ok (Err stop) old m new pid image regs after top asked holds i j same e ready s = tt
exec_ok (Ok called) old m new pid image regs after top asked holds i j same e ready s =
    subst (λ (a : Result Reply Refused). ExecComes old new pid regs a holds i j called) (sym e)
    (ready, subst (λ (x : Standing). Starts x new pid regs after image top holds i j) same s)

-- Where it stops.

pub reply_stops : (stop : Stop) (fits : Bool) (m asked new : Standing) (pid image : ℕ) (after : Regs) (top : List ℕ)
    (holds : Option (List NamedFile)) (i j : Option SwapImage)
    → fits ≡ true → Finds (image_found image) fits m asked pid holds i j → m.before ≡ m.kernel.holdings
    → length asked.kernel.journal < asked.params.journal → (let r : Result Called Stop = Err stop in StopsForRoom (IsAtBound asked) r asked new)
    → StopsExec m new pid (Does after (Exec image top)) holds i j stop
reply_stops stop fits m asked new pid image after top holds i j e f w room s =
    let l : LeavesFor (image_found image) m asked pid holds i j = found_of fits true m asked pid image holds i j e f in
    let r = is_ready m l.between pid holds i j l.left in
    inl (inl (inr (
      sym f.answer ∙ e,
      inr (record {
        reached = l.between;
        far = l.left;
        stops = stops_before {A = Called} l.between new stop (r.before ∙ w ∙ sym r.kernel.holdings)
            (stopped_found l.between asked new l.found l.step (subst (λ (x : Standing). length x.kernel.journal < x.params.journal) l.step room) s.stop)
            s.cause
            (λ h. subst (λ (x : Standing). x.params.journal ≤ length x.kernel.journal) l.step (s.full.0 h));
      }),
    )))

pub fill_stops : (stop : Stop) (fits : Bool) (m asked between new : Standing) (pid image : ℕ) (after : Regs) (top : List ℕ) (page : Page)
    (holds later : Option (List NamedFile)) (i told j : Option SwapImage)
    → later ≡ holds → fits ≡ true → page ≡ Stack m.kernel.next_sid 0 → Finds (image_found image) fits m asked pid holds i told
    → Answered asked between pid Execve after (Exec image top) → StopsFilling (entries.Zero page) [] between new later told j stop
    → StopsExec m new pid (Does after (Exec image top)) holds i j stop
fill_stops stop fits m asked between new pid image after top page holds later i told j same e is f a s =
    inr (
      told,
      record {
        reached = between;
        far = record { asked = asked; finds = found_of fits true m asked pid image holds i told e f; answer = a };
        stops = subst (λ (q : Page). StopsFilling (entries.Zero q) [] between new holds told j stop) is
            (subst (λ (h : Option (List NamedFile)). StopsFilling (entries.Zero page) [] between new h told j stop) same s);
      },
    )

pub exec_stops : (r : Result Called Stop) (old m new : Standing) (pid image : ℕ) (after : Regs) (top : List ℕ) (asked : Result Reply Refused)
    (holds : Option (List NamedFile)) (i j : Option SwapImage)
    → m ≡ old → asked ≡ Ok (Does after (Exec image top)) → IfErr r (StopsExec m new pid (Does after (Exec image top)) holds i j)
    → IfErr r (StopsReading asked (λ reply. StopsExec old new pid reply holds) old new i j)
exec_stops (Ok called) old m new pid image after top asked holds i j same e s = tt
exec_stops (Err stop) old m new pid image after top asked holds i j same e s =
    subst (λ (a : Result Reply Refused). StopsReading a (λ reply. StopsExec old new pid reply holds) old new i j stop) (sym e)
    (subst (λ (x : Standing). StopsExec x new pid (Does after (Exec image top)) holds i j stop) same s)
