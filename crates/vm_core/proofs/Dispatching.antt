-- Dispatches and turns, by what a process that runs leads to.
use Rattle.std.proofs.Common.{◌≡◌, ℕ, ◌+◌, true, false, List, Option, sym, ap, ◌∙◌}
use Rattle.std.specs.Prelude.{min}
use Rattle.vm_facts.specs.SwapImages.{SwapImage}
use Rattle.vm_facts.specs.declared.event.Event.TheVariants as events
use Rattle.vm_facts.specs.declared.stop.Stop.{Stop}
use Rattle.io_edge.specs.FileHolding.{NamedFile}
use Rattle.flat_state.specs.Flat.{Inputs}
use Rattle.machine_state.specs.Machine.{Standing}
use Rattle.proc_run.specs.Stepped.{LeadsFrom, StopsFrom}
use Rattle.run_model.specs.State.{State}
use Rattle.run_model.specs.Next.{turn_instructions, last_turned}
use Rattle.proc_run.proofs.Residing.{closing_stays_in}
use Rattle.proc_run.specs.Running.{UnderMark, RunLeads}
use Rattle.vm_core.specs.Cores.{AskedAt, LineDone}
use Rattle.vm_core.specs.Closing.{TurnAt, ResidentTurn, TurnDone}

dispatched : (A : Inputs) (s : State) (m : Standing) (holds : Option (List NamedFile)) (i : Option SwapImage) (image : SwapImage) (pid n counted until : ℕ)
    → until ≡ min (counted + n) m.params.limit
    → AskedAt m holds i counted (events.Dispatch pid n) A s image → UnderMark m holds i pid false counted until A s image
dispatched A s m holds i image pid n counted until u at = record {
  machine = at.stands.machine;
  named = at.stands.inputs.named;
  told = at.stands.told;
  clear = at.clear;
  count = at.stands.count;
  asks = (n, s.count, at.mark, u ∙ ap (min (counted + n)) (sym at.stands.inputs.limit) ∙ ap (λ (c : ℕ). min (c + n) A.limit) (sym at.stands.count));
}

pub dispatch_done : (old new : Standing) (holds : Option (List NamedFile)) (i j : Option SwapImage) (pid n counted until count : ℕ)
    → until ≡ min (counted + n) old.params.limit
    → LeadsFrom (UnderMark old holds i pid false counted until) (RunLeads old.kernel pid false new.kernel j count)
    → LeadsFrom (AskedAt old holds i counted (events.Dispatch pid n)) (LineDone old new j count)
dispatch_done old new holds i j pid n counted until count u f A s image at =
    let l = f A s image (dispatched A s old holds i image pid n counted until u at) in
    record {
      units = l.units;
      state = l.state;
      leads = l.leads;
      over = record { clear = l.clear.clear; between = l.clear.between; over = l.over (λ e. absurd cc) };
      unturned = ap last_turned (l.mark ∙ at.mark);
      counts = l.counts;
      lines = l.lines;
    }

pub dispatch_stops : (old new : Standing) (holds : Option (List NamedFile)) (i j : Option SwapImage) (pid n counted until : ℕ) (stop : Stop)
    → until ≡ min (counted + n) old.params.limit
    → StopsFrom (UnderMark old holds i pid false counted until) old new j stop → StopsFrom (AskedAt old holds i counted (events.Dispatch pid n)) old new j stop
dispatch_stops old new holds i j pid n counted until stop u f A s image at = f A s image (dispatched A s old holds i image pid n counted until u at)

turning : (A : Inputs) (s : State) (m : Standing) (holds : Option (List NamedFile)) (i : Option SwapImage) (image : SwapImage) (pid counted since until : ℕ)
    → until ≡ min (since + turn_instructions) m.params.limit
    → TurnAt m holds i counted since pid A s image → UnderMark m holds i pid true counted until A s image
turning A s m holds i image pid counted since until u at = record {
  machine = at.stands.machine;
  named = at.stands.inputs.named;
  told = at.stands.told;
  clear = at.clear;
  count = at.stands.count;
  asks = (since, at.mark, u ∙ ap (min (since + turn_instructions)) (sym at.stands.inputs.limit));
}

pub finish_done : (old new : Standing) (holds : Option (List NamedFile)) (i j : Option SwapImage) (pid counted since until count : ℕ)
    → until ≡ min (since + turn_instructions) old.params.limit
    → LeadsFrom (UnderMark old holds i pid true counted until) (RunLeads old.kernel pid true new.kernel j count)
    → LeadsFrom (ResidentTurn old holds i counted since pid) (TurnDone old new j pid count)
finish_done old new holds i j pid counted since until count u f A s image (at, in_) =
    let l = f A s image (turning A s old holds i image pid counted since until u at) in
    record {
      units = l.units;
      state = l.state;
      leads = l.leads;
      over = record {
        clear = l.clear.clear;
        between = l.clear.between;
        over = l.over (λ e. closing_stays_in A s l.state old.kernel new.kernel image j l.units pid pid (record { since = since; mark = at.mark; lines = at.lines }) l.leads in_);
      };
      counts = l.counts;
      lines = l.lines;
      turned = ap last_turned (l.mark ∙ at.mark);
    }

pub finish_stops : (old new : Standing) (holds : Option (List NamedFile)) (i j : Option SwapImage) (pid counted since until : ℕ) (stop : Stop)
    → until ≡ min (since + turn_instructions) old.params.limit
    → StopsFrom (UnderMark old holds i pid true counted until) old new j stop → StopsFrom (ResidentTurn old holds i counted since pid) old new j stop
finish_stops old new holds i j pid counted since until stop u f A s image (at, in_) = f A s image (turning A s old holds i image pid counted since until u at)
