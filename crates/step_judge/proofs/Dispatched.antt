-- A process that may step does so as under a dispatch of one instruction.
use Rattle.std.proofs.Common.{◌≡◌, ℕ, ◌+◌, ◌==◌, false, List, Option, Some, None, refl, ap, ◌∙◌, subst, arith}
use Rattle.std.proofs.lemmas.Bool.{eqb-true}
use Rattle.vm_facts.specs.SwapImages.{SwapImage}
use Rattle.vm_facts.specs.declared.entry.Entry.{Entry}
use Rattle.vm_facts.specs.declared.entry.Entry.TheVariants as entries
use Rattle.io_edge.specs.FileHolding.{NamedFile}
use Rattle.flat_state.specs.Flat.{Process, Inputs}
use Rattle.flat_state.specs.Space.{Space}
use Rattle.page_model.specs.Swapper.{is_out}
use Rattle.machine_state.specs.Machine.{Standing}
use Rattle.run_model.specs.State.{State}
use Rattle.run_model.specs.Wanted.{wanted_by, wanted}
use Rattle.run_model.specs.Kinds.{ProcessRuns}
use Rattle.run_laws.specs.Flowing.{Awaits, WaitsBy}
use Rattle.run_laws.specs.Running.{IsRun}
use Rattle.proc_run.specs.RunUnitsServing.{At}
use Rattle.proc_run.specs.RunUnitsTouching.{RunsInSpace}
use Rattle.proc_run.specs.Machines.{MachineAt}
use Rattle.paged_model.specs.declared.reason.Reason.TheVariants as reasons
use Rattle.paged_model.specs.Steps.{other_begun, away_by, page_away}
use Rattle.paged_model.proofs.Reasoned.{unless_none}
use Rattle.paged_laws.specs.Paged.{Steady, under_dispatch, BegunAwaits, IsPaged}
use Rattle.paged_laws.proofs.Standings.{stands_marked}
use Rattle.proc_run.specs.declared.finishing.Begun.{Begun}
use Rattle.proc_run.specs.Rests.{begun_by}
use Rattle.proc_run.specs.Running.{AsksRun}
use Rattle.proc_run.proofs.Marks.{runs}
use Rattle.step_judge.specs.At.{JudgedAt, SoonAt, ReadyAt}

own_refused : (p pid : ℕ) → other_begun (Some (entries.Refused p)) pid ≡ None → p ≡ pid
own_refused p pid z = eqb-true p pid (unless_none (p == pid) (reasons.Begun p) z)

own_out : (p pid : ℕ) (bytes : List ℕ) → other_begun (Some (entries.Out p bytes)) pid ≡ None → p ≡ pid
own_out p pid bytes z = eqb-true p pid (unless_none (p == pid) (reasons.Begun p) z)

module _ (m : Standing) (n : ℕ) (b : Option Begun) (holds : Option (List NamedFile)) (i : Option SwapImage) (pid : ℕ) (A : Inputs) (s : State) (image : SwapImage)
    (r : ReadyAt m n b holds i pid A s image) where
  soon : SoonAt m n b holds i pid A s image
  soon = r.soon

  at : JudgedAt m n b holds i A s image
  at = soon.at

  steady : Steady A s
  steady = let p : IsPaged A s = at.paged in p.steady

  -- where a step is begun it is the process's own, which goes on
  awaits : (o : Option Entry) → s.point.last ≡ o → WaitsBy A (under_dispatch s pid) o
  awaits (Some (entries.Refused p)) e =
      let w : BegunAwaits A s (Some (entries.Refused p)) = (let x : IsPaged A s = at.paged in subst (BegunAwaits A s) e x.awaits) in
      subst (λ (x : ℕ). Awaits A (under_dispatch s x) p) (own_refused p pid (subst (λ (o : Option Entry). other_begun o pid ≡ None) e soon.own)) w
  awaits (Some (entries.Out p bytes)) e =
      let w : BegunAwaits A s (Some (entries.Out p bytes)) = (let x : IsPaged A s = at.paged in subst (BegunAwaits A s) e x.awaits) in
      subst (λ (x : ℕ). Awaits A (under_dispatch s x) p) (own_out p pid bytes (subst (λ (o : Option Entry). other_begun o pid ≡ None) e soon.own)) w
  awaits _ e = tt

  pub run_then : IsRun A (under_dispatch s pid)
  run_then = record {
    placed = steady.placed;
    numbers = steady.numbers;
    lenders = steady.lenders;
    texts = steady.texts;
    sized = steady.sized;
    flows = record { says = steady.says; waits = awaits s.point.last refl };
    mark = tt;
  }

  pub at_then : At A (under_dispatch s pid) m.kernel image
  at_then = record { fit = at.fit; run = run_then; stands = stands_marked A s pid m.kernel image.bytes at.stands }

  pub machine_then : MachineAt A (under_dispatch s pid) m holds image
  machine_then = record { at = at_then; images = at.images; blocks = at.blocks }

  pub asks_one : AsksRun A (under_dispatch s pid) pid false (s.count + 1)
  asks_one = (1, s.count, refl, (let f = soon.few in omega (arith, f)))

  pub runner : (p : Process) × (x : Space) × RunsInSpace A (under_dispatch s pid) pid false p x
  runner = runs A (under_dispatch s pid) m.kernel image pid (s.count + 1) at_then false asks_one soon.clear (omega arith) r.runs

  pub runs_then : ProcessRuns A (under_dispatch s pid) pid false
  runs_then = let x : RunsInSpace A (under_dispatch s pid) pid false runner.0 runner.1 = runner.2 in x.runs

  pub resident : is_out s.place pid ≡ false
  resident = let x : ProcessRuns A (under_dispatch s pid) pid false = runs_then in x.resident

  -- what it wants then is the first of its pages that is away
  pub away_then : away_by s.place (wanted A (under_dispatch s pid)) ≡ page_away A s pid
  away_then = ap (away_by s.place) (ap (wanted_by A (under_dispatch s pid)) soon.clear)

  -- of a step that is begun all pages are there
  pub begun_wants : (x : Begun) → b ≡ Some x → wanted A (under_dispatch s pid) ≡ None
  begun_wants x e = go s.point.last refl (at.begun ∙ e)
    where
      go : (o : Option Entry) → s.point.last ≡ o → begun_by o ≡ Some x → wanted A (under_dispatch s pid) ≡ None
      go (Some (entries.Refused p)) l z = let w : Awaits A (under_dispatch s pid) p = awaits (Some (entries.Refused p)) l in w.unwanted
      go (Some (entries.Out p bytes)) l z = let w : Awaits A (under_dispatch s pid) p = awaits (Some (entries.Out p bytes)) l in w.unwanted
      go _ l z = absurd cc
