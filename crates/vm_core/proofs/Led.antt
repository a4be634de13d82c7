-- From the start of a run next units fill what is due.
use Rattle.std.proofs.Common.{◌≡◌, true, inl, inr, ℕ, ◌*◌, ◌≤◌, List, [], length, replicate, Option, Some, sym, ap, ◌∙◌, subst, arith}
use Rattle.std.proofs.lemmas.List.{length-replicate}
use Rattle.vm_facts.specs.SwapImages.{SwapImage}
use Rattle.vm_facts.specs.declared.stop.Stop.{Stop}
use Rattle.vm_facts.specs.declared.stop.Stop.TheVariants as stops
use Rattle.vm_facts.specs.declared.params.Params.{Params}
use Rattle.io_edge.specs.FileHolding.{NamedFile}
use Rattle.swap_book.specs.Holdings.{Holdings}
use Rattle.flat_state.specs.Flat.{Inputs}
use Rattle.page_model.specs.PageBytes.{zeros}
use Rattle.kernel_model.specs.Kernel.{Kernel}
use Rattle.machine_state.specs.Files.{AreRunImages}
use Rattle.machine_state.specs.Machine.{Standing}
use Rattle.machine_state.specs.Sourced.{ImageNamed}
use Rattle.proc_run.specs.Sizes.{SameSizes}
use Rattle.run_model.specs.State.{start}
use Rattle.economy_laws.specs.RunLawsRunning.{CanRun}
use Rattle.economy_laws.proofs.RunLawsBeginning.{run_start}
use Rattle.economy_laws.proofs.Machines.{start_keeps}
use Rattle.proc_run.specs.Leads.{Leads}
use Rattle.proc_run.specs.Machines.{MachineAt}
use Rattle.proc_run.specs.RunUnitsServing.{At}
use Rattle.proc_run.specs.Stepped.{StopLeads, LeadsFrom, StopsFrom}
use Rattle.vm_core.specs.FirstProcesses.{IsNew}
use Rattle.vm_core.specs.Beginning.{BeginsAll, Begins}
use Rattle.vm_core.specs.declared.first_processes.Started.{Started}
use Rattle.vm_core.specs.declared.first_processes.Started.TheVariants as starteds
use Rattle.vm_core.specs.Leading.{IsTold, machine_at_start, StartLeads, FillsLead, StartStops, ToldAt}
use Rattle.vm_core.proofs.Kernels.{IsBegun, begun_at}
use Rattle.vm_core.proofs.Placing.{start_finds}

-- where all began
pub all_began : (started : Started) (numbers : List ℕ) (old begun : Standing) → started ≡ starteds.Ok → Begins started numbers old begun
    → BeginsAll numbers old begun
all_began started numbers old begun e b = subst (λ (s : Started). Begins s numbers old begun) e b

-- the machine at the start stands there
pub stands_at_start : (A : Inputs) (hs : Holdings) (image : SwapImage) → CanRun A hs → 512 * A.swap_blocks ≤ length image.bytes
    → At A (start A hs) (machine_at_start A hs) image
stands_at_start A hs image can room = record {
  fit = can.images;
  run = run_start A hs can.images can.first can.frames can.pieces;
  stands = start_keeps A hs (replicate A.frames zeros) image.bytes can (length-replicate {A = List ℕ} A.frames zeros) room;
}

module _ (A : Inputs) (numbers : List ℕ) (old begun : Standing) (holds : Option (List NamedFile)) (image : SwapImage) (is_new : IsNew old) (big : 64 ≤ old.params.frames)
    (told : IsTold A old numbers holds image) (began : BeginsAll numbers old begun) (on : SameSizes old begun) where
  abbrev hs : Holdings
  hs = begun.kernel.holdings

  is_begun : IsBegun A A.first begun
  is_begun = begun_at A numbers old begun is_new told.starts began

  can : CanRun A begun.kernel.holdings
  can = record {
    images = told.fit;
    first = is_begun.there;
    frames = let e = told.starts.frames in omega (arith, e, big);
    pieces = start_finds A numbers old begun is_new told.starts began;
  }

  at_start : At A (start A begun.kernel.holdings) (machine_at_start A begun.kernel.holdings) image
  at_start = stands_at_start A hs image can told.room

  begun_at_start : At A (start A begun.kernel.holdings) begun.kernel image
  begun_at_start = subst (λ (k : Kernel). At A (start A hs) k image) (sym is_begun.kernel) at_start

  begun_images : AreRunImages begun.images holds A
  begun_images = subst (λ (ns : List ImageNamed). AreRunImages ns holds A) (sym on.images) told.images

  begun_there : MachineAt A (start A begun.kernel.holdings) begun holds image
  begun_there = record { at = begun_at_start; images = begun_images; blocks = ap (λ (p : Params). p.swap_blocks) on.params ∙ sym told.starts.blocks }

  pub start_leads : (new : Standing) (i j : Option SwapImage) → i ≡ Some image → LeadsFrom (ToldAt begun holds i) (FillsLead begun new holds j) → StartLeads A new holds image j
  start_leads new i j e fills =
      let f : FillsLead begun new holds j A (start A hs) image = fills A (start A hs) image (record { machine = begun_there; told = e }) in
      let from : (l : Leads A (start A hs) (machine_at_start A hs) image f.units f.state new.kernel j) × MachineAt A f.state new holds l.behind =
      subst (λ (k : Kernel). (l : Leads A (start A hs) k image f.units f.state new.kernel j) × MachineAt A f.state new holds l.behind) is_begun.kernel (f.leads, f.machine) in
      record { holdings = hs; can = can; units = f.units; state = f.state; leads = from.0; same = f.same; clear = f.clear; machine = from.1 }

  pub start_stops : (new : Standing) (i j : Option SwapImage) (stop : Stop) → i ≡ Some image → StopsFrom (ToldAt begun holds i) begun new j stop → StartStops A new image stop j
  start_stops new i j stop e fills =
      inr (hs, can, subst (λ (k : Kernel). StopLeads A (start A hs) k image stop new j) is_begun.kernel (fills A (start A hs) image (record { machine = begun_there; told = e })))

pub begin_stops : (A : Inputs) (new : Standing) (image : SwapImage) (stop : Stop) (j : Option SwapImage) → stop ≡ stops.NoMemory → new.kernel.stopped ≡ true
    → new.kernel.journal ≡ [] → j ≡ Some image
    → StartStops A new image stop j
begin_stops A new image stop j cause stopped journal told = inl (record { cause = cause; stopped = stopped; journal = journal; told = told })
