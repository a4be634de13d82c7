-- In a machine that stands for a flat state, who holds a space holds one that is there.
use Rattle.std.proofs.Common.{◌≡◌, ℕ, Option, Some, None, refl, sym, ap, ◌∙◌, subst}
use Rattle.flat_state.specs.Flat.{Holding, Holds, Lends, Zombie, Process, FlatState}
use Rattle.page_model.specs.Pages.{numbered}
use Rattle.kernel_model.specs.Kernel.{Kernel, Proc, HoldsSpace, life_of}
use Rattle.kernel_model.specs.ChangeStep.{life_of_proc}
use Rattle.kernel_model.specs.Coupled.{Outline, SameTables}
use Rattle.kernel_model.specs.Asks.{HasSpace}
use Rattle.machine_state.proofs.Lists.{pid_of, found_is}
use Rattle.machine_state.proofs.KernelLawsMachineTables.{kept_pid, outlines_at, outline_at}
use Rattle.machine_state.proofs.KernelLawsMachineProcesses.{stepping}
use Rattle.machine_state.proofs.Ready.{space_there}
use Rattle.machine_state.specs.Calls.{life_in}
use Rattle.machine_state.specs.Holders.{HoldersHaveSpaces}

module _ (k : Kernel) (flat : FlatState) (t : SameTables k flat) (pid sid : ℕ) where
  -- the process of the flat state holds the space
  by_holding : (q : Process) (h : Holding) → numbered pid_of pid flat.processes ≡ Some q → q.holding ≡ h → life_of h ≡ HoldsSpace sid → HasSpace k.place sid
  by_holding q (Holds s) f e l =
      let there = space_there k flat pid q s t (stepping k flat pid q s t (found_is flat.processes pid ∙ f) e) e in
      let same : s.sid ≡ sid = cc in
      subst (HasSpace k.place) same there
  by_holding q (Lends s child) f e l = absurd cc
  by_holding q (Zombie status) f e l = absurd cc

  by_process : (p : Proc) → numbered kept_pid pid k.processes ≡ Some p → p.life ≡ HoldsSpace sid → HasSpace k.place sid
  by_process p e l = go (numbered pid_of pid flat.processes) refl
    where
      go : (o : Option Process) → numbered pid_of pid flat.processes ≡ o → HasSpace k.place sid
      go None f = absurd (let x = outlines_at k.processes flat.processes t.processes pid in cc)
      go (Some q) f =
          by_holding q q.holding f refl (sym (ap (λ (x : Outline). x.life) (outline_at k.processes flat.processes t.processes pid p q e f)) ∙ l)

  holder_has : life_in k pid ≡ HoldsSpace sid → HasSpace k.place sid
  holder_has l = go (numbered kept_pid pid k.processes) refl
    where
      go : (o : Option Proc) → numbered kept_pid pid k.processes ≡ o → HasSpace k.place sid
      go None e = absurd (let x = sym (ap life_of_proc e) ∙ l in cc)
      go (Some p) e = by_process p e (sym (ap life_of_proc e) ∙ l)

pub holders_have_spaces : (k : Kernel) (flat : FlatState) → SameTables k flat → HoldersHaveSpaces k
holders_have_spaces k flat t = λ pid sid l. holder_has k flat t pid sid l
