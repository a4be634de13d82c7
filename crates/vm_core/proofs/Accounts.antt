-- The units that a machine makes are accounted for, where it stops too.
use Rattle.std.proofs.Common.{◌≡◌, ℕ, ◌≤◌, List, length, Option, Some, refl, sym, ◌∙◌}
use Rattle.std.proofs.lemmas.Option.{same_Some}
use Rattle.vm_facts.specs.SwapImages.{SwapImage}
use Rattle.vm_facts.specs.declared.entry.Entry.{Entry}
use Rattle.vm_facts.specs.declared.stop.Stop.{Stop}
use Rattle.flat_state.specs.Flat.{Inputs}
use Rattle.kernel_model.specs.Kernel.{Kernel}
use Rattle.machine_state.specs.Machine.{Standing}
use Rattle.run_model.specs.State.{State}
use Rattle.run_model.specs.Swapped.{left_from}
use Rattle.proc_run.specs.Leads.{Leads}
use Rattle.proc_run.specs.RunUnitsServing.{At}
use Rattle.proc_run.specs.Stepped.{StopLeads}
use Rattle.proc_run.specs.Accounts.{Account}
use Rattle.proc_run.specs.Economy.{Economy}
use Rattle.proc_run.proofs.Accounts.{units_accounted}
use Rattle.proc_run.proofs.Stretches.{units_economical}
use Rattle.proc_run.proofs.RunUnitsJournals.{leads_follow, leads_told}
use Rattle.vm_core.specs.Accounts.{StopsAccounted}

module _ (A : Inputs) (s t : State) (k l : Kernel) (image : SwapImage) (us : List Entry) (j : Option SwapImage) (at : At A s k image) (leads : Leads A s k image us t l j) where
  pub leads_accounted : Account A s us
  leads_accounted = units_accounted A s t us at.fit at.run (leads_follow A s t k l image us j leads)

  pub leads_economical : length s.point.flat.processes ≤ 64 → Economy A s us
  leads_economical crowd = units_economical A s t us at.fit at.run (leads_follow A s t k l image us j leads) crowd

  pub leads_swapped : (behind : SwapImage) → j ≡ Some behind → behind ≡ left_from A s us image
  leads_swapped behind told = same_Some behind (left_from A s us image) (sym told ∙ leads_told A s t k l image us j at leads)

pub stop_accounted : (A : Inputs) (s : State) (k : Kernel) (image : SwapImage) (stop : Stop) (new : Standing) (j : Option SwapImage) → At A s k image
    → length s.point.flat.processes ≤ 64
    → StopLeads A s k image stop new j → StopsAccounted A s k image stop new j
stop_accounted A s k image stop new j at crowd x = record {
  led = x;
  account = leads_accounted A s x.state k x.kernel image x.units (Some x.behind) at x.leads;
  economy = leads_economical A s x.state k x.kernel image x.units (Some x.behind) at x.leads crowd;
  swapped = leads_swapped A s x.state k x.kernel image x.units (Some x.behind) at x.leads x.behind refl;
}
