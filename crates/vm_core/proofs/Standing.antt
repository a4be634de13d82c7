-- Where a machine stands after next units.
use Rattle.std.proofs.Common.{◌≡◌, ℕ, ◌≤◌, List, ◌++◌, Option, Some, sym, ap, ◌∙◌, subst, arith}
use Rattle.std.proofs.lemmas.Option.{same_Some}
use Rattle.vm_facts.specs.SwapImages.{SwapImage}
use Rattle.vm_facts.specs.declared.entry.Entry.{Entry}
use Rattle.vm_facts.specs.declared.params.Params.{Params}
use Rattle.vm_facts.specs.declared.stop.Stop.{Stop}
use Rattle.io_edge.specs.FileHolding.{NamedFile}
use Rattle.flat_state.specs.Flat.{Inputs}
use Rattle.kernel_model.specs.Kernel.{Kernel}
use Rattle.machine_state.specs.Sourced.{ImageNamed}
use Rattle.machine_state.specs.Files.{AreRunImages}
use Rattle.machine_state.specs.Machine.{Standing}
use Rattle.proc_run.specs.Reading.{AreNamed}
use Rattle.run_model.specs.State.{State}
use Rattle.economy_laws.proofs.Machines.{swaps_follow}
use Rattle.economy_laws.proofs.Idle.{many_on}
use Rattle.proc_run.specs.Leads.{Leads}
use Rattle.proc_run.proofs.Units.{both_lead, leads_at}
use Rattle.proc_run.specs.Stepped.{StopLeads}
use Rattle.proc_run.proofs.Longwords.{longwords_stay}
use Rattle.vm_core.specs.Cores.{InputsOf, StandsIn}

pub inputs_on : (A : Inputs) (old new : Standing) → InputsOf A old → new.params ≡ old.params → new.images ≡ old.images → InputsOf A new
inputs_on A old new is params images = record {
  named = subst (λ (ns : List ImageNamed). AreNamed A.images ns) (sym images) is.named;
  limit = is.limit ∙ ap (λ (p : Params). p.limit) (sym params);
  images = is.images;
  few = is.few;
}

pub stands_on : (A : Inputs) (s t : State) (old new : Standing) (holds : Option (List NamedFile)) (i j : Option SwapImage) (image : SwapImage)
    (us : List Entry) (counted count : ℕ)
    → StandsIn A s old holds i image counted → (l : Leads A s old.kernel image us t new.kernel j) → new.params ≡ old.params → new.images ≡ old.images
    → t.count ≡ count → count ≤ A.limit
    → StandsIn A t new holds j l.behind count
stands_on A s t old new holds i j image us counted count st l params images same most = record {
  machine = record {
    at = leads_at A s t old.kernel new.kernel image l.behind us st.machine.at (subst (λ (o : Option SwapImage). Leads A s old.kernel image us t new.kernel o) l.told l);
    images = subst (λ (ns : List ImageNamed). AreRunImages ns holds A) (sym images) st.machine.images;
    blocks = ap (λ (p : Params). p.swap_blocks) params ∙ st.machine.blocks;
  };
  told = l.told;
  inputs = inputs_on A old new st.inputs params images;
  longwords = longwords_stay A s t old.kernel new.kernel image j us st.inputs.images st.machine.at l (let few = st.inputs.few in omega arith) st.longwords;
  crowd = many_on A us s t st.machine.at.fit st.machine.at.run st.crowd (swaps_follow A us s t old.kernel new.kernel image l.behind l.makes);
  count = same;
}

-- a stop after next units
pub leads_to_stop : (A : Inputs) (s t : State) (k l : Kernel) (image behind : SwapImage) (us : List Entry) (stop : Stop) (new : Standing) (j : Option SwapImage)
    → Leads A s k image us t l (Some behind)
    → StopLeads A t l behind stop new j → StopLeads A s k image stop new j
leads_to_stop A s t k l image behind us stop new j a x = record {
  units = us ++ x.units;
  state = x.state;
  kernel = x.kernel;
  behind = x.behind;
  leads = both_lead A s t x.state k l x.kernel image (Some behind) (Some x.behind) us x.units a
      (λ b e. subst (λ (y : SwapImage). Leads A t l y x.units x.state x.kernel (Some x.behind)) (same_Some behind b e) x.leads);
  journal = x.journal;
  held = x.held;
  by = x.by;
}
