-- What stands after next units, and two leads as one.
use Rattle.std.proofs.Common.{◌≡◌, ℕ, ◌≤◌, false, List, [], ◌++◌, length, Option, Some, sym, ap, ◌∙◌, subst, arith}
use Rattle.std.proofs.lemmas.Option.{same_Some}
use Rattle.vm_facts.specs.SwapImages.{SwapImage}
use Rattle.vm_facts.specs.declared.entry.Entry.{Entry}
use Rattle.vm_facts.specs.declared.stop.Stop.{Stop}
use Rattle.io_edge.specs.FileHolding.{NamedFile}
use Rattle.flat_state.specs.Flat.{Inputs}
use Rattle.flat_state.specs.Journal.{appended}
use Rattle.kernel_model.specs.Kernel.{Kernel}
use Rattle.machine_state.specs.Machine.{Standing}
use Rattle.run_model.specs.State.{State, start}
use Rattle.run_model.specs.Lawful.{Follows}
use Rattle.run_model.proofs.After.{units_journal}
use Rattle.run_model.proofs.Followed.{followed_on}
use Rattle.run_laws.specs.Machine.{StandsAt}
use Rattle.run_laws.proofs.Finishing.{units_below}
use Rattle.run_laws.proofs.Lawful.{follows_state}
use Rattle.vm_core.specs.Leads.{Leads}
use Rattle.vm_core.proofs.RunUnitsJournals.{leads_follow, journal_lawful, journal_accounted, journal_economical}
use Rattle.vm_core.proofs.Units.{none_leads, both_lead}
use Rattle.vm_core.specs.Stepped.{StopLeads}
use Rattle.vm_core.specs.Cores.{StandsIn}
use Rattle.vm_core.specs.Lawful.{IsJournalOf}
use Rattle.vm_core.proofs.Standing.{stands_on, leads_to_stop}
use Rattle.film_core.specs.Ways.{IsReached, RunsOut}
use Rattle.run_laws.proofs.LongerJournals.{units_long}
use Rattle.vm_core.proofs.Journals.{makes_run}

-- Two leads.

pub then_lead : (A : Inputs) (s t r : State) (k l m : Kernel) (image : SwapImage) (i j : Option SwapImage) (us vs : List Entry)
    → (a : Leads A s k image us t l i)
    → Leads A t l a.behind vs r m j
    → Leads A s k image (us ++ vs) r m j
then_lead A s t r k l m image i j us vs a b =
    both_lead A s t r k l m image i j us vs a (λ y e. subst (λ (x : SwapImage). Leads A t l x vs r m j) (same_Some a.behind y (sym a.told ∙ e)) b)

pub then_stop : (A : Inputs) (s t : State) (k l : Kernel) (image : SwapImage) (i j : Option SwapImage) (us : List Entry) (stop : Stop) (new : Standing)
    → (a : Leads A s k image us t l i)
    → StopLeads A t l a.behind stop new j → StopLeads A s k image stop new j
then_stop A s t k l image i j us stop new a x =
    leads_to_stop A s t k l image a.behind us stop new j (subst (λ (o : Option SwapImage). Leads A s k image us t l o) a.told a) x

pub then_out : (A : Inputs) (s t : State) (old mid new : Standing) (image : SwapImage) (i j : Option SwapImage) (us : List Entry)
    → (a : Leads A s old.kernel image us t mid.kernel i)
    → RunsOut mid new j A t a.behind → RunsOut old new j A s image
then_out A s t old mid new image i j us a b = record {
  units = us ++ b.units;
  state = b.state;
  leads = then_lead A s t b.state old.kernel mid.kernel new.kernel image i j us b.units a b.leads;
  none = b.none;
}

-- no units lead to where one is
pub here_leads : (A : Inputs) (s : State) (k : Kernel) (image : SwapImage) (i : Option SwapImage) → i ≡ Some image → Leads A s k image [] s k i
here_leads A s k image i e = subst (λ (o : Option SwapImage). Leads A s k image [] s k o) (sym e) (none_leads A s k image)

-- What stands.

pub reached_on : (A : Inputs) (s t : State) (us : List Entry) → IsReached A s → Follows A s us t → IsReached A t
reached_on A s t us r f = record {
  holdings = r.holdings;
  can = r.can;
  units = r.units ++ us;
  follows = followed_on A (start A r.holdings) s t r.units us r.follows f;
}

pub reached_below : (A : Inputs) (s : State) → IsReached A s → s.count ≤ A.limit
reached_below A s r = units_below A r.units (start A r.holdings) s r.follows (omega arith)

pub leads_reached : (A : Inputs) (s t : State) (k l : Kernel) (image : SwapImage) (us : List Entry) (j : Option SwapImage) → IsReached A s
    → Leads A s k image us t l j → IsReached A t
leads_reached A s t k l image us j r a = reached_on A s t us r (leads_follow A s t k l image us j a)

pub stands_then : (A : Inputs) (s t : State) (old new : Standing) (holds : Option (List NamedFile)) (i j : Option SwapImage) (image : SwapImage)
    (us : List Entry)
    (counted count : ℕ) → IsReached A s
    → StandsIn A s old holds i image counted → (a : Leads A s old.kernel image us t new.kernel j) → new.params ≡ old.params
    → new.images ≡ old.images → t.count ≡ count
    → StandsIn A t new holds j a.behind count
stands_then A s t old new holds i j image us counted count r st a params images same =
    stands_on A s t old new holds i j image us counted count st a params images same
    (let most = reached_below A t (leads_reached A s t old.kernel new.kernel image us j r a) in omega (arith, most, same))

pub leads_run : (A : Inputs) (s t : State) (k l : Kernel) (image : SwapImage) (us : List Entry) (j : Option SwapImage) → Leads A s k image us t l j
    → k.stopped ≡ false → l.stopped ≡ false
leads_run A s t k l image us j a r = makes_run A us s t k l image a.behind a.makes ∙ r

-- the journal of a machine at a state that was reached
pub journal_of_reached : (A : Inputs) (t : State) (l : Kernel) (behind : SwapImage) → length A.first ≤ 64 → (r : IsReached A t) → StandsAt A t l behind.bytes
    → IsJournalOf A l.journal t
journal_of_reached A t l behind few r at =
    let lawful = journal_lawful A r.holdings r.units t r.can r.follows in
    let joined : appended [] r.units ≡ l.journal = sym lawful.0 ∙ sym at.journal in
    record {
      holdings = r.holdings;
      can = r.can;
      units = r.units;
      follows = r.follows;
      joined = joined;
      lawful = subst (λ (es : List Entry). Rattle.run_model.specs.Lawful.IsLawful A es t) joined lawful.1;
      account = journal_accounted A r.holdings r.units t r.can r.follows;
      economy = journal_economical A r.holdings r.units t r.can r.follows few;
    }

pub reached_of_journal : (A : Inputs) (s : State) (journal : List Entry) → IsJournalOf A journal s → IsReached A s
reached_of_journal A s journal m = record { holdings = m.holdings; can = m.can; units = m.units; follows = m.follows }

-- a machine's journal gets no shorter
pub leads_longer : (A : Inputs) (s t : State) (k l : Kernel) (image behind : SwapImage) (us : List Entry) (j : Option SwapImage) → StandsAt A s k image.bytes
    → StandsAt A t l behind.bytes → Leads A s k image us t l j
    → length k.journal ≤ length l.journal
leads_longer A s t k l image behind us j at there a =
    let grown : t.journal ≡ appended s.journal us =
    ap (λ (x : State). x.journal) (sym (follows_state A us s t (leads_follow A s t k l image us j a))) ∙ units_journal A s us in
    let long = units_long us s.journal in
    let one = ap (λ (es : List Entry). length es) (there.journal ∙ grown) in
    let two = ap (λ (es : List Entry). length es) at.journal in
    omega (arith, long, one, two)
