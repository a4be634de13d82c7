-- From the start of a run.
use Rattle.std.proofs.Common.{◌≡◌, ◌≤◌, List, [], length, Option, Some, refl, sym, ap, ◌∙◌, arith}
use Rattle.vm_facts.specs.SwapImages.{SwapImage}
use Rattle.vm_facts.specs.declared.entry.Entry.{Entry}
use Rattle.swap_book.specs.Holdings.{Holdings}
use Rattle.flat_state.specs.Flat.{Inputs}
use Rattle.flat_state.specs.Journal.{appended}
use Rattle.kernel_model.specs.Kernel.{Kernel}
use Rattle.run_model.specs.State.{State, start}
use Rattle.run_model.specs.Lawful.{Follows, IsLawful}
use Rattle.run_model.specs.Swapped.{left_from, swap_left}
use Rattle.run_model.proofs.After.{units_journal}
use Rattle.economy_laws.proofs.Sizing.{started_few}
use Rattle.economy_laws.specs.Machine.{StandsAt}
use Rattle.economy_laws.specs.RunLawsRunning.{CanRun}
use Rattle.economy_laws.proofs.Lawful.{follows_state}
use Rattle.economy_laws.proofs.Machines.{swaps_follow}
use Rattle.economy_laws.proofs.SwapImages.{images_left, left_same}
use Rattle.economy_laws.proofs.Wholes.{start_run, reached_lawful}
use Rattle.run_units.specs.Leads.{Leads}
use Rattle.run_units.specs.Serving.{At}
use Rattle.run_units.specs.Accounts.{Account}
use Rattle.run_units.specs.Economy.{Economy}
use Rattle.run_units.proofs.Accounts.{units_accounted}
use Rattle.run_units.proofs.Stretches.{units_economical}

-- Machines.

module _ (A : Inputs) (s t : State) (k l : Kernel) (image : SwapImage) (us : List Entry) (j : Option SwapImage) where
  pub leads_follow : Leads A s k image us t l j → Follows A s us t
  leads_follow a = swaps_follow A us s t k l image a.behind a.makes

  pub leads_image : At A s k image → (a : Leads A s k image us t l j) → a.behind ≡ left_from A s us image
  leads_image at a = images_left A us s t k l image a.behind at.fit at.run at.stands a.makes

  pub leads_told : At A s k image → Leads A s k image us t l j → j ≡ Some (left_from A s us image)
  leads_told at a = a.told ∙ ap (λ (x : SwapImage). Some x) (leads_image at a)

-- The start.

module _ (A : Inputs) (hs : Holdings) (us : List Entry) (t : State) (can : CanRun A hs) (f : Follows A (start A hs) us t) where
  pub journal_lawful : (t.journal ≡ appended [] us) × IsLawful A (appended [] us) t
  journal_lawful = (
    ap (λ (x : State). x.journal) (sym (follows_state A us (start A hs) t f)) ∙ units_journal A (start A hs) us,
    reached_lawful A hs (appended [] us) t can (record { holdings = hs; found = can.pieces; units = us; follows = f; joined = refl }),
  )

  pub journal_accounted : Account A (start A hs) us
  journal_accounted = units_accounted A (start A hs) t us can.images (start_run A hs can) f

  pub journal_economical : length A.first ≤ 64 → Economy A (start A hs) us
  journal_economical l = units_economical A (start A hs) t us can.images (start_run A hs can) f (let few = started_few A.images 1 A.first in omega (arith, few, l))

pub journal_image : (A : Inputs) (hs : Holdings) (t : State) (k l : Kernel) (image : SwapImage) (us : List Entry) (j : Option SwapImage) → CanRun A hs
    → StandsAt A (start A hs) k image.bytes
    → Leads A (start A hs) k image us t l j → j ≡ Some (swap_left A (appended [] us) image)
journal_image A hs t k l image us j can at a =
    leads_told A (start A hs) t k l image us j (record { fit = can.images; run = start_run A hs can; stands = at }) a
    ∙ ap (λ (x : SwapImage). Some x) (left_same A hs us (appended [] us) t image can (leads_follow A (start A hs) t k l image us j a) refl)
