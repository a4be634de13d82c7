-- Each unit of a run is accounted for.
use Rattle.std.proofs.Common.{◌≡◌, List, [], ◌∷◌, Some}
use Rattle.vm_facts.specs.declared.entry.Entry.{Entry}
use Rattle.vm_facts.specs.declared.entry.Entry.TheVariants as entries
use Rattle.flat_state.specs.Flat.{Inputs}
use Rattle.kernel_model.specs.Start.{ImagesFit}
use Rattle.run_model.specs.State.{State}
use Rattle.run_model.specs.After.{after}
use Rattle.run_model.specs.Next.{next_unit}
use Rattle.run_model.specs.Lawful.{Follows}
use Rattle.economy_laws.specs.RunLawsRunning.{IsRun}
use Rattle.economy_laws.proofs.Turning.{comes_in_turn}
use Rattle.economy_laws.proofs.Wholes.{unit_run, unit_ready}
use Rattle.economy_laws.proofs.Called.{zero_called, get_called, get_run, reclaim_called, copy_called}
use Rattle.economy_laws.proofs.SmallReads.{read_small}
use Rattle.economy_laws.proofs.Lost.{unit_lost, unit_written}
use Rattle.economy_laws.proofs.Cleaned.{unit_dirty}
use Rattle.run_units.specs.Accounts.{AtEach, IsCalledFor, IsAccounted, Account}
use Rattle.run_units.proofs.Owners.{run_owned}
use Rattle.run_units.proofs.Refusals.{unit_rightly}

unit_called : (A : Inputs) (s : State) (u : Entry) → IsRun A s → next_unit A s ≡ Some u → IsCalledFor A s u
unit_called A s (entries.Zero q) r h = zero_called A s q r h
unit_called A s (entries.Get q lo n) r h =
    let run = get_run A s q lo n h in
    (get_called A s q lo n h, record { first = run.0; many = run.1; small = read_small A s q lo n r h })
unit_called A s (entries.Reclaim q) r h = reclaim_called A s q h
unit_called A s (entries.Copy q) r h = copy_called A s q h
unit_called A s _ r h = tt

unit_accounted : (A : Inputs) (s : State) (u : Entry) → ImagesFit A.images → IsRun A s → next_unit A s ≡ Some u → IsAccounted A s u
unit_accounted A s u images r h = record {
  owned = run_owned A (after A s u) (unit_run A s u images r h);
  ready = λ pid e. unit_ready A s u pid h e;
  turn = comes_in_turn A s u r h;
  refusal = unit_rightly A s u r h;
  called = unit_called A s u r h;
  leaves = λ q f a b. unit_lost A s u q f r h a b;
  written = λ q f d. unit_dirty A s u q f r h d;
  held = λ q f e d. unit_written A s u q f r h e d;
}

each_accounted : (A : Inputs) (us : List Entry) (s t : State) → ImagesFit A.images → IsRun A s → Follows A s us t → AtEach IsAccounted A s us
each_accounted A [] s t images r f = tt
each_accounted A (u ∷ us) s t images r f = (unit_accounted A s u images r f.0, each_accounted A us (after A s u) t images (unit_run A s u images r f.0) f.1)

pub units_accounted : (A : Inputs) (s t : State) (us : List Entry) → ImagesFit A.images → IsRun A s → Follows A s us t → Account A s us
units_accounted A s t us images r f = record { owned = run_owned A s r; each = each_accounted A us s t images r f }
