-- Which page comes to be valid by a paging entry.
use Rattle.std.proofs.Common.{ℕ, ◌+◌, ap, arith, List}
use Rattle.vm_facts.specs.declared.page.Page.{Page}
use Rattle.vm_facts.specs.declared.entry.Entry.{Entry}
use Rattle.vm_facts.specs.declared.entry.Entry.TheVariants as entries
use Rattle.flat_state.specs.PageNames.{number_of, pages_from}
use Rattle.page_model.specs.Placement.{Placement, state_of}
use Rattle.page_model.specs.Place.{filled, place_entry}
use Rattle.page_model.specs.Reading.{source_for}
use Rattle.page_model.specs.Moves.{reclaim}
use Rattle.economy_laws.specs.Stretch.{copies}
use Rattle.fault_laws.specs.Faults.{own_fault}
use Rattle.fault_laws.proofs.Gains.{Gain, GainsNone, GainsOne, reads_of, keeps_self, keeps_gain, fill_gains, fill_reads, get_run_valid, get_run_reads, reclaim_gains, reclaim_reads, moves_keep, put_step_keeps, done_gain}

filled_gain : (p : Placement) (q : Page) → Gain p (filled p q) 1
filled_gain p q = GainsOne q (fill_gains p q) (let k = ap reads_of (fill_reads p q) in omega arith)

reclaim_gain : (p : Placement) (q : Page) → Gain p (reclaim p q) 1
reclaim_gain p q = GainsOne q (reclaim_gains p q) (let k = ap reads_of (reclaim_reads p q) in omega arith)

pub entry_gain : (locked : List Page) (at : ℕ) (p : Placement) (e : Entry) → Gain p (place_entry locked at p e) (own_fault e + copies e)
entry_gain locked at p (entries.Zero q) = filled_gain p q
entry_gain locked at p (entries.Copy q) = filled_gain p q
entry_gain locked at p (entries.Get q lo n) =
    GainsNone (get_run_valid p (source_for (state_of p q)) q (pages_from q lo n)) (get_run_reads p (source_for (state_of p q)) q (pages_from q lo n))
entry_gain locked at p (entries.Reclaim q) = reclaim_gain p q
entry_gain locked at p (entries.Hands n) = keeps_gain p (place_entry locked at p (entries.Hands n)) (moves_keep n p locked)
entry_gain locked at p (entries.Put q n) = keeps_gain p (place_entry locked at p (entries.Put q n)) (put_step_keeps p q (pages_from q (number_of q) n))
entry_gain locked at p entries.Done = done_gain p
entry_gain locked at p (entries.SwapOut pid) = GainsNone (λ w h. h) (omega arith)
entry_gain locked at p (entries.SwapIn pid) = GainsNone (λ w h. h) (omega arith)
entry_gain locked at p _ = keeps_gain p p (keeps_self p)
