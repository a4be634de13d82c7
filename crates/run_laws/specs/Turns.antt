-- In which order lines, turns and notes come, and what is so where a process steps.
use Rattle.std.specs.Prelude.{◌≡◌, ◌≢◌, ℕ, ◌+◌, ◌<◌, ◌≤◌, true, false, List, [], length, Option, Some}
use Rattle.vm_facts.specs.Lists.{times}
use Rattle.vm_facts.specs.declared.page.Page.{Page}
use Rattle.vm_facts.specs.declared.page.PageState.TheVariants.{Valid}
use Rattle.vm_facts.specs.declared.entry.Entry.{Entry}
use Rattle.vm_facts.specs.declared.entry.Entry.TheVariants as entries
use Rattle.flat_state.specs.Flat.{Inputs, can_step}
use Rattle.page_model.specs.Placement.{Placement, Moving, state_of, page_of, parts_of, flying}
use Rattle.page_model.specs.Conditions.{EachPage}
use Rattle.page_model.specs.Ownership.{Each}
use Rattle.page_model.specs.Swapper.{is_out}
use Rattle.flat_model.specs.Run.{process_of_entry}
use Rattle.flat_model.specs.Touched.{touched}
use Rattle.run_model.specs.Snapshot.{Snapshot}
use Rattle.run_model.specs.Next.{owners_of}

-- The page is valid: its bytes are in a frame of its own, which neither the free list nor a transfer has, and no transfer has the page.
pub record HasItsFrame (p : Placement) (q : Page) : Type 0 where
  pub frame : ℕ
  pub valid : state_of p q ≡ Valid frame
  pub own : page_of p frame ≡ Some q
  pub unlisted : times frame p.free ≡ 0
  pub unmoved : times frame (flying (parts_of p.transfers)) ≡ 0
  pub still : Each (λ (m : Moving). m.page ≢ q) (parts_of p.transfers)

-- A process steps in memory: it is the one that runs, it can step, it is in, no fill is due, and each page that its step touches is
-- in a frame.
pub record StepsInMemory (A : Inputs) (x : Snapshot) (pid : ℕ) : Type 0 where
  pub runs : x.running ≡ Some pid
  pub steps : can_step x.point.flat pid ≡ true
  pub resident : is_out x.place pid ≡ false
  pub clear : x.place.due ≡ []
  pub pages : EachPage (HasItsFrame x.place) (touched A x.point.flat pid)

-- Lines of the schedule come in their order. Turns come after the last one, each of a process that can step. A note has the numbers
-- of the snapshot. An entry of a process comes where the process steps in memory.
abbrev pub ComesInTurn : Inputs → Snapshot → Entry → Type 0
ComesInTurn A x (entries.Event line) = (line ≡ x.lines + 1) × (x.lines < length A.lines)
ComesInTurn A x (entries.Turn pid) = (length A.lines ≤ x.lines) × (can_step x.point.flat pid ≡ true)
ComesInTurn A x (entries.Owners free used moving held) = entries.Owners free used moving held ≡ owners_of x.place x.holdings
ComesInTurn A x u = (pid : ℕ) → process_of_entry u ≡ Some pid → StepsInMemory A x pid
