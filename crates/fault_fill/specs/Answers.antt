-- What serving a page answers, and which units were made meanwhile.
use Rattle.std.specs.Prelude.{◌≡◌, ◌+◌, ◌≤◌, Bool, true, false, List, [], length, Option}
use Rattle.vm_facts.specs.SwapImages.{SwapImage}
use Rattle.vm_facts.specs.declared.page.Page.{Page}
use Rattle.io_edge.specs.FileHolding.{NamedFile}
use Rattle.page_model.specs.Pages.{is_valid}
use Rattle.page_model.specs.Placement.{Placement, state_of}
use Rattle.clock_hands.specs.Spans.{takings}
use Rattle.clock_hands.specs.Machine.{Standing}
use Rattle.fault_fill.specs.Serving.{ServesTo}
use Rattle.fault_fill.specs.Units.{IsAnswer}
use Rattle.fault_fill.specs.declared.served.Served.{Served}

-- served so, and at most one unit takes frames for the page: a fill with zeros or a read
pub record TakesOnce (now : Bool) (locked : List Page) (q : Page) (old new : Standing) (holds : Option (List NamedFile))
    (before after : Option SwapImage) : Type 0 where
  pub serves : ServesTo now locked q old new holds before after
  pub takes : takings serves.units ≤ 1

-- units of serving lead to where the answer is so
abbrev pub ServesAs : Served → Page → Standing → Standing → Option (List NamedFile) → Option SwapImage → Option SwapImage → Type 0
ServesAs answer q old new holds before after = ServesTo false [] q old new holds before after × IsAnswer answer new.kernel.place q

-- units of serving, for which waiting is allowed, lead to where the page is valid
abbrev pub ServesNow : List Page → Page → Standing → Standing → Option (List NamedFile) → Option SwapImage → Option SwapImage → Type 0
ServesNow locked q old new holds before after = ServesTo true locked q old new holds before after × (is_valid (state_of new.kernel.place q) ≡ true)

-- the page was served as far as that needs no waiting
abbrev pub ServedAs : Served → Page → Standing → Standing → Option (List NamedFile) → Option SwapImage → Option SwapImage → Type 0
ServedAs answer q old new holds before after = TakesOnce false [] q old new holds before after × IsAnswer answer new.kernel.place q

-- the page was served until it is valid
abbrev pub ServedNow : List Page → Page → Standing → Standing → Option (List NamedFile) → Option SwapImage → Option SwapImage → Type 0
ServedNow locked q old new holds before after = TakesOnce true locked q old new holds before after × (is_valid (state_of new.kernel.place q) ≡ true)

-- each page that was valid still is
abbrev pub AllStayValid : Placement → Placement → Type 0
AllStayValid p r = (w : Page) → is_valid (state_of p w) ≡ true → is_valid (state_of r w) ≡ true

-- At most 5 entries more than the number by which the transfers in flight fall, and no more of these where the page is
-- valid at the end.
pub record IsShort (q : Page) (old new : Standing) : Type 0 where
  pub few : length new.kernel.journal + length new.kernel.place.transfers ≤ length old.kernel.journal + length old.kernel.place.transfers + 5
  pub flights : is_valid (state_of new.kernel.place q) ≡ true → length new.kernel.place.transfers ≤ length old.kernel.place.transfers
