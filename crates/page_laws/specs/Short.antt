-- Statements that serving a page adds few entries to a journal.
use Rattle.std.specs.Prelude.{◌≡◌, ◌+◌, ◌≤◌, Bool, true, List, length}
use Rattle.vm_facts.specs.declared.page.Page.{Page}
use Rattle.vm_facts.specs.declared.entry.Entry.{Entry}
use Rattle.page_model.specs.Journal.{appended}
use Rattle.page_model.specs.Pages.{is_valid}
use Rattle.page_model.specs.Placement.{Placement, state_of, IsThere}
use Rattle.page_model.specs.Serve.{Serves}
use Rattle.page_model.specs.Ownership.{OwnsFrames}

-- serving a page adds at most 5 entries more than the number by which the transfers fall
abbrev pub ServingAddsFew : Type 0
ServingAddsFew = (p r : Placement) (locked : List Page) (q : Page) (now : Bool) (journal us : List Entry)
    → OwnsFrames p → IsThere p q → Serves us p locked q now r
    → length (appended journal us) + length r.transfers ≤ length journal + length p.transfers + 5

-- where the page is valid, no more transfers are in flight than at first
abbrev pub ServingLeavesFlights : Type 0
ServingLeavesFlights = (p r : Placement) (locked : List Page) (q : Page) (now : Bool) (us : List Entry)
    → OwnsFrames p → IsThere p q → Serves us p locked q now r → is_valid (state_of r q) ≡ true
    → length r.transfers ≤ length p.transfers
