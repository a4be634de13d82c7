-- What there is to do for a page, by its state: a table, whose rows the pager follows unit by unit.
use Rattle.std.specs.Prelude.{◌≡◌, ℕ, Bool, true, false, nat_le, List, [], ◌∷◌, length, Option, Some, None}
use Rattle.vm_facts.specs.Swap.{most_in_flight}
use Rattle.vm_facts.specs.declared.page.Page.{Page}
use Rattle.vm_facts.specs.declared.page.PageState.{PageState}
use Rattle.vm_facts.specs.declared.page.PageState.TheVariants.{Unfilled, Valid, Invalid, Coming, Going, OnSwap}
use Rattle.vm_facts.specs.declared.entry.Entry.{Entry}
use Rattle.vm_facts.specs.declared.entry.Entry.TheVariants as entries
use Rattle.page_model.specs.Pages.{Filling, Zeros}
use Rattle.page_model.specs.Placement.{Placement, Transfer, state_of, filling_of}
use Rattle.page_model.specs.Reading.{read_entry}
use Rattle.page_model.specs.Place.{place_entry}

-- The entry of forcing a frame: the oldest transfer completes where one is in flight; otherwise the hands make one move.
abbrev pub force_entry : List Transfer → Entry
force_entry [] = entries.Hands 1
force_entry (t ∷ ts) = entries.Done

-- the placement after one unit of forcing a frame
abbrev pub force : Placement → List Page → Placement
force p locked = place_entry locked 0 p (force_entry p.transfers)

-- as many transfers are in flight as may be
abbrev pub is_full : Placement → Bool
is_full p = nat_le most_in_flight (length p.transfers)

-- what there is to do for a page: nothing, an entry at once, or an entry for which one has to wait
pub data Serving : Type 0 where
  NotNeeded : Serving
  AtOnce : Entry → Serving
  ByWaiting : Entry → Serving

-- The table of serving, by the page's state, the free frames, what fills the page, and whether 16 transfers are in flight.
abbrev pub serving_by : Placement → Page → PageState → List ℕ → Filling → Bool → Serving
serving_by p q (Valid f) free x full = NotNeeded
serving_by p q (Invalid f) free x full = AtOnce (entries.Reclaim q)
serving_by p q (Coming f) free x full = ByWaiting entries.Done
serving_by p q (Going f) free x full = ByWaiting entries.Done
serving_by p q _ [] x full = ByWaiting (force_entry p.transfers)
serving_by p q Unfilled (f ∷ fs) Zeros full = AtOnce (entries.Zero q)
serving_by p q _ (f ∷ fs) x true = AtOnce entries.Done
serving_by p q _ (f ∷ fs) x false = AtOnce (read_entry p q)

-- what there is to do for a page
abbrev pub serving : Placement → Page → Serving
serving p q = serving_by p q (state_of p q) p.free (filling_of p q) (is_full p)

-- the unit of this: none where nothing is needed, or where one has to wait and `now` is false
abbrev pub unit_of_serving : Serving → Bool → Option Entry
unit_of_serving NotNeeded now = None
unit_of_serving (AtOnce e) now = Some e
unit_of_serving (ByWaiting e) true = Some e
unit_of_serving (ByWaiting e) false = None

-- The next unit of serving a page: none where it is valid, or where `now` is false and serving would have to wait.
abbrev pub serve_unit : Placement → Page → Bool → Option Entry
serve_unit p q now = unit_of_serving (serving p q) now

-- the entry of this, waiting or not; `Done` stands where nothing is needed
abbrev pub entry_of_serving : Serving → Entry
entry_of_serving NotNeeded = entries.Done
entry_of_serving (AtOnce e) = e
entry_of_serving (ByWaiting e) = e

-- the entry of one unit of serving a page; a valid page has no unit, as `serve_unit` says, and `Done` stands here
abbrev pub serve_entry : Placement → Page → Entry
serve_entry p q = entry_of_serving (serving p q)

-- the placement after this: where nothing is needed as before, else as its entry leaves it
abbrev pub after_serving : Placement → List Page → Serving → Placement
after_serving p locked NotNeeded = p
after_serving p locked (AtOnce e) = place_entry locked 0 p e
after_serving p locked (ByWaiting e) = place_entry locked 0 p e

-- the placement after one unit of serving a page
abbrev pub serve_step : Placement → List Page → Page → Placement
serve_step p locked q = after_serving p locked (serving p q)

-- each of these units is the one that serving asks for, and they lead from the first placement to the last
abbrev pub Serves : List Entry → Placement → List Page → Page → Bool → Placement → Type 0
Serves [] p locked q now r = p ≡ r
Serves (e ∷ es) p locked q now r = (serve_unit p q now ≡ Some e) × Serves es (serve_step p locked q) locked q now r

-- these units force a frame, each where none is free
abbrev pub Forces : List Entry → Placement → List Page → Placement → Type 0
Forces [] p locked r = p ≡ r
Forces (e ∷ es) p locked r = (p.free ≡ []) × (e ≡ force_entry p.transfers) × Forces es (force p locked) locked r
