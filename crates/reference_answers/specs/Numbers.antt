-- Pages as numbers: each page has the number of its place among pages, the first one 1.
use Rattle.std.specs.Prelude.{ℕ, ◌+◌, ◌-◌, ◌==◌, if◌then◌else◌, List, map, Option, None, slice_get}
use Rattle.std.specs.List.{position_or_len}
use Rattle.vm_facts.specs.declared.page.Page.{Page}
use Rattle.flat_state.specs.PageNames.{same_page}
use Rattle.flat_model.specs.Touched.{distinct}

-- the number of a page among pages, where the first one has this number; one past them all, where it is none of them
unfoldable pub number_from : ℕ → List Page → Page → ℕ
number_from first pages page = first + position_or_len (same_page page) pages

-- references by number: pages are counted from 1 in the order of their first references
unfoldable pub numbers_of : List Page → List ℕ
numbers_of refs = map (number_from 1 (distinct refs)) refs

-- the page with a number among pages, where there is one
abbrev pub page_numbered : List Page → ℕ → Option Page
page_numbered pages number = if number == 0 then None else slice_get pages (number - 1)
