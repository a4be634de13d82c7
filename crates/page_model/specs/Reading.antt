-- The read of a page together with its run, as one step.
use Rattle.vm_facts.specs.declared.page.Page.{Page}
use Rattle.vm_facts.specs.declared.page.PageState.{PageState}
use Rattle.vm_facts.specs.declared.page.PageState.TheVariants.{OnSwap}
use Rattle.vm_facts.specs.declared.entry.Entry.{Entry}
use Rattle.vm_facts.specs.declared.entry.Entry.TheVariants as entries
use Rattle.page_model.specs.Placement.{Placement, Errand, Reads, Source, FromSwap, FromFile, state_of}
use Rattle.page_model.specs.Moves.{get_run}
use Rattle.page_model.specs.Runs.{run_in, pages_of_run}

-- Where a page is read from.
abbrev pub source_for : PageState → Source
source_for OnSwap = FromSwap
source_for _ = FromFile

-- what the read of a page is for: from swap where its state says so, else from the image's file, with this page demanded
abbrev pub read_errand : Placement → Page → Errand
read_errand p q = Reads (source_for (state_of p q)) q

-- the read of a page with its run
abbrev pub read_step : Placement → Page → Placement
read_step p q = get_run p (read_errand p q) (pages_of_run q (run_in p q))

-- the entry of the read of a page with its run
abbrev pub read_entry : Placement → Page → Entry
read_entry p q = entries.Get q (run_in p q).lo (run_in p q).n
