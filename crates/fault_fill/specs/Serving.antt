-- What serving a page asks of the machine, and to which units it comes.
use Rattle.std.specs.Prelude.{◌≡◌, Bool, true, List, [], Option, Some}
use Rattle.vm_facts.specs.SwapImages.{SwapImage}
use Rattle.vm_facts.specs.declared.page.Page.{Page}
use Rattle.vm_facts.specs.declared.entry.Entry.{Entry}
use Rattle.vm_facts.specs.declared.stop.Stop.{Stop}
use Rattle.io_edge.specs.FileHolding.{NamedFile}
use Rattle.page_model.specs.Placement.{Placement, IsThere, state_of, filling_of}
use Rattle.page_model.specs.Conditions.{IsShared}
use Rattle.page_model.specs.Dues.{NotDue}
use Rattle.page_model.specs.Serve.{serve_unit, Serves}
use Rattle.clock_hands.specs.Machine.{Standing}
use Rattle.clock_hands.specs.Sourced.{files_named}
use Rattle.clock_hands.specs.PlaceOf.{is_blank}
use Rattle.clock_hands.specs.Done.{KeepsThrough}
use Rattle.clock_hands.specs.Settled.{IsSameBeside}
use Rattle.clock_hands.specs.Made.{ground, MadeBy, ImageBy, Makes}
use Rattle.clock_hands.specs.Stops.{StopsAt, Work}

-- A page that is there, of text that a space shares where it is text, and not due. Another page may be due, unless this
-- one has to be filled with zeros.
pub record CanServe (p : Placement) (q : Page) : Type 0 where
  pub there : IsThere p q
  pub shared : IsShared p q
  pub fresh : NotDue p.due q
  pub blank : is_blank (state_of p q) (filling_of p q) ≡ true → p.due ≡ []

-- the next unit of serving the page was made, with the swap image before and after it
pub record UnitMade (now : Bool) (locked : List Page) (q : Page) (old new : Standing) (holds : Option (List NamedFile))
    (before after : Option SwapImage) : Type 0 where
  pub entry : Entry
  pub next : serve_unit old.kernel.place q now ≡ Some entry
  pub made : MadeBy (ground old holds locked) entry old.kernel before new.kernel
  pub told : ImageBy (files_named old.images) entry old.kernel before after
  pub rest : IsSameBeside old new
  pub keeps : KeepsThrough old new holds before after

-- the run stopped where that unit comes next
pub record UnitStops (now : Bool) (q : Page) (old new : Standing) (before after : Option SwapImage) (stop : Stop) : Type 0 where
  pub entry : Entry
  pub next : serve_unit old.kernel.place q now ≡ Some entry
  pub stops : StopsAt entry old new before after stop

-- Units of serving the page, one after another, lead from the one machine and swap image to the other, and the flat states
-- for which the machine stood stay so.
pub record ServesTo (now : Bool) (locked : List Page) (q : Page) (old new : Standing) (holds : Option (List NamedFile))
    (before after : Option SwapImage) : Type 0 where
  pub units : List Entry
  pub leads : Serves units old.kernel.place locked q now new.kernel.place
  pub makes : Makes (ground old holds locked) units old new before after
  pub keeps : KeepsThrough old new holds before after

-- the work of serving the page, by hands that pass over these
abbrev pub serving_page : Bool → List Page → Page → Work
serving_page now locked q = record {
  locked = locked;
  Unfinished = λ k us l. Serves us k.place locked q now l.place;
  next = λ p. serve_unit p q now;
}
