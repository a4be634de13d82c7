-- What one unit of serving comes to, whether waiting is allowed or not.
use Rattle.std.specs.Prelude.{◌≡◌, ◌<◌, ◌≤◌, Bool, true, false, List, [], length, Option, Some, None}
use Rattle.vm_facts.specs.SwapImages.{SwapImage}
use Rattle.vm_facts.specs.declared.page.Page.{Page}
use Rattle.vm_facts.specs.declared.page.PageState.{PageState}
use Rattle.vm_facts.specs.declared.page.PageState.TheVariants.{Coming, Going}
use Rattle.vm_facts.specs.declared.stop.Stop.{Stop}
use Rattle.vm_facts.specs.declared.entry.Entry.TheVariants as entries
use Rattle.io_edge.specs.FileHolding.{NamedFile}
use Rattle.page_model.specs.Pages.{frame_of, is_valid}
use Rattle.page_model.specs.Placement.{Placement, state_of}
use Rattle.clock_hands.specs.Machine.{Standing}
use Rattle.clock_hands.specs.Sourced.{files_named}
use Rattle.clock_hands.specs.Done.{sources, IsDone, ImageAfter, KeepsThrough}
use Rattle.clock_hands.specs.Settled.{IsSameBeside}
use Rattle.clock_hands.specs.LastMoves.{last_moves}
use Rattle.fault_fill.specs.Serving.{UnitMade, UnitStops, ServesTo}
use Rattle.fault_fill.specs.declared.served.Served.{Served}
use Rattle.fault_fill.specs.declared.served.Served.TheVariants as served

-- a read or a write of the page is in flight
abbrev pub is_flying : PageState → Bool
is_flying (Coming f) = true
is_flying (Going f) = true
is_flying _ = false

-- the page has no frame, and none is free
pub record NeedsFrame (p : Placement) (q : Page) : Type 0 where
  pub frameless : frame_of (state_of p q) ≡ None
  pub none : p.free ≡ []

-- a unit that is the next one whether waiting is allowed or not
abbrev pub AnyUnit : Page → Standing → Standing → Option (List NamedFile) → Option SwapImage → Option SwapImage → Type 0
AnyUnit q old new holds before after = (now : Bool) (locked : List Page) → UnitMade now locked q old new holds before after

-- a stop where the next unit would be, whether waiting is allowed or not
abbrev pub AnyStop : Page → Standing → Standing → Option SwapImage → Option SwapImage → Stop → Type 0
AnyStop q old new before after stop = (now : Bool) → UnitStops now q old new before after stop

-- a unit that calls no device
abbrev pub PlainMade : Page → Standing → Standing → Type 0
PlainMade q old new = (holds : Option (List NamedFile)) (image : Option SwapImage) → AnyUnit q old new holds image image

-- a stop where no device is called
abbrev pub PlainStop : Page → Standing → Standing → Stop → Type 0
PlainStop q old new stop = (image : Option SwapImage) → AnyStop q old new image image stop

-- the end of the oldest transfer
pub record EndMade (old new : Standing) (holds : Option (List NamedFile)) (before after : Option SwapImage) : Type 0 where
  pub done : IsDone (sources old holds) before old.kernel new.kernel
  pub told : ImageAfter (files_named old.images) old.kernel before after
  pub rest : IsSameBeside old new
  pub keeps : KeepsThrough old new holds before after

-- nothing was done
pub record NoneMade (old new : Standing) (before after : Option SwapImage) : Type 0 where
  pub machine : new ≡ old
  pub image : after ≡ before

-- the answer, by the page's state: valid, in flight, or with no frame while none is free; an access alone is answered otherwise
abbrev pub IsAnswer : Served → Placement → Page → Type 0
IsAnswer served.Valid p q = is_valid (state_of p q) ≡ true
IsAnswer (served.Asleep r) p q = (r ≡ q) × (is_flying (state_of p q) ≡ true)
IsAnswer served.NoFrame p q = NeedsFrame p q
IsAnswer served.NoSpace p q = ⊥
IsAnswer (served.Signal signal) p q = ⊥

-- a unit was made, or nothing was done and this is the answer
abbrev pub ComesTo : Option Served → Page → Standing → Standing → Option (List NamedFile) → Option SwapImage → Option SwapImage → Type 0
ComesTo None q old new holds before after = AnyUnit q old new holds before after
ComesTo (Some answer) q old new holds before after = NoneMade old new before after × IsAnswer answer old.kernel.place q

-- Where a call that serves the page now came to: further, by some units, after which a last entry that counts moves of the
-- hands counts few where no frame is free; or it did nothing, since the page is valid.
pub record Further (locked : List Page) (q : Page) (old new : Standing) (holds : Option (List NamedFile)) (before after : Option SwapImage) : Type 0 where
  pub serves : ServesTo true locked q old new holds before after
  pub some : 0 < length serves.units
  pub low : new.kernel.place.free ≡ [] → last_moves new.kernel.journal ≤ 1000000

-- what serving the page now came to, by whether it went further
abbrev pub GoesFurther : Bool → List Page → Page → Standing → Standing → Option (List NamedFile) → Option SwapImage → Option SwapImage → Type 0
GoesFurther true locked q old new holds before after = Further locked q old new holds before after
GoesFurther false locked q old new holds before after = NoneMade old new before after × (is_valid (state_of old.kernel.place q) ≡ true)
