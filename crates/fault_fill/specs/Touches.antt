-- What serving an access of a process comes to, from the stack's growth to a valid page.
use Rattle.std.specs.Prelude.{◌≡◌, ◌⊎◌, ℕ, ◌+◌, ◌-◌, ◌≤◌, Bool, List, length, Option, Result, Ok, Err}
use Rattle.vm_facts.specs.SwapImages.{SwapImage}
use Rattle.vm_facts.specs.declared.page.Page.{Page}
use Rattle.vm_facts.specs.declared.page.Page.TheVariants as page_names
use Rattle.vm_facts.specs.declared.stop.Stop.{Stop}
use Rattle.io_edge.specs.FileHolding.{NamedFile}
use Rattle.page_model.specs.Conditions.{Spares}
use Rattle.clock_hands.specs.LastMoves.{last_moves}
use Rattle.clock_hands.specs.Stops.{StopsBefore, StopsWhile}
use Rattle.clock_hands.specs.Going.{CanGoOn}
use Rattle.clock_hands.specs.Machine.{Standing}
use Rattle.fault_fill.specs.Serving.{CanServe, serving_page}
use Rattle.fault_fill.specs.Answers.{ServedAs, ServedNow, IsShort, AllStayValid}
use Rattle.fault_fill.specs.Units.{NoneMade}
use Rattle.fault_fill.specs.Growth.{Grown, GrowthRefused}
use Rattle.fault_fill.specs.declared.access.Access.{Access}
use Rattle.fault_fill.specs.declared.access.Access.TheVariants as accesses
use Rattle.fault_fill.specs.declared.served.Served.{Served}
use Rattle.fault_fill.specs.declared.served.Served.TheVariants as served

-- The page of an access.

-- the page of an access, for which the stack has grown where it had to; or why there is none
abbrev pub Reaches : Access → Result Page Served → ℕ → Standing → Standing → Type 0
Reaches (accesses.Page q) (Ok r) pid old new = (r ≡ q) × (new ≡ old)
Reaches (accesses.Page q) (Err answer) pid old new = ⊥
Reaches (accesses.Refused signal) (Ok r) pid old new = ⊥
Reaches (accesses.Refused signal) (Err answer) pid old new = (answer ≡ served.Signal signal) × (new ≡ old)
Reaches (accesses.Growth sid pages) (Ok r) pid old new = (r ≡ page_names.Stack sid (pages - 1)) × Grown old new pid pages
Reaches (accesses.Growth sid pages) (Err answer) pid old new = (answer ≡ served.NoSpace) × GrowthRefused old new pid pages

-- the page may be served in this machine, whose bounds are those of the other
pub record MayServePage (q : Page) (old new : Standing) : Type 0 where
  pub ready : CanGoOn new
  pub params : new.params ≡ old.params
  pub images : new.images ≡ old.images
  pub holds : new.kernel.place.holds ≡ old.kernel.place.holds
  pub low : last_moves new.kernel.journal ≤ last_moves old.kernel.journal
  pub can : CanServe new.kernel.place q

-- the page of an access, where there is one, may be served
abbrev pub ReadyIf : Result Page Served → Standing → Standing → Type 0
ReadyIf (Ok q) old new = MayServePage q old new
ReadyIf (Err answer) old new = Unit {0}

-- Answers.

-- the page was served, in few entries; other valid pages stay valid
pub record TouchedAs (answer : Served) (q : Page) (old new : Standing) (holds : Option (List NamedFile)) (before after : Option SwapImage) : Type 0 where
  pub serves : ServedAs answer q old new holds before after
  pub few : IsShort q old new
  pub low : last_moves new.kernel.journal ≤ last_moves old.kernel.journal
  pub stay : AllStayValid old.kernel.place new.kernel.place

-- the page was served until it is valid; locked pages that were valid stay so
pub record PageComesNow (locked : List Page) (q : Page) (old new : Standing) (holds : Option (List NamedFile)) (before after : Option SwapImage) : Type 0 where
  pub serves : ServedNow locked q old new holds before after
  pub few : IsShort q old new
  pub low : last_moves new.kernel.journal ≤ last_moves old.kernel.journal
  pub spares : Spares old.kernel.place new.kernel.place locked

-- what the answer says of such a page
abbrev pub TouchedNow : List Page → Served → Page → Standing → Standing → Option (List NamedFile) → Option SwapImage → Option SwapImage → Type 0
TouchedNow locked served.Valid q old new holds before after = PageComesNow locked q old new holds before after
TouchedNow locked _ q old new holds before after = ⊥

-- The stack grew, and then something is so of the machine after that.
pub record GrownFirst (old : Standing) (pid pages : ℕ) (Then : Standing → Type 0) : Type 0 where
  pub between : Standing
  pub grown : Grown old between pid pages
  pub behind : Then between

-- growth was refused, and nothing else done
pub record OnlyRefused (old new : Standing) (pid pages : ℕ) (before after : Option SwapImage) : Type 0 where
  pub refused : GrowthRefused old new pid pages
  pub image : after ≡ before

-- What serving an access comes to, by what it asks for and by the answer, where a page is served so. It is refused exactly
-- where the answer is a signal, and finds no space exactly where growth finds no place for its pieces.
abbrev pub AccessComes : (Served → Page → Standing → Type 0) → Access → Served → ℕ → Standing → Standing → Option SwapImage → Option SwapImage → Type 0
AccessComes Touched (accesses.Page q) answer pid old new before after = Touched answer q old
AccessComes Touched (accesses.Refused signal) answer pid old new before after = (answer ≡ served.Signal signal) × NoneMade old new before after
AccessComes Touched (accesses.Growth sid pages) served.NoSpace pid old new before after = OnlyRefused old new pid pages before after
AccessComes Touched (accesses.Growth sid pages) answer pid old new before after = GrownFirst old pid pages (Touched answer (page_names.Stack sid (pages - 1)))

-- Stops.

-- The run stops while the page is served, after few entries. A refused access never stops it. Where the stack has to grow, it stops before
-- growth or its refusal, or once it grew.
abbrev pub AccessStops : Bool → List Page → Access → ℕ → Standing → Standing → Option (List NamedFile) → Option SwapImage → Option SwapImage → Stop → Type 0
AccessStops now locked (accesses.Page q) pid old new holds before after stop =
    StopsWhile (serving_page now locked q) old new holds before after stop
    × (length new.kernel.journal ≤ length old.kernel.journal + length old.kernel.place.transfers + 5)
AccessStops now locked (accesses.Refused signal) pid old new holds before after stop = ⊥
AccessStops now locked (accesses.Growth sid pages) pid old new holds before after stop =
    (StopsBefore old new stop × (after ≡ before))
    ⊎ GrownFirst old pid pages (λ between. StopsWhile (serving_page now locked (page_names.Stack sid (pages - 1))) between new holds before after stop
    × (length new.kernel.journal ≤ length between.kernel.journal + length between.kernel.place.transfers + 5))
