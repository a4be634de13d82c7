-- Statement that what is due still stands after a change of a process.
use Rattle.std.specs.Prelude.{◌≡◌, []}
use Rattle.page_model.specs.Change.{Change as AnyChange}
use Rattle.page_model.specs.Placement.{Placement}
use Rattle.page_model.specs.Place.{Changing, place_change}
use Rattle.page_model.specs.Conditions.{CanChange, ApartFrom}
use Rattle.page_model.specs.Dues.{DueStand}

-- after a change that comes while nothing is due, what is due stands
abbrev pub ChangeKeepsDue : Type 0
ChangeKeepsDue = (c : Changing) (p : Placement) (change : AnyChange)
    → p.due ≡ [] → CanChange p c.sid c.borrowed c.next_sid change → ApartFrom c.sid c.borrowed c.next_sid change
    → DueStand (place_change c p change)
