-- The units by which a line of the schedule moves the hands, and how many moves they are.
use Rattle.std.specs.Prelude.{◌≡◌, ℕ, ◌-◌, ◌<◌, ◌≤◌, Bool, true, false, List, [], ◌∷◌, Option, Some}
use Rattle.vm_facts.specs.SwapImages.{SwapImage}
use Rattle.vm_facts.specs.declared.entry.Entry.{Entry}
use Rattle.vm_facts.specs.declared.entry.Entry.TheVariants as entries
use Rattle.io_edge.specs.FileHolding.{NamedFile}
use Rattle.page_model.specs.Placement.{Placement}
use Rattle.page_model.specs.Hands.{wants_moves}
use Rattle.page_model.specs.Place.{place_entry}
use Rattle.kernel_model.specs.Kernel.{Kernel}
use Rattle.paging_units.specs.Machine.{Standing}
use Rattle.page_laws.specs.Spans.{moves, moves_of}
use Rattle.run_model.specs.Next.{move_unit}
use Rattle.paging_units.specs.Made.{ground, Makes}
use Rattle.paging_units.specs.Stops.{Work}

-- Of so many moves that are asked for, these units are made: while some are left and fewer than a quarter of the frames
-- are free, the unit that the policy names for a move; the end of a transfer counts for no move.
abbrev pub Moves : List Entry → ℕ → Placement → Placement → Type 0
Moves [] n p r = p ≡ r
Moves (e ∷ us) n p r = (0 < n) × (wants_moves p ≡ true) × (e ≡ move_unit p []) × Moves us (n - moves e) (place_entry [] 0 p e) r

-- the unit is a move of the hands, or the end of a transfer
abbrev pub IsMoveOf : Entry → Bool → Type 0
IsMoveOf e true = e ≡ entries.Hands 1
IsMoveOf e false = e ≡ entries.Done

-- The call makes such units and answers how many moves they are: as many as are asked for, or fewer where a quarter of the
-- frames are free then.
pub record Moved (n : ℕ) (old new : Standing) (made : ℕ) (holds : Option (List NamedFile)) (i j : Option SwapImage) : Type 0 where
  pub units : List Entry
  pub moves : Moves units n old.kernel.place new.kernel.place
  pub makes : Makes (ground old holds []) units old new i j
  pub counted : made ≡ moves_of units
  pub most : made ≤ n
  pub fewer : made < n → wants_moves new.kernel.place ≡ false

-- of so many moves these units are made, and some move is left and wanted in the kernel to which they lead
pub record StillMoving (n : ℕ) (p : Placement) (us : List Entry) (k : Kernel) : Type 0 where
  pub moves : Moves us n p k.place
  pub left : moves_of us < n
  pub wants : wants_moves k.place ≡ true

-- the work of so many moves of the hands
abbrev pub moving_hands : ℕ → Work
moving_hands n = record { locked = []; Unfinished = λ k. StillMoving n k.place; next = λ p. Some (move_unit p []) }
