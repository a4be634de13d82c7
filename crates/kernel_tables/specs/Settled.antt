-- Transfers that end one after another, until none names a page of a space.
use Rattle.std.specs.Prelude.{◌≡◌, ℕ, zero, suc, ◌==◌, true, false, cond, List, [], ◌∷◌, Option, Some, None}
use Rattle.vm_facts.specs.SwapImages.{SwapImage}
use Rattle.vm_facts.specs.declared.stop.Stop.{Stop}
use Rattle.transfer_ring.specs.FileHolding.{NamedFile}
use Rattle.space_map.specs.Space.{Places}
use Rattle.page_model.specs.Swapper.{is_settled}
use Rattle.kernel_model.specs.Kernel.{Kernel}
use Rattle.kernel_tables.specs.Machine.{Standing}
use Rattle.kernel_tables.specs.Sourced.{files_named}
use Rattle.kernel_tables.specs.Done.{Sources, sources, IsDone, ImageAfter, StopsEnding}

-- so many transfers end, one after another, each while the space isn't settled
abbrev pub EndsWhile : Sources → ℕ → ℕ → Kernel → Option SwapImage → Kernel → Option SwapImage → Type 0
EndsWhile from sid zero k i l j = (l ≡ k) × (j ≡ i)
EndsWhile from sid (suc n) k i l j =
    (is_settled k.place sid ≡ false)
    × ((next : Kernel) × (between : Option SwapImage) × IsDone from i k next × ImageAfter (files_named from.images) k i between × EndsWhile from sid n next
    between l j)

-- until it is settled
pub record SettledBy (from : Sources) (sid : ℕ) (old new : Kernel) (before after : Option SwapImage) : Type 0 where
  pub count : ℕ
  pub ends : EndsWhile from sid count old before new after
  pub settled : is_settled new.place sid ≡ true

-- all but the kernel and the room is as before
pub record IsSameBeside (old new : Standing) : Type 0 where
  pub params : new.params ≡ old.params
  pub images : new.images ≡ old.images
  pub before : new.before ≡ old.before

-- the machine stops at the end of a transfer, after so many, and the space isn't settled there
pub record StopsSettling (sid : ℕ) (old new : Standing) (holds : Option (List NamedFile)) (before after : Option SwapImage) (stop : Stop) : Type 0 where
  pub count : ℕ
  pub between : Standing
  pub image : Option SwapImage
  pub ends : EndsWhile (sources old holds) sid count old.kernel before between.kernel image
  pub beside : IsSameBeside old between
  pub unsettled : is_settled between.kernel.place sid ≡ false
  pub stops : StopsEnding between new image after stop

-- the image of the space with this number
abbrev pub image_found : List Places → ℕ → Option ℕ
image_found [] sid = None
image_found (s ∷ ss) sid = cond (s.sid == sid) (Some s.image) (image_found ss sid)
