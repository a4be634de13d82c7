-- Who holds a space holds one that is there, and alone. This rests on no byte, so it stands whatever the devices tell of what
-- they hold. Nothing of spaces that are lent is wanted: a lender holds none, and takes back the space that its child gives.
use Rattle.std.specs.Prelude.{◌≡◌, ℕ}
use Rattle.kernel_model.specs.Asks.{HasSpace}
use Rattle.kernel_model.specs.Kernel.{HoldsSpace, Kernel}
use Rattle.table_steps.specs.Calls.{life_in}

-- who holds a space holds one that is there
abbrev pub HoldersHaveSpaces : Kernel → Type 0
HoldersHaveSpaces k = (pid sid : ℕ) → life_in k pid ≡ HoldsSpace sid → HasSpace k.place sid

-- each process that holds a space holds one that is there, and no two hold one
pub record HoldersStand (k : Kernel) : Type 0 where
  pub spaces : HoldersHaveSpaces k
  -- no two processes hold one space
  pub once : (pid qid sid : ℕ) → life_in k pid ≡ HoldsSpace sid → life_in k qid ≡ HoldsSpace sid → pid ≡ qid
