-- What becomes of two processes where a space passes between them.
use Rattle.std.specs.Prelude.{◌≡◌, ◌≢◌, ℕ, false}
use Rattle.kernel_model.specs.Kernel.{Life, New, HoldsSpace, LendsSpace, Kernel}
use Rattle.kernel_model.specs.Unit.{has_lender}
use Rattle.machine_state.specs.Calls.{life_in}

-- a process that holds a space
abbrev pub IsHolder : Life → Type 0
IsHolder (HoldsSpace sid) = Unit {0}
IsHolder _ = ⊥

-- the parent lends the space that it held to the child, which holds it, and no third process has another life
pub record HasLent (old new : Kernel) (parent child : ℕ) : Type 0 where
  pub sid : ℕ
  pub held : life_in old parent ≡ HoldsSpace sid
  pub lends : life_in new parent ≡ LendsSpace sid child
  pub holds : life_in new child ≡ HoldsSpace sid
  pub others : (pid : ℕ) → pid ≢ parent → pid ≢ child → life_in new pid ≡ life_in old pid

-- the lender holds the space that the child held, the child has none, nobody lends it one, and no third process has
-- another life
pub record HasGivenBack (old new : Kernel) (child lender : ℕ) : Type 0 where
  pub sid : ℕ
  pub held : life_in old child ≡ HoldsSpace sid
  pub lent : ℕ
  pub lends : life_in old lender ≡ LendsSpace lent child
  pub holds : life_in new lender ≡ HoldsSpace sid
  pub left : life_in new child ≡ New
  pub none : has_lender new.processes child ≡ false
  pub others : (pid : ℕ) → pid ≢ child → pid ≢ lender → life_in new pid ≡ life_in old pid
