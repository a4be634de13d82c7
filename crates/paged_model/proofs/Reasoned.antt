-- Where no reason is given.
use Rattle.std.proofs.Common.{◌≡◌, ℕ, Bool, true, false, Option, Some, None, refl}
use Rattle.paged_model.specs.declared.reason.Reason.{Reason}
use Rattle.paged_model.specs.declared.reason.Misstep.{Misstep}
use Rattle.paged_model.specs.Reasons.{unless, or_reason}
use Rattle.paged_model.specs.Runs.{misstep_or}

-- neither of two reasons holds
pub or_none : (a b : Option Reason) → or_reason a b ≡ None → (a ≡ None) × (b ≡ None)
or_none None b e = (refl, e)
or_none (Some r) b e = absurd cc

-- and back
pub none_or : (a b : Option Reason) → a ≡ None → b ≡ None → or_reason a b ≡ None
none_or None b e f = f
none_or (Some r) b e f = absurd cc

-- the condition holds
pub unless_none : (b : Bool) (r : Reason) → unless b r ≡ None → b ≡ true
unless_none true r e = refl
unless_none false r e = absurd cc

-- and back
pub none_unless : (b : Bool) (r : Reason) → b ≡ true → unless b r ≡ None
none_unless true r e = refl
none_unless false r e = absurd cc

-- the line is good, and so are those after it
pub good_line : (n : ℕ) (r : Option Reason) (more : Option Misstep) → misstep_or n r more ≡ None → (r ≡ None) × (more ≡ None)
good_line n None more e = (refl, e)
good_line n (Some r) more e = absurd cc

-- after a good line the misstep is that of the lines after it
pub line_good : (n : ℕ) (r : Option Reason) (more : Option Misstep) → r ≡ None → misstep_or n r more ≡ more
line_good n None more e = refl
line_good n (Some r) more e = absurd cc
