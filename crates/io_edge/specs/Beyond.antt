-- Why each device of a pair keeps what it has beyond the pair's blocks.
use Rattle.std.specs.Prelude.{◌≡◌, ℕ, Option}
use Rattle.std.proofs.Common.{◌∙◌, subst}
use Rattle.vm_facts.specs.SwapImages.{SwapImage}
use Rattle.io_edge.specs.Striping.{zero_needs, one_needs, pair_blocks, KeepsBeyond}

-- device 0's part, over one row of calls and then another, while the devices have as many blocks
pub zero_through : (zero_size one_size zero_size' one_size' : ℕ) (a b c : Option SwapImage) → zero_size' ≡ zero_size → one_size' ≡ one_size
    → KeepsBeyond (zero_needs (pair_blocks zero_size one_size)) a b → KeepsBeyond (zero_needs (pair_blocks zero_size' one_size')) b c
    → KeepsBeyond (zero_needs (pair_blocks zero_size one_size)) a c
zero_through zero_size one_size zero_size' one_size' a b c zero_same one_same first then =
    subst (λ (z : ℕ). KeepsBeyond (zero_needs (pair_blocks z one_size)) b c) zero_same
    (subst (λ (o : ℕ). KeepsBeyond (zero_needs (pair_blocks zero_size' o)) b c) one_same then)
    ∙ first

-- device 1's part, over one row of calls and then another
pub one_through : (zero_size one_size zero_size' one_size' : ℕ) (a b c : Option SwapImage) → zero_size' ≡ zero_size → one_size' ≡ one_size
    → KeepsBeyond (one_needs (pair_blocks zero_size one_size)) a b → KeepsBeyond (one_needs (pair_blocks zero_size' one_size')) b c
    → KeepsBeyond (one_needs (pair_blocks zero_size one_size)) a c
one_through zero_size one_size zero_size' one_size' a b c zero_same one_same first then =
    subst (λ (z : ℕ). KeepsBeyond (one_needs (pair_blocks z one_size)) b c) zero_same
    (subst (λ (o : ℕ). KeepsBeyond (one_needs (pair_blocks zero_size' o)) b c) one_same then)
    ∙ first
