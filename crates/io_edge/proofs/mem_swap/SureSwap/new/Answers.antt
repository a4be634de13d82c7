use Rattle.std.proofs.Common.{◌*◌, ℕ, List, Some, ap, ◌∙◌}
use Rattle.vm_facts.specs.SwapImages.{unnoted}
use Rattle.io_edge.specs.Zeros.{with_zeros}
use Rattle.io_edge.proofs.ZeroEnds.{none_kept}
use Rattle.io_edge.proofs.mem_swap.SureSwap.new.Goals as goal

pub returns-clause-zeros : goal.returns-clause-zeros
returns-clause-zeros c =
    ap (λ (kept : List ℕ). Some (unnoted (with_zeros (512 * c.args.blocks) kept))) c.in_ok-written.ensures.items
    ∙ ap (λ (bytes : List ℕ). Some (unnoted bytes)) (none_kept (512 * c.args.blocks))
