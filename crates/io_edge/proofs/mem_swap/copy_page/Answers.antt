use Rattle.std.proofs.Common.{◌≡◌, ℕ, ◌+◌, ◌-◌, ◌*◌, take, drop, ap, ◌∙◌, arith}
use Rattle.vm_facts.specs.Swap.{blocks_at}
use Rattle.io_edge.proofs.mem_swap.copy_page.Goals as goal

pub returns : goal.returns
unfolding blocks_at
returns c =
    let count : 512 * c.args.block + 1024 - 512 * c.args.block ≡ 1024 = omega arith in
    c.copy_from_slice.ensures.after ∙ ap (λ (n : ℕ). take n (drop (512 * c.args.block) c.args.image.now)) count
