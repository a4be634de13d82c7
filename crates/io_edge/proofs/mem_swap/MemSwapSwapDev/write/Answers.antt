use Rattle.std.proofs.Common.{◌≡◌, ◌≤◌, ◌+◌, ◌*◌, ℕ, List, length, Some, ap, sym, arith}
use Rattle.vm_facts.specs.Swap.{blocks_at}
use Rattle.vm_facts.specs.SwapImages.{unnoted}
use Rattle.io_edge.specs.Zeros.{with_zeros, length-with_zeros}
use Rattle.io_edge.proofs.Pages.{length-blocks_at, put_blocks-blocks_at}
use Rattle.io_edge.proofs.mem_swap.MemSwapSwapDev.write.Goals as goal

pub returns-then-next_fails-clause-failed : goal.returns-then-next_fails-clause-failed
returns-then-next_fails-clause-failed c =
    let store = c.args.self.now.store in
    let size : ℕ = 512 * store.blocks in
    let image : List ℕ = with_zeros size store.written.items in
    let long : length image ≡ size = length-with_zeros size store.written.items store.within in
    let within : 512 * c.args.block + 1024 ≤ length image = omega (arith, long, c.requires.inside) in
    (blocks_at image c.args.block, length-blocks_at image c.args.block within, ap (λ (bytes : List ℕ). Some (unnoted bytes)) (sym (put_blocks-blocks_at image c.args.block)))
