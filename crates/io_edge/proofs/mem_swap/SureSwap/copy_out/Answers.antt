use Rattle.std.proofs.Common.{◌≤◌, ◌+◌, ◌*◌, ℕ, List, length, ap, sym, ◌∙◌, arith}
use Rattle.vm_facts.specs.Swap.{blocks_at}
use Rattle.io_edge.proofs.ZeroEnds.{blocks_at-kept, blocks_at-zeros}
use Rattle.io_edge.proofs.mem_swap.SureSwap.copy_out.Goals as goal

pub returns-then-block-len : goal.returns-then-block-len
returns-then-block-len c =
    let device = c.args.self.now in
    let kept : List ℕ = device.written.items in
    let within : 512 * c.args.block + 1024 ≤ length kept = omega (arith, c.if-block-len.true, c.len.ensures, c.requires.even, device.pages) in
    c.copy_page.ensures ∙ ap (λ (bytes : List ℕ). blocks_at bytes c.args.block) c.deref.ensures.value ∙ sym (blocks_at-kept (512 * device.blocks) c.args.block kept within)

pub returns-else-block-len : goal.returns-else-block-len
returns-else-block-len c =
    let device = c.args.self.now in
    let kept : List ℕ = device.written.items in
    let past : length kept ≤ 512 * c.args.block = omega (arith, c.if-block-len.false, c.len.ensures) in
    let inside : 512 * c.args.block + 1024 ≤ 512 * device.blocks = omega (arith, c.requires.inside) in
    c.clear.ensures ∙ sym (blocks_at-zeros (512 * device.blocks) c.args.block kept past inside)
