use Rattle.std.proofs.Common.{◌≡◌, ◌≤◌, ◌+◌, ◌-◌, ◌*◌, ℕ, List, length, replicate, drop, Some, ap, sym, ◌∙◌, arith, length-append}
use Rattle.std.proofs.lemmas.List.{length-replicate}
use Rattle.vm_facts.specs.Swap.{put_blocks}
use Rattle.vm_facts.specs.SwapImages.{unnoted}
use Rattle.vm_facts.proofs.Swap.{length-put_blocks}
use Rattle.io_edge.specs.Zeros.{with_zeros}
use Rattle.io_edge.proofs.Pages.{take_at}
use Rattle.io_edge.proofs.ZeroEnds.{more_kept, put_blocks-kept}
use Rattle.io_edge.proofs.mem_swap.SureSwapSwapDev.write.Goals as goal

pub returns-clause-done : goal.returns-clause-done
returns-clause-done c =
    let device = c.args.self.now in
    let size : ℕ = 512 * device.blocks in
    let block : ℕ = c.args.block in
    let page : List ℕ = c.args.bytes.now in
    let kept : List ℕ = device.written.items in
    let more : ℕ = block * 512 + 1024 - length kept in
    let grown : List ℕ = c.grow.new.bytes.items in
    let image : List ℕ = c.put_blocks.new.image in
    let fits : length kept + more ≤ size = omega (arith, c.requires.inside, device.within) in
    let long : length grown ≡ length kept + more = ap length c.grow.ensures.items ∙ length-append kept (replicate more 0) ∙ ap (λ (n : ℕ). length kept + n) (length-replicate more 0) in
    let within : 512 * block + 1024 ≤ length grown = omega (arith, long) in
    let put : image ≡ put_blocks grown block page = c.put_blocks.ensures ∙ ap (λ (bytes : List ℕ). put_blocks bytes block page) c.deref_mut.ensures.value in
    let whole : length page ≡ 1024 = c.told-bytes in
    let stays : length image ≡ c.grow.new.bytes.len = ap length put ∙ length-put_blocks grown page block within whole ∙ sym (ap length c.deref_mut.ensures.value) ∙ c.deref_mut.ensures.len in
    ap (λ (bytes : List ℕ). Some (unnoted (with_zeros size bytes))) (take_at c.grow.new.bytes.len image (drop (length image) grown) stays ∙ put)
    ∙ ap (λ (bytes : List ℕ). Some (unnoted bytes)) (put_blocks-kept size block page grown whole within
    ∙ ap (λ (bytes : List ℕ). put_blocks bytes block page) (ap (λ (bytes : List ℕ). with_zeros size bytes) c.grow.ensures.items ∙ more_kept size more kept fits))
