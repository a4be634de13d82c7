use Rattle.std.proofs.Common.{◌≡◌, ℕ, List, Option, length, take, sym, subst, arith}
use Rattle.io_edge.specs.SwapRuns.{WritesPages, SpoilsPages}
use Rattle.io_edge.proofs.PairCalls.{on_done, on_failed}
use Rattle.vm_facts.specs.SwapImages.{SwapImage}
use Rattle.transfer_ring.specs.Parts.{WritesParts, SpoilsParts}
use Rattle.transfer_ring.proofs.RunLemmas.{blocks_together, parts_written, parts_spoiled}
use Rattle.transfer_ring.proofs.writing.write_together.Goals as goal

pub write_pages-requires-clause-even : goal.write_pages-requires-clause-even
write_pages-requires-clause-even g c =
    let on =
    blocks_together (g.D.SwapDev.blocks c.args.swap.now) c.args.block c.args.parts.now c.requires.together.some c.requires.together.together c.requires.there in
    on.0

pub write_pages-requires-clause-inside : goal.write_pages-requires-clause-inside
write_pages-requires-clause-inside g c =
    let on =
    blocks_together (g.D.SwapDev.blocks c.args.swap.now) c.args.block c.args.parts.now c.requires.together.some c.requires.together.together c.requires.there in
    omega (arith, on.1, c.split_at.ensures.front_len)

pub returns-clause-done : goal.returns-clause-done
returns-clause-done g c =
    let old : Option SwapImage = g.D.SwapDev.image c.args.swap.now in
    let new : Option SwapImage = g.D.SwapDev.image c.write_pages.new.swap in
    let front : c.split_at.result.0.now ≡ take (length c.args.parts.now) c.copy_out.new.pages = c.split_at.ensures.front in
    on_done c.write_pages.result (WritesPages old c.args.block c.split_at.result.0.now new) (WritesParts c.args.parts.now old new)
    (λ run. parts_written c.args.block c.args.parts.now c.copy_out.new.pages old new c.requires.together.together c.copy_out.ensures
    (subst (λ (ps : List (List ℕ)). WritesPages old c.args.block ps new) front run)) c.write_pages.ensures.done

pub returns-clause-failed : goal.returns-clause-failed
returns-clause-failed g c =
    let old : Option SwapImage = g.D.SwapDev.image c.args.swap.now in
    let new : Option SwapImage = g.D.SwapDev.image c.write_pages.new.swap in
    let front : c.split_at.result.0.now ≡ take (length c.args.parts.now) c.copy_out.new.pages = c.split_at.ensures.front in
    on_failed c.write_pages.result (SpoilsPages old c.args.block c.split_at.result.0.now new) (SpoilsParts c.args.parts.now old new)
    (λ run. parts_spoiled c.args.block c.args.parts.now c.copy_out.new.pages old new c.requires.together.together c.copy_out.ensures
    (subst (λ (ps : List (List ℕ)). SpoilsPages old c.args.block ps new) front run)) c.write_pages.ensures.failed
