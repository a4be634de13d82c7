use Rattle.std.proofs.Common.{◌≤◌, sym, ◌∙◌, subst}
use Rattle.vm_facts.specs.declared.params.Params.{Params}
use Rattle.swap_book.specs.Holdings.{Holdings}
use Rattle.run_model.specs.Next.{blocks_held}
use Rattle.vm_core.proofs.Pieces.{few_held}
use Rattle.vm_core.proofs.owners.owners_of.Goals as goal

pub blocks_held-requires : goal.blocks_held-requires
blocks_held-requires c =
    let m = c.args.m.now in
    let few = few_held m.params.swap_blocks m.before c.requires.ready.running.sound.owner.blocks.book in
    subst (λ (p : Params). blocks_held c.holdings.result.now ≤ p.swap_blocks) (sym c.params.ensures)
    (subst (λ (hs : Holdings). blocks_held hs ≤ m.params.swap_blocks) (c.requires.ready.whole ∙ sym c.holdings.ensures) few)
