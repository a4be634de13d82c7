-- Lemmas on parts of a write that lie together.
use Rattle.std.proofs.Common.{◌≡◌, inl, inr, ℕ, ◌+◌, ◌*◌, ◌%◌, ◌==◌, ◌<◌, ◌≤◌, true, List, [], ◌∷◌, length, take, Option, eqb-true, refl, sym, subst, arith}
use Rattle.std.proofs.lemmas.Bool.{and_parts}
use Rattle.io_edge.specs.SwapImage.{WritesPage, SpoilsPage}
use Rattle.io_edge.specs.SwapRuns.{WritesPages, SpoilsPages}
use Rattle.vm_facts.specs.SwapImages.{SwapImage}
use Rattle.transfer_ring.specs.declared.transfer.Outbound.{Outbound}
use Rattle.transfer_ring.specs.Sound.{IsBlock, AreBlocks}
use Rattle.transfer_ring.specs.Parts.{WritesParts, SpoilsParts}
use Rattle.transfer_ring.specs.Together.{are_together, CopiesOut}

-- no page at all
pub none_written : (image : Option SwapImage) (block : ℕ) (pages : List (List ℕ)) → pages ≡ [] → WritesPages image block pages image
none_written image block pages none = subst (λ (ps : List (List ℕ)). WritesPages image block ps image) (sym none) refl

-- the first of them is in this block, and those behind it go on two blocks further
first_at : (block : ℕ) (part : Outbound) (parts : List Outbound) → are_together block (part ∷ parts) ≡ true
    → (part.block ≡ block) × (are_together (block + 2) parts ≡ true)
first_at block part parts together =
    let both = and_parts (part.block == block) (are_together (block + 2) parts) together in
    (eqb-true part.block block both.0, both.1)

-- the device has the blocks of all
pub blocks_together : (blocks block : ℕ) (parts : List Outbound) → 0 < length parts → are_together block parts ≡ true → AreBlocks blocks parts
    → (block % 2 ≡ 0) × (block + 2 * length parts ≤ blocks)
blocks_together blocks block [] some together all = absurd (omega (arith, some))
blocks_together blocks block (part ∷ []) some together all =
    let first : IsBlock blocks block = subst (IsBlock blocks) (first_at block part [] together).0 all.0 in
    (first.0, omega (arith, first.1))
blocks_together blocks block (part ∷ next ∷ parts) some together all =
    let at = first_at block part (next ∷ parts) together in
    let first : IsBlock blocks block = subst (IsBlock blocks) at.0 all.0 in
    let behind = blocks_together blocks (block + 2) (next ∷ parts) (omega arith) at.1 all.1 in
    (first.0, omega (arith, behind.1))

page_written : (part : Outbound) (block : ℕ) (page : List ℕ) (old new : Option SwapImage) → part.block ≡ block → page ≡ part.token.bytes
    → WritesPage old block page new → WritesPage old part.block part.token.bytes new
page_written part block page old new at is written =
    subst (λ (b : ℕ). WritesPage old b part.token.bytes new) (sym at) (subst (λ (bytes : List ℕ). WritesPage old block bytes new) is written)

-- their pages were written, one behind another
pub parts_written : (block : ℕ) (parts : List Outbound) (pages : List (List ℕ)) (old new : Option SwapImage) → are_together block parts ≡ true
    → CopiesOut parts pages → WritesPages old block (take (length parts) pages) new → WritesParts parts old new
parts_written block [] pages old new together copied run = run
parts_written block (part ∷ parts) [] old new together copied run = absurd copied
parts_written block (part ∷ parts) (page ∷ pages) old new together copied run =
    let at = first_at block part parts together in (
      run.0,
      page_written part block page old run.0 at.0 copied.0 run.1,
      parts_written (block + 2) parts pages run.0 new at.1 copied.1 run.2,
    )

-- the write of one of their pages failed
pub parts_spoiled : (block : ℕ) (parts : List Outbound) (pages : List (List ℕ)) (old new : Option SwapImage) → are_together block parts ≡ true
    → CopiesOut parts pages → SpoilsPages old block (take (length parts) pages) new → SpoilsParts parts old new
parts_spoiled block [] pages old new together copied run = run
parts_spoiled block (part ∷ parts) [] old new together copied run = absurd copied
parts_spoiled block (part ∷ parts) (page ∷ pages) old new together copied run =
    let at = first_at block part parts together in
    elim run [
      | inl here ↦ inl (subst (λ (b : ℕ). SpoilsPage old b new) (sym at.0) here)
      | inr behind ↦ inr (
        behind.0,
        page_written part block page old behind.0 at.0 copied.0 behind.1,
        parts_spoiled (block + 2) parts pages behind.0 new at.1 copied.1 behind.2,
      )
    ]
