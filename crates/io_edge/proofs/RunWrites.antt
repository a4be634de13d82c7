-- Pages that lie together on a device.
use Rattle.std.proofs.Common.{◌≡◌, inl, inr, ℕ, zero, suc, ◌+◌, ◌*◌, ◌<◌, ◌≤◌, List, [], ◌∷◌, length, take, drop, replicate, Option, Some, None, refl, sym, ◌∙◌, subst, arith}
use Rattle.std.proofs.lemmas.List.{length-replicate}
use Rattle.io_edge.specs.SwapImage.{WritesPage, SpoilsPage}
use Rattle.io_edge.specs.SwapRuns.{WritesPages, SpoilsPages, WritesSomePages}
use Rattle.vm_facts.specs.SwapImages.{SwapImage}

-- ---- one page

pub first_written : (old new : Option SwapImage) (block : ℕ) (page : List ℕ) (rest pages : List (List ℕ)) → pages ≡ page ∷ rest
    → WritesPage old block page new → WritesSomePages (Some 1) old block pages new
first_written old new block page rest pages is w =
    subst (λ (ps : List (List ℕ)). WritesSomePages (Some 1) old block ps new) (sym is) (omega arith, omega arith, (new, w, refl))

pub first_spoiled : (old new : Option SwapImage) (block : ℕ) (page : List ℕ) (rest pages : List (List ℕ)) → pages ≡ page ∷ rest
    → SpoilsPage old block new → WritesSomePages None old block pages new
first_spoiled old new block page rest pages is s = subst (λ (ps : List (List ℕ)). WritesSomePages None old block ps new) (sym is) (inl s)

-- ---- a part of a run

-- a failed write of a page of the front is one of the whole
pub spoils_first : (count : ℕ) (old new : Option SwapImage) (block : ℕ) (pages : List (List ℕ)) → SpoilsPages old block (take count pages) new
    → SpoilsPages old block pages new
spoils_first zero old new block pages s = absurd s
spoils_first (suc count) old new block [] s = s
spoils_first (suc count) old new block (page ∷ pages) s = elim s [
  | inl here ↦ inl here
  | inr behind ↦ inr (behind.0, behind.1, spoils_first count behind.0 new (block + 2) pages behind.2)
]

next_block : (block count : ℕ) → block + 2 * suc count ≡ block + 2 + 2 * count
next_block block count = omega arith

no_block : (block : ℕ) → block + 2 * zero ≡ block
no_block block = omega arith

-- pages were written, and then those behind them
pub writes_on : (count : ℕ) (old mid new : Option SwapImage) (block : ℕ) (pages : List (List ℕ)) → WritesPages old block (take count pages) mid
    → WritesPages mid (block + 2 * count) (drop count pages) new → WritesPages old block pages new
writes_on zero old mid new block pages first then =
    subst (λ (b : ℕ). WritesPages old b pages new) (no_block block) (subst (λ (image : Option SwapImage). WritesPages image (block + 2 * zero) pages new) first then)
writes_on (suc count) old mid new block [] first then = then ∙ first
writes_on (suc count) old mid new block (page ∷ pages) first then = (
  first.0,
  first.1,
  writes_on count first.0 mid new (block + 2) pages first.2 (subst (λ (b : ℕ). WritesPages mid b (drop count pages) new) (next_block block count) then),
)

pub spoils_on : (count : ℕ) (old mid new : Option SwapImage) (block : ℕ) (pages : List (List ℕ)) → WritesPages old block (take count pages) mid
    → SpoilsPages mid (block + 2 * count) (drop count pages) new → SpoilsPages old block pages new
spoils_on zero old mid new block pages first then =
    subst (λ (b : ℕ). SpoilsPages old b pages new) (no_block block) (subst (λ (image : Option SwapImage). SpoilsPages image (block + 2 * zero) pages new) first then)
spoils_on (suc count) old mid new block [] first then = absurd then
spoils_on (suc count) old mid new block (page ∷ pages) first then =
    inr (first.0, first.1, spoils_on count first.0 mid new (block + 2) pages first.2 (subst (λ (b : ℕ). SpoilsPages mid b (drop count pages) new) (next_block block count) then))

-- ---- a device that doesn't tell its image

untold_run : (block : ℕ) (pages : List (List ℕ)) → WritesPages None block pages None
untold_run block [] = refl
untold_run block (page ∷ pages) = (None, refl, untold_run (block + 2) pages)

pub untold_written : (block count : ℕ) (pages : List (List ℕ)) → 0 < count → count ≤ length pages → WritesSomePages (Some count) None block pages None
untold_written block count pages some few = (some, few, untold_run block (take count pages))

pub untold_spoiled : (block : ℕ) (pages : List (List ℕ)) → 0 < length pages → WritesSomePages None None block pages None
untold_spoiled block [] some = absurd (omega (arith, some))
untold_spoiled block (page ∷ pages) some = inl (replicate 1024 0, length-replicate {A = ℕ} 1024 0, refl)
