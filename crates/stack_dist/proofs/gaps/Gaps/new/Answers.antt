use Rattle.std.proofs.Common.{◌≡◌, ℕ, ◌*◌, List, length, replicate, ap, sym, ◌∙◌, arith}
use Rattle.std.proofs.lemmas.List.{length-replicate}
use Rattle.stack_dist.specs.Gaps.{all_bits, bit_counts}
use Rattle.stack_dist.proofs.GapLaws.{all_zeros, counts_zero}
use Rattle.stack_dist.proofs.gaps.Gaps.new.Goals as goal

zeros : (c : goal.In_ok-words) → c.in_ok-words.words.items ≡ replicate c.in_ok-counts.ensures.size 0
zeros c =
    let len = ap (λ (xs : List ℕ). length xs) c.in_ok-counts.ensures.zeros ∙ length-replicate c.in_ok-counts.ensures.size 0 in
    c.in_ok-words.ensures.items_if_clones_equal (λ y same. same) ∙ ap (λ (n : ℕ). replicate n 0) (c.len.ensures ∙ len)

pub invariant_of-result : goal.invariant_of-result
invariant_of-result c = record {
  room =
      let len = ap (λ (xs : List ℕ). length xs) (zeros c) ∙ length-replicate c.in_ok-counts.ensures.size 0 in
      let small = c.in_ok-counts.ensures.small in
      let limit = c.requires in
      omega arith;
  counts = c.in_ok-counts.ensures.zeros ∙ sym (ap bit_counts (zeros c) ∙ counts_zero c.in_ok-counts.ensures.size);
}

pub returns : goal.returns
returns c =
    let enough = c.in_ok-counts.ensures.enough in
    let small = c.in_ok-counts.ensures.small in
    record {
      size = 64 * c.in_ok-counts.ensures.size;
      enough = omega arith;
      small = omega arith;
      zeros = ap all_bits (zeros c) ∙ all_zeros c.in_ok-counts.ensures.size;
    }
