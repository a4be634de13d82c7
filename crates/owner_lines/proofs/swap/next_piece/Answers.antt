-- One more piece is looked at, from the last one on.
use Rattle.std.proofs.Common.{arith, ◌≡◌, ℕ, ◌+◌, ◌-◌, length, drop, ap, sym, ◌∙◌}
use Rattle.std.proofs.lemmas.List.{at_drop_all}
use Rattle.owner_lines.specs.Pieces.{next_from}
use Rattle.owner_lines.proofs.Rising.{next_more}
use Rattle.owner_lines.proofs.swap.next_piece.Goals as goal

pub loop-left-init : goal.loop-left-init
loop-left-init c = (omega arith, sym (at_drop_all (next_from c.args.from) c.args.holdings.now (length c.args.holdings.now) (omega arith)))

pub loop-left-preserved : goal.loop-left-preserved
loop-left-preserved c =
    let hs = c.args.holdings.now in
    let left = c.loop-left.left in
    let same : left ≡ left - 1 + 1 = omega arith in
    let rest = c.loop-left.invariant.1 ∙ ap (λ (k : ℕ). next_from c.args.from (drop k hs)) same in
    (omega arith, c.nearer_from-next.ensures ∙ next_more c.args.from hs (left - 1) _ c.loop-left.next (omega arith) rest)

pub returns : goal.returns
returns c =
    let none : c.loop-left.left ≡ 0 = omega arith in
    c.loop-left.invariant.1 ∙ ap (λ (k : ℕ). next_from c.args.from (drop k c.args.holdings.now)) none
