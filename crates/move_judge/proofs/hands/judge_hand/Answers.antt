use Rattle.std.proofs.Common.{sym, ◌∙◌, arith}
use Rattle.swapper.proofs.LastMoves.{counts_last}
use Rattle.move_judge.proofs.HandsMove.{can_hand}
use Rattle.move_judge.proofs.hands.judge_hand.Goals as goal

pub hand-requires-clause-can : goal.hand-requires-clause-can
hand-requires-clause-can c =
    can_hand c.args.m.now.kernel.place c.args.locked.now c.next_write-lo.result.0 c.next_write-lo.result.1 c.next_write-lo.ensures
    (sym c.hand_reason.ensures ∙ c.in-None.is)

pub hand-requires-clause-fits : goal.hand-requires-clause-fits
hand-requires-clause-fits c = λ count before e.
    let k = counts_last c.args.m.now.kernel.journal before count e in
    let f = c.requires.fits in
    omega (arith, k, f)
