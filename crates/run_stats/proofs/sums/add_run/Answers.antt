-- Field by field.
use Rattle.std.proofs.Common.{ap, ◌∙◌, ◌+◌, ℕ, arith}
use Rattle.run_stats.specs.declared.heads.RunHead.TheVariants.{HandMoves, MadeInvalid, FreedClean, HandWrites, ReclaimedBetween, FileTransfers, SwapTransfersIn, SwapTransfersOut, SwapRequests}
use Rattle.run_stats.specs.Sums.{run_sum}
use Rattle.run_stats.proofs.sums.add_run.Goals as goal

pub overflow_add-result : goal.overflow_add-result
overflow_add-result c = omega (arith, c.requires HandMoves, c.from.ensures, c.run_amount.type_inv)

pub overflow_add-result-2 : goal.overflow_add-result-2
overflow_add-result-2 c = omega (arith, c.requires MadeInvalid, c.from-2.ensures, c.run_amount-2.type_inv)

pub overflow_add-result-3 : goal.overflow_add-result-3
overflow_add-result-3 c = omega (arith, c.requires FreedClean, c.from-3.ensures, c.run_amount-3.type_inv)

pub overflow_add-result-4 : goal.overflow_add-result-4
overflow_add-result-4 c = omega (arith, c.requires HandWrites, c.from-4.ensures, c.run_amount-4.type_inv)

pub overflow_add-result-5 : goal.overflow_add-result-5
overflow_add-result-5 c = omega (arith, c.requires ReclaimedBetween, c.from-5.ensures, c.run_amount-5.type_inv)

pub overflow_add-result-6 : goal.overflow_add-result-6
overflow_add-result-6 c = omega (arith, c.requires FileTransfers, c.from-6.ensures, c.run_amount-6.type_inv)

pub overflow_add-result-7 : goal.overflow_add-result-7
overflow_add-result-7 c = omega (arith, c.requires SwapTransfersIn, c.from-7.ensures, c.run_amount-7.type_inv)

pub overflow_add-result-8 : goal.overflow_add-result-8
overflow_add-result-8 c = omega (arith, c.requires SwapTransfersOut, c.from-8.ensures, c.run_amount-8.type_inv)

pub overflow_add-result-9 : goal.overflow_add-result-9
overflow_add-result-9 c = omega (arith, c.requires SwapRequests, c.from-9.ensures, c.run_amount-9.type_inv)

pub returns-clause-value : goal.returns-clause-value
returns-clause-value c HandMoves = ap (λ (n : ℕ). run_sum c.args.sums HandMoves + n) (c.from.ensures ∙ c.run_amount.ensures)
returns-clause-value c MadeInvalid = ap (λ (n : ℕ). run_sum c.args.sums MadeInvalid + n) (c.from-2.ensures ∙ c.run_amount-2.ensures)
returns-clause-value c FreedClean = ap (λ (n : ℕ). run_sum c.args.sums FreedClean + n) (c.from-3.ensures ∙ c.run_amount-3.ensures)
returns-clause-value c HandWrites = ap (λ (n : ℕ). run_sum c.args.sums HandWrites + n) (c.from-4.ensures ∙ c.run_amount-4.ensures)
returns-clause-value c ReclaimedBetween = ap (λ (n : ℕ). run_sum c.args.sums ReclaimedBetween + n) (c.from-5.ensures ∙ c.run_amount-5.ensures)
returns-clause-value c FileTransfers = ap (λ (n : ℕ). run_sum c.args.sums FileTransfers + n) (c.from-6.ensures ∙ c.run_amount-6.ensures)
returns-clause-value c SwapTransfersIn = ap (λ (n : ℕ). run_sum c.args.sums SwapTransfersIn + n) (c.from-7.ensures ∙ c.run_amount-7.ensures)
returns-clause-value c SwapTransfersOut = ap (λ (n : ℕ). run_sum c.args.sums SwapTransfersOut + n) (c.from-8.ensures ∙ c.run_amount-8.ensures)
returns-clause-value c SwapRequests = ap (λ (n : ℕ). run_sum c.args.sums SwapRequests + n) (c.from-9.ensures ∙ c.run_amount-9.ensures)

pub returns-clause-grows : goal.returns-clause-grows
returns-clause-grows c HandMoves = omega (arith, c.from.ensures, c.run_amount.type_inv)
returns-clause-grows c MadeInvalid = omega (arith, c.from-2.ensures, c.run_amount-2.type_inv)
returns-clause-grows c FreedClean = omega (arith, c.from-3.ensures, c.run_amount-3.type_inv)
returns-clause-grows c HandWrites = omega (arith, c.from-4.ensures, c.run_amount-4.type_inv)
returns-clause-grows c ReclaimedBetween = omega (arith, c.from-5.ensures, c.run_amount-5.type_inv)
returns-clause-grows c FileTransfers = omega (arith, c.from-6.ensures, c.run_amount-6.type_inv)
returns-clause-grows c SwapTransfersIn = omega (arith, c.from-7.ensures, c.run_amount-7.type_inv)
returns-clause-grows c SwapTransfersOut = omega (arith, c.from-8.ensures, c.run_amount-8.type_inv)
returns-clause-grows c SwapRequests = omega (arith, c.from-9.ensures, c.run_amount-9.type_inv)
