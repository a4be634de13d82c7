use Rattle.std.proofs.Common.{length, ap, arith}
use Rattle.reference_answers.proofs.TwoNumbers.{no_pair}
use Rattle.reference_answers.proofs.reader.read_pair.Goals as goal

pub returns-in_default-as_slice : goal.returns-in_default-as_slice
returns-in_default-as_slice c =
    no_pair c.args.text.now c.in-Some.numbers c.in-Some.ensures.0 c.in-Some.ensures.1 (λ two. (let same = ap length c.as_slice.ensures in omega arith))

pub returns-in_default-as_slice-2 : goal.returns-in_default-as_slice-2
returns-in_default-as_slice-2 c =
    no_pair c.args.text.now c.in-Some.numbers c.in-Some.ensures.0 c.in-Some.ensures.1 (λ two. (let same = ap length c.as_slice.ensures in omega arith))
