use Rattle.std.proofs.Common.{◌+◌, ◌∙◌, arith}
use Rattle.reference_answers.proofs.TextLaws.{sizes_step, sizes_end}
use Rattle.reference_answers.proofs.lines.put_sizes.Goals as goal

pub loop-faults-preserved : goal.loop-faults-preserved
loop-faults-preserved c = record {
  size = omega (arith, c.loop-faults.invariant.size);
  text =
      sizes_step c.loop-faults.text.items c.put_size.new.text.items c.args.curve.now c.loop-faults.faults-index (c.loop-faults.size + 1) _ c.loop-faults-test.true
      c.in_ok-put_size.ensures ∙ c.loop-faults.invariant.text;
}

pub returns : goal.returns
returns c = sizes_end c.loop-faults.text.items _ c.args.curve.now c.loop-faults.faults-index (c.loop-faults.size + 1) c.loop-faults-test.false c.loop-faults.invariant.text
