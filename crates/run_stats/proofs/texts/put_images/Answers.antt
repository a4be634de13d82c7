-- One more.
use Rattle.run_stats.specs.Sums.{sum_in}
use Rattle.run_stats.specs.Table.{image_row}
use Rattle.run_stats.proofs.Lines.{lines_none, lines_more}
use Rattle.run_stats.proofs.texts.put_images.Goals as goal

pub loop-before-init : goal.loop-before-init
loop-before-init c = record { text = lines_none (image_row (sum_in c.args.tally.now)) c.args.text.now.items }

pub loop-before-preserved : goal.loop-before-preserved
loop-before-preserved c = record {
  text =
      lines_more (image_row (sum_in c.args.tally.now)) c.args.text.now.items c.loop-before.text.items c.put_image.new.text.items c.loop-before.before c.loop-before.invariant.text
      c.in_ok-put_image.ensures;
}
