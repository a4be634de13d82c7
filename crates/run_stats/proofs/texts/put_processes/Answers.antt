-- One more.
use Rattle.process_counts.specs.Tables.{deed_of}
use Rattle.run_stats.specs.Sums.{sum_in}
use Rattle.run_stats.specs.Table.{process_rows}
use Rattle.run_stats.proofs.Lines.{lines_none, lines_more}
use Rattle.run_stats.proofs.texts.put_processes.Goals as goal

pub loop-before-init : goal.loop-before-init
loop-before-init c = record { text = lines_none (process_rows (deed_of c.args.deeds.now) (sum_in c.args.tally.now) c.args.journal.now) c.args.text.now.items }

pub loop-before-preserved : goal.loop-before-preserved
loop-before-preserved c = record {
  text =
      lines_more (process_rows (deed_of c.args.deeds.now) (sum_in c.args.tally.now) c.args.journal.now) c.args.text.now.items c.loop-before.text.items
      c.put_process.new.text.items c.loop-before.before c.loop-before.invariant.text
      c.in_ok-put_process.ensures;
}
