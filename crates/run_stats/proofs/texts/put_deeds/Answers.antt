-- One more row.
use Rattle.std.proofs.Common.{◌++◌, codes, ap, ◌∙◌, arith}
use Rattle.std.specs.List.{flat_map}
use Rattle.process_counts.specs.declared.amounts.ProcessHead.TheVariants.{Instructions}
use Rattle.process_counts.specs.Tables.{deed_of}
use Rattle.run_stats.specs.Table.{process_row}
use Rattle.run_stats.proofs.Lines.{text_more, text_all, row_put}
use Rattle.run_stats.proofs.texts.put_deeds.Goals as goal

pub loop-head-preserved : goal.loop-head-preserved
loop-head-preserved c =
    let heads = c.process_heads-heads.result.now in
    record {
      text =
          text_more (process_row (deed_of c.args.deeds.now) c.args.pid) heads c.loop-head.head-index Instructions c.loop-head.text.items c.put_row.new.text.items
          (c.args.text.now.items ++ flat_map (process_row (deed_of c.args.deeds.now) c.args.pid) heads) c.loop-head-test.true c.loop-head.invariant.text
          (row_put c.loop-head.text.items c.put_row.new.text.items (codes "process ") c.process_words.result.now _ c.args.pid c.of-count.result _ c.in_ok-put_row.ensures
          c.process_words.ensures c.of-count.ensures);
    }

pub returns : goal.returns
returns c =
    let heads = c.process_heads-heads.result.now in
    text_all (process_row (deed_of c.args.deeds.now) c.args.pid) heads c.loop-head.head-index c.loop-head.text.items
    (c.args.text.now.items ++ flat_map (process_row (deed_of c.args.deeds.now) c.args.pid) heads)
    (omega arith) c.loop-head.invariant.text
    ∙ ap (λ t. c.args.text.now.items ++ flat_map (process_row (deed_of c.args.deeds.now) c.args.pid) t) c.process_heads-heads.ensures
