-- One more row.
use Rattle.std.proofs.Common.{◌++◌, ap, ◌∙◌, arith}
use Rattle.std.specs.List.{flat_map}
use Rattle.run_stats.specs.declared.heads.RunHead.TheVariants.{HandMoves}
use Rattle.run_stats.specs.Sums.{sum_in}
use Rattle.run_stats.specs.Table.{run_row}
use Rattle.run_stats.proofs.Lines.{text_more, text_all, plain_put}
use Rattle.run_stats.proofs.texts.put_run.Goals as goal

pub loop-head-preserved : goal.loop-head-preserved
loop-head-preserved c =
    let heads = c.run_heads-heads.result.now in
    record {
      text =
          text_more (run_row (sum_in c.args.tally.now)) heads c.loop-head.head-index HandMoves c.loop-head.text.items c.put_plain.new.text.items
          (c.args.text.now.items ++ flat_map (run_row (sum_in c.args.tally.now)) heads) c.loop-head-test.true c.loop-head.invariant.text
          (plain_put c.loop-head.text.items c.put_plain.new.text.items c.run_words.result.now _ c.of.result _ c.in_ok-put_plain.ensures c.run_words.ensures c.of.ensures);
    }

pub returns : goal.returns
returns c =
    let heads = c.run_heads-heads.result.now in
    text_all (run_row (sum_in c.args.tally.now)) heads c.loop-head.head-index c.loop-head.text.items (c.args.text.now.items ++ flat_map (run_row (sum_in c.args.tally.now)) heads)
    (omega arith) c.loop-head.invariant.text
    ∙ ap (λ t. c.args.text.now.items ++ flat_map (run_row (sum_in c.args.tally.now)) t) c.run_heads-heads.ensures
