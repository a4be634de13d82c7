-- One more entry.
use Rattle.std.proofs.Common.{◌++◌, ap, ◌∙◌, arith}
use Rattle.vm_facts.specs.declared.entry.Entry.{Entry}
use Rattle.std.specs.List.{flat_map}
use Rattle.run_stats.specs.Rows.{ended_row}
use Rattle.run_stats.proofs.Lines.{text_more, text_all}
use Rattle.run_stats.proofs.texts.put_all_ends.Goals as goal

pub loop-entry-preserved : goal.loop-entry-preserved
loop-entry-preserved c =
    let xs = c.args.journal.now in
    record {
      text =
          text_more (ended_row c.args.pid) xs c.loop-entry.entry-index c.entry-item.result c.loop-entry.text.items c.put_ended.new.text.items
          (c.args.text.now.items ++ flat_map (ended_row c.args.pid) xs) c.loop-entry-test.true c.loop-entry.invariant.text
          (c.in_ok-put_ended.ensures ∙ ap (λ (x : Entry). c.loop-entry.text.items ++ ended_row c.args.pid x) c.entry-item.is);
    }

pub returns : goal.returns
returns c =
    let xs = c.args.journal.now in
    text_all (ended_row c.args.pid) xs c.loop-entry.entry-index c.loop-entry.text.items (c.args.text.now.items ++ flat_map (ended_row c.args.pid) xs) (omega arith) c.loop-entry.invariant.text
