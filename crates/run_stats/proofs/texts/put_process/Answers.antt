-- Its parts, one after another.
use Rattle.std.proofs.Common.{◌++◌, subst, sym}
use Rattle.std.specs.List.{flat_map}
use Rattle.process_counts.specs.Tables.{deed_of}
use Rattle.run_stats.specs.Sums.{sum_in}
use Rattle.run_stats.specs.Ends.{IsEnding}
use Rattle.run_stats.specs.Rows.{process_heads, paging_heads, ended_row}
use Rattle.run_stats.specs.Table.{process_row, paging_row}
use Rattle.run_stats.proofs.Lines.{parts_then}
use Rattle.run_stats.proofs.texts.put_process.Goals as goal

pub put_end-requires : goal.put_end-requires
put_end-requires c = subst (λ x. IsEnding c.args.pid x c.args.journal.now) (sym c.ending_at.ensures) (c.requires c.args.pid)

pub returns : goal.returns
returns c =
    let journal = c.args.journal.now in
    let pid = c.args.pid in
    let a = flat_map (process_row (deed_of c.args.deeds.now) pid) process_heads in
    let b = flat_map (paging_row (sum_in c.args.tally.now) pid) paging_heads in
    let e = flat_map (ended_row pid) journal in
    parts_then c.args.text.now.items c.put_paging.new.text.items c.put_end.new.text.items (a ++ b) e
    (parts_then c.args.text.now.items c.put_deeds.new.text.items c.put_paging.new.text.items a b c.in_ok-put_deeds.ensures c.in_ok-put_paging.ensures)
    c.in_ok-put_end.ensures
