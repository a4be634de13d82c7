-- What is counted is what is noted.
use Rattle.std.proofs.Common.{List, sym, subst}
use Rattle.process_counts.specs.Tables.{deed_of}
use Rattle.run_stats.specs.declared.ends.Ending.{Ending}
use Rattle.run_stats.specs.Ends.{ending_at, IsEnding}
use Rattle.run_stats.proofs.Lines.{ok_same}
use Rattle.run_stats.proofs.Tallying.{table_same}
use Rattle.run_stats.proofs.texts.stats_text.Goals as goal

pub table_by-requires : goal.table_by-requires
table_by-requires c pid =
    subst (λ (endings : List Ending). IsEnding pid (ending_at endings pid) c.args.journal.now) (sym c.as_slice.ensures.value) (c.in_ok-endings.ensures pid)

pub returns : goal.returns
returns c =
    ok_same c.table_by.result (λ text. text.items) _ _
    (table_same (deed_of c.in_ok-deeds.deeds) c.in_ok-tally.tally c.args.journal.now c.args.start.now c.args.notes.now c.args.processes c.args.spaces
    c.args.images c.in_ok-deeds.ensures c.in_ok-tally.ensures)
    c.table_by.ensures
