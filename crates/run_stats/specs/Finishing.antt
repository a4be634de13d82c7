-- The last row of the table: how a finished run came to its end.
use Rattle.std.specs.Prelude.{ℕ, List, codes}
use Rattle.run_stats.specs.declared.finish.Finish.{Finish}
use Rattle.run_stats.specs.declared.finish.Finish.TheVariants.{Over, Cut}
use Rattle.run_stats.specs.Rows.{plain_row}

-- the words of the row
abbrev pub finish_words : Finish → List ℕ
finish_words Over = codes "run over "
finish_words Cut = codes "run cut "

-- how a run of so many instructions came to its end
abbrev pub finish_row : Finish → ℕ → List ℕ
finish_row finish instructions = plain_row (finish_words finish) instructions
