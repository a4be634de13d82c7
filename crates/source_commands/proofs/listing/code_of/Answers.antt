use Rattle.std.proofs.Common.{◌+◌, ◌-◌, arith}
use Rattle.source_commands.proofs.Segments.{text_code}
use Rattle.source_commands.proofs.listing.code_of.Goals as goal

pub returns-then-at-data_start : goal.returns-then-at-data_start
returns-then-at-data_start c =
    text_code c.args.image.now c.args.bytes.now (c.args.image.now.entry + 2) c.place_in-start.result (c.file_length.result - c.from.result)
    (omega (arith, c.if-at-data_start.true, c.data_start-data_start.ensures)) c.place_in-start.ensures (omega (arith, c.file_length.ensures.value, c.from.ensures))
