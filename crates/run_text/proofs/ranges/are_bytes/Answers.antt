use Rattle.run_text.proofs.Numbered.{bytes_below}
use Rattle.run_text.proofs.ranges.are_bytes.Goals as goal

pub returns : goal.returns
returns c = bytes_below c.args.bytes.now c.type_inv.bytes
