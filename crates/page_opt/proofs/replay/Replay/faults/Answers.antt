use Rattle.std.proofs.Common.{length, sym}
use Rattle.std.proofs.lemmas.Bool.{eqb-true, eqb-false}
use Rattle.page_opt.proofs.Replaying.{all_used, some_over}
use Rattle.page_opt.proofs.replay.Replay.faults.Goals as goal

pub returns-then-is_empty : goal.returns-then-is_empty
returns-then-is_empty c =
    all_used c.args.self.now.victims.now c.args.self.now.faults (eqb-true (length c.args.self.now.victims.now) 0 (sym c.if-is_empty.ensures))

pub returns-else-is_empty : goal.returns-else-is_empty
returns-else-is_empty c =
    some_over c.args.self.now.victims.now c.args.self.now.faults (eqb-false (length c.args.self.now.victims.now) 0 (sym c.if-is_empty.ensures))
