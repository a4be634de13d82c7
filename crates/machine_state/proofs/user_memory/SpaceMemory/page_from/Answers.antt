use Rattle.std.proofs.Common.{sym, ◌∙◌}
use Rattle.machine_state.proofs.Beside.{frame_reads}
use Rattle.machine_state.proofs.user_memory.SpaceMemory.page_from.Goals as goal

pub returns-in-Some : goal.returns-in-Some
returns-in-Some c page valid =
    let k = c.args.self.now.machine.now.kernel in
    frame_reads k page c.in-Some.frame c.args.at c.frame_from.result.now (sym c.in-Some.is ∙ valid) c.frame_from.ensures.bytes c.frame_from.ensures.whole c.requires.within
