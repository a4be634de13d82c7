-- By what the core map has for the frame.
use Rattle.std.proofs.Common.{sym, ◌∙◌}
use Rattle.run_stats.proofs.Validity.{frame_valid}
use Rattle.run_stats.proofs.valid.valid_frame.Goals as goal

pub returns-clause-value : goal.returns-clause-value
returns-clause-value c =
    c.valid_by.ensures.value
    ∙ sym (frame_valid c.args.machine.now.kernel.place c.args.core.now c.requires.running.sound.owner.frames c.requires.shows c.args.frame c.owner.result (sym c.owner.ensures.owner) c.requires.frame)
