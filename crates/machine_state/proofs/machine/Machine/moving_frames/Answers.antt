use Rattle.std.proofs.Common.{length, sym, ap, ◌∙◌}
use Rattle.page_model.specs.Placement.{parts_of}
use Rattle.table_steps.specs.Machine.{Standing}
use Rattle.machine_state.proofs.Counts.{parts_count}
use Rattle.machine_state.proofs.machine.Machine.moving_frames.Goals as goal

pub returns : goal.returns
returns c = c.pages.ensures ∙ sym (parts_count c.self.inside.tables.ring) ∙ ap (λ (s : Standing). length (parts_of s.kernel.place.transfers)) c.self.view_is
