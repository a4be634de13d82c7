-- The page is valid or invalid, and dirty as its frame's mark says.
use Rattle.std.proofs.Common.{true, false, codes, sym, ap, ◌∙◌}
use Rattle.core_map.specs.Slots.{slot_at, is_slot_dirty}
use Rattle.page_model.specs.Ownership.{is_marked_dirty}
use Rattle.owner_lines.specs.Owners.{kept_text}
use Rattle.owner_lines.proofs.Owning.{kept_owner}
use Rattle.run_text.proofs.Putting.{text_is}
use Rattle.owner_lines.proofs.frames.put_used.Goals as goal

pub returns-then-is_valid : goal.returns-then-is_valid
returns-then-is_valid g c =
    text_is
    (ap (kept_text (codes " valid") c.args.page) {y = is_marked_dirty c.args.page (is_slot_dirty (slot_at c.args.core.now.slots c.args.frame))} c.is_unsaved-dirty.ensures
    ∙ sym (kept_owner c.args.machine.now.kernel.place c.args.core.now c.requires.running.sound.owner.frames c.requires.shows c.args.frame c.args.page true c.requires.frame c.requires.owner
    (sym c.is_valid.ensures ∙ c.if-is_valid.true)))
    c.put_kept.ensures

pub returns-else-is_valid : goal.returns-else-is_valid
returns-else-is_valid g c =
    text_is
    (ap (kept_text (codes " invalid") c.args.page) {y = is_marked_dirty c.args.page (is_slot_dirty (slot_at c.args.core.now.slots c.args.frame))} c.is_unsaved-dirty.ensures
    ∙ sym (kept_owner c.args.machine.now.kernel.place c.args.core.now c.requires.running.sound.owner.frames c.requires.shows c.args.frame c.args.page false c.requires.frame c.requires.owner
    (sym c.is_valid.ensures ∙ c.if-is_valid.false)))
    c.put_kept-else-is_valid.ensures
