use Rattle.std.proofs.Common.{ℕ, ◌*◌, ◌-◌, ap, ◌∙◌}
use Rattle.aout_image.specs.Image.{pages_for}
use Rattle.page_model.specs.Placement.{image_of}
use Rattle.fault_fill.specs.Growth.{space_of_pid}
use Rattle.proc_calls.proofs.Sizes.{data_counted, stack_counted, text_counted, rounded_up}
use Rattle.proc_calls.proofs.sizing.sizes_to.Goals as goal

pub returns-clause-holds : goal.returns-clause-holds
returns-clause-holds c =
    let k = c.args.m.now.kernel in
    c.data_pages.ensures.count
    ∙ data_counted k.place c.space_of-space.ensures.shown.core c.space_of-space.result.now c.space_of-space.ensures.shown.space
    (space_of_pid k c.args.pid) c.space_of-space.ensures.named

pub returns-clause-stack : goal.returns-clause-stack
returns-clause-stack c =
    let k = c.args.m.now.kernel in
    c.stack_pages.ensures.count
    ∙ stack_counted k.place c.space_of-space.ensures.shown.core c.space_of-space.result.now c.space_of-space.ensures.shown.space
    (space_of_pid k c.args.pid) c.space_of-space.ensures.named

pub returns-clause-wanted : goal.returns-clause-wanted
returns-clause-wanted c =
    let k = c.args.m.now.kernel in
    let text =
    text_counted k.place c.space_of-space.ensures.shown.core c.space_of-space.result.now c.space_of-space.ensures.shown.space
    (image_of k.place (space_of_pid k c.args.pid)) c.space_of-space.ensures.of_image in
    c.div_ceil.ensures ∙ rounded_up c.saturating_sub.result
    ∙ ap pages_for (c.saturating_sub.ensures ∙ ap (λ (n : ℕ). c.args.address - 1024 * n) (c.text_pages-start.ensures.count ∙ text))
