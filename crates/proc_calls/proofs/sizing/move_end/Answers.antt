use Rattle.std.proofs.Common.{false, ◌≡◌, ◌∙◌, arith}
use Rattle.flat_model.specs.Calls.{replied}
use Rattle.proc_calls.proofs.Sizes.{can_stay}
use Rattle.proc_calls.proofs.sizing.move_end.Goals as goal

pub resize-requires-clause-can : goal.resize-requires-clause-can
resize-requires-clause-can g c =
    let sizes = c.sizes_to-sizes.result in
    let same : sizes.wanted ≡ sizes.data_pages = omega (arith, c.if-sizes-2.false, c.if-sizes.false) in
    can_stay c.args.m.now c.args.pid (replied c.args.regs.now false 0) c.requires.calls sizes.wanted sizes.stack_pages c.sizes_to-sizes.ensures.stack
    c.sizes_to-sizes.ensures.few c.if-sizes-gt-DATA_LIMIT.false (same ∙ c.sizes_to-sizes.ensures.holds)
