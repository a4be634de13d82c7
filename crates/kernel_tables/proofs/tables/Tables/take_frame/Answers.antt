use Rattle.std.proofs.Common.{Some, ap, ◌∙◌}
use Rattle.vm_facts.specs.declared.page.Page.{Page}
use Rattle.core_map.specs.Slots.{slot_page}
use Rattle.kernel_tables.proofs.tables.Tables.take_frame.Goals as goal

pub left_place-place-requires : goal.left_place-place-requires
left_place-place-requires c i v e = c.requires.texts c.in-Some.token.number i v (ap slot_page c.in-Some.ensures.taken.was ∙ c.in-Some-held.is ∙ ap (λ (q : Page). Some q) e)
