use Rattle.std.proofs.Common.{◌≡◌}
use Rattle.vm_facts.specs.declared.page.Page.TheVariants.{Text}
use Rattle.kernel_tables.specs.View.{text_place}
use Rattle.kernel_tables.proofs.AddedTexts.{so_far}
use Rattle.kernel_tables.proofs.tables.Tables.place_text.Given as goal

abbrev pub invariant-loop-v : goal.invariant-loop-v
invariant-loop-v l =
    l.space ≡ record l.initial.space { text = so_far (λ v. text_place l.self.spaces l.self.core.slots (Text l.image v) v) l.initial.space.text l.v }
