use Rattle.std.proofs.Common.{ℕ, ◌<◌, sym, ap, ◌∙◌, subst, arith}
use Rattle.vax_pte.specs.Words.{IsInRange}
use Rattle.vm_facts.specs.declared.page.Page.TheVariants.{Text}
use Rattle.kernel_tables.specs.View.{text_place}
use Rattle.kernel_tables.specs.Machine.{lists_of}
use Rattle.kernel_tables.proofs.AddedTexts.{some_placed, next_placed, text_in_range}
use Rattle.kernel_tables.proofs.tables.Tables.place_text.Goals as goal

pub set_place-requires-clause-of_space : goal.set_place-requires-clause-of_space
set_place-requires-clause-of_space c =
    some_placed c.args.space.now c.loop-v.space _ c.image-image.result c.loop-v.v c.loop-v.invariant c.image-image.ensures (omega arith)

pub set_place-requires-clause-in_range : goal.set_place-requires-clause-in_range
set_place-requires-clause-in_range c =
    let s = c.args.space.now in
    let t = c.args.self.now in
    let within : c.loop-v.v < Rattle.aout_image.specs.Image.text_pages_of s.facts = omega arith in
    subst IsInRange (sym (c.text_place.ensures ∙ ap (λ (i : ℕ). text_place t.spaces t.core.slots (Text i c.loop-v.v) c.loop-v.v) c.image-image.ensures))
    (text_in_range (lists_of t) s.image c.loop-v.v s.facts c.requires.known c.requires.facts within)

pub loop-v-preserved : goal.loop-v-preserved
loop-v-preserved c =
    next_placed c.args.space.now c.loop-v.space c.set_place.new.self _ c.image-image.result c.loop-v.v c.text_place.result
    c.loop-v.invariant c.set_place.ensures c.text_place.ensures (omega arith)
