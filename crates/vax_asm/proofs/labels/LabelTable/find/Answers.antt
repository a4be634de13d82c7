use Rattle.std.proofs.Common.{◌≡◌, ◌∙◌, sym, None}
use Rattle.asm_grammar.specs.Encoding.{found}
use Rattle.vax_asm.proofs.Places.{none_found, some_found}
use Rattle.vax_asm.proofs.labels.LabelTable.find.Goals as goal

pub returns-in_err-place : goal.returns-in_err-place
returns-in_err-place c =
    let none : found c.self.inside.definitions.items c.args.label ≡ None =
    none_found c.self.inside.definitions.items c.args.label (sym (c.self.invariant c.args.label.bytes) ∙ sym c.in_err-place.ensures.value) in
    cc

pub returns : goal.returns
returns c =
    let there = some_found c.self.inside.definitions.items c.args.label c.in_ok-place.field-0.now (sym (c.self.invariant c.args.label.bytes) ∙ sym c.in_ok-place.ensures.value) in
    cc
