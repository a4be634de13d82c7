use Rattle.std.proofs.Common.{◌-◌, ◌%◌, ℕ, List, drop, length, take, sym, ap, ◌∙◌, subst}
use Rattle.std.proofs.lemmas.List.{take_rest}
use Rattle.flat_state.specs.Space.{Space}
use Rattle.flat_process.specs.Sizes.{IsSized}
use Rattle.flat_process.proofs.Ahead.{text_ahead, data_ahead, stack_ahead}
use Rattle.flat_process.proofs.space.FlatSpaceMemory.ahead.Goals as goal

pub returns-in-Text : goal.returns-in-Text
returns-in-Text c =
    let held : List ℕ = c.deref.result.now in
    let i : ℕ = c.in-Text.index in
    text_ahead c.args.self.now (subst IsSized c.self.view_is c.self.invariant) c.args.address i (take (length held - i) (drop i held))
    (sym c.spot.ensures.spot ∙ c.in-Text.is)
    (take_rest held i ∙ ap (drop i) (c.deref.ensures.value ∙ ap (λ (s : Space). s.text_bytes) c.self.view_is))

pub returns-in-Data : goal.returns-in-Data
returns-in-Data c =
    let held : List ℕ = c.deref-in-Data.result.now in
    let i : ℕ = c.in-Data.index in
    data_ahead c.args.self.now (subst IsSized c.self.view_is c.self.invariant) c.args.address i (take (length held - i) (drop i held))
    (sym c.spot.ensures.spot ∙ c.in-Data.is)
    (take_rest held i ∙ ap (drop i) (c.deref-in-Data.ensures.value ∙ ap (λ (s : Space). s.data_bytes) c.self.view_is))

pub returns-in-Stack : goal.returns-in-Stack
returns-in-Stack c =
    let i : ℕ = c.in-Stack.index in
    stack_ahead c.args.self.now (subst IsSized c.self.view_is c.self.invariant) c.args.address i c.page_from.result.now
    (sym c.spot.ensures.spot ∙ c.in-Stack.is)
    (c.page_from.ensures ∙ ap (λ (bs : List ℕ). take (1024 - i % 1024) (drop i bs)) (c.as_slice.ensures.value ∙ ap (λ (s : Space). s.stack_bytes) c.self.view_is))
