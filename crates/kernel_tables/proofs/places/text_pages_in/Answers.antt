use Rattle.std.proofs.Common.{◌≡◌, ℕ, ◌+◌, ◌-◌, map, Some, sym, ap, ◌∙◌, arith}
use Rattle.std.proofs.lemmas.Bool.Decides.{nat_tests}
use Rattle.kernel_tables.specs.declared.named.Named.{Named}
use Rattle.kernel_tables.specs.View.{pages_in}
use Rattle.kernel_tables.proofs.PlaceStates.{pages_zero, pages_item, pages_past, sound_item, got, got_none}
use Rattle.kernel_tables.proofs.places.text_pages_in.Goals as goal

pub returns-then-image-eq0 : goal.returns-then-image-eq0
returns-then-image-eq0 c =
    let zero_is : c.args.image ≡ 0 = (let t = c.if-image-eq0.true in grind (arith, nat_tests)) in
    sym (ap (λ (i : ℕ). pages_in 1 i (map (λ (n : Named). n.facts) c.args.images.now)) zero_is ∙ pages_zero 1 c.args.images.now (omega arith))

pub text_pages-requires : goal.text_pages-requires
text_pages-requires c = let a = c.in-Some.ensures.lookup in
    sound_item c.args.images.now (c.args.image - 1) c.in-Some.named.now c.requires (got c.args.images.now (c.args.image - 1) c.in-Some.named.now a.3.0 ∙ ap (λ (n : Named). Some n) (sym a.1))

pub returns-in-Some : goal.returns-in-Some
returns-in-Some c =
    let above : c.args.image ≡ 1 + (c.args.image - 1) = (let t = c.if-image-eq0.false in grind (arith, nat_tests)) in
    let a = c.in-Some.ensures.lookup in
    c.text_pages.ensures.value
    ∙ sym (pages_item 1 (c.args.image - 1) c.args.images.now c.in-Some.named.now (got c.args.images.now (c.args.image - 1) c.in-Some.named.now a.3.0 ∙ ap (λ (n : Named). Some n) (sym a.1)))
    ∙ ap (λ (i : ℕ). pages_in 1 i (map (λ (n : Named). n.facts) c.args.images.now)) (sym above)

pub returns-in-None : goal.returns-in-None
returns-in-None c =
    let above : c.args.image ≡ 1 + (c.args.image - 1) = (let t = c.if-image-eq0.false in grind (arith, nat_tests)) in
    let a = c.in-None.ensures.lookup in
    sym (ap (λ (i : ℕ). pages_in 1 i (map (λ (n : Named). n.facts) c.args.images.now)) above ∙ pages_past 1 (c.args.image - 1) c.args.images.now (got_none c.args.images.now (c.args.image - 1) a.3))
