use Rattle.std.proofs.Common.{◌≡◌, ℕ, ◌-◌, ◌<◌, ◌≤◌, Some, sym, ap, subst, ◌∙◌, arith}
use Rattle.vm_facts.specs.declared.page.Page.{Page}
use Rattle.flat_state.specs.PageNames.{pages_from}
use Rattle.page_model.specs.Runs.{is_seated}
use Rattle.page_model.specs.Swapper.{first_seated}
use Rattle.table_view.specs.Views.{IsNamedBy}
use Rattle.swapper.proofs.Seen.{first_passes, first_found, first_passed}
use Rattle.swapper.proofs.seats.first_in.Goals as goal

pub loop-framed-init : goal.loop-framed-init
loop-framed-init c = record {
  within = omega arith;
  so_far = λ p h n. let all : c.args.pages - 0 ≡ c.args.pages = omega arith in ap (λ (k : ℕ). first_seated p (pages_from c.args.segment 0 k)) all;
}

pub returns-then-is_seated : goal.returns-then-is_seated
returns-then-is_seated c = λ p h n.
    let w : ℕ = c.in-Some.framed in
    let low : c.loop-framed.v ≤ w = c.in-Some.ensures.found.0 in
    let high : w < c.args.pages = c.in-Some.ensures.found.1 in
    let e = c.is_seated.ensures p h (subst (IsNamedBy c.args.space.now) (sym c.beside-page.ensures) (n w)) ∙ ap (is_seated p) c.beside-page.ensures in
    ap (λ (q : Page). Some q) c.beside-page.ensures ∙ sym (first_found p c.args.segment w c.args.pages c.is_seated.result high e c.if-is_seated.true)
    ∙ sym (first_passed p c.args.core.now c.args.space.now c.args.segment h n c.loop-framed.v w c.args.pages low (omega arith) c.in-Some.ensures.none_before)
    ∙ c.loop-framed.invariant.so_far p h n

pub loop-framed-preserved : goal.loop-framed-preserved
loop-framed-preserved c =
    let w : ℕ = c.in-Some.framed in
    let low : c.loop-framed.v ≤ w = c.in-Some.ensures.found.0 in
    let high : w < c.args.pages = c.in-Some.ensures.found.1 in
    record {
      within = omega arith;
      so_far = λ p h n.
          let e = c.is_seated.ensures p h (subst (IsNamedBy c.args.space.now) (sym c.beside-page.ensures) (n w)) ∙ ap (is_seated p) c.beside-page.ensures in
          sym (first_passes p c.args.segment w c.args.pages c.is_seated.result high e c.if-is_seated.false)
          ∙ sym (first_passed p c.args.core.now c.args.space.now c.args.segment h n c.loop-framed.v w c.args.pages low (omega arith) c.in-Some.ensures.none_before)
          ∙ c.loop-framed.invariant.so_far p h n;
    }

pub returns : goal.returns
returns c = λ p h n.
    let nothing : c.args.pages - c.args.pages ≡ 0 = omega arith in
    sym (ap (λ (k : ℕ). first_seated p (pages_from c.args.segment c.args.pages k)) nothing)
    ∙ sym (first_passed p c.args.core.now c.args.space.now c.args.segment h n c.loop-framed.v c.args.pages c.args.pages c.loop-framed.invariant.within (omega arith)
    c.in_default.ensures.none_before)
    ∙ c.loop-framed.invariant.so_far p h n
