use Rattle.std.proofs.Common.{◌≡◌, ℕ, ◌+◌, ◌-◌, ◌<◌, ◌≤◌, sym, ap, subst, ◌∙◌, arith}
use Rattle.flat_state.specs.PageNames.{beside, pages_from}
use Rattle.page_model.specs.Placement.{Placement}
use Rattle.page_model.specs.Runs.{is_seated}
use Rattle.page_model.specs.Swapper.{seated_count}
use Rattle.table_view.specs.Views.{IsNamedBy, ShowsSpace}
use Rattle.swapper.proofs.Seen.{count_passes, count_found, count_passed}
use Rattle.swapper.proofs.seats.count_in.Goals.{then-is_seated, else-is_seated}
use Rattle.swapper.proofs.seats.count_in.Goals as goal

pub loop-framed-init : goal.loop-framed-init
loop-framed-init c = record {
  within = omega arith;
  few = omega arith;
  so_far = λ p h n.
      let all : c.args.pages - 0 ≡ c.args.pages = omega arith in
      let same : seated_count p (pages_from c.args.segment 0 (c.args.pages - 0)) ≡ seated_count p (pages_from c.args.segment 0 c.args.pages) =
      ap (λ (k : ℕ). seated_count p (pages_from c.args.segment 0 k)) all in
      omega (arith, same);
}

pub loop-framed-preserved : goal.loop-framed-preserved
loop-framed-preserved c =
    let w : ℕ = c.in-Some.framed in
    let low : c.loop-framed.v ≤ w = c.in-Some.ensures.found.0 in
    let high : w < c.args.pages = c.in-Some.ensures.found.1 in
    let few : c.loop-framed.count ≤ c.loop-framed.v = c.loop-framed.invariant.few in
    let passed : (p : Placement) → ShowsSpace p c.args.core.now c.args.space.now → ((v : ℕ) → IsNamedBy c.args.space.now (beside c.args.segment v))
    → c.loop-framed.count + seated_count p (pages_from c.args.segment w (c.args.pages - w)) ≡ seated_count p (pages_from c.args.segment 0 c.args.pages) =
    λ p h n. ap (λ (k : ℕ). c.loop-framed.count + k)
    (sym (count_passed p c.args.core.now c.args.space.now c.args.segment h n c.loop-framed.v w c.args.pages low (omega arith) c.in-Some.ensures.none_before))
    ∙ c.loop-framed.invariant.so_far p h n in
    elim c.if-is_seated.branch [
      | then-is_seated x ↦ record {
        within = omega arith;
        few = omega (arith, x.count-is, few, low);
        so_far = λ p h n.
            let e = c.is_seated.ensures p h (subst (IsNamedBy c.args.space.now) (sym c.beside.ensures) (n w)) ∙ ap (is_seated p) c.beside.ensures in
            ap (λ (k : ℕ). k + seated_count p (pages_from c.args.segment (w + 1) (c.args.pages - (w + 1)))) x.count-is
            ∙ count_found p c.args.segment w c.args.pages c.loop-framed.count c.is_seated.result high e x.if-is_seated.true
            ∙ passed p h n;
      }
      | else-is_seated x ↦ record {
        within = omega arith;
        few = omega (arith, x.count-is, few, low);
        so_far = λ p h n.
            let e = c.is_seated.ensures p h (subst (IsNamedBy c.args.space.now) (sym c.beside.ensures) (n w)) ∙ ap (is_seated p) c.beside.ensures in
            ap (λ (k : ℕ). k + seated_count p (pages_from c.args.segment (w + 1) (c.args.pages - (w + 1)))) x.count-is
            ∙ count_passes p c.args.segment w c.args.pages c.loop-framed.count c.is_seated.result high e x.if-is_seated.false
            ∙ passed p h n;
      }
    ]

pub returns : goal.returns
returns c =
    let few : c.loop-framed.count ≤ c.loop-framed.v = c.loop-framed.invariant.few in
    let within : c.loop-framed.v ≤ c.args.pages = c.loop-framed.invariant.within in
    record {
      few = omega arith;
      count = λ p h n.
          let nothing : c.args.pages - c.args.pages ≡ 0 = omega arith in
          let none : seated_count p (pages_from c.args.segment c.args.pages (c.args.pages - c.args.pages)) ≡ 0 =
          ap (λ (k : ℕ). seated_count p (pages_from c.args.segment c.args.pages k)) nothing in
          let passed : seated_count p (pages_from c.args.segment c.loop-framed.v (c.args.pages - c.loop-framed.v))
          ≡ seated_count p (pages_from c.args.segment c.args.pages (c.args.pages - c.args.pages)) =
          count_passed p c.args.core.now c.args.space.now c.args.segment h n c.loop-framed.v c.args.pages c.args.pages within (omega arith) c.in_default.ensures.none_before in
          let so = c.loop-framed.invariant.so_far p h n in
          omega (arith, none, passed, so);
    }
