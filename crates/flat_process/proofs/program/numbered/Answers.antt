use Rattle.std.proofs.Common.{◌≡◌, ℕ, ◌+◌, List, get_or, true, false, refl, sym, ap, ◌∙◌, subst, arith}
use Rattle.flat_state.specs.Flat.{NamedImage}
use Rattle.std.specs.Prelude.{bytes_eq, Option, IsSome}
use Rattle.flat_process.specs.Images.{with_number}
use Rattle.flat_process.proofs.Loading.{search_more, search_found, search_end, numbered_at}
use Rattle.flat_process.proofs.program.numbered.Goals as goal

pub returns-then-same : goal.returns-then-same
returns-then-same c =
    let x = c.index-programs-place.result in
    let is : x ≡ get_or c.args.programs.now c.loop-place.place x = c.index-programs-place.is in
    let e : bytes_eq (get_or c.args.programs.now c.loop-place.place x).name c.args.name.now ≡ true =
    ap (λ (y : NamedImage). bytes_eq y.name c.args.name.now) (sym is) ∙ ap (λ (y : List ℕ). bytes_eq y c.args.name.now) (sym c.name.ensures.value) ∙ sym c.same.ensures ∙ c.if-same.true in
    let there = numbered_at c.args.programs.now c.loop-place.place x c.loop-place-test.true in (
      search_found c.args.programs.now c.args.name.now c.loop-place.place x c.loop-place-test.true c.loop-place.invariant e ∙ ap (with_number (c.loop-place.place + 1)) (sym there),
      subst (λ (o : Option NamedImage). IsSome o) (sym there) refl,
    )

pub loop-place-preserved : goal.loop-place-preserved
loop-place-preserved c =
    let x = c.index-programs-place.result in
    let is : x ≡ get_or c.args.programs.now c.loop-place.place x = c.index-programs-place.is in
    let e : bytes_eq (get_or c.args.programs.now c.loop-place.place x).name c.args.name.now ≡ false =
    ap (λ (y : NamedImage). bytes_eq y.name c.args.name.now) (sym is) ∙ ap (λ (y : List ℕ). bytes_eq y c.args.name.now) (sym c.name.ensures.value) ∙ sym c.same.ensures ∙ c.if-same.false in
    search_more c.args.programs.now c.args.name.now c.loop-place.place x c.loop-place-test.true c.loop-place.invariant e

pub returns : goal.returns
returns c = search_end c.args.programs.now c.args.name.now c.loop-place.place (omega arith) c.loop-place.invariant
