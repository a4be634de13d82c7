use Rattle.std.proofs.Common.{◌≡◌, ℕ, suc, ◌+◌, ◌<◌, List, ◌++◌, length, map, take, drop, set, get_or, ap, ◌∙◌, subst, arith}
use Rattle.space_map.specs.Space.{Places}
use Rattle.kernel_tables.specs.Shown.{placed}
use Rattle.kernel_tables.proofs.Loops.{changed_at, still_at}
use Rattle.kernel_tables.proofs.spaces.set_each.Goals as goal

pub loop-space-preserved : goal.loop-space-preserved
loop-space-preserved c =
    let i : ℕ = c.loop-space.space-index in
    let f : Places → Places = placed c.args.page c.args.place in
    let old : List Places = c.args.maps.now.items in
    let inv : c.loop-space.space-items ≡ map f (take i old) ++ drop i old = c.loop-space.invariant in
    let item : get_or c.loop-space.space-items i c.space-item.result ≡ get_or old i c.space-item.result =
    ap (λ (zs : List Places). get_or zs i c.space-item.result) inv ∙ still_at f old i c.space-item.result in
    let l : i < length old = subst (λ (zs : List Places). i < length zs) c.deref_mut-space-items.ensures.value c.loop-space-test.true in
    let next : suc i ≡ i + 1 = omega arith in
    ap (λ (zs : List Places). set zs i c.set_place.new.space) inv
    ∙ ap (λ (x : Places). set (map f (take i old) ++ drop i old) i x) (c.set_place.ensures ∙ ap f item)
    ∙ changed_at f old i c.space-item.result l
    ∙ ap (λ (n : ℕ). map f (take n old) ++ drop n old) next
