use Rattle.std.proofs.Common.{◌≡◌, ◌+◌, true, get_or, sym, subst, arith}
use Rattle.std.proofs.lemmas.Bool.{false_from_ne_true, eqb-true}
use Rattle.page_opt.specs.PlaceSet.{Bits, bit_of, has_place}
use Rattle.page_opt.proofs.Summaries.{none_set}
use Rattle.page_opt.proofs.place_set.PlaceSet.last.Goals as goal

pub returns-then-index-eq0 : goal.returns-then-index-eq0
returns-then-index-eq0 c = λ k.
    false_from_ne_true (has_place c.args.self.now k)
    (λ there.
    let inside = subst (λ (bits : Bits). has_place bits k ≡ true) (sym c.self.view_is) there in
    let none : get_or c.self.inside.words.items 1 0 ≡ 0 = cc in
    none_set c.self.inside.first c.self.inside.height (c.self.inside.first + k) c.self.inside.words.items c.self.invariant.levels
    c.self.invariant.summaries c.self.invariant.height c.self.invariant.room none (omega arith)
    (eqb-true (bit_of c.self.inside.words.items (c.self.inside.first + k)) 1 inside))
