use Rattle.std.proofs.Common.{◌≡◌, ◌≤◌, ◌∙◌, true, refl, subst, sym, arith}
use Rattle.std.proofs.lemmas.Bool.Decides.{nat_tests}
use Rattle.page_laws.specs.Spans.{moves}
use Rattle.vm_core.specs.LastMoves.{last_moves}
use Rattle.film_core.proofs.Longer.{last_got, last_is, last_none}
use Rattle.film_core.proofs.marks.has_few_moves.Goals as goal

pub returns-in-Some : goal.returns-in-Some
returns-in-Some c =
    let e : c.moves_counted.result ≡ last_moves c.args.journal.now =
    c.moves_counted.ensures ∙ sym (last_is c.args.journal.now c.in-Some.e.now (c.in-Some.ensures.value ∙ last_got c.args.journal.now)) in (
      λ few. subst (λ n. n ≤ 1000000) e (grind (arith, nat_tests)),
      λ low. let l : c.moves_counted.result ≤ 1000000 = subst (λ n. n ≤ 1000000) (sym e) low in grind (arith, nat_tests),
    )

pub returns-in-None : goal.returns-in-None
returns-in-None c = let e = last_none c.args.journal.now (c.in-None.ensures.value ∙ last_got c.args.journal.now) in (λ few. omega (arith, e), λ low. refl)
