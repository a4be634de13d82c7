use Rattle.std.proofs.Common.{ℕ, ◌+◌, ◌-◌, ◌<◌, cond, eqb, List, length, get_or, Option, Some, ap, sym, ◌∙◌, subst, arith}
use Rattle.std.specs.Map.{lookup}
use Rattle.std.specs.Prelude.{nat_eq}
use Rattle.std.proofs.lemmas.List.{length_push}
use Rattle.stack_dist.specs.Recency.{after, place_in, AreLastPlaces}
use Rattle.stack_dist.proofs.RecencyLaws.{places_next, last_place_more}
use Rattle.stack_dist.proofs.recency.last_places.Goals as goal

pub loop-page-init : goal.loop-page-init
unfolding after place_in
loop-page-init c = record {
  end = omega arith;
  last = λ q. ap (λ (es : List (ℕ × ℕ)). lookup (nat_eq q) es) c.new-last.ensures.empty;
  len = ap (λ (xs : List (Option ℕ)). length xs) c.new-places.ensures.items;
  places = λ i lt. absurd (omega arith);
}

pub loop-page-preserved : goal.loop-page-preserved
loop-page-preserved c =
    let refs = c.args.refs.now in
    let i = c.loop-page.page-index in
    let page = get_or refs i 0 in
    let place = c.loop-page.place in
    let end_is = c.loop-page.invariant.end in
    let test = c.loop-page-test.true in
    let enough = c.requires in
    let some : 0 < place = omega arith in
    let items = ap (λ (xs : List (Option ℕ)). length xs) c.in_ok-push.ensures.items in
    let one = length_push {X = Option ℕ} c.loop-page.places.items c.in_ok-insert.field-0 in
    let len = c.loop-page.invariant.len in
    record {
      end = omega arith;
      last = λ q.
          c.in_ok-insert.ensures.updates.0 q ∙
          ap (λ (o : Option ℕ). cond (eqb page q) (Some (place - 1)) o) (c.loop-page.invariant.last q) ∙ sym (places_next refs i place q test some);
      len = omega arith;
      places =
          subst (λ (xs : List (Option ℕ)). AreLastPlaces refs c.args.end (i + 1) xs) (sym c.in_ok-push.ensures.items)
          (last_place_more refs c.args.end i c.loop-page.places.items c.in_ok-insert.field-0 place len end_is c.loop-page.invariant.places
          (c.in_ok-insert.ensures.old ∙ c.loop-page.invariant.last page));
    }
