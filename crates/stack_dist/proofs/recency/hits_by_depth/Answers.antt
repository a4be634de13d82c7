use Rattle.std.proofs.Common.{ℕ, ◌+◌, ◌-◌, ◌<◌, List, [], length, take, get_or, None, ap, refl, sym, ◌∙◌, subst, arith}
use Rattle.std.proofs.lemmas.List.{length-replicate}
use Rattle.stack_dist.specs.Recency.{after, place_in}
use Rattle.stack_dist.proofs.LruLaws.{length-seen, depth_is, lru_and_hits}
use Rattle.stack_dist.proofs.RecencyLaws.{Follows, starts, ready, few_gaps, length-gapped, depth_counts, follows_step, all_followed, last_of, last_is, places_next}
use Rattle.stack_dist.proofs.recency.hits_by_depth.Goals as goal

pub loop-before-init : goal.loop-before-init
unfolding after place_in
loop-before-init c =
    let zeros = c.in_ok-gaps.ensures in
    let len = ap (λ (xs : List ℕ). length xs) zeros.zeros ∙ length-replicate zeros.size 0 in
    record {
      places = omega arith;
      room = sym c.len-place.ensures;
      follows =
          subst (λ (n : ℕ). Follows (after [] []) (last_of n (after [] [])) n c.in_ok-gaps.gaps c.new-hits.result.items) (sym (c.len-place.ensures ∙ len))
          (starts zeros.size (last_of zeros.size (after [] [])) c.in_ok-gaps.gaps c.new-hits.result.items (λ q. refl) zeros.zeros c.new-hits.ensures.items);
    }

pub leave_gap-depth-requires-clause-within : goal.leave_gap-depth-requires-clause-within
leave_gap-depth-requires-clause-within c at is =
    let within : c.loop-before.before-index < length c.args.refs.now =
    omega (arith, c.loop-before-test.true, c.deref-before-items.ensures.len, c.in_ok-last.ensures.len)
    in
    let was =
    last_is c.args.refs.now c.len-place.result c.loop-before.before-index c.loop-before.place c.in_ok-last.last.items c.deref-before-items.result.now
    c.deref-before-items.ensures.value c.in_ok-last.ensures.places within c.loop-before.invariant.places
    in
    (ready (after (take c.loop-before.before-index c.args.refs.now) []) (last_of c.loop-before.place (after (take c.loop-before.before-index c.args.refs.now) [])) c.loop-before.place
    (get_or c.args.refs.now c.loop-before.before-index 0) at c.loop-before.gaps c.loop-before.hits.items c.loop-before.invariant.follows
    (sym was ∙ is)).within

pub leave_gap-depth-requires-clause-order : goal.leave_gap-depth-requires-clause-order
leave_gap-depth-requires-clause-order c at is =
    let within : c.loop-before.before-index < length c.args.refs.now =
    omega (arith, c.loop-before-test.true, c.deref-before-items.ensures.len, c.in_ok-last.ensures.len)
    in
    let was =
    last_is c.args.refs.now c.len-place.result c.loop-before.before-index c.loop-before.place c.in_ok-last.last.items c.deref-before-items.result.now
    c.deref-before-items.ensures.value c.in_ok-last.ensures.places within c.loop-before.invariant.places
    in
    (ready (after (take c.loop-before.before-index c.args.refs.now) []) (last_of c.loop-before.place (after (take c.loop-before.before-index c.args.refs.now) [])) c.loop-before.place
    (get_or c.args.refs.now c.loop-before.before-index 0) at c.loop-before.gaps c.loop-before.hits.items c.loop-before.invariant.follows
    (sym was ∙ is)).order

pub leave_gap-depth-requires-clause-none : goal.leave_gap-depth-requires-clause-none
leave_gap-depth-requires-clause-none c at is =
    let within : c.loop-before.before-index < length c.args.refs.now =
    omega (arith, c.loop-before-test.true, c.deref-before-items.ensures.len, c.in_ok-last.ensures.len)
    in
    let was =
    last_is c.args.refs.now c.len-place.result c.loop-before.before-index c.loop-before.place c.in_ok-last.last.items c.deref-before-items.result.now
    c.deref-before-items.ensures.value c.in_ok-last.ensures.places within c.loop-before.invariant.places
    in
    (ready (after (take c.loop-before.before-index c.args.refs.now) []) (last_of c.loop-before.place (after (take c.loop-before.before-index c.args.refs.now) [])) c.loop-before.place
    (get_or c.args.refs.now c.loop-before.before-index 0) at c.loop-before.gaps c.loop-before.hits.items c.loop-before.invariant.follows
    (sym was ∙ is)).none

pub leave_gap-depth-requires-clause-fits : goal.leave_gap-depth-requires-clause-fits
leave_gap-depth-requires-clause-fits c =
    let within : c.loop-before.before-index < length c.args.refs.now =
    omega (arith, c.loop-before-test.true, c.deref-before-items.ensures.len, c.in_ok-last.ensures.len)
    in
    let few =
    few_gaps (after (take c.loop-before.before-index c.args.refs.now) []) (last_of c.loop-before.place (after (take c.loop-before.before-index c.args.refs.now) [])) c.loop-before.place
    c.loop-before.gaps c.loop-before.hits.items
    c.loop-before.invariant.follows
    in
    let less = few.1 in
    let seen = length-seen c.args.refs.now c.loop-before.before-index (omega arith) in
    let limit = c.requires in
    omega arith

pub count-requires-clause-within : goal.count-requires-clause-within
count-requires-clause-within c depth is =
    let within : c.loop-before.before-index < length c.args.refs.now =
    omega (arith, c.loop-before-test.true, c.deref-before-items.ensures.len, c.in_ok-last.ensures.len)
    in
    let was =
    last_is c.args.refs.now c.len-place.result c.loop-before.before-index c.loop-before.place c.in_ok-last.last.items c.deref-before-items.result.now
    c.deref-before-items.ensures.value c.in_ok-last.ensures.places within c.loop-before.invariant.places
    in
    let d =
    depth_counts (after (take c.loop-before.before-index c.args.refs.now) []) (last_of c.loop-before.place (after (take c.loop-before.before-index c.args.refs.now) [])) c.loop-before.place
    (get_or c.args.refs.now c.loop-before.before-index 0) depth c.loop-before.gaps c.loop-before.hits.items
    (get_or c.deref-before-items.result.now c.loop-before.before-index None) c.loop-before.invariant.follows
    was (sym c.leave_gap-depth.ensures.depth ∙ is)
    in
    let counted = d.0 in
    let ok = c.loop-before.hits.ok in
    omega arith

pub count-requires-clause-fits : goal.count-requires-clause-fits
count-requires-clause-fits c depth is =
    let within : c.loop-before.before-index < length c.args.refs.now =
    omega (arith, c.loop-before-test.true, c.deref-before-items.ensures.len, c.in_ok-last.ensures.len)
    in
    let was =
    last_is c.args.refs.now c.len-place.result c.loop-before.before-index c.loop-before.place c.in_ok-last.last.items c.deref-before-items.result.now
    c.deref-before-items.ensures.value c.in_ok-last.ensures.places within c.loop-before.invariant.places
    in
    let d =
    depth_counts (after (take c.loop-before.before-index c.args.refs.now) []) (last_of c.loop-before.place (after (take c.loop-before.before-index c.args.refs.now) [])) c.loop-before.place
    (get_or c.args.refs.now c.loop-before.before-index 0) depth c.loop-before.gaps c.loop-before.hits.items
    (get_or c.deref-before-items.result.now c.loop-before.before-index None) c.loop-before.invariant.follows
    was (sym c.leave_gap-depth.ensures.depth ∙ is)
    in
    let counted = d.1 in
    let seen = length-seen c.args.refs.now c.loop-before.before-index (omega arith) in
    let limit = c.requires in
    omega arith

pub loop-before-preserved : goal.loop-before-preserved
loop-before-preserved c =
    let within : c.loop-before.before-index < length c.args.refs.now =
    omega (arith, c.loop-before-test.true, c.deref-before-items.ensures.len, c.in_ok-last.ensures.len)
    in
    let was =
    last_is c.args.refs.now c.len-place.result c.loop-before.before-index c.loop-before.place c.in_ok-last.last.items c.deref-before-items.result.now
    c.deref-before-items.ensures.value c.in_ok-last.ensures.places within c.loop-before.invariant.places
    in
    let len = ap (λ (xs : List ℕ). length xs) c.leave_gap-depth.ensures.gaps ∙ length-gapped (get_or c.deref-before-items.result.now c.loop-before.before-index None) c.loop-before.gaps in
    let places = c.loop-before.invariant.places in
    let room = c.loop-before.invariant.room in
    let enough = c.in_ok-gaps.ensures.enough in
    let many = ap (λ (xs : List ℕ). length xs) c.in_ok-gaps.ensures.zeros ∙ length-replicate c.in_ok-gaps.ensures.size 0 in
    let first = c.len-place.ensures in
    let some : 0 < c.loop-before.place = omega arith in
    record {
      places = omega arith;
      room = omega arith;
      follows =
          follows_step c.args.refs.now c.loop-before.before-index (last_of c.loop-before.place (after (take c.loop-before.before-index c.args.refs.now) []))
          (last_of (c.loop-before.place - 1) (after (take (c.loop-before.before-index + 1) c.args.refs.now) [])) c.loop-before.place c.loop-before.gaps
          c.leave_gap-depth.new.gaps c.loop-before.hits.items c.count.new.hits.items (get_or c.deref-before-items.result.now c.loop-before.before-index None) c.leave_gap-depth.result
          within c.loop-before.invariant.follows some was c.leave_gap-depth.ensures.depth c.leave_gap-depth.ensures.gaps c.in_ok-count.ensures
          (λ q. places_next c.args.refs.now c.loop-before.before-index c.loop-before.place q within some);
    }

pub returns-clause-depths : goal.returns-clause-depths
returns-clause-depths c =
    let all =
    all_followed c.args.refs.now c.loop-before.before-index (last_of c.loop-before.place (after (take c.loop-before.before-index c.args.refs.now) [])) c.loop-before.place c.loop-before.gaps
    c.loop-before.hits.items
    (omega (arith, c.loop-before-test.false, c.deref-before-items.ensures.len, c.in_ok-last.ensures.len)) c.loop-before.invariant.follows
    in
    let ok = c.loop-before.hits.ok in
    let deep = all.depths in
    let pages = depth_is c.args.refs.now in
    omega arith

pub returns-clause-hits : goal.returns-clause-hits
returns-clause-hits c n =
    let all =
    all_followed c.args.refs.now c.loop-before.before-index (last_of c.loop-before.place (after (take c.loop-before.before-index c.args.refs.now) [])) c.loop-before.place c.loop-before.gaps
    c.loop-before.hits.items
    (omega (arith, c.loop-before-test.false, c.deref-before-items.ensures.len, c.in_ok-last.ensures.len)) c.loop-before.invariant.follows
    in
    let hits = all.counts n in
    let both = lru_and_hits n c.args.refs.now in
    omega arith
