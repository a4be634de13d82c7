use Rattle.std.proofs.Common.{ℕ, ◌+◌, length, slice_index, ap, arith, rules, refl}
use Rattle.core_map.proofs.ChainLemmas.{rest_start, rest_done, rest_low, rest_step}
use Rattle.core_map.proofs.text_index.seek.Goals as goal

pub loop-turn-init : goal.loop-turn-init
loop-turn-init c =
    rest_start c.args.chains c.args.links.now c.args.keys.now c.args.key _ c.requires (omega arith)
    (ap (λ (b : ℕ). slice_index c.args.links.now (length c.args.keys.now + b)) c.bucket.ensures.value)

pub returns-then-at-eq0-clause-none : goal.returns-then-at-eq0-clause-none
returns-then-at-eq0-clause-none c = rest_done _ _ _ _ _ c.loop-turn.invariant c.if-at-eq0.true

pub has_key-requires : goal.has_key-requires
has_key-requires c = rest_low _ _ _ _ _ c.loop-turn.invariant c.if-at-eq0.false

pub bounds-links-at : goal.bounds-links-at
bounds-links-at c = omega (arith, rest_low _ _ _ _ _ c.loop-turn.invariant c.if-at-eq0.false)

pub loop-turn-preserved : goal.loop-turn-preserved
loop-turn-preserved c = rest_step _ _ _ _ _ _ c.loop-turn.invariant c.if-at-eq0.false (λ e. search rules) refl
