use Rattle.std.proofs.Common.{◌≡◌, ℕ, ◌+◌, ◌-◌, ◌<◌, length, drop, get_or, nat_eq, ap, ◌∙◌, subst, arith, rules}
use Rattle.std.specs.HashMap.{get}
use Rattle.std.specs.Map.{lookup}
use Rattle.std.proofs.lemmas.Bool.{ne_eqb}
use Rattle.page_opt.specs.Cache.{next_at}
use Rattle.page_opt.proofs.Places.{next_at_end, seen_more, AreNext, next_more}
use Rattle.page_opt.proofs.next_use.next_uses.Goals as goal

pub loop-i-init : goal.loop-i-init
loop-i-init c = record {
  len = c.in_ok-next.ensures.len;
  seen = λ q. ap (λ es. lookup (nat_eq q) es) c.new-seen.ensures.empty ∙ next_at_end c.args.refs.now q;
  next = λ k d low high. absurd (omega arith);
}

pub loop-i-preserved : goal.loop-i-preserved
loop-i-preserved c =
    let refs = c.args.refs.now in
    let j = c.loop-i.i - 1 in
    let seen = c.loop-i.invariant.seen in
    let last : c.loop-i.i ≡ j + 1 = omega arith in
    let l : j < length refs = omega arith in
    let u = c.in_ok-next-2.ensures.updates in
    record {
      len = search rules;
      seen = seen_more refs j (get nat_eq c.loop-i.seen) (get nat_eq c.insert.new.self) l
          (subst (λ (i : ℕ). (q : ℕ) → get nat_eq c.loop-i.seen q ≡ next_at i q (drop i refs)) last seen)
          u.1
          (λ q other. u.2 q (ne_eqb (get_or refs j 0) q other));
      next = next_more refs j c.loop-i.next.items c.in_ok-next-2.field-0 (omega arith)
          (subst (λ (i : ℕ). AreNext refs i c.loop-i.next.items) last c.loop-i.invariant.next)
          (c.in_ok-next-2.ensures.old ∙ subst (λ (i : ℕ). get nat_eq c.loop-i.seen (get_or refs j 0) ≡ next_at i (get_or refs j 0) (drop i refs)) last (seen (get_or refs j 0)));
    }

pub returns : goal.returns
returns c = record {
  len = omega (arith, c.loop-i.invariant.len, c.loop-i.next.ok);
  each = λ i d l. c.loop-i.invariant.next i d (omega arith) l;
}
