use Rattle.std.proofs.Common.{◌≡◌, ℕ, drop, length, nat_eq, vec_len}
use Rattle.std.specs.HashMap.{get}
use Rattle.page_opt.specs.Cache.{next_at}
use Rattle.page_opt.proofs.Places.{AreNext}
use Rattle.page_opt.proofs.next_use.next_uses.Given as goal

abbrev pub invariant-loop-i : goal.invariant-loop-i
invariant-loop-i l = record {
  len : vec_len l.next ≡ length l.refs;
  seen : (q : ℕ) → get nat_eq l.seen q ≡ next_at l.i q (drop l.i l.refs);
  next : AreNext l.refs l.i l.next.items;
}
