use Rattle.std.proofs.Common.{ℕ, List, ap}
use Rattle.std.specs.Ordering.{nat_cmp}
use Rattle.std.specs.List.{list_any}
use Rattle.std.specs.BTreeMap.{is_at}
use Rattle.page_opt.proofs.Replaying.{tracks_none}
use Rattle.page_opt.proofs.replay.Replay.new.Goals as goal

pub returns-clause-cache : goal.returns-clause-cache
returns-clause-cache c =
    tracks_none c.new.result (λ q. ap (λ (ks : List ℕ). list_any (is_at (nat_cmp q)) ks) c.new.ensures.empty) c.new.ensures.len
