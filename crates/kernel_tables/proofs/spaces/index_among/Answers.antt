use Rattle.std.proofs.Common.{rules}
use Rattle.std.proofs.lemmas.List.Sorted.{answers_always}
use Rattle.kernel_tables.proofs.Rising.{searched}
use Rattle.kernel_tables.proofs.spaces.index_among.Goals as goal

pub returns : goal.returns
returns c =
    let facts = c.binary_search_by_key.ensures in
    let by_key = facts.position (λ space. space.sid) (answers_always _ _ _ (λ f a r g called. search rules)) in
    record {
      found = rw (c.ok.ensures.value) (searched c.args.maps.now c.requires c.args.sid _ facts.bound by_key).found;
      absent = rw (c.ok.ensures.value) (searched c.args.maps.now c.requires c.args.sid _ facts.bound by_key).absent;
    }
