use Rattle.std.proofs.Common.{ℕ, List, Some, map, sym, subst}
use Rattle.io_edge.specs.FileHolding.{named_file}
use Rattle.transfer_ring.specs.Sound.{AreReachable}
use Rattle.transfer_ring.specs.declared.transfer.Transfer.{Transfer}
use Rattle.transfer_ring.proofs.TestLemmas.{reach_rest}
use Rattle.table_tests.proofs.transfers.complete.Goals as goal

pub complete_oldest-requires : goal.complete_oldest-requires
complete_oldest-requires c =
    subst (λ (blocks : ℕ). AreReachable (Some (map named_file c.new-files.result.store.files.items)) blocks c.args.ring.now) (sym c.requires.eight)
    (c.requires.were (Some (map named_file c.new-files.result.store.files.items)))

pub returns-clause-are : goal.returns-clause-are
returns-clause-are c = λ holds.
    subst (λ (ring : List Transfer). AreReachable holds 8 ring) (sym c.complete_oldest.ensures.rest) (reach_rest holds 8 c.args.ring.now (c.requires.were holds))
