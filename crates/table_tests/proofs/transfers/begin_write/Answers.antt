use Rattle.std.proofs.Common.{List, sym, subst}
use Rattle.transfer_ring.specs.Sound.{AreReachable}
use Rattle.transfer_ring.specs.declared.transfer.Transfer.{Transfer}
use Rattle.transfer_ring.proofs.TestLemmas.{reach_behind}
use Rattle.table_tests.proofs.transfers.begin_write.Goals as goal

pub returns-clause-are : goal.returns-clause-are
returns-clause-are c = λ holds.
    subst (λ (ring : List Transfer). AreReachable holds 8 ring) (sym c.in-Ok.ensures.begun)
    (reach_behind holds 8 c.args.ring.now c.args.t (c.requires.were holds) (c.requires.is holds))
