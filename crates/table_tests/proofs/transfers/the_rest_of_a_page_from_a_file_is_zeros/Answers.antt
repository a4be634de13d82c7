use Rattle.std.proofs.Common.{rules, ◌≡◌, ◌∷◌, [], List, Some, map, sym, subst}
use Rattle.io_edge.specs.FileHolding.{named_file, HasRange}
use Rattle.transfer_ring.specs.Sound.{AreReachable}
use Rattle.transfer_ring.specs.declared.transfer.Transfer.{Transfer}
use Rattle.table_tests.proofs.transfers.the_rest_of_a_page_from_a_file_is_zeros.Goals as goal

pub complete_oldest-requires : goal.complete_oldest-requires
complete_oldest-requires g c =
    let ring : c.begin_read.new.self ≡ c.read_from.result ∷ [] = search rules in
    let range : HasRange (Some (map named_file c.find.new.self.store.files.items)) c.in-Is.id 1 2 = search rules in
    subst (λ (ring : List Transfer). AreReachable (Some (map named_file c.find.new.self.store.files.items)) c.device-swap.result.store.blocks ring) (sym ring)
    (c.read_from.ensures.reachable (Some (map named_file c.find.new.self.store.files.items)) c.device-swap.result.store.blocks range, tt)
