-- How many pages are in flight.
use Rattle.std.proofs.Common.{◌≡◌, ◌+◌, List, [], ◌∷◌, length, map, refl, ap₂, ◌∙◌}
use Rattle.std.proofs.lemmas.List.{length-append}
use Rattle.transfer_ring.specs.declared.transfer.Transfer.{Transfer as Flight}
use Rattle.transfer_ring.specs.declared.transfer.Transfer.TheVariants as flights
use Rattle.transfer_ring.specs.Counting.{transfer_pages, pages_of_all}
use Rattle.page_model.specs.Placement.{moving, parts_of}
use Rattle.table_steps.specs.View.{in_part, out_part, transfer_shown}
use Rattle.table_steps.proofs.Shows.{length_map}

one_count : (t : Flight) → length (map (moving (transfer_shown t).errand) (transfer_shown t).parts) ≡ transfer_pages t
one_count (flights.Read demanded parts) = length_map (moving (transfer_shown (flights.Read demanded parts)).errand) (map in_part parts.items) ∙ length_map in_part parts.items
one_count (flights.Write parts) = length_map (moving (transfer_shown (flights.Write parts)).errand) (map out_part parts.items) ∙ length_map out_part parts.items

pub parts_count : (ts : List Flight) → length (parts_of (map transfer_shown ts)) ≡ pages_of_all ts
parts_count [] = refl
parts_count (t ∷ ts) = length-append (map (moving (transfer_shown t).errand) (transfer_shown t).parts) (parts_of (map transfer_shown ts)) ∙ ap₂ ◌+◌ (one_count t) (parts_count ts)
