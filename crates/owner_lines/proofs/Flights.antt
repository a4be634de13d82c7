-- The lines of a transfer by what the ring has of it are those of the transfer that it shows.
use Rattle.std.proofs.Common.{◌≡◌, ℕ, List, [], ◌∷◌, ◌++◌, map, refl, sym, ap, ap₂, ◌∙◌, append_assoc}
use Rattle.std.specs.Prelude.{codes}
use Rattle.std.specs.List.{flat_map}
use Rattle.vm_facts.specs.declared.page.Page.{Page}
use Rattle.swap_book.specs.Holdings.{Holdings}
use Rattle.transfer_ring.specs.declared.transfer.Inbound.{Inbound}
use Rattle.transfer_ring.specs.declared.transfer.Outbound.{Outbound}
use Rattle.transfer_ring.specs.declared.transfer.Transfer.{Transfer as Flight}
use Rattle.transfer_ring.specs.declared.transfer.Transfer.TheVariants as flights
use Rattle.transfer_ring.specs.declared.transfer.Source.{Source as From}
use Rattle.transfer_ring.specs.declared.transfer.Source.TheVariants as froms
use Rattle.page_model.specs.Placement.{Source, Writes, Reads}
use Rattle.machine_state.specs.Sourced.{ImageNamed, IsSourced, AreSourcedIn, AreOwnBlocks, IsFlightSourced}
use Rattle.machine_state.specs.View.{in_part, out_part, source_of, source_shown, transfer_shown}
use Rattle.owner_lines.specs.Owners.{source_word, block_moved, moved_line, part_line, transfer_lines}
use Rattle.owner_lines.specs.Carried.{block_read, inbound_line, outbound_line, flight_text}
use Rattle.run_text.specs.Text.{parts, page_text}

read_block : (ns : List ImageNamed) (f : ℕ → ℕ) (hs : Holdings) (size : ℕ) (source : Source) (demanded q : Page) (from : From) → source_of from ≡ source
    → IsSourced ns f hs size q from → block_read from ≡ block_moved hs (Reads source demanded) q
read_block ns f hs size source demanded q (froms.Swap block) e h = sym h.own ∙ ap (λ (s : Source). block_moved hs (Reads s demanded) q) e
read_block ns f hs size source demanded q (froms.File id offset count) e h = ap (λ (s : Source). block_moved hs (Reads s demanded) q) e

read_lines : (ns : List ImageNamed) (f : ℕ → ℕ) (hs : Holdings) (size : ℕ) (source : Source) (demanded : Page) (xs : List Inbound)
    → AreSourcedIn ns f hs size source xs → flat_map inbound_line xs ≡ flat_map (part_line hs (Reads source demanded)) (map in_part xs)
read_lines ns f hs size source demanded [] h = refl
read_lines ns f hs size source demanded (x ∷ xs) h =
    ap₂ ◌++◌ (ap (moved_line x.page x.token.number) (read_block ns f hs size source demanded x.page x.source h.0 h.1)) (read_lines ns f hs size source demanded xs h.2)

written_lines : (hs : Holdings) (size : ℕ) (xs : List Outbound) → AreOwnBlocks hs size xs
    → flat_map outbound_line xs ≡ flat_map (part_line hs Writes) (map out_part xs)
written_lines hs size [] h = refl
written_lines hs size (x ∷ xs) h = ap₂ ◌++◌ (ap (moved_line x.page x.token.number) (sym h.0.own)) (written_lines hs size xs h.1)

pub flight_lines : (ns : List ImageNamed) (f : ℕ → ℕ) (hs : Holdings) (size n : ℕ) (t : Flight) → IsFlightSourced ns f hs size t
    → codes "transfer" ++ parts (n ∷ []) ++ flight_text t ≡ transfer_lines hs n (transfer_shown t)
flight_lines ns f hs size n (flights.Read demanded xs) h =
    let head = codes "transfer" ++ parts (n ∷ []) in
    let errand = source_word (source_shown xs.items) ++ page_text demanded in
    let lines = flat_map (part_line hs (Reads (source_shown xs.items) demanded)) (map in_part xs.items) in
    ap (λ (z : List ℕ). head ++ (errand ++ codes "\n" ++ z)) (read_lines ns f hs size (source_shown xs.items) demanded xs.items h)
    ∙ sym (append_assoc head (errand ++ codes "\n") lines)
    ∙ ap (λ (z : List ℕ). z ++ lines) (sym (append_assoc head errand (codes "\n")))
flight_lines ns f hs size n (flights.Write xs) h =
    let head = codes "transfer" ++ parts (n ∷ []) in
    let lines = flat_map (part_line hs Writes) (map out_part xs.items) in
    ap (λ (z : List ℕ). head ++ (codes " write\n" ++ z)) (written_lines hs size xs.items h)
    ∙ sym (append_assoc head (codes " write\n") lines)
    ∙ ap (λ (z : List ℕ). z ++ lines) (sym (append_assoc head (codes " write") (codes "\n")))
