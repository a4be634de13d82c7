-- The sources of the transfers in flight, where a space comes and pieces of swap are found after those that are held.
use Rattle.std.proofs.Common.{◌≡◌, ◌≢◌, ℕ, ◌<◌, false, List, [], ◌∷◌, ◌++◌, length, map, Option, Some, Ok, sym, ap, ◌∙◌, subst, arith}
use Rattle.std.proofs.lemmas.List.Elements.{filter-append}
use Rattle.vm_facts.specs.declared.page.Page.{Page}
use Rattle.vm_facts.specs.declared.page.Page.TheVariants.{Data, Stack, Text}
use Rattle.swap_book.specs.declared.Held.{Held}
use Rattle.swap_book.specs.Owners.{same_owner}
use Rattle.swap_book.specs.Holdings.{Holdings, of_owner}
use Rattle.swap_book.specs.Placing.{Wanted, place_all}
use Rattle.swap_book.proofs.GrowthLaws.{Added, place_all_adds}
use Rattle.swap_book.proofs.KeptLaws.{block_in_more}
use Rattle.flat_state.specs.PageNames.{number_of}
use Rattle.transfer_ring.specs.declared.transfer.Inbound.{Inbound}
use Rattle.transfer_ring.specs.declared.transfer.Outbound.{Outbound}
use Rattle.transfer_ring.specs.declared.transfer.Transfer.{Transfer as Flight}
use Rattle.transfer_ring.specs.declared.transfer.Transfer.TheVariants as flights
use Rattle.transfer_ring.specs.declared.transfer.Source.{Source as From}
use Rattle.transfer_ring.specs.declared.transfer.Source.TheVariants as froms
use Rattle.page_model.specs.Pages.{SpacePages, numbered, data_in, stack_in, frame_of}
use Rattle.page_model.specs.Placement.{Placement, Source, Errand, Writes, Reads, Moving, moving, moving_state, parts_of, space_number, slots_of, state_of}
use Rattle.page_model.specs.Conditions.{IsNew}
use Rattle.page_model.specs.Ownership.{owner_of, block_of, Each, IsMoving}
use Rattle.table_steps.proofs.PageLawsMovesSteps.{page_in, frame_of_moving}
use Rattle.table_steps.specs.Sourced.{ImageNamed, named_at, IsRangeOf, IsSourced, AreSourcedIn, AreOwnBlocks, IsFlightSourced, AreSourced}
use Rattle.table_steps.specs.View.{source_shown, in_part, out_part, transfer_shown}

-- a page keeps its block where pieces are found after those that are held
pub block_still : (size : ℕ) (hs now : Holdings) (ws : List Wanted) (q : Page) (block : ℕ) → place_all size hs ws ≡ Ok now
    → block_of hs q ≡ Some block → block_of now q ≡ Some block
block_still size hs now ws q block e b =
    let a : Added hs now ws = place_all_adds size hs now ws e in
    block_in_more hs now (of_owner (owner_of q) a.pieces) (owner_of q) (number_of q) block
    (ap (of_owner (owner_of q)) a.is ∙ filter-append (λ (h : Held). same_owner h.owner (owner_of q)) hs a.pieces) b

-- a page of another space, or of text
abbrev pub IsBeside : ℕ → Page → Type 0
IsBeside sid (Data n v) = n ≢ sid
IsBeside sid (Stack n v) = n ≢ sid
IsBeside sid (Text image v) = Unit {0}

abbrev pub AreBesideIn : ℕ → List Inbound → Type 0
AreBesideIn sid [] = Unit {0}
AreBesideIn sid (x ∷ xs) = IsBeside sid x.page × AreBesideIn sid xs

abbrev pub IsFlightBeside : ℕ → Flight → Type 0
IsFlightBeside sid (flights.Read demanded parts) = AreBesideIn sid parts.items
IsFlightBeside sid (flights.Write parts) = Unit {0}

abbrev pub AreBeside : ℕ → List Flight → Type 0
AreBeside sid [] = Unit {0}
AreBeside sid (t ∷ ts) = IsFlightBeside sid t × AreBeside sid ts

module _ (ns : List ImageNamed) (f g : ℕ → ℕ) (size sid : ℕ) (hs now : Holdings) (ws : List Wanted) (found : place_all size hs ws ≡ Ok now) (others : (n : ℕ) → n ≢ sid → g n ≡ f n) where
  one_added : (q : Page) (x : From) → IsBeside sid q → IsSourced ns f hs size q x → IsSourced ns g now size q x
  one_added q (froms.Swap block) b h = record { own = block_still size hs now ws q block found h.own; place = h.place }
  one_added (Data n v) (froms.File id offset count) b h = subst (λ (i : ℕ). IsRangeOf (named_at ns i) false v id offset count) (sym (others n b)) h
  one_added (Stack n v) (froms.File id offset count) b h = h
  one_added (Text i v) (froms.File id offset count) b h = h

  parts_added : (s : Source) (xs : List Inbound) → AreBesideIn sid xs → AreSourcedIn ns f hs size s xs → AreSourcedIn ns g now size s xs
  parts_added s [] b h = tt
  parts_added s (x ∷ xs) b h = (h.0, one_added x.page x.source b.0 h.1, parts_added s xs b.1 h.2)

  blocks_added : (xs : List Outbound) → AreOwnBlocks hs size xs → AreOwnBlocks now size xs
  blocks_added [] h = tt
  blocks_added (x ∷ xs) h = (record { own = block_still size hs now ws x.page x.block found h.0.own; place = h.0.place }, blocks_added xs h.1)

  flight_added : (t : Flight) → IsFlightBeside sid t → IsFlightSourced ns f hs size t → IsFlightSourced ns g now size t
  flight_added (flights.Read demanded parts) b h = parts_added (source_shown parts.items) parts.items b h
  flight_added (flights.Write parts) b h = blocks_added parts.items h

  pub ring_added : (ts : List Flight) → AreBeside sid ts → AreSourced ns f hs size ts → AreSourced ns g now size ts
  ring_added [] b h = tt
  ring_added (t ∷ ts) b h = (flight_added t b.0 h.0, ring_added ts b.1 h.1)

-- No page in flight is of a space that isn't there.

beside_moving : (p : Placement) (sid : ℕ) (q : Page) (e : Errand) (f : ℕ) → IsNew p sid → state_of p q ≡ moving_state e f → IsBeside sid q
beside_moving p sid (Data n v) e f new h =
    λ is. let there : v < length (slots_of p (Data n v)) = page_in p (Data n v) f (ap frame_of h ∙ frame_of_moving e f) in
    let none : length (slots_of p (Data n v)) ≡ 0 = ap (λ (o : Option SpacePages). length (data_in o)) (ap (λ (m : ℕ). numbered space_number m p.spaces) is ∙ new) in
    absurd (omega (arith, there, none))
beside_moving p sid (Stack n v) e f new h =
    λ is. let there : v < length (slots_of p (Stack n v)) = page_in p (Stack n v) f (ap frame_of h ∙ frame_of_moving e f) in
    let none : length (slots_of p (Stack n v)) ≡ 0 = ap (λ (o : Option SpacePages). length (stack_in o)) (ap (λ (m : ℕ). numbered space_number m p.spaces) is ∙ new) in
    absurd (omega (arith, there, none))
beside_moving p sid (Text i v) e f new h = tt

module _ (p : Placement) (sid : ℕ) (new : IsNew p sid) where
  beside_parts : (e : Errand) (xs : List Inbound) (ms : List Moving) → Each (IsMoving p) (map (moving e) (map in_part xs) ++ ms) → AreBesideIn sid xs × Each (IsMoving p) ms
  beside_parts e [] ms h = (tt, h)
  beside_parts e (x ∷ xs) ms h =
      let r = beside_parts e xs ms h.1 in
      ((beside_moving p sid x.page e x.token.number new h.0, r.0), r.1)

  past_parts : (e : Errand) (xs : List Outbound) (ms : List Moving) → Each (IsMoving p) (map (moving e) (map out_part xs) ++ ms) → Each (IsMoving p) ms
  past_parts e [] ms h = h
  past_parts e (x ∷ xs) ms h = past_parts e xs ms h.1

  pub beside_ring : (ts : List Flight) → Each (IsMoving p) (parts_of (map transfer_shown ts)) → AreBeside sid ts
  beside_ring [] h = tt
  beside_ring (flights.Read demanded parts ∷ ts) h =
      let r = beside_parts (Reads (source_shown parts.items) demanded) parts.items (parts_of (map transfer_shown ts)) h in
      (r.0, beside_ring ts r.1)
  beside_ring (flights.Write parts ∷ ts) h = (tt, beside_ring ts (past_parts Writes parts.items (parts_of (map transfer_shown ts)) h))
