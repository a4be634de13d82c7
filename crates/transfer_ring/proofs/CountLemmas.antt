-- Lemmas on how many pages transfers have.
use Rattle.std.proofs.Common.{◌≡◌, ℕ, ◌+◌, ◌≤◌, List, [], ◌∷◌, ◌++◌, Option, length, refl, sym, ap, ◌∙◌, arith}
use Rattle.transfer_ring.specs.declared.transfer.Transfer.{Transfer}
use Rattle.transfer_ring.specs.declared.transfer.Transfer.TheVariants.{Read, Write}
use Rattle.transfer_ring.specs.declared.transfer.Inbound.{Inbound}
use Rattle.transfer_ring.specs.declared.transfer.Outbound.{Outbound}
use Rattle.transfer_ring.specs.Counting.{pages_of_all, IsFlight}
use Rattle.transfer_ring.specs.Slots.{in_flight}
use Rattle.transfer_ring.specs.Sound.{inbound_pages, outbound_pages, IsRun, IsRead, IsWrite}
use Rattle.vm_facts.specs.declared.page.Page.{Page}
use Rattle.transfer_ring.proofs.KeepLemmas.{in_flight-append}

inbound_count : (xs : List Inbound) → length (inbound_pages xs) ≡ length xs
inbound_count [] = refl
inbound_count (x ∷ xs) = omega (arith, inbound_count xs)

outbound_count : (xs : List Outbound) → length (outbound_pages xs) ≡ length xs
outbound_count [] = refl
outbound_count (x ∷ xs) = omega (arith, outbound_count xs)

run_few : (pages : List Page) → IsRun pages → length pages ≤ 16
run_few [] run = absurd run
run_few (first ∷ rest) run = let few = run.0 in omega arith

-- a read or a write of a run of pages may be in flight
pub read_flight : (t : Transfer) → IsRead t → IsFlight t
read_flight (Read demanded parts) h = record { sources = h.1; few = omega (arith, run_few (inbound_pages parts.items) h.0, inbound_count parts.items) }
read_flight (Write parts) h = absurd h

pub write_flight : (t : Transfer) → IsWrite t → IsFlight t
write_flight (Read demanded parts) h = absurd h
write_flight (Write parts) h = record { sources = tt; few = omega (arith, run_few (outbound_pages parts.items) h, outbound_count parts.items) }

-- the pages of some transfers and then of others
pub all-append : (xs ys : List Transfer) → pages_of_all (xs ++ ys) ≡ pages_of_all xs + pages_of_all ys
all-append [] ys = omega arith
all-append (x ∷ xs) ys = omega (arith, all-append xs ys)

pub all-in_flight : (slots : List (Option Transfer)) (xs ys order : List ℕ) → xs ++ ys ≡ order
    → pages_of_all (in_flight slots order) ≡ pages_of_all (in_flight slots xs) + pages_of_all (in_flight slots ys)
all-in_flight slots xs ys order e =
    ap (λ (all : List ℕ). pages_of_all (in_flight slots all)) (sym e)
    ∙ ap pages_of_all (in_flight-append slots xs ys)
    ∙ all-append (in_flight slots xs) (in_flight slots ys)
