-- What a device needs of the transfers in flight.
use Rattle.std.proofs.Common.{◌≡◌, ℕ, zero, suc, ◌+◌, ◌-◌, ◌*◌, ◌<◌, ◌≤◌, min, Bool, true, false, List, [], ◌∷◌, length, Option, Some, None, slice_get, refl, sym, subst, arith}
use Rattle.vm_facts.specs.declared.page.Page.{Page}
use Rattle.vm_facts.specs.declared.page.Page.TheVariants.{Data, Stack, Text}
use Rattle.aout_image.specs.declared.Image.{Image}
use Rattle.aout_image.specs.declared.Kind.{Kind}
use Rattle.aout_image.specs.declared.Kind.TheVariants.{Impure, Shared, Paged}
use Rattle.aout_image.specs.Image.{given_of, offset_of, file_length_of}
use Rattle.io_edge.specs.FileHolding.{NamedFile, HasRange, bytes_at}
use Rattle.swap_book.specs.Holdings.{Holdings}
use Rattle.transfer_ring.specs.declared.transfer.Inbound.{Inbound}
use Rattle.transfer_ring.specs.declared.transfer.Outbound.{Outbound}
use Rattle.transfer_ring.specs.declared.transfer.Transfer.{Transfer as Flight}
use Rattle.transfer_ring.specs.declared.transfer.Transfer.TheVariants as flights
use Rattle.transfer_ring.specs.declared.transfer.Source.{Source as From}
use Rattle.transfer_ring.specs.declared.transfer.Source.TheVariants as froms
use Rattle.transfer_ring.specs.Sound.{IsBlock, IsSourceThere, AreThere, AreBlocks, IsReachable, AreReachable}
use Rattle.page_model.specs.Placement.{Source}
use Rattle.table_steps.specs.View.{source_shown}
use Rattle.table_steps.specs.Sourced.{ImageNamed, named_at, IsRange, IsRangeOf, IsPageRange, IsSourced, AreSourcedIn, AreOwnBlocks, IsFlightSourced, AreSourced}
use Rattle.table_steps.specs.Files.{HasFile, HaveFiles, AreFiles}

within_file : (facts : Image) (text : Bool) (v : ℕ)
    → offset_of text facts + min (1024 * v) (given_of text facts) + min 1024 (given_of text facts - 1024 * v) ≤ offset_of text facts + given_of text facts
within_file facts text v = go (offset_of text facts) (given_of text facts) (1024 * v)
  where
    go : (o n a : ℕ) → o + min a n + min 1024 (n - a) ≤ o + n
    go o n a = omega arith

pub given_within : (facts : Image) (text : Bool) → offset_of text facts + given_of text facts ≤ file_length_of facts
given_within facts true = go facts.kind
  where
    go : (k : Kind) → offset_of true (record facts { kind = k }) + given_of true (record facts { kind = k }) ≤ file_length_of (record facts { kind = k })
    go Impure = omega arith
    go Shared = omega arith
    go Paged = omega arith
given_within facts false = go facts.kind
  where
    go : (k : Kind) → offset_of false (record facts { kind = k }) + given_of false (record facts { kind = k }) ≤ file_length_of (record facts { kind = k })
    go Impure = omega arith
    go Shared = omega arith
    go Paged = omega arith

pub file_at : (ns : List ImageNamed) (files : List NamedFile) (i : ℕ) (n : ImageNamed) → HaveFiles ns files → slice_get ns i ≡ Some n → HasFile n files
file_at [] files i n h e = absurd cc
file_at (x ∷ xs) files zero n h e = let same : x ≡ n = cc in subst (λ (y : ImageNamed). HasFile y files) same h.0
file_at (x ∷ xs) files (suc i) n h e = file_at xs files i n h.1 e

named_file : (ns : List ImageNamed) (files : List NamedFile) (i : ℕ) (n : ImageNamed) → HaveFiles ns files → named_at ns i ≡ Some n → HasFile n files
named_file ns files zero n h e = absurd cc
named_file ns files (suc i) n h e = file_at ns files i n h e

range_there : (n : ImageNamed) (files : List NamedFile) (text : Bool) (v id offset count : ℕ) → HasFile n files → IsRange n text v id offset count
    → HasRange (Some files) id offset count
range_there n files text v id offset count f r =
    let a = f.whole in
    let b = given_within n.facts text in
    let c = within_file n.facts text v in
    let d = r.offset_is in
    let e = r.count_is in (
      subst (λ (x : ℕ). x < length files) (sym r.file) f.there,
      subst (λ (x : ℕ). offset + count ≤ length (bytes_at files x)) (sym r.file) (omega arith),
    )

some_range : (ns : List ImageNamed) (files : List NamedFile) (i : ℕ) (text : Bool) (v id offset count : ℕ) (o : Option ImageNamed)
    → HaveFiles ns files → named_at ns i ≡ o
    → IsRangeOf o text v id offset count → HasRange (Some files) id offset count
some_range ns files i text v id offset count None h e r = absurd r
some_range ns files i text v id offset count (Some n) h e r = range_there n files text v id offset count (named_file ns files i n h e) r

page_range : (ns : List ImageNamed) (f : ℕ → ℕ) (holds : Option (List NamedFile)) (q : Page) (id offset count : ℕ) → AreFiles ns holds
    → IsPageRange ns f q id offset count → HasRange holds id offset count
page_range ns f None q id offset count h r = tt
page_range ns f (Some files) (Data sid v) id offset count h r = some_range ns files (f sid) false v id offset count (named_at ns (f sid)) h refl r
page_range ns f (Some files) (Stack sid v) id offset count h r = absurd r
page_range ns f (Some files) (Text i v) id offset count h r = some_range ns files i true v id offset count (named_at ns i) h refl r

block_there : (size blocks b : ℕ) → size ≤ blocks → IsBlock size b → IsBlock blocks b
block_there size blocks b l h = let k = h.1 in (h.0, omega arith)

source_there : (ns : List ImageNamed) (f : ℕ → ℕ) (hs : Holdings) (size blocks : ℕ) (holds : Option (List NamedFile)) (q : Page) (x : From)
    → size ≤ blocks → AreFiles ns holds → IsSourced ns f hs size q x → IsSourceThere holds blocks x
source_there ns f hs size blocks holds q (froms.Swap block) l h s = block_there size blocks block l s.place
source_there ns f hs size blocks holds q (froms.File id offset count) l h s = page_range ns f holds q id offset count h s

parts_there : (ns : List ImageNamed) (f : ℕ → ℕ) (hs : Holdings) (size blocks : ℕ) (holds : Option (List NamedFile)) (s : Source) (xs : List Inbound)
    → size ≤ blocks → AreFiles ns holds
    → AreSourcedIn ns f hs size s xs → AreThere holds blocks xs
parts_there ns f hs size blocks holds s [] l h a = tt
parts_there ns f hs size blocks holds s (x ∷ xs) l h a = (source_there ns f hs size blocks holds x.page x.source l h a.1, parts_there ns f hs size blocks holds s xs l h a.2)

blocks_there : (hs : Holdings) (size blocks : ℕ) (xs : List Outbound) → size ≤ blocks → AreOwnBlocks hs size xs → AreBlocks blocks xs
blocks_there hs size blocks [] l a = tt
blocks_there hs size blocks (x ∷ xs) l a = (block_there size blocks x.block l a.0.place, blocks_there hs size blocks xs l a.1)

flight_there : (ns : List ImageNamed) (f : ℕ → ℕ) (hs : Holdings) (size blocks : ℕ) (holds : Option (List NamedFile)) (t : Flight) → size ≤ blocks
    → AreFiles ns holds → IsFlightSourced ns f hs size t → IsReachable holds blocks t
flight_there ns f hs size blocks holds (flights.Read demanded parts) l h a = parts_there ns f hs size blocks holds (source_shown parts.items) parts.items l h a
flight_there ns f hs size blocks holds (flights.Write parts) l h a = blocks_there hs size blocks parts.items l a

pub reachable : (ns : List ImageNamed) (f : ℕ → ℕ) (hs : Holdings) (size blocks : ℕ) (holds : Option (List NamedFile)) (ts : List Flight)
    → size ≤ blocks → AreFiles ns holds → AreSourced ns f hs size ts → AreReachable holds blocks ts
reachable ns f hs size blocks holds [] l h a = tt
reachable ns f hs size blocks holds (t ∷ ts) l h a = (flight_there ns f hs size blocks holds t l h a.0, reachable ns f hs size blocks holds ts l h a.1)
