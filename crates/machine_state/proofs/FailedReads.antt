-- What a read that failed was from.
use Rattle.std.proofs.Common.{◌≡◌, inl, inr, ℕ, List, [], ◌∷◌, map, Option, refl, sym, ◌∙◌}
use Rattle.vm_facts.specs.SwapImages.{SwapImage}
use Rattle.io_edge.specs.FileHolding.{NamedFile}
use Rattle.swap_book.specs.Holdings.{Holdings}
use Rattle.transfer_ring.specs.declared.transfer.Inbound.{Inbound}
use Rattle.transfer_ring.specs.declared.transfer.Source.{Source as From}
use Rattle.transfer_ring.specs.declared.transfer.Source.TheVariants as froms
use Rattle.transfer_ring.specs.declared.transfer.Transfer.{Transfer as Flight}
use Rattle.transfer_ring.specs.declared.transfer.Transfer.TheVariants as flights
use Rattle.transfer_ring.specs.declared.transfer.Finished.TheVariants as answers
use Rattle.transfer_ring.specs.Ending.{EndsOldest}
use Rattle.transfer_ring.specs.Parts.{IsSwap, IsFile, SomeFrom}
use Rattle.page_model.specs.Placement.{Source, FromSwap, FromFile}
use Rattle.table_steps.specs.View.{source_of, source_shown, transfer_shown}
use Rattle.table_steps.specs.Sourced.{ImageNamed, AreSourcedIn, AreSourced}
use Rattle.table_steps.specs.Done.{OldestReadsFrom}

swap_shown : (x : From) → IsSwap x → source_of x ≡ FromSwap
swap_shown (froms.Swap block) h = refl
swap_shown (froms.File id offset count) h = absurd h

file_shown : (x : From) → IsFile x → source_of x ≡ FromFile
file_shown (froms.Swap block) h = absurd h
file_shown (froms.File id offset count) h = refl

module _ (ns : List ImageNamed) (f : ℕ → ℕ) (hs : Holdings) (size : ℕ) where
  -- where all parts are of one kind, that of one part is the kind of all
  one_kind : (source kind : Source) (IsKind : From → Type 0) (xs : List Inbound) → ((x : From) → IsKind x → source_of x ≡ kind)
      → AreSourcedIn ns f hs size source xs → SomeFrom IsKind xs → source ≡ kind
  one_kind source kind IsKind [] shown a h = absurd h
  one_kind source kind IsKind (x ∷ xs) shown a (inl k) = sym a.0 ∙ shown x.source k
  one_kind source kind IsKind (x ∷ xs) shown a (inr h) = one_kind source kind IsKind xs shown a.2 h

  pub file_failed : (ts : List Flight) (n : Flight) (holds : Option (List NamedFile)) (before after : Option SwapImage) → AreSourced ns f hs size ts
      → EndsOldest ts holds before after (answers.FileFault n) → OldestReadsFrom FromFile (map transfer_shown ts)
  file_failed [] n holds before after a e = let x : answers.FileFault n ≡ answers.Idle = e.0 in absurd cc
  file_failed (flights.Read demanded parts ∷ ts) n holds before after a e =
      one_kind (source_shown parts.items) FromFile IsFile parts.items file_shown a.0 e.0.1
  file_failed (flights.Write parts ∷ ts) n holds before after a e = absurd e

  pub swap_read_failed : (ts : List Flight) (n : Flight) (holds : Option (List NamedFile)) (before after : Option SwapImage) → AreSourced ns f hs size ts
      → EndsOldest ts holds before after (answers.SwapReadFault n) → OldestReadsFrom FromSwap (map transfer_shown ts)
  swap_read_failed [] n holds before after a e = let x : answers.SwapReadFault n ≡ answers.Idle = e.0 in absurd cc
  swap_read_failed (flights.Read demanded parts ∷ ts) n holds before after a e =
      one_kind (source_shown parts.items) FromSwap IsSwap parts.items swap_shown a.0 e.0.1
  swap_read_failed (flights.Write parts ∷ ts) n holds before after a e = absurd e
