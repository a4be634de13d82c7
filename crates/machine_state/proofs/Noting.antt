-- What the files note of the end of a transfer.
use Rattle.std.proofs.Common.{◌≡◌, inl, inr, ℕ, zero, suc, Bool, true, false, List, [], ◌∷◌, ◌++◌, map, Option, Some, None, refl, sym, ap, ◌∙◌, subst}
use Rattle.std.specs.Prelude.{option_map}
use Rattle.std.proofs.lemmas.Option.{slice_get-map}
use Rattle.vm_facts.specs.declared.page.Page.{Page}
use Rattle.vm_facts.specs.declared.page.Page.TheVariants.{Data, Stack, Text}
use Rattle.io_edge.specs.FileRequests.{FileRequest, FileRead, FileNotes, after_requests, after_request}
use Rattle.swap_book.specs.Holdings.{Holdings}
use Rattle.transfer_ring.specs.declared.transfer.Inbound.{Inbound}
use Rattle.transfer_ring.specs.declared.transfer.Source.{Source as From}
use Rattle.transfer_ring.specs.declared.transfer.Source.TheVariants as froms
use Rattle.transfer_ring.specs.declared.transfer.Transfer.{Transfer as Flight}
use Rattle.transfer_ring.specs.declared.transfer.Transfer.TheVariants as flights
use Rattle.transfer_ring.specs.declared.transfer.Finished.{Finished}
use Rattle.transfer_ring.specs.declared.transfer.Finished.TheVariants as answers
use Rattle.transfer_ring.specs.Ending.{NotesAfter, NotesOldest}
use Rattle.transfer_ring.specs.Parts.{AsksFile, AsksFiles, AsksSomeFiles}
use Rattle.page_model.specs.Placement.{Transfer, Source, FromSwap, FromFile, Reads, image_of}
use Rattle.kernel_model.specs.Kernel.{Kernel}
use Rattle.kernel_model.specs.Requests.{ImageFile, file_at, fill_read, fill_asked, fills_asked}
use Rattle.table_steps.specs.Tables.{Tables}
use Rattle.table_steps.specs.View.{source_of, source_shown, in_part}
use Rattle.table_steps.specs.Sourced.{ImageNamed, image_file, files_named, named_at, IsRangeOf, IsPageRange, IsSourced, AreSourcedIn}
use Rattle.table_steps.specs.Done.{OldestReadsFrom}
use Rattle.machine_state.specs.FilesAsked.{errand_asked, oldest_asked, AskedUpTo, OldestAskedUpTo}
use Rattle.machine_state.proofs.Dones.{Before, oldest_first}

-- requests after requests are one row of them
after_more : (xs ys : List FileRequest) (notes : FileNotes) → after_requests ys (after_requests xs notes) ≡ after_requests (xs ++ ys) notes
after_more [] ys notes = refl
after_more (x ∷ xs) ys notes = after_more xs ys (λ more. notes (x ∷ more))

-- the file of an image of this number
named_file_at : (ns : List ImageNamed) (i : ℕ) → file_at (files_named ns) i ≡ option_map image_file (named_at ns i)
named_file_at ns zero = refl
named_file_at ns (suc place) = slice_get-map image_file ns place

range_is : (o : Option ImageNamed) (text : Bool) (v id offset count : ℕ) → IsRangeOf o text v id offset count
    → fill_read (option_map image_file o) text v ≡ FileRead id offset count ∷ []
range_is None text v id offset count r = absurd r
range_is (Some n) text v id offset count r =
    let file = r.file in
    let at = r.offset_is in
    let many = r.count_is in
    cc

page_is : (ns : List ImageNamed) (f : ℕ → ℕ) (q : Page) (id offset count : ℕ) → IsPageRange ns f q id offset count
    → fill_asked (files_named ns) f q ≡ FileRead id offset count ∷ []
page_is ns f (Data sid v) id offset count r =
    ap (λ (o : Option ImageFile). fill_read o false v) (named_file_at ns (f sid)) ∙ range_is (named_at ns (f sid)) false v id offset count r
page_is ns f (Stack sid v) id offset count r = absurd r
page_is ns f (Text image v) id offset count r =
    ap (λ (o : Option ImageFile). fill_read o true v) (named_file_at ns image) ∙ range_is (named_at ns image) true v id offset count r

-- Of a file.

part_file : (ns : List ImageNamed) (f : ℕ → ℕ) (hs : Holdings) (size : ℕ) (q : Page) (x : From) (old new : FileNotes)
    → source_of x ≡ FromFile → IsSourced ns f hs size q x → AsksFile x old new → new ≡ after_requests (fill_asked (files_named ns) f q) old
part_file ns f hs size q (froms.Swap block) old new kind r h = absurd cc
part_file ns f hs size q (froms.File id offset count) old new kind r h =
    h ∙ ap (λ (rs : List FileRequest). after_requests rs old) (sym (page_is ns f q id offset count r))

parts_file : (ns : List ImageNamed) (f : ℕ → ℕ) (hs : Holdings) (size : ℕ) (xs : List Inbound) (old new : FileNotes)
    → AreSourcedIn ns f hs size FromFile xs → AsksFiles xs old new → new ≡ after_requests (fills_asked (files_named ns) f (map in_part xs)) old
parts_file ns f hs size [] old new r h = h
parts_file ns f hs size (x ∷ xs) old new r h =
    parts_file ns f hs size xs h.0 new r.2 h.2
    ∙ ap (after_requests (fills_asked (files_named ns) f (map in_part xs))) (part_file ns f hs size x.page x.source old h.0 r.0 r.1 h.1)
    ∙ after_more (fill_asked (files_named ns) f x.page) (fills_asked (files_named ns) f (map in_part xs)) old

some_file : (ns : List ImageNamed) (f : ℕ → ℕ) (hs : Holdings) (size : ℕ) (xs : List Inbound) (old new : FileNotes)
    → AreSourcedIn ns f hs size FromFile xs → AsksSomeFiles xs old new → AskedUpTo (files_named ns) f (map in_part xs) old new
some_file ns f hs size [] old new r h = absurd h
some_file ns f hs size (x ∷ xs) old new r (inl h) = inl (part_file ns f hs size x.page x.source old new r.0 r.1 h)
some_file ns f hs size (x ∷ xs) old new r (inr h) =
    inr (subst (λ (notes : FileNotes). AskedUpTo (files_named ns) f (map in_part xs) notes new) (part_file ns f hs size x.page x.source old h.0 r.0 r.1 h.1)
    (some_file ns f hs size xs h.0 new r.2 h.2))

-- Of swap.

part_swap : (x : From) (old new : FileNotes) → source_of x ≡ FromSwap → AsksFile x old new → new ≡ old
part_swap (froms.Swap block) old new kind h = h
part_swap (froms.File id offset count) old new kind h = absurd cc

module _ (ns : List ImageNamed) (f : ℕ → ℕ) (hs : Holdings) (size : ℕ) where
  parts_swap : (xs : List Inbound) (old new : FileNotes) → AreSourcedIn ns f hs size FromSwap xs → AsksFiles xs old new → new ≡ old
  parts_swap [] old new r h = h
  parts_swap (x ∷ xs) old new r h = parts_swap xs h.0 new r.2 h.2 ∙ part_swap x.source old h.0 r.0 h.1

  some_swap : (xs : List Inbound) (old new : FileNotes) → AreSourcedIn ns f hs size FromSwap xs → AsksSomeFiles xs old new → new ≡ old
  some_swap [] old new r h = absurd h
  some_swap (x ∷ xs) old new r (inl h) = part_swap x.source old new r.0 h
  some_swap (x ∷ xs) old new r (inr h) = some_swap xs h.0 new r.2 h.2 ∙ part_swap x.source old h.0 r.0 h.1

  -- Of either.

  parts_noted : (s : Source) (demanded : Page) (xs : List Inbound) (old new : FileNotes)
      → AreSourcedIn ns f hs size s xs → AsksFiles xs old new → new ≡ after_requests (errand_asked (files_named ns) f (Reads s demanded) (map in_part xs)) old
  parts_noted FromSwap demanded xs old new r h = parts_swap xs old new r h
  parts_noted FromFile demanded xs old new r h = parts_file ns f hs size xs old new r h

  kind_file : (s : Source) (xs : List Inbound) (old new : FileNotes)
      → s ≡ FromFile → AreSourcedIn ns f hs size s xs → AsksSomeFiles xs old new → AskedUpTo (files_named ns) f (map in_part xs) old new
  kind_file FromSwap xs old new e r h = absurd cc
  kind_file FromFile xs old new e r h = some_file ns f hs size xs old new r h

  kind_swap : (s : Source) (xs : List Inbound) (old new : FileNotes) → s ≡ FromSwap → AreSourcedIn ns f hs size s xs → AsksSomeFiles xs old new → new ≡ old
  kind_swap FromSwap xs old new e r h = some_swap xs old new r h
  kind_swap FromFile xs old new e r h = absurd cc

-- The oldest transfer.

pub oldest_notes : (ring : List Flight) (o : Flight) (rest : List Flight) (old new : FileNotes) (x : Finished) → ring ≡ o ∷ rest
    → NotesOldest ring old new x → NotesAfter o old new x
oldest_notes ring o rest old new x e h = subst (λ (ts : List Flight). NotesOldest ts old new x) e h

pub done_notes : (t : Tables) (ns : List ImageNamed) (k : Kernel) (o n : Flight) (rest : List Flight) (size : ℕ) (old new : FileNotes)
    → Before t ns k o rest size → NotesAfter o old new (answers.Done n)
    → new ≡ after_requests (oldest_asked (files_named ns) (image_of k.place) k.place.transfers) old
done_notes t ns k (flights.Read demanded parts) n rest size old new b h =
    parts_noted ns (image_of k.place) k.holdings size (source_shown parts.items) demanded parts.items old new b.sourced h
    ∙ ap (λ (ts : List Transfer). after_requests (oldest_asked (files_named ns) (image_of k.place) ts) old) (sym (oldest_first t ns k (flights.Read demanded parts) rest size b))
done_notes t ns k (flights.Write parts) n rest size old new b h =
    h ∙ ap (λ (ts : List Transfer). after_requests (oldest_asked (files_named ns) (image_of k.place) ts) old) (sym (oldest_first t ns k (flights.Write parts) rest size b))

pub file_notes : (t : Tables) (ns : List ImageNamed) (k : Kernel) (o n : Flight) (rest : List Flight) (size : ℕ) (old new : FileNotes)
    → Before t ns k o rest size → OldestReadsFrom FromFile k.place.transfers → NotesAfter o old new (answers.FileFault n)
    → OldestAskedUpTo (files_named ns) (image_of k.place) k.place.transfers old new
file_notes t ns k (flights.Write parts) n rest size old new b from h =
    absurd (subst (OldestReadsFrom FromFile) (oldest_first t ns k (flights.Write parts) rest size b) from)
file_notes t ns k (flights.Read demanded parts) n rest size old new b from h =
    let first = oldest_first t ns k (flights.Read demanded parts) rest size b in
    subst (λ (ts : List Transfer). OldestAskedUpTo (files_named ns) (image_of k.place) ts old new) (sym first)
    (kind_file ns (image_of k.place) k.holdings size (source_shown parts.items) parts.items old new (subst (OldestReadsFrom FromFile) first from) b.sourced h)

pub swap_notes : (t : Tables) (ns : List ImageNamed) (k : Kernel) (o n : Flight) (rest : List Flight) (size : ℕ) (old new : FileNotes)
    → Before t ns k o rest size → OldestReadsFrom FromSwap k.place.transfers → NotesAfter o old new (answers.SwapReadFault n) → new ≡ old
swap_notes t ns k (flights.Write parts) n rest size old new b from h = h
swap_notes t ns k (flights.Read demanded parts) n rest size old new b from h =
    kind_swap ns (image_of k.place) k.holdings size (source_shown parts.items) parts.items old new
    (subst (OldestReadsFrom FromSwap) (oldest_first t ns k (flights.Read demanded parts) rest size b) from) b.sourced h

pub write_notes : (t : Tables) (ns : List ImageNamed) (k : Kernel) (o n : Flight) (rest : List Flight) (size : ℕ) (old new : FileNotes)
    → NotesAfter o old new (answers.SwapWriteFault n) → new ≡ old
write_notes t ns k (flights.Write parts) n rest size old new h = h
write_notes t ns k (flights.Read demanded parts) n rest size old new h = absurd h
