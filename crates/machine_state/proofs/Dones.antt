-- The step of `Done`, from what the calls of the ring, of the devices and of the tables leave.
use Rattle.std.proofs.Common.{◌≡◌, ◌≢◌, ℕ, ◌*◌, ◌≤◌, Bool, List, [], ◌∷◌, ◌++◌, length, map, drop, Option, Some, None, refl, sym, ap, ◌∙◌, subst}
use Rattle.flat_state.specs.Flat.{FlatState, NamedImage}
use Rattle.vm_facts.specs.SwapImages.{SwapImage, with_requests}
use Rattle.vm_facts.specs.declared.entry.Entry.{Entry}
use Rattle.vm_facts.specs.declared.entry.Entry.TheVariants as entries
use Rattle.io_edge.specs.FileHolding.{NamedFile}
use Rattle.swap_book.specs.Holdings.{Holdings}
use Rattle.transfer_ring.specs.declared.transfer.Inbound.{Inbound}
use Rattle.transfer_ring.specs.declared.transfer.Outbound.{Outbound}
use Rattle.transfer_ring.specs.declared.transfer.Transfer.{Transfer as Flight}
use Rattle.transfer_ring.specs.declared.transfer.Transfer.TheVariants as flights
use Rattle.transfer_ring.specs.declared.transfer.Finished.{Finished}
use Rattle.transfer_ring.specs.declared.transfer.Finished.TheVariants as answers
use Rattle.transfer_ring.specs.Ending.{Ends, EndsOldest}
use Rattle.transfer_ring.specs.Parts.{AsksSome}
use Rattle.page_model.specs.Placement.{Placement, Transfer, Source, FromSwap, FromFile, Writes, moving, flying, image_of}
use Rattle.page_model.specs.Moves.{done}
use Rattle.kernel_model.specs.Kernel.{Kernel, landed, done_step, image_after_of}
use Rattle.kernel_model.specs.Sound.{Sound, TextFits}
use Rattle.kernel_model.specs.Coupled.{AreRead, beside_kernel}
use Rattle.table_steps.proofs.Done.{done_coupled_step}
use Rattle.table_steps.specs.Tables.{Tables}
use Rattle.table_steps.specs.View.{Lists, Flown, flown_number, source_shown, in_part, out_part, outbound_flown, transfer_shown, flown_in, flown, placement_of, frames_of}
use Rattle.table_steps.specs.Known.{Known}
use Rattle.table_steps.specs.Sourced.{ImageNamed, AreSourcedIn, IsFlightSourced, AreSourced}
use Rattle.table_steps.specs.Files.{AreFiles, AreImages}
use Rattle.table_steps.specs.Machine.{Standing, lists_of, kernel_by, image_at, images_of}
use Rattle.table_steps.specs.Moves.{LandedAll, ending}
use Rattle.table_steps.specs.Done.{ReadsTold, IsWholeFlight, SpoilsFirst, SpoilsAfter, OldestReadsFrom, StandsTold}
use Rattle.machine_state.proofs.SwapAsked.{swap_oldest_asks, SwapDone, SwapAskedAll, SwapAskedFirst, SwapAskedAfter}
use Rattle.table_steps.proofs.Kernels.{kernel_ext}
use Rattle.core_map.specs.Frames.{IsSoundMap}
use Rattle.machine_state.specs.declared.machine.Machine.TheInside.{Inside}
use Rattle.machine_state.specs.Fields.{standing_of, RunsInside}
use Rattle.machine_state.specs.Going.{CanGoOn}
use Rattle.machine_state.proofs.Knowing.{known_of}
use Rattle.machine_state.proofs.Standings.{running, stands_now, whole_now}
use Rattle.machine_state.proofs.Ends.{IsBack, alike, ending_place, ending_known, ending_frames, brought, AreBytes, written_bytes}
use Rattle.machine_state.proofs.ReadBytes.{pages_read, pages_asked_for, none_asked, swap_asked_some, files_asked_some, none_asked_some, pages_written, none_written, pages_spoiled, none_spoiled}

-- The oldest transfer came back with an answer.
pub record Came (ring : List Flight) (holds : Option (List NamedFile)) (before after : Option SwapImage) (f : Finished) : Type 0 where
  pub oldest : Flight
  pub rest : List Flight
  pub ring_is : ring ≡ oldest ∷ rest
  pub ends : Ends oldest holds before after f

pub came : (ring : List Flight) (holds : Option (List NamedFile)) (before after : Option SwapImage) (f : Finished)
    → EndsOldest ring holds before after f → f ≢ answers.Idle → Came ring holds before after f
came [] holds before after f e n = absurd (n e.0)
came (o ∷ rest) holds before after f e n = record { oldest = o; rest = rest; ring_is = refl; ends = e }

pub done_back : (o n : Flight) (holds : Option (List NamedFile)) (before after : Option SwapImage) → Ends o holds before after (answers.Done n) → IsBack o n
done_back (flights.Read demanded parts) n holds before after e = e.0.0
done_back (flights.Write parts) n holds before after e = e.0

pub was_lists : (t : Tables) (r rest : List Flight) (o : Flight) → t.ring ≡ o ∷ rest → r ≡ drop 1 t.ring → lists_of t ≡ ending (record t { ring = r }) o
was_lists t r rest o e d =
    ap (λ (ts : List Flight). record (lists_of t) { transfers = map transfer_shown ts; flown = flown ts }) e
    ∙ ap (λ (ts : List Flight). record (lists_of t) { transfers = transfer_shown o ∷ map transfer_shown ts; flown = flown_in o ++ flown ts }) (sym (d ∙ ap (drop 1) e))

pub back_known : (t : Tables) (r : List Flight) (o n : Flight) → lists_of t ≡ ending (record t { ring = r }) o → IsBack o n → Known (lists_of t)
    → Known (ending (record t { ring = r }) n)
back_known t r o n e b k = ending_known (record t { ring = r }) o n (alike o n b) (subst Known e k)

module _ (t w : Tables) (r : List Flight) (o n : Flight) where
  -- What a call leaves.
  pub record Doing : Type 0 where
    pub known : Known (lists_of t)
    pub was : lists_of t ≡ ending (record t { ring = r }) o
    pub back : IsBack o n
    pub place : placement_of (lists_of w) ≡ done (placement_of (ending (record t { ring = r }) n))
    pub all : LandedAll (record t { ring = r }) w (ending (record t { ring = r }) n)

  done_place : Doing → placement_of (lists_of w) ≡ done (placement_of (lists_of t))
  done_place d = d.place ∙ ap done (ending_place (record t { ring = r }) o n (alike o n d.back) ∙ sym (ap placement_of d.was))

  done_frames : Doing → frames_of (lists_of w) ≡ landed (map transfer_shown t.ring) (brought n) (frames_of (lists_of t))
  done_frames d =
      d.all.frames ∙ ending_frames (record t { ring = r }) o n d.back (subst Known d.was d.known)
      ∙ sym (ap (λ (l : Lists). landed l.transfers (brought n) (frames_of l)) d.was)

  pub done_kernel : (journal : List Entry) (stopped : Bool) → Doing
      → kernel_by w (journal ++ entries.Done ∷ []) stopped ≡ done_step (kernel_by t journal stopped) (brought n)
  done_kernel journal stopped d =
      let rest = d.all.rest in
      kernel_ext (kernel_by w (journal ++ entries.Done ∷ []) stopped) (done_step (kernel_by t journal stopped) (brought n))
      (done_place d)
      (ap (λ (x : Tables). x.book.holdings) rest)
      (ap (λ (x : Tables). Rattle.table_steps.specs.Machine.processes_of x.processes x.next_pid) rest)
      (ap (λ (x : Tables). x.next_pid) rest)
      (ap (λ (x : Tables). x.next_sid) rest)
      (ap (λ (x : Tables). Rattle.table_steps.specs.View.starts_of x.fills.items) rest)
      (done_frames d)
      refl
      refl

-- The bytes.

head_sourced : (ns : List ImageNamed) (f : ℕ → ℕ) (hs : Holdings) (size : ℕ) (ts rest : List Flight) (o : Flight) → ts ≡ o ∷ rest
    → AreSourced ns f hs size ts → IsFlightSourced ns f hs size o
head_sourced ns f hs size ts rest o e h = (subst (AreSourced ns f hs size) e h).0

pub rest_sourced : (ns : List ImageNamed) (f : ℕ → ℕ) (hs : Holdings) (size : ℕ) (ts rest : List Flight) (o : Flight) → ts ≡ o ∷ rest
    → AreSourced ns f hs size ts → AreSourced ns f hs size rest
rest_sourced ns f hs size ts rest o e h = (subst (AreSourced ns f hs size) e h).1

-- What is known of the transfer before.
pub record Before (t : Tables) (ns : List ImageNamed) (k : Kernel) (o : Flight) (rest : List Flight) (size : ℕ) : Type 0 where
  pub place : k.place ≡ placement_of (lists_of t)
  pub frames : k.frames ≡ frames_of (lists_of t)
  pub ring : t.ring ≡ o ∷ rest
  pub known : Known (lists_of t)
  pub sourced : IsFlightSourced ns (image_of k.place) k.holdings size o

pub before : (m : Inside) (s : Standing) (o : Flight) (rest : List Flight) → RunsInside m → standing_of m ≡ s → CanGoOn s
    → IsSoundMap m.tables.core.free m.tables.core.slots → m.tables.ring ≡ o ∷ rest
    → Before m.tables (images_of m.tables) (kernel_by m.tables m.journal.items m.stopped) o rest m.tables.book.size
before m s o rest h e g core ring = record {
  place = refl;
  frames = refl;
  ring = ring;
  known = known_of m core (running m s h e g);
  sourced = head_sourced (images_of m.tables) (image_at m.tables) m.tables.book.holdings m.tables.book.size m.tables.ring rest o ring
      (subst (λ (hs : Holdings). AreSourced (images_of m.tables) (image_at m.tables) hs m.tables.book.size m.tables.ring) (whole_now m s e g.whole) (stands_now m s h e g.running.runs).stands.ring);
}

pub oldest_first : (t : Tables) (ns : List ImageNamed) (k : Kernel) (o : Flight) (rest : List Flight) (size : ℕ) → Before t ns k o rest size
    → k.place.transfers ≡ transfer_shown o ∷ map transfer_shown rest
oldest_first t ns k o rest size b = ap (λ (p : Placement). p.transfers) b.place ∙ ap (map transfer_shown) b.ring

own_bytes : (t : Tables) (ns : List ImageNamed) (k : Kernel) (o : Flight) (rest : List Flight) (size : ℕ) (xs : List Outbound)
    → Before t ns k o rest size → flown_in o ≡ map outbound_flown xs
    → flying (map (moving (transfer_shown o).errand) (transfer_shown o).parts) ≡ map flown_number (map outbound_flown xs) → AreBytes k.frames xs
own_bytes t ns k o rest size xs b e m =
    let is : lists_of t ≡ ending (record t { ring = rest }) o = was_lists t rest rest o b.ring (sym (ap (drop 1) b.ring)) in
    subst (λ (fs : List (List ℕ)). AreBytes fs xs) (sym (b.frames ∙ ap frames_of is)) (written_bytes (record t { ring = rest }) xs o e m (subst Known is b.known))

out_numbers : (xs : List Outbound) → flying (map (moving Writes) (map out_part xs)) ≡ map flown_number (map outbound_flown xs)
out_numbers [] = refl
out_numbers (x ∷ xs) = ap (λ (ns : List ℕ). x.token.number ∷ ns) (out_numbers xs)

-- after the oldest of these transfers completes
abbrev image_done_of : Kernel → SwapImage → List Transfer → SwapImage
image_done_of k image ts = with_requests (swap_oldest_asks k.holdings ts) (record image { bytes = image_after_of k image.bytes ts })

pub done_image : (t : Tables) (ns : List ImageNamed) (k : Kernel) (o n : Flight) (rest : List Flight) (size : ℕ) (holds : Option (List NamedFile))
    (before after : Option SwapImage)
    → Before t ns k o rest size → Ends o holds before after (answers.Done n) → SwapDone k before after
done_image t ns k (flights.Read demanded parts) n rest size holds None after b e = none_asked parts.items after e.1
done_image t ns k (flights.Read demanded parts) n rest size holds (Some image) after b e =
    pages_asked_for ns (image_of k.place) k.holdings size (source_shown parts.items) demanded image parts.items after b.sourced e.1
    ∙ ap (λ (ts : List Transfer). Some (image_done_of k image ts)) (sym (oldest_first t ns k (flights.Read demanded parts) rest size b))
done_image t ns k (flights.Write parts) n rest size holds None after b e = none_written parts.items after e.1
done_image t ns k (flights.Write parts) n rest size holds (Some image) after b e =
    pages_written k size image parts.items after b.sourced (own_bytes t ns k (flights.Write parts) rest size parts.items b refl (out_numbers parts.items)) e.1
    ∙ ap (λ (ts : List Transfer). Some (image_done_of k image ts)) (sym (oldest_first t ns k (flights.Write parts) rest size b))

pub spoiled_image : (t : Tables) (ns : List ImageNamed) (k : Kernel) (o n : Flight) (rest : List Flight) (size : ℕ) (holds : Option (List NamedFile))
    (before after : Option SwapImage)
    → Before t ns k o rest size → Ends o holds before after (answers.SwapWriteFault n) → SpoilsAfter k before after
spoiled_image t ns k (flights.Read demanded parts) n rest size holds before after b e = absurd e.0
spoiled_image t ns k (flights.Write parts) n rest size holds None after b e = none_spoiled parts.items after e.1
spoiled_image t ns k (flights.Write parts) n rest size holds (Some image) after b e =
    let s = pages_spoiled k size image parts.items after b.sourced (own_bytes t ns k (flights.Write parts) rest size parts.items b refl (out_numbers parts.items)) e.1 in
    (s.0, s.1, subst (λ (ts : List Transfer). SpoilsFirst k image ts s.0) (sym (oldest_first t ns k (flights.Write parts) rest size b)) (refl, s.2))

-- a read from swap that failed
asked_some : (ns : List ImageNamed) (f : ℕ → ℕ) (k : Kernel) (size : ℕ) (image : SwapImage) (parts : List Inbound) (s : Source) (after : Option SwapImage)
    → s ≡ FromSwap → AreSourcedIn ns f k.holdings size s parts → AsksSome parts (Some image) after
    → (asked : SwapImage) × (after ≡ Some asked) × SwapAskedAll k image (map in_part parts) asked
asked_some ns f k size image parts FromSwap after e r h = swap_asked_some ns f k size image parts after r h
asked_some ns f k size image parts FromFile after e r h = absurd cc

pub asked_image : (t : Tables) (ns : List ImageNamed) (k : Kernel) (o n : Flight) (rest : List Flight) (size : ℕ) (holds : Option (List NamedFile))
    (before after : Option SwapImage)
    → Before t ns k o rest size → OldestReadsFrom FromSwap k.place.transfers → Ends o holds before after (answers.SwapReadFault n) → SwapAskedAfter k before after
asked_image t ns k (flights.Write parts) n rest size holds before after b from e = absurd e
asked_image t ns k (flights.Read demanded parts) n rest size holds None after b from e = none_asked_some parts.items after e.1
asked_image t ns k (flights.Read demanded parts) n rest size holds (Some image) after b from e =
    let first = oldest_first t ns k (flights.Read demanded parts) rest size b in
    let s = asked_some ns (image_of k.place) k size image parts.items (source_shown parts.items) after (subst (OldestReadsFrom FromSwap) first from) b.sourced e.1 in
    (s.0, s.1, subst (λ (ts : List Transfer). SwapAskedFirst k image ts s.0) (sym first) s.2)

-- a read from a file that failed
unasked : (ns : List ImageNamed) (f : ℕ → ℕ) (hs : Holdings) (size : ℕ) (parts : List Inbound) (s : Source) (before after : Option SwapImage)
    → s ≡ FromFile → AreSourcedIn ns f hs size s parts → AsksSome parts before after → after ≡ before
unasked ns f hs size parts FromSwap before after e r h = absurd cc
unasked ns f hs size parts FromFile before after e r h = files_asked_some ns f hs size parts before after r h

pub unasked_image : (t : Tables) (ns : List ImageNamed) (k : Kernel) (o n : Flight) (rest : List Flight) (size : ℕ) (holds : Option (List NamedFile))
    (before after : Option SwapImage)
    → Before t ns k o rest size → OldestReadsFrom FromFile k.place.transfers → Ends o holds before after (answers.FileFault n) → after ≡ before
unasked_image t ns k (flights.Write parts) n rest size holds before after b from e = absurd e
unasked_image t ns k (flights.Read demanded parts) n rest size holds before after b from e =
    unasked ns (image_of k.place) k.holdings size parts.items (source_shown parts.items) before after
    (subst (OldestReadsFrom FromFile) (oldest_first t ns k (flights.Read demanded parts) rest size b) from) b.sourced e.1

done_read : (t : Tables) (ns : List ImageNamed) (k : Kernel) (o n : Flight) (rest : List Flight) (size : ℕ) (holds : Option (List NamedFile))
    (image : SwapImage)
    (after : Option SwapImage) (images : List NamedImage) (flat : FlatState)
    → Before t ns k o rest size → Ends o holds (Some image) after (answers.Done n)
    → AreFiles ns holds → AreImages ns holds images → IsWholeFlight n
    → AreRead (beside_kernel k images image.bytes flat) (transfer_shown o ∷ map transfer_shown rest) (brought n)
done_read t ns k (flights.Write parts) n rest size holds image after images flat b e f l w = tt
done_read t ns k (flights.Read demanded parts) (flights.Write news) rest size holds image after images flat b e f l w = absurd e.0.0
done_read t ns k (flights.Read demanded parts) (flights.Read page news) rest size holds image after images flat b e f l w =
    pages_read ns k size holds images image.bytes flat (source_shown parts.items) parts.items news.items f l b.sourced e.0.0.1 w e.0.1

pub done_told : (t : Tables) (ns : List ImageNamed) (k : Kernel) (o n : Flight) (rest : List Flight) (size : ℕ) (holds : Option (List NamedFile))
    (before after : Option SwapImage)
    → Before t ns k o rest size → Ends o holds before after (answers.Done n)
    → AreFiles ns holds → IsWholeFlight n → ReadsTold (record { images = ns; files = holds }) before k (brought n)
done_told t ns k o n rest size holds None after b e f w = tt
done_told t ns k o n rest size holds (Some image) after b e f w = λ images flat l.
    subst (λ (ts : List Transfer). AreRead (beside_kernel k images image.bytes flat) ts (brought n)) (sym (oldest_first t ns k o rest size b))
    (done_read t ns k o n rest size holds image after images flat b e f l w)

pub done_keeps : (t : Tables) (ns : List ImageNamed) (k : Kernel) (o n : Flight) (rest : List Flight) (size : ℕ) (holds : Option (List NamedFile))
    (before after : Option SwapImage) (images : List NamedImage) (flat : FlatState)
    → Before t ns k o rest size → Ends o holds before after (answers.Done n)
    → Sound size k → AreFiles ns holds → AreImages ns holds images → IsWholeFlight n → TextFits images k.place
    → ((image : SwapImage) → before ≡ Some image → 512 * size ≤ length image.bytes)
    → StandsTold k images before flat → StandsTold (done_step k (brought n)) images after flat
done_keeps t ns k o n rest size holds None after images flat b e so f l w fits long c = absurd c
done_keeps t ns k o n rest size holds (Some image) after images flat b e so f l w fits long c =
    subst (λ (i : Option SwapImage). StandsTold (done_step k (brought n)) images i flat) (sym (done_image t ns k o n rest size holds (Some image) after b e))
    (done_coupled_step size k images image.bytes flat (brought n) so fits (long image refl)
    (subst (λ (ts : List Transfer). AreRead (beside_kernel k images image.bytes flat) ts (brought n)) (sym (oldest_first t ns k o rest size b))
    (done_read t ns k o n rest size holds image after images flat b e f l w)) c)
