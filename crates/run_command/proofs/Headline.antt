-- The headline holds of a run that words ask for, however it ended.
use Rattle.std.proofs.Common.{◌≡◌, ◌⊎◌, inl, inr, ℕ, List, [], Option, Some, Result, Ok, Err, sym, ap, ◌∙◌}
use Rattle.vm_facts.specs.SwapImages.{SwapImage}
use Rattle.vm_facts.specs.declared.entry.Entry.{Entry}
use Rattle.io_edge.specs.FileHolding.{NamedFile}
use Rattle.io_edge.specs.Striping.{pair_blocks, images_paired, pair_image}
use Rattle.flat_state.specs.Flat.{NamedImage, Inputs}
use Rattle.flat_model.specs.Asked.{start_held}
use Rattle.command_edge.specs.declared.answers.Unread.{Unread}
use Rattle.command_edge.specs.ImageWords.{image_names}
use Rattle.vm_core.specs.Headline.{HeadlineByPolicy}
use Rattle.vm_core.proofs.Headlines.{headline_by_policy, headline_full, headline_over}
use Rattle.command_edge.specs.declared.fault.Fault.TheVariants.{Absent, NotImage, BadSchedule, FileFault, SwapReadFault, SwapWriteFault, NoMemory, JournalFull, NoSpace, ShortDevice}
use Rattle.command_edge.specs.Named.{Why}
use Rattle.command_words.specs.Asked.{Request}
use Rattle.run_opening.specs.Schedules.{schedule_found, HasBadEvent}
use Rattle.run_opening.specs.Images.{images_found}
use Rattle.run_command.specs.Asking.{AsksFor}
use Rattle.run_command.specs.Paired.{image_together}
use Rattle.io_edge.specs.WithFiles.{image_with_files}
use Rattle.run_command.specs.Seen.{Seen, stores_after}
use Rattle.run_command.specs.Ends.{RunEnding, NothingDone, Unbegun, NoneFaulted, PageFailedAlone, ReadFailedAlone, WriteFailedAlone, IsCaused, IsJudged, RunEnded, RunOfWords, EndsOpened, EndsLacking, EndsTold, Runs}
use Rattle.run_command.proofs.Found.{no_absent, no_bad_event}
use Rattle.run_command.specs.Headlines.{OfWords, AskForNothing, HeadlineOfWords, Says, FailsAs, CarriesHeadline}

-- What words ask for that isn't there.

module _ (request : Request) (files : List NamedFile) where
  unread_schedule : (unread : Unread) → schedule_found files request.schedule ≡ Err unread → AskForNothing request files
  unread_schedule unread is A asks = no_absent (schedule_found files request.schedule) A.lines unread asks.lines is

  no_image : (why : Why) → images_found files (image_names request.words) ≡ Err why → AskForNothing request files
  no_image why is A asks = absurd (let z : (let r : Result (List NamedImage) Why = Err why in r) ≡ Ok A.images = sym is ∙ asks.images in cc)

  bad_schedule : (line : ℕ) → HasBadEvent (schedule_found files request.schedule) line → AskForNothing request files
  bad_schedule line bad A asks = no_bad_event (schedule_found files request.schedule) A.lines line asks.lines bad

-- How a run ended.

-- where memory lacked, nothing ran, or the headline holds
lacked : (seen : Seen) (A : Inputs) (es : List Entry) (image : SwapImage) (after : Option SwapImage) → RunEnded seen A es image after (Err NoMemory)
    → (es ≡ []) ⊎ HeadlineByPolicy A es
lacked seen A es image after (calm, inl none) = inl none.0
lacked seen A es image after (calm, inr starved) = inr (headline_by_policy A es starved.state starved.made)

module _ (request : Request) (seen : Seen) (files : List NamedFile) (es : List Entry) (image : SwapImage) where
  starved_words : RunOfWords request seen files es image (Err NoMemory) → (es ≡ []) ⊎ HeadlineOfWords request files es
  starved_words w = elim (lacked seen w.inputs es (image_with_files w.opened image) (stores_after seen) w.ended) [
    | inl none ↦ inl none
    | inr headline ↦ inr (record { inputs = w.inputs; asks = w.asks; so = headline })
  ]

  lacking_made : EndsLacking request seen files es image → es ≡ []
  lacking_made (inl x) = x.0.0
  lacking_made (inr x) = let e : EndsOpened request seen files es image x.0 = x.1 in e.none.0

  says : (ending : RunEnding) → IsCaused request seen es ending → IsJudged request seen files ending → EndsTold request seen files es image ending
      → Says request files seen.zero_blocks seen.one_blocks seen.faults es ending
  says (Ok done) c j w = record { inputs = w.inputs; asks = w.asks; so = headline_over w.inputs es (image_with_files w.opened image) (stores_after seen) w.ended }
  says (Err (Absent name)) c (inl (is, absent)) e = (e.none.0, unread_schedule request files _ absent, inl (is, absent))
  says (Err (Absent name)) c (inr fails) e = (e.none.0, no_image request files _ fails.1, inr fails)
  says (Err (NotImage name reason)) c fails e = (e.none.0, no_image request files _ fails.1, fails)
  says (Err (BadSchedule line)) c bad e = (e.none.0, bad_schedule request files line bad, bad)
  says (Err (ShortDevice device blocks needed)) c short e = (e.none.0, short)
  says (Err FileFault) c j (inl before) = inl (before.1.none.0, before.0.0)
  says (Err FileFault) c j (inr within) =
      let w = within.2 in
      inr (record { inputs = w.inputs; asks = w.asks; so = headline_by_policy w.inputs es w.ended.state w.ended.made }, within.0)
  says (Err NoMemory) c j (inl none) = inl (lacking_made none.1)
  says (Err NoMemory) c j (inr words) = starved_words words
  says (Err (SwapReadFault device)) c j w = record { inputs = w.inputs; asks = w.asks; so = headline_by_policy w.inputs es w.ended.state w.ended.made }
  says (Err (SwapWriteFault device)) c j w = record { inputs = w.inputs; asks = w.asks; so = headline_by_policy w.inputs es w.ended.state w.ended.made }
  says (Err JournalFull) c j w =
      (record { inputs = w.inputs; asks = w.asks; so = headline_full w.inputs es (image_with_files w.opened image) (stores_after seen) w.ended }, c.0.1)
  says (Err (NoSpace pid)) c j w = (w.ended.0.0, record { inputs = w.inputs; asks = w.asks; so = w.ended.1 })
  says (Err _) c j w = absurd c.0

-- The calls that failed, by the cause of the ending.
module _ (request : Request) (seen : Seen) (es : List Entry) where
  fails_as : (ending : RunEnding) → IsCaused request seen es ending → FailsAs ending (record { files = seen.faults; reads = seen.reads; writes = seen.writes })
  fails_as (Ok done) c = let calm : NoneFaulted seen = c.0 in record { files = calm.files; reads = calm.reads; writes = calm.writes }
  fails_as (Err (Absent name)) c = let n : NothingDone seen es = c.nothing in record { files = c.files; reads = n.reads; writes = n.writes }
  fails_as (Err (NotImage name reason)) c = let n : NothingDone seen es = c.nothing in record { files = c.files; reads = n.reads; writes = n.writes }
  fails_as (Err (BadSchedule line)) c = let n : NothingDone seen es = c.nothing in record { files = c.files; reads = n.reads; writes = n.writes }
  fails_as (Err (ShortDevice device blocks needed)) c =
      let u : Unbegun seen es = c.0 in
      let n : NothingDone seen es = u.nothing in
      record { files = u.files; reads = n.reads; writes = n.writes }
  fails_as (Err FileFault) (inl before) = let n : NothingDone seen es = before.1 in record { files = inl before.0; reads = n.reads; writes = n.writes }
  fails_as (Err FileFault) (inr within) =
      let failed : PageFailedAlone seen = within.0 in
      record { files = inr failed.page; reads = failed.reads; writes = failed.writes }
  fails_as (Err NoMemory) (inl u) = let n : NothingDone seen es = u.nothing in record { files = u.files; reads = n.reads; writes = n.writes }
  fails_as (Err NoMemory) (inr within) = let calm : NoneFaulted seen = within.0 in record { files = calm.files; reads = calm.reads; writes = calm.writes }
  fails_as (Err (SwapReadFault device)) c =
      let failed : ReadFailedAlone device seen = c.0 in
      record { files = failed.files; reads = failed.read; writes = failed.writes }
  fails_as (Err (SwapWriteFault device)) c =
      let failed : WriteFailedAlone device seen = c.0 in
      record { files = failed.files; reads = failed.reads; writes = failed.write }
  fails_as (Err JournalFull) c = let calm : NoneFaulted seen = c.0.0 in record { files = calm.files; reads = calm.reads; writes = calm.writes }
  fails_as (Err (NoSpace pid)) c =
      let u : Unbegun seen es = c.0 in
      let n : NothingDone seen es = u.nothing in
      record { files = u.files; reads = n.reads; writes = n.writes }
  fails_as (Err _) c = absurd c.0

-- the image of a pair is told where both devices tell theirs
pair_told : (blocks : ℕ) (zero one : Option SwapImage) (evens odds : SwapImage) → zero ≡ Some evens → one ≡ Some odds
    → pair_image blocks zero one ≡ Some (images_paired blocks evens odds)
pair_told blocks zero one evens odds first second =
    ap (λ (o : Option SwapImage). pair_image blocks o one) first ∙ ap (λ (o : Option SwapImage). pair_image blocks (Some evens) o) second

pub run_carries : (request : Request) (seen : Seen) (status : ℕ) → Runs request seen status
    → (zero one : Option SwapImage) → seen.swap_before ≡ image_together seen.zero_blocks seen.one_blocks zero one
    → CarriesHeadline request seen.files zero one seen.zero_blocks seen.one_blocks
    seen.written_before seen.written_after seen.sink_faults_before seen.sink_faults_after
    (record { files = seen.faults; reads = seen.reads; writes = seen.writes }) status
run_carries request seen status r zero one swap = record {
  journal = r.journal;
  ending = r.ending;
  writes = r.writes;
  failed = fails_as request seen r.journal r.ending r.caused;
  told = λ files evens odds is octets first second.
      let blocks : ℕ = pair_blocks seen.zero_blocks seen.one_blocks in
      says request seen files r.journal (images_paired blocks evens odds) r.ending r.caused (r.judged files is)
      (r.told files (images_paired blocks evens odds) is octets (swap ∙ pair_told blocks zero one evens odds first second));
}
