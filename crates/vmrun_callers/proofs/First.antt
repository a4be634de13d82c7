-- What is asked for is the run that was computed, and its journal is the computed one.
use Rattle.std.proofs.Common.{◌≡◌, ◌⊎◌, inl, inr, ℕ, zero, suc, ◌+◌, ◌<◌, ◌≤◌, Bool, false, List, [], ◌∷◌, ◌++◌, length, map, Option, Some, None, Result, Ok, Err, refl, sym, ap, ◌∙◌, subst, arith}
use Rattle.std.specs.Prelude.{IfOk}
use Rattle.std.specs.Fmt.{digits}
use Rattle.vm_facts.specs.SwapImages.{SwapImage}
use Rattle.vm_facts.specs.declared.entry.Entry.{Entry}
use Rattle.vm_facts.specs.declared.entry.Entry.TheVariants as entries
use Rattle.vm_facts.specs.declared.event.Event.{Event}
use Rattle.io_edge.specs.Count.{Rose}
use Rattle.io_edge.specs.FileHolding.{NamedFile}
use Rattle.io_edge.specs.Striping.{of_device, device_of, zero_needs, one_needs}
use Rattle.swap_book.specs.Holdings.{Holdings, fit, is_in, is_held, kept}
use Rattle.aout_image.specs.Image.{facts_of, judged_facts, judgement, loaded, judged_image}
use Rattle.flat_state.specs.Flat.{NamedImage, Inputs}
use Rattle.flat_state.specs.Journal.{appended}
use Rattle.flat_model.specs.Asked.{first_held, start_held}
use Rattle.resource_map.specs.Room.{lowest_room, lowest as lowest_of, has_room, all_pass}
use Rattle.swap_book.specs.Placing.{place_all}
use Rattle.swap_dmap.specs.Chunks.{pieces, chunk, chunk_start, lowest_below, chunks_holding, chunk_reached, counted_from, last_piece, text_pieces}
use Rattle.run_model.specs.State.{State, start}
use Rattle.run_model.specs.After.{after}
use Rattle.run_model.specs.Next.{next_unit}
use Rattle.run_model.specs.Lawful.{Follows}
use Rattle.run_text.specs.Lines.{lines_in, AreLines}
use Rattle.run_text.specs.Schedule.{IsEventLine}
use Rattle.run_text.specs.Text.{text_of, line_of as entry_line}
use Rattle.command_edge.specs.ImageWords.{image_names, first_images}
use Rattle.command_edge.specs.declared.fault.Fault.{Fault}
use Rattle.command_edge.specs.declared.fault.Fault.TheVariants.{Absent, NotImage, BadSchedule, FileFault, SwapReadFault, SwapWriteFault, NoMemory, JournalFull, NoSpace, ShortDevice}
use Rattle.command_edge.specs.Command.{All, Prefix}
use Rattle.command_words.specs.declared.command.Numbers.{Numbers}
use Rattle.command_words.specs.Words.{has_up_to, is_plain, decimal_of, in_range, number_in, is_name, is_image_word, are_image_words, is_trace, without_trace}
use Rattle.command_words.specs.Asked.{Asked, Run, Request, run_numbers, all_numbers, asked_with_run, asked_run, asked_of}
use Rattle.run_opening.specs.Devices.{device_fault}
use Rattle.run_opening.specs.Images.{images_found, file_numbers}
use Rattle.run_opening.specs.Opening.{FoundFiles, HasAll, found_told}
use Rattle.page_laws.specs.Spans.{is_hands, ends_moving, added}
use Rattle.page_laws.proofs.Spanning.{units_added, adds_most}
use Rattle.replay_command.proofs.Lines.{no_lines}
use Rattle.vm_run.specs.RunCommandAsking.{AsksFor}
use Rattle.vm_run.specs.Seen.{DeviceFailed}
use Rattle.vm_run.specs.RunCommandEnds.{RunEnding, run_status, ending_line, Writing, IsCaused, IsJudged, EndsTold}
use Rattle.vm_run.specs.Paired.{image_together}
use Rattle.vm_run.specs.InMemory.{seen_of, blank_pair, RunsTold, DoesInMemory}
use Rattle.vm_run.proofs.Found.{no_absent, no_bad_event, no_failed_image}
use Rattle.place_vectors.proofs.WholeRuns.{more, units_from, hi_image, hi, hi_held, hi_units, hi_makes}
use Rattle.vmrun_callers.specs.FirstRun.{first_words, first_files, six_lines, IsFirstRun, WritesSixLines, OutputFails, WantsMemory}
use Rattle.vmrun_callers.proofs.Finished.{same_images}

-- Units that follow.

module _ (A : Inputs) where
  stepped : (n : ℕ) (s : State) (u : Entry) → next_unit A s ≡ Some u → units_from (suc n) A s ≡ u ∷ units_from n A (after A s u)
  unfolding units_from more
  stepped n s u next = ap (λ (o : Option Entry). more o A s (units_from n A)) next

  none_more : (n : ℕ) (s : State) → next_unit A s ≡ None → units_from (suc n) A s ≡ []
  unfolding units_from more
  none_more n s none = ap (λ (o : Option Entry). more o A s (units_from n A)) none

  shorter : (n : ℕ) (s : State) (u : Entry) → next_unit A s ≡ Some u → length (units_from (suc n) A s) < suc n → length (units_from n A (after A s u)) < n
  shorter n s u next few = let same = ap length (stepped n s u next) in omega (arith, same, few)

  -- to where there is no next one, they are those that are computed, where fewer of these are made than might be
  followed : (n : ℕ) (s t : State) (us : List Entry) → Follows A s us t → next_unit A t ≡ None → length (units_from n A s) < n → us ≡ units_from n A s
  followed zero s t us f none few = absurd (omega (arith, few))
  followed (suc n) s t [] f none few = sym (none_more n s (ap (next_unit A) f ∙ none))
  followed (suc n) s t (u ∷ us) f none few =
      ap (λ (vs : List Entry). u ∷ vs) (followed n (after A s u) t us f.1 none (shorter n s u f.0 few)) ∙ sym (stepped n s u f.0)

  -- and there are never more
  bounded : (n : ℕ) (s t : State) (us : List Entry) → Follows A s us t → length (units_from n A s) < n → length us ≤ length (units_from n A s)
  bounded zero s t us f few = absurd (omega (arith, few))
  bounded (suc n) s t [] f few = omega arith
  bounded (suc n) s t (u ∷ us) f few =
      let rest = bounded n (after A s u) t us f.1 (shorter n s u f.0 few) in
      let same = ap length (stepped n s u f.0) in
      omega (arith, rest, same)

-- a journal has no more entries than it has units

added_few : (moved : Bool) (us : List Entry) → added moved us ≤ length us
added_few moved [] = omega arith
added_few moved (u ∷ us) = let first = adds_most moved u in let rest = added_few (is_hands u) us in omega (arith, first, rest)

few_entries : (us : List Entry) → length (appended [] us) ≤ length us
few_entries us = let all = units_added [] us in let few = added_few (ends_moving []) us in omega (arith, all, few)

-- What is asked for.

abbrev numbers : Numbers
numbers = record { frames = 64; swap = 256; limit = 100 }

abbrev names : List (List ℕ)
names = (104 ∷ 105 ∷ []) ∷ []

abbrev request : Request
request = record { traced = false; numbers = numbers; schedule = 115 ∷ []; words = names }

found_hi : images_found first_files (image_names names) ≡ Ok (hi_image ∷ [])
unfolding judged_image judgement judged_facts facts_of loaded image_names hi_image
found_hi = refl

begins_hi : first_images (image_names names) names ≡ 1 ∷ []
unfolding first_images image_names
begins_hi = refl

-- an empty schedule has no events
no_events : (events : List Event) → AreLines IsEventLine events (lines_in []) → events ≡ []
no_events events are = go events (subst (λ (ls : List (List ℕ)). AreLines IsEventLine events ls) no_lines are)
  where
    go : (es : List Event) → AreLines IsEventLine es [] → es ≡ []
    go [] h = refl
    go (e ∷ es) h = absurd h

are_events : AreLines IsEventLine [] (lines_in [])
are_events = subst (λ (ls : List (List ℕ)). AreLines IsEventLine [] ls) (sym no_lines) tt

abbrev found : FoundFiles
found = found_told request.schedule request.words first_files

-- all is found
all_found : HasAll (found_told request.schedule request.words first_files)
all_found = (([], (are_events, omega arith)), (hi_image ∷ [], found_hi))

-- inputs are what their parts are

abbrev of_parts : List NamedImage → List ℕ → List ℕ → List Event → ℕ → ℕ → ℕ → Inputs
of_parts images numbers first lines frames blocks limit =
    record { images = images; file_numbers = numbers; first = first; lines = lines; frames = frames; swap_blocks = blocks; limit = limit }

made_of : (A : Inputs) (images : List NamedImage) (numbers first : List ℕ) (lines : List Event) (frames blocks limit : ℕ)
    → A.images ≡ images → A.file_numbers ≡ numbers → A.first ≡ first → A.lines ≡ lines → A.frames ≡ frames → A.swap_blocks ≡ blocks → A.limit ≡ limit
    → A ≡ of_parts images numbers first lines frames blocks limit
made_of A images numbers first lines frames blocks limit i k f l n s m =
    ap (λ (x : List NamedImage). of_parts x A.file_numbers A.first A.lines A.frames A.swap_blocks A.limit) i
    ∙ ap (λ (x : List ℕ). of_parts images x A.first A.lines A.frames A.swap_blocks A.limit) k
    ∙ ap (λ (x : List ℕ). of_parts images numbers x A.lines A.frames A.swap_blocks A.limit) f
    ∙ ap (λ (x : List Event). of_parts images numbers first x A.frames A.swap_blocks A.limit) l
    ∙ ap (λ (x : ℕ). of_parts images numbers first lines x A.swap_blocks A.limit) n
    ∙ ap (λ (x : ℕ). of_parts images numbers first lines frames x A.limit) s
    ∙ ap (λ (x : ℕ). of_parts images numbers first lines frames blocks x) m

inputs_are : (A : Inputs) → A.images ≡ hi_image ∷ [] → A.file_numbers ≡ 1 ∷ [] → A.first ≡ 1 ∷ [] → A.lines ≡ [] → A.frames ≡ 64 → A.swap_blocks ≡ 256
    → A.limit ≡ 100 → A ≡ hi
unfolding hi
inputs_are A i k f l n s m = made_of A (hi_image ∷ []) (1 ∷ []) (1 ∷ []) [] 64 256 100 i k f l n s m

-- the image is the second file
second_file : file_numbers first_files (hi_image ∷ []) ≡ 1 ∷ []
unfolding hi_image
second_file = refl

-- the words ask for the run that was computed, and for no other
asks_hi : (A : Inputs) → AsksFor A request first_files → A ≡ hi
asks_hi A asks =
    let same : A.images ≡ hi_image ∷ [] = same_images A.images (hi_image ∷ []) (sym asks.images ∙ found_hi) in
    inputs_are A same (asks.file_numbers ∙ ap (file_numbers first_files) same ∙ second_file) (asks.first ∙ begins_hi)
    (no_events A.lines asks.lines.0) asks.frames asks.blocks asks.limit

found_held : start_held hi ≡ Ok hi_held
unfolding hi hi_held hi_image first_held pieces chunk chunk_start lowest_below chunks_holding chunk_reached
    counted_from last_piece text_pieces fit is_in is_held kept place_all lowest_room lowest_of has_room all_pass
found_held = refl

-- How it ends.

never_rose : (n : ℕ) → n ≡ 0 → Rose n n → ⊥
never_rose n none (inl rises) = let up = rises.1 in omega (arith, up)
never_rose n none (inr stands) = omega (arith, stands.0, none)

of_both : (device count : ℕ) → of_device device count count ≡ count
of_both zero count = refl
of_both (suc n) count = refl

no_call_failed : (device : ℕ) → DeviceFailed device (record { zero_before = 0; zero_after = 0; one_before = 0; one_after = 0 }) → ⊥
no_call_failed device failed = never_rose _ (of_both device 0) failed.1.0

enough : device_fault 256 256 0 ≡ None
unfolding zero_needs one_needs device_of
enough = refl

-- the units of a finished run are the computed ones
module _ (A : Inputs) (is : A ≡ hi) (holdings : Holdings) (found : start_held A ≡ Ok holdings) where
  same_held : holdings ≡ hi_held
  same_held = let same : (let r : Result Holdings ℕ = Ok holdings in r) ≡ Ok hi_held = sym found ∙ ap start_held is ∙ found_held in cc

  of_hi : (P : Inputs → Holdings → Type 0) → P A holdings → P hi hi_held
  of_hi P p = subst (λ (h : Holdings). P hi h) same_held (subst (λ (B : Inputs). P B holdings) is p)

  finished_units : (us : List Entry) (t : State) → Follows A (start A holdings) us t → next_unit A t ≡ None → us ≡ hi_units
  finished_units us t f none =
      followed hi 10 (start hi hi_held) t us (of_hi (λ (B : Inputs) (h : Holdings). Follows B (start B h) us t) f) (subst (λ (B : Inputs). next_unit B t ≡ None) is none)
      (subst (λ (vs : List Entry). length vs < 10) (sym hi_makes) (omega arith)) ∙ hi_makes

  few_units : (us : List Entry) (t : State) → Follows A (start A holdings) us t → length us ≤ 9
  few_units us t f =
      subst (λ (vs : List Entry). length us ≤ length vs) hi_makes
      (bounded hi 10 (start hi hi_held) t us (of_hi (λ (B : Inputs) (h : Holdings). Follows B (start B h) us t) f)
      (subst (λ (vs : List Entry). length vs < 10) (sym hi_makes) (omega arith)))

written_lines : text_of false (appended [] hi_units) ++ [] ≡ six_lines
unfolding text_of entry_line digits
written_lines = refl

module _ (swap : Option SwapImage) (written : Option (List ℕ)) (faults : ℕ) (image : SwapImage) (status : ℕ)
    (told : RunsTold request (seen_of first_files 256 0 swap written faults) first_files image status) where
  ended_so : (ending : RunEnding) → IsCaused request (seen_of first_files 256 0 swap written faults) told.journal ending
      → IsJudged request (seen_of first_files 256 0 swap written faults) first_files ending
      → EndsTold request (seen_of first_files 256 0 swap written faults) first_files told.journal image ending
      → status ≡ run_status ending → written ≡ Some (text_of false told.journal ++ ending_line ending) → IsFirstRun status written
  ended_so (Ok done) caused judged run same wrote =
      let made = run.ended.made in
      let units = finished_units run.inputs (asks_hi run.inputs run.asks) made.holdings made.can.pieces made.units run.ended.state made.follows run.ended.none in
      WritesSixLines same (wrote
      ∙ ap (λ (es : List Entry). Some (text_of false es ++ [])) (sym made.joined ∙ ap (appended []) units)
      ∙ ap (λ (text : List ℕ). Some text) written_lines)
  ended_so (Err NoMemory) caused judged run same wrote = WantsMemory same
  ended_so (Err (Absent name)) caused judged run same wrote =
      absurd (elim judged [ inl schedule ↦ no_absent found.schedule all_found.0.0 _ all_found.0.1 schedule.1 | inr image_fails ↦ no_failed_image found _ all_found image_fails ])
  ended_so (Err (NotImage name reason)) caused judged run same wrote = absurd (no_failed_image found _ all_found judged)
  ended_so (Err (BadSchedule line)) caused judged run same wrote = absurd (no_bad_event found.schedule all_found.0.0 line all_found.0.1 judged)
  ended_so (Err (ShortDevice device blocks needed)) caused judged run same wrote =
      absurd (let short : None ≡ Some (ShortDevice device blocks needed) = sym enough ∙ caused.1 in cc)
  ended_so (Err FileFault) caused judged run same wrote =
      absurd (elim caused [ inl before ↦ never_rose 0 refl before.0.0 | inr failed ↦ never_rose 0 refl failed.0.page.1 ])
  ended_so (Err (SwapReadFault device)) caused judged run same wrote = absurd (no_call_failed device caused.0.read)
  ended_so (Err (SwapWriteFault device)) caused judged run same wrote = absurd (no_call_failed device caused.0.write)
  ended_so (Err (NoSpace pid)) caused judged run same wrote =
      absurd (let no : (let r : Result Holdings ℕ = Err pid in r) ≡ Ok hi_held = sym run.ended.1 ∙ ap start_held (asks_hi run.inputs run.asks) ∙ found_held in cc)
  ended_so (Err JournalFull) caused judged run same wrote =
      let made = run.ended.made in
      let few = few_units run.inputs (asks_hi run.inputs run.asks) made.holdings made.can.pieces made.units run.ended.state made.follows in
      let entries = few_entries made.units in
      let joined = ap length made.joined in
      let full = caused.0.1 in
      absurd (omega (arith, few, entries, joined, full))
  ended_so (Err _) caused judged run same wrote = absurd caused.0

  pub first_runs : IsFirstRun status written
  first_runs = go told.ending told.writes told.caused told.judged told.told
    where
      go : (ending : RunEnding) → Writing false (seen_of first_files 256 0 swap written faults) told.journal ending status
          → IsCaused request (seen_of first_files 256 0 swap written faults) told.journal ending
          → IsJudged request (seen_of first_files 256 0 swap written faults) first_files ending
          → EndsTold request (seen_of first_files 256 0 swap written faults) first_files told.journal image ending → IsFirstRun status written
      go ending (All same appends none) caused judged run = ended_so ending caused judged run same appends
      go ending (Prefix eight some rose) caused judged run = OutputFails eight

-- The words.

asked_first : asked_of first_words ≡ Some (Run false numbers (115 ∷ []) names)
unfolding asked_of asked_run asked_with_run run_numbers all_numbers number_in has_up_to is_plain decimal_of in_range is_name is_image_word are_image_words is_trace without_trace
asked_first = refl

-- what words that are these do over files that are these
pub first_is : (words : List (List ℕ)) (files : List NamedFile) (evens odds : Option SwapImage) (written : Option (List ℕ)) (faults status : ℕ)
    → words ≡ first_words → files ≡ first_files
    → DoesInMemory (asked_of words) files 256 0 evens odds written faults status → IsFirstRun status written
first_is words files evens odds written faults status same are does =
    first_runs (image_together 256 0 evens odds) written faults (blank_pair 256 0) status
    (subst (λ (fs : List NamedFile). DoesInMemory (Some (Run false numbers (115 ∷ []) names)) fs 256 0 evens odds written faults status) are
    (subst (λ (a : Option Asked). DoesInMemory a files 256 0 evens odds written faults status) (ap asked_of same ∙ asked_first) does))

pub if_ok : {T E : Type 0} (r : Result T E) (P Q : T → Type 0) → ((x : T) → P x → Q x) → IfOk r P → IfOk r Q
if_ok (Ok x) P Q f p = f x p
if_ok (Err e) P Q f p = tt
