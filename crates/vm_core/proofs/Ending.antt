-- How a whole run ends, from its start on.
use Rattle.std.proofs.Common.{◌≡◌, inl, inr, ℕ, ◌≤◌, true, false, List, [], ◌∷◌, ◌++◌, length, Option, Some, Ok, Err, refl, sym, ap, ◌∙◌, subst, arith}
use Rattle.std.specs.Prelude.{All, Result}
use Rattle.std.specs.Result.{IsErrAnd}
use Rattle.std.proofs.lemmas.List.Elements.{All-head, All-tail}
use Rattle.std.proofs.lemmas.Option.{same_Some}
use Rattle.std.proofs.lemmas.Result.{err_from_is_err_and}
use Rattle.vm_facts.specs.SwapImages.{SwapImage}
use Rattle.vm_facts.specs.declared.event.Event.{Event}
use Rattle.vm_facts.specs.declared.params.Params.{Params}
use Rattle.vm_facts.specs.declared.stop.Stop.{Stop}
use Rattle.vm_facts.specs.declared.stop.Stop.TheVariants as stops
use Rattle.io_edge.specs.FileHolding.{NamedFile}
use Rattle.swap_book.specs.Holdings.{Holdings}
use Rattle.flat_state.specs.Flat.{Inputs}
use Rattle.kernel_model.specs.Requests.{image_files}
use Rattle.machine_state.specs.Machine.{Standing}
use Rattle.machine_state.specs.Sourced.{ImageNamed, files_named}
use Rattle.run_model.specs.State.{start}
use Rattle.economy_laws.specs.RunLawsRunning.{CanRun}
use Rattle.proc_run.specs.Leads.{Leads}
use Rattle.proc_run.proofs.Units.{both_lead}
use Rattle.proc_run.specs.Stepped.{StopLeads, LeadsFrom, StopsFrom}
use Rattle.proc_run.specs.Sizes.{KeptAtStop}
use Rattle.vm_core.specs.FirstProcesses.{AreAmong, StartsFrom}
use Rattle.vm_core.specs.Leading.{IsTold, machine_at_start}
use Rattle.vm_core.specs.Cores.{Underway, StandsUnderway, InputsOf}
use Rattle.vm_core.specs.Starting.{CoreStarted, StartsRun, StopsStartingRun}
use Rattle.vm_core.specs.Schedules.{IsBeforeLines, LinesFinished}
use Rattle.vm_core.specs.Full.{RunFull, RunOver, RunStopsAt}
use Rattle.vm_core.specs.RunEnds.{IsAskedOf, NoneMade, RunStops, RunEnds}
use Rattle.vm_core.specs.declared.schedule.Unfinished.{Unfinished}
use Rattle.vm_core.specs.declared.schedule.Unfinished.TheVariants.{Stopped}
use Rattle.vm_core.proofs.Standing.{leads_to_stop}
use Rattle.vm_core.proofs.Journals.{finished_run, over_run, halted_run, full_run, left_run, starved_run}

-- what is so of an answer that is this stop
pub stopped_so : (r : Result (Unit {0}) Unfinished) (stop : Stop) (Q : Result (Unit {0}) Unfinished → Type 0)
    → IsErrAnd r (λ (e : Unfinished). e ≡ Stopped stop) → Q (Err (Stopped stop)) → Q r
stopped_so r stop Q h q =
    let p = err_from_is_err_and r h in
    subst Q (sym (p.1 ∙ ap (λ (e : Unfinished). let s : Result (Unit {0}) Unfinished = Err e in s) p.2)) q

pub same_stop : (a b : Stop) → (let r : Result (Unit {0}) Unfinished = Err (Stopped a) in r) ≡ Err (Stopped b) → a ≡ b
same_stop a b e = cc

-- where the journal is full it is at its bound
pub kept_bound : (r : Result (Unit {0}) Unfinished) (stop : Stop) (old new : Standing) → IsErrAnd r (λ (e : Unfinished). e ≡ Stopped stop)
    → KeptAtStop old new stop
    → (let s : Result (Unit {0}) Unfinished = Err (Stopped stops.JournalFull) in r ≡ s) → old.params.journal ≤ length new.kernel.journal
kept_bound r stop old new h kept e =
    let p = err_from_is_err_and r h in
    let full : stop ≡ stops.JournalFull = same_stop stop stops.JournalFull (ap (λ (u : Unfinished). let s : Result (Unit {0}) Unfinished = Err u in s) (sym p.2) ∙ sym p.1 ∙ e) in
    subst (λ (x : Params). x.journal ≤ length new.kernel.journal) kept.sizes.params (kept.full full)

pub are_among : (images : List ImageNamed) (ns : List ℕ) → All (λ (n : ℕ). (1 ≤ n) × (n ≤ length images)) ns → AreAmong images ns
are_among images [] all = tt
are_among images (n ∷ ns) all = let h = All-head (λ (k : ℕ). (1 ≤ k) × (k ≤ length images)) n ns all in (h.0, h.1, are_among images ns (All-tail (λ (k : ℕ). (1 ≤ k) × (k ≤ length images)) n ns all))

module _ (A : Inputs) (old : Underway) (numbers : List ℕ) (lines : List Event) (holds : Option (List NamedFile)) (image : SwapImage) (few : length numbers ≤ 16)
    (is : IsAskedOf A old.machine numbers lines holds image) where
  starts_from : StartsFrom A old.machine numbers
  starts_from = record { named = is.named; first = is.first; frames = is.frames; blocks = is.blocks }

  is_told : IsTold A old.machine numbers holds image
  is_told = record { starts = starts_from; images = is.images; fit = is.fit; room = is.room }

  inputs_of : InputsOf A old.machine
  inputs_of = record { named = is.named; limit = is.limit; images = is.octets; few = is.few }

  first_few : length A.first ≤ 64
  first_few = let n = ap length is.first in omega (arith, n, few)

  -- No place.

  -- The run stopped.

  -- the files are those that the run reads
  read_so : (new : Standing) → new.images ≡ old.machine.images → files_named new.images ≡ image_files A
  read_so new same = ap files_named same ∙ is.images.1

  stops_at : (new : Standing) (stop : Stop) (j : Option SwapImage) (hs : Holdings) (can : CanRun A hs) → new.images ≡ old.machine.images
      → (x : StopLeads A (start A hs) (machine_at_start A hs) image stop new j)
      → RunStops A new.kernel.journal image stop j
  stops_at new stops.NoMemory j hs can same x = inr (starved_run A hs can first_few image is.room new j stops.NoMemory x x.by)
  stops_at new stops.JournalFull j hs can same x = halted_run A hs can first_few image is.room new j stops.JournalFull x (read_so new same) x.by
  stops_at new stops.FileFault j hs can same x = halted_run A hs can first_few image is.room new j stops.FileFault x (read_so new same) x.by
  stops_at new stops.SwapReadFault j hs can same x = halted_run A hs can first_few image is.room new j stops.SwapReadFault x (read_so new same) x.by
  stops_at new stops.SwapWriteFault j hs can same x = halted_run A hs can first_few image is.room new j stops.SwapWriteFault x (read_so new same) x.by

  pub start_stops : (new : Underway) (stop : Stop) (j : Option SwapImage) → new.machine.images ≡ old.machine.images
      → ((B : Inputs) (b : SwapImage) → IsTold B old.machine numbers holds b → Some image ≡ Some b → StopsStartingRun B new.machine b stop j)
      → RunEnds A new.machine.kernel.journal image (Err (Stopped stop)) j
  start_stops new stop j same f = go (f A image is_told refl)
    where
      begun : stop ≡ stops.NoMemory → NoneMade new.machine.kernel.journal image j → RunStops A new.machine.kernel.journal image stop j
      begun e none = subst (λ (s : Stop). RunStops A new.machine.kernel.journal image s j) (sym e) (inl none)

      go : StopsStartingRun A new.machine image stop j → RunStops A new.machine.kernel.journal image stop j
      go (inl b) = begun b.cause (b.journal, b.told)
      go (inr (hs, can, x)) = stops_at new.machine stop j hs can same x.led

  -- since its journal is full
  full_at : (new : Standing) (stop : Stop) (j : Option SwapImage) (hs : Holdings) (can : CanRun A hs) → stop ≡ stops.JournalFull
      → (x : StopLeads A (start A hs) (machine_at_start A hs) image stop new j) → RunFull A new image
  full_at new stops.JournalFull j hs can e x = full_run A hs can first_few image is.room new j stops.JournalFull x refl x.by
  full_at new _ j hs can e x = absurd cc

  pub start_full : (new : Underway) (stop : Stop) (j : Option SwapImage) → stop ≡ stops.JournalFull
      → ((B : Inputs) (b : SwapImage) → IsTold B old.machine numbers holds b → Some image ≡ Some b → StopsStartingRun B new.machine b stop j) → RunFull A new.machine image
  start_full new stop j e f = go (f A image is_told refl)
    where
      go : StopsStartingRun A new.machine image stop j → RunFull A new.machine image
      go (inl b) = absurd (let z : stops.JournalFull ≡ stops.NoMemory = sym e ∙ b.cause in cc)
      go (inr (hs, can, x)) = full_at new.machine stop j hs can e x.led

  -- where the machine is left
  left_at : (new : Standing) (stop : Stop) (j : Option SwapImage) (hs : Holdings) (can : CanRun A hs) → (x : StopLeads A (start A hs) (machine_at_start A hs) image stop new j)
      → RunStopsAt A stop new image
  left_at new stops.NoMemory j hs can x = λ runs. left_run A hs can first_few image is.room new j stops.NoMemory x x.held (λ e. runs)
  left_at new stops.JournalFull j hs can x = left_run A hs can first_few image is.room new j stops.JournalFull x x.held (λ e. absurd cc)
  left_at new stops.FileFault j hs can x = left_run A hs can first_few image is.room new j stops.FileFault x x.held (λ e. absurd cc)
  left_at new stops.SwapReadFault j hs can x = left_run A hs can first_few image is.room new j stops.SwapReadFault x x.held (λ e. absurd cc)
  left_at new stops.SwapWriteFault j hs can x = left_run A hs can first_few image is.room new j stops.SwapWriteFault x x.held (λ e. absurd cc)

  -- as the processes begin the machine stops for want of memory
  never_runs : (new : Standing) (stop : Stop) → stop ≡ stops.NoMemory → new.kernel.stopped ≡ true → RunStopsAt A stop new image
  never_runs new stop e stopped = subst (λ (c : Stop). RunStopsAt A c new image) (sym e) (λ runs. absurd (let z : true ≡ false = sym stopped ∙ runs in cc))

  pub start_left : (new : Underway) (stop : Stop) (j : Option SwapImage)
      → ((B : Inputs) (b : SwapImage) → IsTold B old.machine numbers holds b → Some image ≡ Some b → StopsStartingRun B new.machine b stop j)
      → RunStopsAt A stop new.machine image
  start_left new stop j f = go (f A image is_told refl)
    where
      go : StopsStartingRun A new.machine image stop j → RunStopsAt A stop new.machine image
      go (inl b) = never_runs new.machine stop b.cause b.stopped
      go (inr (hs, can, x)) = left_at new.machine stop j hs can x.led

  -- After the start.

  module _ (mid : Underway) (i h : Option SwapImage) (told : i ≡ Some image) (starts : StartsRun old mid numbers holds i h) where
    started : CoreStarted A mid holds image h
    started = starts A image is_told inputs_of told

    before_lines : IsBeforeLines mid lines holds h A started.state started.behind
    before_lines = record { at = started.at; none = started.same.lines; are = is.lines_are }

    start_told : Leads A (start A started.holdings) (machine_at_start A started.holdings) image started.units started.state mid.machine.kernel (Some started.behind)
    start_told = subst (λ (o : Option SwapImage). Leads A (start A started.holdings) (machine_at_start A started.holdings) image started.units started.state mid.machine.kernel o)
        started.at.stands.told started.leads

    pub lines_stop : (new : Underway) (stop : Stop) (j : Option SwapImage) → new.machine.images ≡ old.machine.images → StopsFrom (IsBeforeLines mid lines holds h) mid.machine new.machine j stop
        → RunEnds A new.machine.kernel.journal image (Err (Stopped stop)) j
    lines_stop new stop j same f =
        stops_at new.machine stop j started.holdings started.can same
        (leads_to_stop A (start A started.holdings) started.state (machine_at_start A started.holdings) mid.machine.kernel image started.behind started.units stop new.machine j start_told
        (f A started.state started.behind before_lines))

    pub lines_full : (new : Underway) (stop : Stop) (j : Option SwapImage) → stop ≡ stops.JournalFull → StopsFrom (IsBeforeLines mid lines holds h) mid.machine new.machine j stop
        → RunFull A new.machine image
    lines_full new stop j e f =
        full_at new.machine stop j started.holdings started.can e
        (leads_to_stop A (start A started.holdings) started.state (machine_at_start A started.holdings) mid.machine.kernel image started.behind started.units stop new.machine j start_told
        (f A started.state started.behind before_lines))

    pub lines_left : (new : Underway) (stop : Stop) (j : Option SwapImage) → StopsFrom (IsBeforeLines mid lines holds h) mid.machine new.machine j stop → RunStopsAt A stop new.machine image
    lines_left new stop j f =
        left_at new.machine stop j started.holdings started.can
        (leads_to_stop A (start A started.holdings) started.state (machine_at_start A started.holdings) mid.machine.kernel image started.behind started.units stop new.machine j start_told
        (f A started.state started.behind before_lines))

    pub lines_finish : (new : Underway) (j : Option SwapImage) → LeadsFrom (IsBeforeLines mid lines holds h) (LinesFinished mid new j) → RunEnds A new.machine.kernel.journal image (Ok tt) j
    lines_finish new j f =
        let d = f A started.state started.behind before_lines in
        finished_run A started.holdings started.can first_few image is.room new j (started.units ++ d.units) d.state
        (both_lead A (start A started.holdings) started.state d.state (machine_at_start A started.holdings) mid.machine.kernel new.machine.kernel image
        (Some started.behind) j started.units d.units start_told
        (λ between same. subst (λ (y : SwapImage). Leads A started.state mid.machine.kernel y d.units d.state new.machine.kernel j) (same_Some started.behind between same) d.leads))
        d.none

    -- since there is no next unit
    pub lines_over : (new : Underway) (j : Option SwapImage) → LeadsFrom (IsBeforeLines mid lines holds h) (LinesFinished mid new j) → StandsUnderway new → RunOver A new.machine image
    lines_over new j f on =
        let d = f A started.state started.behind before_lines in
        over_run A started.holdings started.can first_few image is.room new j (started.units ++ d.units) d.state
        (both_lead A (start A started.holdings) started.state d.state (machine_at_start A started.holdings) mid.machine.kernel new.machine.kernel image
        (Some started.behind) j started.units d.units start_told
        (λ between same. subst (λ (y : SwapImage). Leads A started.state mid.machine.kernel y d.units d.state new.machine.kernel j) (same_Some started.behind between same) d.leads))
        d.none on
