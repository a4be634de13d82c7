-- What is so of a trace whose machine stands at the start of its run.
use Rattle.std.proofs.Common.{◌≡◌, ℕ, ◌≤◌, false, List, length, Option, Some, None, Result, Ok, Err, sym, ap, ◌∙◌, subst}
use Rattle.std.specs.Prelude.{IfOk, IfErr}
use Rattle.std.proofs.lemmas.Option.{same_Some}
use Rattle.vm_facts.specs.SwapImages.{SwapImage}
use Rattle.vm_facts.specs.declared.stop.Stop.{Stop}
use Rattle.vm_facts.specs.declared.stop.Stop.TheVariants as stops
use Rattle.io_edge.specs.FileHolding.{NamedFile}
use Rattle.swap_book.specs.Holdings.{Holdings}
use Rattle.flat_state.specs.Flat.{Inputs}
use Rattle.flat_model.specs.Asked.{start_held}
use Rattle.machine_state.specs.Going.{IsRunning}
use Rattle.machine_state.specs.Machine.{Standing}
use Rattle.run_model.specs.State.{start}
use Rattle.vm_core.specs.Sizes.{KeptAtStop}
use Rattle.vm_core.specs.FirstProcesses.{started_by, HasStarted}
use Rattle.vm_core.specs.Leading.{IsTold, StartLeads, StartStops}
use Rattle.vm_core.specs.declared.first_processes.Started.{Started}
use Rattle.vm_core.specs.declared.first_processes.Started.TheVariants as starteds
use Rattle.vm_core.specs.Stepped.{AtSome, LeadsFrom}
use Rattle.paged_model.specs.declared.line.Line.{Line}
use Rattle.paged_model.specs.declared.reason.Misstep.{Misstep}
use Rattle.paged_model.specs.Traces.{trace_misstep}
use Rattle.repage_check.specs.Past.{PastAt}
use Rattle.repage_check.specs.declared.checking.Verdict.TheVariants.{Paged, Not}
use Rattle.repage_check.specs.Starting.{lacks_by, AtStart, HasBegun, StandsBehind, StandsAfter}
use Rattle.repage_check.specs.Verdicts.{past_at_start, IsJudged}
use Rattle.repage_check.proofs.Beginning.{none_added, started, stopped}
use Rattle.repage_check.proofs.Verdicting.{all_come, one_fails}

lacks_one : (started : Started) (pid : ℕ) → lacks_by started ≡ Some pid → started ≡ starteds.NoSpace pid
lacks_one starteds.Ok pid e = absurd cc
lacks_one (starteds.NoSpace q) pid e = ap starteds.NoSpace (same_Some q pid e)

lacks_place : (r : Result Holdings ℕ) (pid : ℕ) → starteds.NoSpace pid ≡ started_by r → r ≡ Err pid
lacks_place (Ok hs) pid e = absurd cc
lacks_place (Err q) pid e = ap Err (let same : q ≡ pid = cc in same)

-- where the first processes began
module _ (A : Inputs) (old new : Standing) (numbers : List ℕ) (holds : Option (List NamedFile)) (image : SwapImage) (j : Option SwapImage)
    (result : Result Started Stop) (told : IsTold A old numbers holds image) (limit : A.limit ≡ 1000000) (bound : old.params.journal ≡ 0)
    (big : 64 ≤ old.params.frames) (within : length new.kernel.journal ≤ new.params.journal) where
  pub begun_well : result ≡ Ok starteds.Ok → (result ≡ Ok starteds.Ok → HasStarted old new) → (result ≡ Ok starteds.Ok → StartLeads A new holds image j)
      → AtStart A new holds j
  begun_well is on leads =
      started A old new numbers holds image j told limit big (on is).params (on is).images (none_added old new bound (on is).params within) (leads is)

  -- or there was no room for what is due first
  pub begun_full : result ≡ Err stops.JournalFull → IfErr result (KeptAtStop old new) → IfErr result (λ stop. StartStops A new image stop j)
      → AtStart A new holds j × (new.kernel.stopped ≡ false) × (new.before ≡ new.kernel.holdings)
  begun_full is kept stops_by =
      let k : KeptAtStop old new stops.JournalFull = subst (λ (r : Result Started Stop). IfErr r (KeptAtStop old new)) is kept in
      stopped A old new numbers holds image j told limit big k.sizes.params k.sizes.images (none_added old new bound k.sizes.params within)
      (subst (λ (r : Result Started Stop). IfErr r (λ stop. StartStops A new image stop j)) is stops_by)

pub full_ready : (A : Inputs) (old new : Standing) (numbers : List ℕ) (holds : Option (List NamedFile)) (image : SwapImage) (j : Option SwapImage)
    (result : Result Started Stop) → IsTold A old numbers holds image → A.limit ≡ 1000000 → old.params.journal ≡ 0 → 64 ≤ old.params.frames
    → length new.kernel.journal ≤ new.params.journal → (new.kernel.stopped ≡ false → IsRunning new) → result ≡ Err stops.JournalFull
    → IfErr result (KeptAtStop old new) → IfErr result (λ stop. StartStops A new image stop j) → HasBegun old new
full_ready A old new numbers holds image j result told limit bound big within running is kept stops_by =
    let k : KeptAtStop old new stops.JournalFull = subst (λ (r : Result Started Stop). IfErr r (KeptAtStop old new)) is kept in
    let b = begun_full A old new numbers holds image j result told limit bound big within is kept stops_by in
    record {
      ready = record { running = running b.1; whole = b.2 };
      images = k.sizes.images;
      params = k.sizes.params;
      none = none_added old new bound k.sizes.params within;
    }

pub well_ready : (old new : Standing) (result : Result Started Stop) → old.params.journal ≡ 0 → length new.kernel.journal ≤ new.params.journal
    → result ≡ Ok starteds.Ok → (result ≡ Ok starteds.Ok → HasStarted old new) → HasBegun old new
well_ready old new result bound within is on = record {
  ready = (on is).ready;
  images = (on is).images;
  params = (on is).params;
  none = none_added old new bound (on is).params within;
}

pub lacks_first : (A : Inputs) (result : Result Started Stop) (started : Started) (pid : ℕ) → result ≡ Ok started → lacks_by started ≡ Some pid
    → IfOk result (λ s. s ≡ started_by (start_held A)) → start_held A ≡ Err pid
lacks_first A result started pid is lacks by =
    lacks_place (start_held A) pid (sym (lacks_one started pid lacks) ∙ subst (λ (r : Result Started Stop). IfOk r (λ s. s ≡ started_by (start_held A))) is by)

-- by none of them
pub well_by : (result : Result Started Stop) (started : Started) → result ≡ Ok started → lacks_by started ≡ None → result ≡ Ok starteds.Ok
well_by result starteds.Ok is none = is
well_by result (starteds.NoSpace pid) is none = absurd cc

pub start_some : (A : Inputs) (m : Standing) (holds : Option (List NamedFile)) (i : Option SwapImage) → AtStart A m holds i
    → AtSome (PastAt past_at_start m holds i)
start_some A m holds i x = (A, start A x.holdings, x.stands.image, x.stands.at)

-- what was found of the lines, from the start
module _ (A : Inputs) (ls : List Line) (m : Standing) (holds : Option (List NamedFile)) (i : Option SwapImage) (x : AtStart A m holds i) (found : Option Misstep)
    (told : LeadsFrom (PastAt past_at_start m holds i) (λ B s image. found ≡ trace_misstep B s 1 ls)) where
  exact : found ≡ trace_misstep A (start A x.holdings) 1 ls
  exact = told A (start A x.holdings) x.stands.image x.stands.at

  pub judged_paged : found ≡ None → IsJudged A ls Paged
  judged_paged none = all_come A ls x.holdings x.can.pieces (sym exact ∙ none)

  pub judged_not : (misstep : Misstep) → found ≡ Some misstep → IsJudged A ls (Not misstep)
  judged_not misstep some = one_fails A ls x.holdings x.can.pieces misstep (sym exact ∙ some)

pub stands_after : (A : Inputs) (ls : List Line) (m n : Standing) (holds : Option (List NamedFile)) (i j : Option SwapImage) (x : AtStart A m holds i)
    → LeadsFrom (PastAt past_at_start m holds i) (StandsBehind ls n holds j) → StandsAfter A ls n holds j
stands_after A ls m n holds i j x led =
    let b : StandsBehind ls n holds j A (start A x.holdings) x.stands.image = led A (start A x.holdings) x.stands.image x.stands.at in
    record { holdings = x.holdings; found = x.can.pieces; past = b.past; stands = b.stands }
