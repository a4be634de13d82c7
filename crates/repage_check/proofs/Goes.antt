-- Where no reason was told the machine can go on, with its sizes and images; and what a move of the hands leaves.
use Rattle.std.proofs.Common.{◌≡◌, ℕ, ◌+◌, ◌/◌, ◌<◌, ◌≤◌, ◌^◌, List, [], length, Option, Some, None, Result, Ok, Err, ap, ◌∙◌, arith}
use Rattle.std.specs.Prelude.{IfOk, OnOk}
use Rattle.vm_facts.specs.SwapImages.{SwapImage}
use Rattle.vm_facts.specs.declared.entry.Entry.{Entry}
use Rattle.vm_facts.specs.declared.entry.Entry.TheVariants as entries
use Rattle.vm_facts.specs.declared.page.Page.{Page}
use Rattle.vm_facts.specs.declared.stop.Stop.{Stop}
use Rattle.io_edge.specs.FileHolding.{NamedFile}
use Rattle.flat_state.specs.Journal.{append}
use Rattle.kernel_model.specs.Kernel.{Kernel}
use Rattle.machine_state.specs.Going.{CanGoOn}
use Rattle.machine_state.specs.Machine.{Standing}
use Rattle.machine_state.specs.Settled.{IsSameBeside}
use Rattle.page_laws.proofs.Moves.Stays.{move_stays}
use Rattle.vm_core.specs.Made.{ground, MakesUnit}
use Rattle.paged_model.specs.declared.reason.Reason.{Reason}
use Rattle.step_judge.specs.Judged.{Judged, JudgedThrough}
use Rattle.step_judge.specs.Over.{JudgedOver}
use Rattle.step_judge.specs.Leaving.{WentOut, CameIn, JudgedOut, JudgedIn}
use Rattle.step_judge.specs.Told.{GoesOnWith}

on_beside : (old new : Standing) → CanGoOn new → IsSameBeside old new → GoesOnWith old new
on_beside old new g b = record { ready = g; params = b.params; images = b.images }

module _ (old new : Standing) where
  pub fill_on : (e : Entry) (r : Result (Option Reason) Stop) → IfOk r (Judged e old new) → OnOk r (CanGoOn new)
      → IfOk r (λ reason. reason ≡ None → GoesOnWith old new)
  fill_on e (Err stop) made g = tt
  fill_on e (Ok (Some reason)) made g = λ none. absurd cc
  fill_on e (Ok None) made g = λ none. let m : MakesUnit (ground old None []) e old new None None = made None None [] in on_beside old new g m.beside

  pub end_on : (e : Entry) (holds : Option (List NamedFile)) (i j : Option SwapImage) (r : Result (Option Reason) Stop)
      → IfOk r (JudgedThrough e holds i j old new) → OnOk r (CanGoOn new) → IfOk r (λ reason. reason ≡ None → GoesOnWith old new)
  end_on e holds i j (Err stop) made g = tt
  end_on e holds i j (Ok (Some reason)) made g = λ none. absurd cc
  end_on e holds i j (Ok None) made g = λ none. let m : MakesUnit (ground old holds []) e old new i j = made [] in on_beside old new g m.beside

  pub out_on : (pid : ℕ) (i j : Option SwapImage) (r : Result (Option Reason) Stop) → IfOk r (JudgedOut pid i j old new) → OnOk r (CanGoOn new)
      → IfOk r (λ reason. reason ≡ None → GoesOnWith old new)
  out_on pid i j (Err stop) made g = tt
  out_on pid i j (Ok (Some reason)) made g = λ none. absurd cc
  out_on pid i j (Ok None) made g = λ none. let m : WentOut pid i j old new = made in on_beside old new g m.beside

  pub in_on : (pid : ℕ) (i j : Option SwapImage) (r : Result (Option Reason) Stop) → IfOk r (JudgedIn pid i j old new) → OnOk r (CanGoOn new)
      → IfOk r (λ reason. reason ≡ None → GoesOnWith old new)
  in_on pid i j (Err stop) made g = tt
  in_on pid i j (Ok (Some reason)) made g = λ none. absurd cc
  in_on pid i j (Ok None) made g = λ none. let m : CameIn pid i j old new = made in on_beside old new g m.beside

  -- a move of the hands leaves as many frames, and adds itself to the journal
  module _ (pages : List Page) where
    pub hand_on : (r : Result (Option Reason) Stop) → IfOk r (JudgedOver pages (entries.Hands 1) old new) → OnOk r (CanGoOn new)
        → IfOk r (λ reason. reason ≡ None → GoesOnWith old new)
    hand_on (Err stop) made g = tt
    hand_on (Ok (Some reason)) made g = λ none. absurd cc
    hand_on (Ok None) made g = λ none.
        let m : MakesUnit (ground old None pages) (entries.Hands 1) old new None None = made None None in on_beside old new g m.beside

    pub hand_frames : (r : Result (Option Reason) Stop) → IfOk r (JudgedOver pages (entries.Hands 1) old new)
        → IfOk r (λ reason. reason ≡ None → length new.kernel.place.holds ≡ length old.kernel.place.holds)
    hand_frames (Err stop) made = tt
    hand_frames (Ok (Some reason)) made = λ none. absurd cc
    hand_frames (Ok None) made = λ none.
        let m : MakesUnit (ground old None pages) (entries.Hands 1) old new None None = made None None in
        let is = m.made in
        let s = move_stays old.kernel.place pages in
        ap (λ (k : Kernel). length k.place.holds) is.1 ∙ ap (λ (hs : List (Option Page)). length hs) s.holds

    pub hand_journal : (r : Result (Option Reason) Stop) → IfOk r (JudgedOver pages (entries.Hands 1) old new)
        → IfOk r (λ reason. reason ≡ None → new.kernel.journal ≡ append old.kernel.journal (entries.Hands 1))
    hand_journal (Err stop) made = tt
    hand_journal (Ok (Some reason)) made = λ none. absurd cc
    hand_journal (Ok None) made = λ none.
        let m : MakesUnit (ground old None pages) (entries.Hands 1) old new None None = made None None in
        let is = m.made in ap (λ (k : Kernel). k.journal) is.1

-- the hands have a quarter of the frames between them, and few moves are told
pub some_quarter : (n : ℕ) → 64 ≤ n → 0 < n / 4
some_quarter n h = omega (arith, h)

pub few_moves : (n : ℕ) → n ≤ 1000000 → n + 1 < 2 ^ 32
few_moves n h = omega (arith, h)
