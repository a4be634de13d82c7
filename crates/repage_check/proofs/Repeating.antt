-- A machine that makes one unit after another.
use Rattle.std.proofs.Common.{◌≡◌, ℕ, ◌+◌, ◌≤◌, List, [], ◌∷◌, length, Option, refl, sym, ap, ◌∙◌, subst, arith}
use Rattle.vm_facts.specs.SwapImages.{SwapImage}
use Rattle.vm_facts.specs.declared.entry.Entry.{Entry}
use Rattle.vm_facts.specs.declared.entry.Entry.TheVariants as entries
use Rattle.vm_facts.specs.declared.params.Params.{Params}
use Rattle.io_edge.specs.FileHolding.{NamedFile}
use Rattle.flat_state.specs.Flat.{Inputs}
use Rattle.flat_state.specs.Journal.{append, repeated}
use Rattle.page_model.specs.Placement.{Placement}
use Rattle.machine_state.specs.Going.{CanGoOn}
use Rattle.machine_state.specs.Machine.{Standing}
use Rattle.vm_core.specs.LastMoves.{last_moves}
use Rattle.run_model.specs.State.{State}
use Rattle.run_model.specs.After.{after}
use Rattle.step_judge.specs.Told.{GoesOnWith}
use Rattle.paged_model.specs.Runs.{paged_after}
use Rattle.repage_check.specs.declared.past.Past.{Past}
use Rattle.repage_check.specs.Past.{PastAt}
use Rattle.repage_check.specs.Units.{StandsPast}
use Rattle.repage_check.specs.Lines.{GoesBy}
use Rattle.run_laws.proofs.LongerJournals.{units_long}
use Rattle.repage_check.proofs.Joining.{repeated_last, ran_so_far, hands_long, hands_moves}

pub none_by : (m : Standing) → CanGoOn m → m.params.journal ≤ length m.kernel.journal + 1 → GoesBy [] m m
none_by m ready wide = record { ready = ready; images = refl; blocks = refl; wide = wide; journal = refl }

pub more_by : (u : Entry) (n : ℕ) (a b c : Standing) → GoesBy (repeated u n []) a b → GoesBy (u ∷ []) b c → GoesBy (repeated u (n + 1) []) a c
more_by u n a b c x y = record {
  ready = y.ready;
  images = y.images ∙ x.images;
  blocks = y.blocks ∙ x.blocks;
  wide = y.wide;
  journal = y.journal ∙ ap (λ (js : List Entry). append js u) x.journal ∙ sym (repeated_last u n a.kernel.journal);
}

pub ran_by : (pid n : ℕ) (a b : Standing) → GoesBy (repeated (entries.Ran pid 1) n []) a b
    → (length b.kernel.journal ≤ length a.kernel.journal + 1) × (last_moves b.kernel.journal ≤ last_moves a.kernel.journal)
ran_by pid n a b x =
    subst (λ (js : List Entry). (length js ≤ length a.kernel.journal + 1) × (last_moves js ≤ last_moves a.kernel.journal)) (sym x.journal) (ran_so_far a.kernel.journal pid n)

pub hands_by : (n : ℕ) (a b : Standing) → GoesBy (repeated (entries.Hands 1) n []) a b
    → (length b.kernel.journal ≤ length a.kernel.journal + 1) × (last_moves b.kernel.journal ≤ last_moves a.kernel.journal + n)
hands_by n a b x =
    subst (λ (js : List Entry). (length js ≤ length a.kernel.journal + 1) × (last_moves js ≤ last_moves a.kernel.journal + n)) (sym x.journal)
    (hands_long a.kernel.journal n, hands_moves n a.kernel.journal)

-- Once a unit was made with room for one entry more.

-- after it the journal has the unit more
pub journal_after : (A : Inputs) (s : State) (u : Entry) (p q : Past) (old new : Standing) (holds : Option (List NamedFile)) (i j : Option SwapImage)
    (image : SwapImage)
    → PastAt p old holds i A s image → StandsPast q new holds j A (paged_after A s u) → new.kernel.journal ≡ append old.kernel.journal u
unfolding after
journal_after A s u p q old new holds i j image before behind =
    behind.at.judged.stands.journal ∙ ap (λ (js : List Entry). append js u) (sym before.judged.stands.journal)

pub made_by : (u : Entry) (old wide new : Standing) → wide ≡ record old { params = record old.params { journal = length old.kernel.journal + 1 } }
    → GoesOnWith wide new
    → new.kernel.journal ≡ append old.kernel.journal u → GoesBy (u ∷ []) old new
made_by u old wide new is on journal = record {
  ready = on.ready;
  images = on.images ∙ ap (λ (m : Standing). m.images) is;
  blocks = ap (λ (p : Params). p.swap_blocks) on.params ∙ ap (λ (m : Standing). m.params.swap_blocks) is;
  wide =
      let bound : new.params.journal ≡ length old.kernel.journal + 1 = ap (λ (p : Params). p.journal) on.params ∙ ap (λ (m : Standing). m.params.journal) is in
      let long = ap (λ (js : List Entry). length js) journal in
      let longer = units_long (u ∷ []) old.kernel.journal in
      omega (arith, bound, long, longer);
  journal = journal;
}

-- Frames.

pub enough_frames : (p : Past) (m : Standing) (holds : Option (List NamedFile)) (i : Option SwapImage) (A : Inputs) (s : State) (image : SwapImage)
    → PastAt p m holds i A s image → 64 ≤ length m.kernel.place.holds
enough_frames p m holds i A s image at =
    let e = at.judged.paged.steady.placed.frames in
    let b = at.judged.enough in
    let h = ap (λ (x : Placement). length x.holds) at.judged.stands.place in
    omega (arith, e, b, h)
