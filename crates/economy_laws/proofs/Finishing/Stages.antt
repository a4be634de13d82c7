-- A run finishes, where next units lead to a state that has none. Stages of it: between units that begin a mark or count
-- an instruction.
use Rattle.std.proofs.Common.{◌≡◌, ℕ, ◌≤◌, Bool, true, false, [], ◌∷◌, Option, Some, None, refl}
use Rattle.vm_facts.specs.declared.entry.Entry.{Entry}
use Rattle.vm_facts.specs.declared.entry.Entry.TheVariants as entries
use Rattle.flat_state.specs.Flat.{Inputs}
use Rattle.page_model.specs.Rank.{HandsStand}
use Rattle.kernel_model.specs.Sound.{Sound}
use Rattle.kernel_model.specs.Start.{ImagesFit}
use Rattle.run_model.specs.declared.mark.Mark.{Mark}
use Rattle.run_model.specs.declared.mark.Mark.TheVariants as marks
use Rattle.run_model.specs.State.{State}
use Rattle.run_model.specs.After.{completed, moved_on, brought_in, put_out, audited, after}
use Rattle.run_model.specs.Next.{next_mark, next_unit}
use Rattle.run_laws.specs.Standing.{Placed, machine_of}
use Rattle.run_laws.specs.Running.{IsRun}
use Rattle.run_laws.proofs.Settling.{IsMark, begins_is}
use Rattle.economy_laws.specs.Stretch.{begins_stretch}
use Rattle.economy_laws.specs.Finishes.{Finishes}

finish_by : (A : Inputs) (s : State) → ((u : Entry) → next_unit A s ≡ Some u → Finishes A (after A s u)) → Finishes A s
finish_by A s on = go (next_unit A s) refl
  where
    go : (o : Option Entry) → next_unit A s ≡ o → Finishes A s
    go None e = record { units = []; last = s; leads = refl; none = e }
    go (Some u) e = let k : Finishes A (after A s u) = on u e in record { units = u ∷ k.units; last = k.last; leads = (e, k.leads); none = k.none }

-- a unit that begins a mark, or counts an instruction
abbrev pub is_boundary : Entry → Bool
is_boundary (entries.Event line) = true
is_boundary e = begins_stretch e

-- States of a run, closed under the units between two such; and after each such unit the run finishes.
pub record Stage (A : Inputs) (P : State → Type 0) : Type 0 where
  pub images : ImagesFit A.images
  pub frames : 64 ≤ A.frames
  pub run : (s : State) → P s → IsRun A s
  pub keeps : (s : State) (u : Entry) → P s → next_unit A s ≡ Some u → is_boundary u ≡ false → P (after A s u)
  pub ends : (s : State) (u : Entry) → P s → next_unit A s ≡ Some u → is_boundary u ≡ true → Finishes A (after A s u)

-- so the run finishes from such a state, where it does after each unit between two boundaries
pub finish_on : (A : Inputs) (P : State → Type 0) (s : State) → Stage A P → P s
    → ((u : Entry) → next_unit A s ≡ Some u → is_boundary u ≡ false → P (after A s u) → Finishes A (after A s u)) → Finishes A s
finish_on A P s g p on = finish_by A s (λ u h. go u h (is_boundary u) refl)
  where
    go : (u : Entry) → next_unit A s ≡ Some u → (b : Bool) → is_boundary u ≡ b → Finishes A (after A s u)
    go u h true e = g.ends s u p h e
    go u h false e = on u h e (g.keeps s u p h e)

-- the same, where it is known which unit is next
pub finish_known : (A : Inputs) (P : State → Type 0) (s : State) (x : Entry) → Stage A P → P s → next_unit A s ≡ Some x
    → (is_boundary x ≡ false → P (after A s x) → Finishes A (after A s x)) → Finishes A s
finish_known A P s x g p h on = let k : Finishes A (after A s x) = go (is_boundary x) refl in record { units = x ∷ k.units; last = k.last; leads = (h, k.leads); none = k.none }
  where
    go : (b : Bool) → is_boundary x ≡ b → Finishes A (after A s x)
    go true e = g.ends s x p h e
    go false e = on e (g.keeps s x p h e)

-- the next mark is a boundary
pub mark_boundary : (A : Inputs) (s : State) (u : Entry) → next_mark A s ≡ Some u → is_boundary u ≡ true
mark_boundary A s u h = begins_is (λ (x : Entry). is_boundary x ≡ true) A s u h make
  where
    make : (x : Entry) → IsMark x → is_boundary x ≡ true
    make (entries.Event line) k = refl
    make (entries.Turn p) k = refl
    make _ k = absurd k

pub quiet_stretch : (u : Entry) → is_boundary u ≡ false → begins_stretch u ≡ false
quiet_stretch (entries.Event line) e = refl
quiet_stretch _ e = e

-- Marks that stay till the next one begins.
abbrev pub IsLasting : Mark → Type 0
IsLasting marks.Over = Unit {0}
IsLasting (marks.Dispatch pid count since) = Unit {0}
IsLasting (marks.Turn pid since) = Unit {0}
IsLasting _ = ⊥

-- what a unit makes of them
same_mark : (f : Mark → Mark) → ((pid count since : ℕ) → f (marks.Dispatch pid count since) ≡ marks.Dispatch pid count since)
    → ((pid since : ℕ) → f (marks.Turn pid since) ≡ marks.Turn pid since) → f marks.Over ≡ marks.Over → (m : Mark) → IsLasting m → f m ≡ m
same_mark f d t o marks.Over l = o
same_mark f d t o (marks.Dispatch pid count since) l = d pid count since
same_mark f d t o (marks.Turn pid since) l = t pid since
same_mark f d t o _ l = absurd l

pub mark_lasts : (A : Inputs) (s : State) (u : Entry) → IsLasting s.mark → is_boundary u ≡ false → (after A s u).mark ≡ s.mark
unfolding after
mark_lasts A s (entries.Event line) l n = absurd cc
mark_lasts A s (entries.Turn p) l n = absurd cc
mark_lasts A s (entries.Hands k) l n = same_mark (moved_on k) (λ p c i. refl) (λ p i. refl) refl s.mark l
mark_lasts A s entries.Done l n = same_mark completed (λ p c i. refl) (λ p i. refl) refl s.mark l
mark_lasts A s (entries.SwapOut p) l n = same_mark put_out (λ p c i. refl) (λ p i. refl) refl s.mark l
mark_lasts A s (entries.SwapIn p) l n = same_mark brought_in (λ p c i. refl) (λ p i. refl) refl s.mark l
mark_lasts A s (entries.Owners a b c d) l n = same_mark audited (λ p c i. refl) (λ p i. refl) refl s.mark l
mark_lasts A s _ l n = refl

-- the hands of a run's state
pub stands : (A : Inputs) (s : State) → IsRun A s → HandsStand s.place
stands A s r = let p : Placed A s.point.flat s.place s.holdings = r.placed in let so : Sound A.swap_blocks (machine_of s.point.flat s.place s.holdings) = p.sound in so.hands
