-- Lines by their kinds.
use Rattle.std.proofs.Common.{◌≡◌, ℕ, ◌+◌, ◌≤◌, List, [], ◌∷◌, length, Option, Result, Ok, Err, refl, arith}
use Rattle.std.specs.Prelude.{IfOk}
use Rattle.std.proofs.lemmas.Result.{IfOk-weaker}
use Rattle.vm_facts.specs.SwapImages.{SwapImage}
use Rattle.vm_facts.specs.declared.entry.Entry.{Entry}
use Rattle.vm_facts.specs.declared.entry.Entry.TheVariants as entries
use Rattle.vm_facts.specs.declared.stop.NoMemory.{NoMemory}
use Rattle.io_edge.specs.FileHolding.{NamedFile}
use Rattle.flat_state.specs.Flat.{Inputs}
use Rattle.flat_state.specs.Journal.{units_with, IsUnit}
use Rattle.machine_state.specs.Machine.{Standing}
use Rattle.run_model.specs.State.{State}
use Rattle.vm_core.specs.Stepped.{AtSome, LeadsFrom}
use Rattle.paged_model.specs.declared.line.Line.TheVariants as lines
use Rattle.paged_model.specs.declared.reason.Reason.{Reason}
use Rattle.repage_check.specs.declared.past.Past.{Past}
use Rattle.repage_check.specs.Past.{lines_next, PastAt}
use Rattle.repage_check.specs.Units.{IsUnmoved}
use Rattle.repage_check.specs.Lines.{UnitsTold, LineTold}
use Rattle.repage_check.proofs.Along.{entry_told}
use Rattle.repage_check.proofs.Repeating.{enough_frames}

-- Entries that are neither instructions nor moves of the hands.

module _ (e : Entry) (hands : (n : ℕ) → e ≡ entries.Hands n → ⊥) (ran : (pid n : ℕ) → e ≡ entries.Ran pid n → ⊥) where
  pub other_unit : IsUnit e
  other_unit = go e refl
    where
      go : (x : Entry) → e ≡ x → IsUnit x
      go (entries.Ran pid n) same = absurd (ran pid n same)
      go (entries.Hands n) same = absurd (hands n same)
      go _ same = tt

  pub other_unmoved : IsUnmoved e
  other_unmoved = go e refl
    where
      go : (x : Entry) → e ≡ x → IsUnmoved x
      go (entries.Hands n) same = absurd (hands n same)
      go _ same = tt

  pub other_alone : e ∷ [] ≡ units_with e []
  other_alone = go e refl
    where
      go : (x : Entry) → e ≡ x → x ∷ [] ≡ units_with x []
      go (entries.Ran pid n) same = absurd (ran pid n same)
      go (entries.Hands n) same = absurd (hands n same)
      go _ same = refl

pub one_line : (lines : ℕ) (u : Entry) → lines_next lines u ≤ lines + 1
one_line lines (entries.Event line) = omega arith
one_line lines u = omega arith

pub some_frames : (p : Past) (m : Standing) (holds : Option (List NamedFile)) (i : Option SwapImage) → AtSome (PastAt p m holds i)
    → 64 ≤ length m.kernel.place.holds
some_frames p m holds i (A, s, image, at) = enough_frames p m holds i A s image at

-- what is told at each state, however it ends, is told from each where it ends well
pub all_told : (r : Result (Option Reason) NoMemory) (IsAt : Inputs → State → SwapImage → Type 0)
    (Told : Option Reason → Inputs → State → SwapImage → Type 0)
    → ((A : Inputs) (s : State) (image : SwapImage) → IsAt A s image → IfOk r (λ reason. Told reason A s image)) → IfOk r (λ reason. LeadsFrom IsAt (Told reason))
all_told (Ok reason) IsAt Told f = f
all_told (Err e) IsAt Told f = tt

pub line_told : (r : Result (Option Reason) NoMemory) (e : Entry) (p q : Past) (m n : Standing) (holds : Option (List NamedFile)) (i j : Option SwapImage)
    → IfOk r (λ reason. LeadsFrom (PastAt p m holds i) (UnitsTold reason (units_with e []) q n holds j))
    → IfOk r (λ reason. LeadsFrom (PastAt p m holds i) (LineTold reason (lines.RunLine e) q n holds j))
line_told r e p q m n holds i j told =
    IfOk-weaker r (λ reason. LeadsFrom (PastAt p m holds i) (UnitsTold reason (units_with e []) q n holds j))
    (λ reason. LeadsFrom (PastAt p m holds i) (LineTold reason (lines.RunLine e) q n holds j))
    (λ reason f A s image at. entry_told reason e q n holds j A s image (f A s image at)) told
