-- A step whose pieces are refused has an entry, where pieces were asked; and an entry of a step that is there.
use Rattle.std.proofs.Common.{◌≡◌, ℕ, Bool, true, false, List, [], ◌∷◌, Option, Some, None, Result, Ok, Err, ℤ, refl}
use Rattle.flat_state.specs.Space.{Space}
use Rattle.flat_state.specs.Flat.{Holding, Holds, Process, FlatState, NamedImage, Inputs, process_of, can_step}
use Rattle.vm_facts.specs.declared.regs.Regs.{Regs}
use Rattle.vm_facts.specs.declared.entry.Entry.{Entry}
use Rattle.user_vax.specs.Effects.{Effect}
use Rattle.user_vax.specs.declared.refused.Refused.{Refused}
use Rattle.user_vax.specs.declared.refused.Refused.TheVariants.{Miss, Below, Signal}
use Rattle.flat_state.specs.declared.change.Change.{Change}
use Rattle.flat_model.specs.Instruction.{instruction_in}
use Rattle.flat_model.specs.declared.calls.Reply.{Reply}
use Rattle.flat_model.specs.declared.calls.Reply.TheVariants.{Does, Writes}
use Rattle.flat_model.specs.declared.calls.SystemCall.{SystemCall}
use Rattle.flat_model.specs.Calls.{call_of, unless_refused, wants_space, refused_reply}
use Rattle.flat_model.specs.Step.{replied_step, reply_behind, called_step, step_behind, step_of, step_holding, step_if, flat_step}
use Rattle.flat_model.specs.Asked.{change_wanted, wanted_in, wanted_if, asks_by, asks}

abbrev pub HasEntry : List Entry → Type 0
HasEntry [] = ⊥
HasEntry (e ∷ es) = Unit {0}

module _ (images : List NamedImage) (F : FlatState) (p : Process) where
  does_entry : (call : SystemCall) (effect : Effect) (b : Bool) (regs : Regs) (change : Change)
      → HasEntry (replied_step images F p call effect (unless_refused b (Does regs change))).entries
  does_entry call effect true regs change = tt
  does_entry call effect false regs change = tt

  replied_entry : (call : SystemCall) (effect : Effect) (reply : Reply) → HasEntry (replied_step images F p call effect (refused_reply true reply)).entries
  replied_entry call effect (Does regs change) = does_entry call effect (wants_space change) regs change
  replied_entry call effect (Writes []) = tt
  replied_entry call effect (Writes (byte ∷ bytes)) = tt
  replied_entry call effect _ = tt

  called_entry : (s : Space) (effect : Effect) (o : Option SystemCall) → HasEntry (called_step images F p s true effect o).entries
  called_entry s effect None = tt
  called_entry s effect (Some call) = replied_entry call effect (reply_behind images F p s false call effect)

  behind_entry : (s : Space) (effect : Effect) (o : Option ℤ) → HasEntry (step_behind images F p s true effect o).entries
  behind_entry s effect None = tt
  behind_entry s effect (Some number) = called_entry s effect (call_of number)

  of_entry : (s : Space) (r : Result Effect Refused)
      → (change_wanted images F s (step_of images F p s false r).change ≡ [] → ⊥) → HasEntry (step_of images F p s true r).entries
  of_entry s (Ok effect) n = behind_entry s effect effect.call
  of_entry s (Err (Miss address write)) n = absurd (n refl)
  of_entry s (Err (Below address)) n = tt
  of_entry s (Err (Signal number)) n = tt

  holding_entry : (h : Holding) → (wanted_in images F (step_holding images F p false h).change h ≡ [] → ⊥) → HasEntry (step_holding images F p true h).entries
  holding_entry (Holds s) n = of_entry s (instruction_in s p.regs) n
  holding_entry _ n = absurd (n refl)

if_entry : (images : List NamedImage) (F : FlatState) (o : Option Process) → (wanted_if images F (step_if images F false o).change o ≡ [] → ⊥)
    → HasEntry (step_if images F true o).entries
if_entry images F None n = absurd (n refl)
if_entry images F (Some p) n = holding_entry images F p p.holding n

pub refused_entry : (A : Inputs) (F : FlatState) (pid : ℕ) → (asks A F pid ≡ [] → ⊥) → HasEntry (flat_step A F pid true).entries
unfolding asks flat_step
refused_entry A F pid n = go (can_step F pid) n
  where
    go : (b : Bool) → (asks_by b A F pid ≡ [] → ⊥) → HasEntry (step_if A.images F true (process_of F pid)).entries
    go true k = if_entry A.images F (process_of F pid) k
    go false k = absurd (k refl)
