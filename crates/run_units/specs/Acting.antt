-- The statements on what a process does next, by its step.
use Rattle.std.specs.Prelude.{◌≡◌, ℕ, true, false, List, ◌∷◌, Some}
use Rattle.vm_facts.specs.declared.entry.Entry.{Entry}
use Rattle.vm_facts.specs.declared.entry.Entry.TheVariants as entries
use Rattle.swap_book.specs.Placing.{fits}
use Rattle.flat_state.specs.Flat.{Inputs, can_step}
use Rattle.flat_model.specs.Run.{step_at, IsBetween}
use Rattle.flat_model.specs.Asked.{asks}
use Rattle.run_model.specs.State.{State}
use Rattle.run_model.specs.Act.{act, must_settle}

-- between two steps the first entry of the next one comes, once its pieces find their places and no space has to settle
abbrev pub StepBegins : Type 0
StepBegins =
    (A : Inputs) (s : State) (pid : ℕ) (e : Entry) (es : List Entry) → can_step s.point.flat pid ≡ true → IsBetween s.point.last
    → (step_at A s.point pid).entries ≡ e ∷ es → fits A.swap_blocks s.holdings (asks A s.point.flat pid) ≡ true → must_settle A s pid ≡ false
    → act A s pid ≡ Some e

-- where they find none comes the entry that says so
abbrev pub StepIsRefused : Type 0
StepIsRefused =
    (A : Inputs) (s : State) (pid : ℕ) → can_step s.point.flat pid ≡ true → IsBetween s.point.last
    → fits A.swap_blocks s.holdings (asks A s.point.flat pid) ≡ false → act A s pid ≡ Some (entries.Refused pid)

-- after that entry comes the step of who was refused
abbrev pub RefusedStepComes : Type 0
RefusedStepComes =
    (A : Inputs) (s : State) (pid : ℕ) (e : Entry) (es : List Entry) → can_step s.point.flat pid ≡ true → s.point.last ≡ Some (entries.Refused pid)
    → (step_at A s.point pid).entries ≡ e ∷ es → must_settle A s pid ≡ false → act A s pid ≡ Some e

-- after bytes that went out comes the reply
abbrev pub ReplyComes : Type 0
ReplyComes =
    (A : Inputs) (s : State) (pid : ℕ) (bytes : List ℕ) (o e : Entry) (es : List Entry) → can_step s.point.flat pid ≡ true
    → s.point.last ≡ Some (entries.Out pid bytes) → (step_at A s.point pid).entries ≡ o ∷ e ∷ es
    → fits A.swap_blocks s.holdings (asks A s.point.flat pid) ≡ true → must_settle A s pid ≡ false → act A s pid ≡ Some e
