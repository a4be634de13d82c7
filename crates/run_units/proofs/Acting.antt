-- What a process does next, by its step.
use Rattle.std.proofs.Common.{◌≡◌, ℕ, ◌==◌, not, ◌&&◌, Bool, true, false, List, [], ◌∷◌, Option, Some, None, refl, sym, ap, ◌∙◌, subst}
use Rattle.std.specs.Prelude.{if◌then◌else◌}
use Rattle.vm_facts.proofs.Tests.{eq_self}
use Rattle.vm_facts.specs.declared.entry.Entry.{Entry}
use Rattle.vm_facts.specs.declared.entry.Entry.TheVariants as entries
use Rattle.swap_book.specs.Placing.{fits}
use Rattle.flat_state.specs.Flat.{Inputs, can_step}
use Rattle.flat_model.specs.Run.{step_at, is_refused, behind_first, due, due_at, first_if, entry_of_step as next_of_step, IsBetween}
use Rattle.flat_model.specs.Asked.{asks}
use Rattle.run_model.specs.State.{State}
use Rattle.run_model.specs.Act.{act, act_if, act_by, must_refuse, must_settle}

-- by whether it is refused, and has to settle
pub acts_by : (A : Inputs) (s : State) (pid : ℕ) (refused settling : Bool) → can_step s.point.flat pid ≡ true → must_refuse A s pid ≡ refused
    → must_settle A s pid ≡ settling
    → act A s pid ≡ act_by A s pid refused settling
unfolding act
acts_by A s pid refused settling c r t =
    ap (λ (b : Bool). act_if b A s pid) c ∙ ap (λ (b : Bool). act_by A s pid b (must_settle A s pid)) r ∙ ap (act_by A s pid refused) t

pub between_refused : (o : Option Entry) (pid : ℕ) → IsBetween o → is_refused o pid ≡ false
between_refused (Some (entries.Refused p)) pid h = absurd h
between_refused _ pid h = refl

pub between_due : (o : Option Entry) (pid : ℕ) (es : List Entry) → IsBetween o → due o pid es ≡ es
between_due (Some (entries.Out p bytes)) pid es h = absurd h
between_due _ pid es h = refl

allowed : (A : Inputs) (s : State) (pid : ℕ) → fits A.swap_blocks s.holdings (asks A s.point.flat pid) ≡ true → must_refuse A s pid ≡ false
allowed A s pid f = ap (λ (b : Bool). not (is_refused s.point.last pid) && not b) f ∙ none (not (is_refused s.point.last pid))
  where
    none : (b : Bool) → (b && false) ≡ false
    none true = refl
    none false = refl

pub comes_first : (A : Inputs) (s : State) (pid : ℕ) (e : Entry) (es : List Entry) → can_step s.point.flat pid ≡ true → due_at A s.point pid ≡ e ∷ es
    → next_of_step A s.point pid ≡ Some e
comes_first A s pid e es c d = ap (λ (b : Bool). first_if b (due_at A s.point pid)) c ∙ ap (first_if true) d

pub step_begins : (A : Inputs) (s : State) (pid : ℕ) (e : Entry) (es : List Entry) → can_step s.point.flat pid ≡ true → IsBetween s.point.last
    → (step_at A s.point pid).entries ≡ e ∷ es → fits A.swap_blocks s.holdings (asks A s.point.flat pid) ≡ true
    → must_settle A s pid ≡ false → act A s pid ≡ Some e
step_begins A s pid e es c b first f t =
    acts_by A s pid false false c (allowed A s pid f) t ∙ comes_first A s pid e es c (between_due s.point.last pid (step_at A s.point pid).entries b ∙ first)

pub step_refused : (A : Inputs) (s : State) (pid : ℕ) → can_step s.point.flat pid ≡ true → IsBetween s.point.last
    → fits A.swap_blocks s.holdings (asks A s.point.flat pid) ≡ false
    → act A s pid ≡ Some (entries.Refused pid)
step_refused A s pid c b f =
    acts_by A s pid true (must_settle A s pid) c (ap (λ (x : Bool). not x && not (fits A.swap_blocks s.holdings (asks A s.point.flat pid))) (between_refused s.point.last pid b) ∙ ap not f) refl

pub refused_comes : (A : Inputs) (s : State) (pid : ℕ) (e : Entry) (es : List Entry) → can_step s.point.flat pid ≡ true
    → s.point.last ≡ Some (entries.Refused pid)
    → (step_at A s.point pid).entries ≡ e ∷ es → must_settle A s pid ≡ false → act A s pid ≡ Some e
refused_comes A s pid e es c l first t =
    acts_by A s pid false false c
    (ap (λ (o : Option Entry). not (is_refused o pid) && not (fits A.swap_blocks s.holdings (asks A s.point.flat pid))) l
    ∙ ap (λ (b : Bool). not b && not (fits A.swap_blocks s.holdings (asks A s.point.flat pid))) (eq_self pid)) t
    ∙ comes_first A s pid e es c (ap (λ (o : Option Entry). due o pid (step_at A s.point pid).entries) l ∙ first)

pub reply_comes : (A : Inputs) (s : State) (pid : ℕ) (bytes : List ℕ) (o e : Entry) (es : List Entry) → can_step s.point.flat pid ≡ true
    → s.point.last ≡ Some (entries.Out pid bytes) → (step_at A s.point pid).entries ≡ o ∷ e ∷ es
    → fits A.swap_blocks s.holdings (asks A s.point.flat pid) ≡ true → must_settle A s pid ≡ false → act A s pid ≡ Some e
reply_comes A s pid bytes o e es c l first f t =
    acts_by A s pid false false c (allowed A s pid f) t
    ∙ comes_first A s pid e es c
    (ap (λ (x : Option Entry). due x pid (step_at A s.point pid).entries) l
    ∙ ap (λ (b : Bool). if b then behind_first (step_at A s.point pid).entries else (step_at A s.point pid).entries) (eq_self pid)
    ∙ ap behind_first first)
