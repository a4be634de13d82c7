-- What each step of a process comes to: bytes that it writes, and a change.
use Rattle.std.proofs.Common.{◌≡◌, ℕ, Bool, true, false, List, [], ◌∷◌, Option, Some, None, Result, Ok, Err, ℤ, refl, sym, subst, ap, ◌∙◌}
use Rattle.flat_state.specs.Space.{Space, answers_of, puts}
use Rattle.flat_state.specs.Flat.{Holding, Holds, Process, FlatState, NamedImage, Inputs, process_of}
use Rattle.vm_facts.specs.declared.regs.Regs.{Regs}
use Rattle.vm_facts.specs.declared.entry.Entry.{Entry}
use Rattle.vm_facts.specs.declared.entry.Entry.TheVariants as entries
use Rattle.user_vax.specs.Effects.{Effect}
use Rattle.user_vax.specs.declared.refused.Refused.{Refused}
use Rattle.user_vax.specs.declared.refused.Refused.TheVariants.{Miss, Below, Signal}
use Rattle.flat_state.specs.Change.{apply_change, apply_writes, NamesChild}
use Rattle.flat_state.specs.declared.change.Change.{Change}
use Rattle.flat_state.specs.declared.change.Change.TheVariants.{Keep, Resize, Fork, Lend, Exec, Sleep}
use Rattle.flat_state.specs.Numbers.{AllDistinct, IsNumbered}
use Rattle.flat_laws.proofs.Replies.{ReplyFits, reply_fits}
use Rattle.flat_laws.proofs.Others.{pids_written}
use Rattle.flat_model.specs.Instruction.{instruction_in}
use Rattle.flat_model.specs.declared.calls.Reply.{Reply}
use Rattle.flat_model.specs.declared.calls.Reply.TheVariants.{Does, Writes, Waits}
use Rattle.flat_model.specs.declared.calls.SystemCall.{SystemCall}
use Rattle.flat_model.specs.Calls.{call_of, unless_refused, wants_space, refused_reply}
use Rattle.flat_model.specs.Step.{Step, written_process, replied_step, reply_behind, called_step, step_behind, step_of, step_holding, step_if, flat_step}
use Rattle.flat_model.specs.Asked.{change_wanted}

-- what completes a step says of its change
abbrev pub Suits : List Entry → Change → Type 0
Suits (entries.Ran p n ∷ []) change = change ≡ Keep
Suits (entries.Sleeps p ∷ []) change = change ≡ Sleep
Suits _ change = Unit {0}

-- the step of a process that holds this space: it writes, and then changes
pub record Formed (images : List NamedImage) (F : FlatState) (p : Process) (s : Space) (refused : Bool) (S : Step) : Type 0 where
  pub after : S.after ≡ apply_change images (apply_writes F p.pid S.writes) p.pid S.regs S.change
  pub may : NamesChild (apply_writes F p.pid S.writes) S.change
  pub wants : refused ≡ true → change_wanted images F s S.change ≡ []
  pub suits : Suits S.entries S.change

pub data Form (images : List NamedImage) (F : FlatState) (p : Process) (s : Space) (refused : Bool) (S : Step) : Type 0 where
  Missed : S.entries ≡ [] → Form images F p s refused S
  Came : Formed images F p s refused S → Form images F p s refused S

wants_none : (images : List NamedImage) (F : FlatState) (s : Space) (change : Change) → wants_space change ≡ false → change_wanted images F s change ≡ []
wants_none images F s (Resize d t) e = absurd cc
wants_none images F s (Fork child) e = absurd cc
wants_none images F s (Lend child) e = absurd cc
wants_none images F s (Exec image top) e = absurd cc
wants_none images F s _ e = refl

-- a reply of which the pieces were refused wants none
abbrev NoneRefused : Bool → Reply → Type 0
NoneRefused refused (Does regs change) = refused ≡ true → wants_space change ≡ false
NoneRefused refused _ = Unit {0}

none_unless : (b : Bool) (regs : Regs) (change : Change) → wants_space change ≡ b → NoneRefused true (unless_refused b (Does regs change))
none_unless true regs change e = tt
none_unless false regs change e = λ z. e

none_refused : (refused : Bool) (reply : Reply) → NoneRefused refused (refused_reply refused reply)
none_refused false (Does regs change) = λ z. absurd cc
none_refused false _ = tt
none_refused true (Does regs change) = none_unless (wants_space change) regs change refl
none_refused true _ = tt

module _ (images : List NamedImage) (F : FlatState) (p : Process) (s : Space) where
  replied_form : (refused : Bool) (call : SystemCall) (effect : Effect) (reply : Reply) → ReplyFits (apply_writes F p.pid effect.writes) reply
      → NoneRefused refused reply → Formed images F p s refused (replied_step images F p call effect reply)
  replied_form refused call effect (Does regs change) m n = record { after = refl; may = m; wants = λ z. wants_none images F s change (n z); suits = tt }
  replied_form refused call effect (Writes []) m n = record { after = refl; may = tt; wants = λ z. refl; suits = tt }
  replied_form refused call effect (Writes (byte ∷ bytes)) m n = record { after = refl; may = tt; wants = λ z. refl; suits = tt }
  replied_form refused call effect Waits m n = record { after = refl; may = tt; wants = λ z. refl; suits = refl }
  replied_form refused call effect _ m n = record { after = refl; may = tt; wants = λ z. refl; suits = tt }

  called_form : (refused : Bool) (effect : Effect) (o : Option SystemCall)
      → IsNumbered F → Formed images F p s refused (called_step images F p s refused effect o)
  called_form refused effect None h = record { after = refl; may = tt; wants = λ z. refl; suits = tt }
  called_form refused effect (Some call) h =
      replied_form refused call effect (reply_behind images F p s refused call effect)
      (reply_fits images (apply_writes F p.pid effect.writes) (answers_of (puts s effect.writes)) (written_process p s effect.writes) (puts s effect.writes) call effect.regs refused
      (subst (λ (ns : List ℕ). AllDistinct ns) (sym (pids_written F p.pid effect.writes)) h.pids))
      (none_refused refused (Rattle.flat_model.specs.Calls.or_fault (Rattle.user_vax.specs.Program.run (answers_of (puts s effect.writes))
      (Rattle.flat_model.specs.Calls.reply_of images (apply_writes F p.pid effect.writes) (written_process p s effect.writes) (puts s effect.writes) call effect.regs))))

  behind_form : (refused : Bool) (effect : Effect) (o : Option ℤ) → IsNumbered F → Formed images F p s refused (step_behind images F p s refused effect o)
  behind_form refused effect None h = record { after = refl; may = tt; wants = λ z. refl; suits = refl }
  behind_form refused effect (Some number) h = called_form refused effect (call_of number) h

  of_form : (refused : Bool) (r : Result Effect Refused) → IsNumbered F → Form images F p s refused (step_of images F p s refused r)
  of_form refused (Ok effect) h = Came (behind_form refused effect effect.call h)
  of_form refused (Err (Miss address write)) h = Missed refl
  of_form true (Err (Below address)) h = Came (record { after = refl; may = tt; wants = λ z. refl; suits = tt })
  of_form false (Err (Below address)) h = Came (record { after = refl; may = tt; wants = λ z. absurd cc; suits = tt })
  of_form refused (Err (Signal number)) h = Came (record { after = refl; may = tt; wants = λ z. refl; suits = tt })

pub step_form : (A : Inputs) (F : FlatState) (pid : ℕ) (refused : Bool) (q : Process) (s : Space) → IsNumbered F → process_of F pid ≡ Some q
    → q.holding ≡ Holds s → Form A.images F q s refused (flat_step A F pid refused)
unfolding flat_step
step_form A F pid refused q s n f h =
    subst (λ (o : Option Process). Form A.images F q s refused (step_if A.images F refused o)) (sym f)
    (subst (λ (x : Holding). Form A.images F q s refused (step_holding A.images F q refused x)) (sym h) (of_form A.images F q s refused (instruction_in s q.regs) n))

pub step_is : (A : Inputs) (F : FlatState) (pid : ℕ) (refused : Bool) (q : Process) (s : Space) → process_of F pid ≡ Some q → q.holding ≡ Holds s
    → flat_step A F pid refused ≡ step_of A.images F q s refused (instruction_in s q.regs)
unfolding flat_step
step_is A F pid refused q s f h = ap (step_if A.images F refused) f ∙ ap (step_holding A.images F q refused) h
