-- The entries of a step: none; one that completes it; or an `Out` and its `Call`.
use Rattle.std.proofs.Common.{◌≡◌, ℕ, ◌==◌, Bool, true, false, List, [], ◌∷◌, Option, Some, None, Result, Ok, Err, ℤ, refl, subst, arith, cond, find}
use Rattle.std.proofs.lemmas.Bool.Decides.{nat_tests}
use Rattle.vm_facts.proofs.Tests.{eq_self}
use Rattle.flat_state.specs.Space.{Space}
use Rattle.flat_state.specs.Flat.{Holding, Holds, Lends, Zombie, Process, FlatState, NamedImage, Inputs, process_of, can_step}
use Rattle.vm_facts.specs.declared.regs.Regs.{Regs}
use Rattle.vm_facts.specs.declared.entry.Entry.{Entry}
use Rattle.vm_facts.specs.declared.entry.Entry.TheVariants.{Ran, Out, Grew, Call, Sleeps, Ended}
use Rattle.user_vax.specs.Effects.{Effect}
use Rattle.user_vax.specs.declared.refused.Refused.{Refused}
use Rattle.user_vax.specs.declared.refused.Refused.TheVariants.{Miss, Below, Signal}
use Rattle.flat_state.specs.declared.change.Change.{Change}
use Rattle.flat_model.specs.Instruction.{instruction_in}
use Rattle.flat_model.specs.declared.calls.Reply.{Reply}
use Rattle.flat_model.specs.declared.calls.Reply.TheVariants.{Fails, Does, Writes, Waits, Exits}
use Rattle.flat_model.specs.declared.calls.SystemCall.{SystemCall}
use Rattle.flat_model.specs.Calls.{call_of, unless_refused, wants_space, refused_reply}
use Rattle.flat_model.specs.Step.{replied_step, reply_behind, called_step, step_behind, step_of, step_holding, step_if, flat_step}
use Rattle.flat_model.specs.Run.{is_outcome_of}
use Rattle.flat_model.specs.Asked.{change_wanted, wanted_in, wanted_if, asks_by, asks}

-- the entry completes a step of the process
abbrev pub IsStepEnd : ℕ → Entry → Type 0
IsStepEnd pid (Ran p n) = p ≡ pid
IsStepEnd pid (Grew p n) = p ≡ pid
IsStepEnd pid (Call p n c r0 r1) = p ≡ pid
IsStepEnd pid (Sleeps p) = p ≡ pid
IsStepEnd pid (Ended p n) = p ≡ pid
IsStepEnd pid _ = ⊥

pub data Shape (pid : ℕ) (es : List Entry) : Type 0 where
  Empty : es ≡ [] → Shape pid es
  One : (e : Entry) → IsStepEnd pid e → es ≡ e ∷ [] → Shape pid es
  Two : (bytes : List ℕ) (n : ℕ) (c : Bool) (r0 r1 : ℕ) → es ≡ Out pid bytes ∷ Call pid n c r0 r1 ∷ [] → Shape pid es

module _ (images : List NamedImage) (F : FlatState) (p : Process) where
  replied_shape : (call : SystemCall) (effect : Effect) (reply : Reply) → Shape p.pid (replied_step images F p call effect reply).entries
  replied_shape call effect (Fails error) = One _ refl refl
  replied_shape call effect (Does regs change) = One _ refl refl
  replied_shape call effect (Writes []) = One _ refl refl
  replied_shape call effect (Writes (byte ∷ bytes)) = Two _ _ _ _ _ refl
  replied_shape call effect Waits = One _ refl refl
  replied_shape call effect (Exits status) = One _ refl refl

  called_shape : (s : Space) (refused : Bool) (effect : Effect) (o : Option SystemCall) → Shape p.pid (called_step images F p s refused effect o).entries
  called_shape s refused effect None = One _ refl refl
  called_shape s refused effect (Some call) = replied_shape call effect (reply_behind images F p s refused call effect)

  behind_shape : (s : Space) (refused : Bool) (effect : Effect) (o : Option ℤ) → Shape p.pid (step_behind images F p s refused effect o).entries
  behind_shape s refused effect None = One _ refl refl
  behind_shape s refused effect (Some number) = called_shape s refused effect (call_of number)

  of_shape : (s : Space) (refused : Bool) (r : Result Effect Refused) → Shape p.pid (step_of images F p s refused r).entries
  of_shape s refused (Ok effect) = behind_shape s refused effect effect.call
  of_shape s refused (Err (Miss address write)) = Empty refl
  of_shape s true (Err (Below address)) = One _ refl refl
  of_shape s false (Err (Below address)) = One _ refl refl
  of_shape s refused (Err (Signal number)) = One _ refl refl

  holding_shape : (refused : Bool) (h : Holding) → Shape p.pid (step_holding images F p refused h).entries
  holding_shape refused (Holds s) = of_shape s refused (instruction_in s p.regs)
  holding_shape refused (Lends sid child) = Empty refl
  holding_shape refused (Zombie status) = Empty refl

-- the process that is found has the number
abbrev IsNumbered : ℕ → Option Process → Type 0
IsNumbered pid None = Unit {0}
IsNumbered pid (Some p) = p.pid ≡ pid

found : (qs : List Process) (pid : ℕ) → IsNumbered pid (find (λ q. q.pid == pid) qs)
found [] pid = tt
found (q ∷ qs) pid = go (found qs pid) (q.pid == pid) refl
  where
    go : IsNumbered pid (find (λ q. q.pid == pid) qs) → (b : Bool) → (q.pid == pid) ≡ b → IsNumbered pid (cond b (Some q) (find (λ q. q.pid == pid) qs))
    go more true h = let e : q.pid ≡ pid = grind (arith, nat_tests) in e
    go more false h = more

if_shape : (images : List NamedImage) (F : FlatState) (refused : Bool) (pid : ℕ) (o : Option Process) → IsNumbered pid o
    → Shape pid (step_if images F refused o).entries
if_shape images F refused pid None h = Empty refl
if_shape images F refused pid (Some p) h =
    subst (λ (n : ℕ). Shape n (step_holding images F p refused p.holding).entries) h (holding_shape images F p refused p.holding)

pub step_shape : (A : Inputs) (F : FlatState) (pid : ℕ) (refused : Bool) → Shape pid (flat_step A F pid refused).entries
unfolding flat_step
step_shape A F pid refused = if_shape A.images F refused pid (process_of F pid) (found F.processes pid)

-- A step whose pieces are refused ends in a reply or an end, where pieces were asked.

pub data Outcome (pid : ℕ) (es : List Entry) : Type 0 where
  Missed : es ≡ [] → Outcome pid es
  Says : (e : Entry) → IsStepEnd pid e → is_outcome_of pid e ≡ true → es ≡ e ∷ [] → Outcome pid es

does_outcome : (images : List NamedImage) (F : FlatState) (p : Process) (call : SystemCall) (effect : Effect) (b : Bool) (regs : Regs) (change : Change)
    → Outcome p.pid (replied_step images F p call effect (unless_refused b (Does regs change))).entries
does_outcome images F p call effect true regs change = Says _ refl (eq_self p.pid) refl
does_outcome images F p call effect false regs change = Says _ refl (eq_self p.pid) refl

replied_outcome : (images : List NamedImage) (F : FlatState) (p : Process) (s : Space) (call : SystemCall) (effect : Effect) (reply : Reply)
    → (change_wanted images F s (replied_step images F p call effect reply).change ≡ [] → ⊥)
    → Outcome p.pid (replied_step images F p call effect (refused_reply true reply)).entries
replied_outcome images F p s call effect (Fails error) n = absurd (n refl)
replied_outcome images F p s call effect (Does regs change) n = does_outcome images F p call effect (wants_space change) regs change
replied_outcome images F p s call effect (Writes bytes) n = absurd (n refl)
replied_outcome images F p s call effect Waits n = absurd (n refl)
replied_outcome images F p s call effect (Exits status) n = Says _ refl (eq_self p.pid) refl

called_outcome : (images : List NamedImage) (F : FlatState) (p : Process) (s : Space) (effect : Effect) (o : Option SystemCall)
    → (change_wanted images F s (called_step images F p s false effect o).change ≡ [] → ⊥) → Outcome p.pid (called_step images F p s true effect o).entries
called_outcome images F p s effect None n = absurd (n refl)
called_outcome images F p s effect (Some call) n = replied_outcome images F p s call effect (reply_behind images F p s false call effect) n

behind_outcome : (images : List NamedImage) (F : FlatState) (p : Process) (s : Space) (effect : Effect) (o : Option ℤ)
    → (change_wanted images F s (step_behind images F p s false effect o).change ≡ [] → ⊥) → Outcome p.pid (step_behind images F p s true effect o).entries
behind_outcome images F p s effect None n = absurd (n refl)
behind_outcome images F p s effect (Some number) n = called_outcome images F p s effect (call_of number) n

of_outcome : (images : List NamedImage) (F : FlatState) (p : Process) (s : Space) (r : Result Effect Refused)
    → (change_wanted images F s (step_of images F p s false r).change ≡ [] → ⊥) → Outcome p.pid (step_of images F p s true r).entries
of_outcome images F p s (Ok effect) n = behind_outcome images F p s effect effect.call n
of_outcome images F p s (Err (Miss address write)) n = absurd (n refl)
of_outcome images F p s (Err (Below address)) n = Says _ refl (eq_self p.pid) refl
of_outcome images F p s (Err (Signal number)) n = absurd (n refl)

holding_outcome : (images : List NamedImage) (F : FlatState) (p : Process) (h : Holding)
    → (wanted_in images F (step_holding images F p false h).change h ≡ [] → ⊥) → Outcome p.pid (step_holding images F p true h).entries
holding_outcome images F p (Holds s) n = of_outcome images F p s (instruction_in s p.regs) n
holding_outcome images F p (Lends sid child) n = absurd (n refl)
holding_outcome images F p (Zombie status) n = absurd (n refl)

if_outcome : (images : List NamedImage) (F : FlatState) (pid : ℕ) (o : Option Process) → IsNumbered pid o
    → (wanted_if images F (step_if images F false o).change o ≡ [] → ⊥) → Outcome pid (step_if images F true o).entries
if_outcome images F pid None h n = absurd (n refl)
if_outcome images F pid (Some p) h n =
    subst (λ (k : ℕ). Outcome k (step_holding images F p true p.holding).entries) h (holding_outcome images F p p.holding n)

pub refused_outcome : (A : Inputs) (F : FlatState) (pid : ℕ) → (asks A F pid ≡ [] → ⊥) → Outcome pid (flat_step A F pid true).entries
unfolding asks flat_step
refused_outcome A F pid n = go (can_step F pid) n
  where
    go : (b : Bool) → (asks_by b A F pid ≡ [] → ⊥) → Outcome pid (step_if A.images F true (process_of F pid)).entries
    go true k = if_outcome A.images F pid (process_of F pid) (found F.processes pid) k
    go false k = absurd (k refl)

-- A step that writes asks for no pieces.

module _ (images : List NamedImage) (F : FlatState) (p : Process) where
  replied_writes : (s : Space) (call : SystemCall) (effect : Effect) (reply : Reply) (pid : ℕ) (bytes : List ℕ) (behind : List Entry)
      → (replied_step images F p call effect reply).entries ≡ Out pid bytes ∷ behind
      → change_wanted images F s (replied_step images F p call effect reply).change ≡ []
  replied_writes s call effect (Fails error) pid bytes behind h = refl
  replied_writes s call effect (Does regs change) pid bytes behind h = absurd cc
  replied_writes s call effect (Writes written) pid bytes behind h = refl
  replied_writes s call effect Waits pid bytes behind h = refl
  replied_writes s call effect (Exits status) pid bytes behind h = refl

  called_writes : (s : Space) (effect : Effect) (o : Option SystemCall) (pid : ℕ) (bytes : List ℕ) (behind : List Entry)
      → (called_step images F p s false effect o).entries ≡ Out pid bytes ∷ behind
      → change_wanted images F s (called_step images F p s false effect o).change ≡ []
  called_writes s effect None pid bytes behind h = refl
  called_writes s effect (Some call) pid bytes behind h = replied_writes s call effect (reply_behind images F p s false call effect) pid bytes behind h

  behind_writes : (s : Space) (effect : Effect) (o : Option ℤ) (pid : ℕ) (bytes : List ℕ) (behind : List Entry)
      → (step_behind images F p s false effect o).entries ≡ Out pid bytes ∷ behind
      → change_wanted images F s (step_behind images F p s false effect o).change ≡ []
  behind_writes s effect None pid bytes behind h = refl
  behind_writes s effect (Some number) pid bytes behind h = called_writes s effect (call_of number) pid bytes behind h

  of_writes : (s : Space) (r : Result Effect Refused) (pid : ℕ) (bytes : List ℕ) (behind : List Entry)
      → (step_of images F p s false r).entries ≡ Out pid bytes ∷ behind → change_wanted images F s (step_of images F p s false r).change ≡ []
  of_writes s (Ok effect) pid bytes behind h = behind_writes s effect effect.call pid bytes behind h
  of_writes s (Err (Miss address write)) pid bytes behind h = refl
  of_writes s (Err (Below address)) pid bytes behind h = absurd cc
  of_writes s (Err (Signal number)) pid bytes behind h = refl

  holding_writes : (o : Holding) (pid : ℕ) (bytes : List ℕ) (behind : List Entry)
      → (step_holding images F p false o).entries ≡ Out pid bytes ∷ behind → wanted_in images F (step_holding images F p false o).change o ≡ []
  holding_writes (Holds s) pid bytes behind h = of_writes s (instruction_in s p.regs) pid bytes behind h
  holding_writes (Lends sid child) pid bytes behind h = refl
  holding_writes (Zombie status) pid bytes behind h = refl

if_writes : (images : List NamedImage) (F : FlatState) (o : Option Process) (pid : ℕ) (bytes : List ℕ) (behind : List Entry)
    → (step_if images F false o).entries ≡ Out pid bytes ∷ behind → wanted_if images F (step_if images F false o).change o ≡ []
if_writes images F None pid bytes behind h = refl
if_writes images F (Some p) pid bytes behind h = holding_writes images F p p.holding pid bytes behind h

pub writes_asks : (A : Inputs) (F : FlatState) (pid : ℕ) (bytes : List ℕ) (behind : List Entry)
    → (flat_step A F pid false).entries ≡ Out pid bytes ∷ behind → asks A F pid ≡ []
unfolding asks flat_step
writes_asks A F pid bytes behind h = go (can_step F pid)
  where
    go : (b : Bool) → asks_by b A F pid ≡ []
    go true = if_writes A.images F (process_of F pid) pid bytes behind h
    go false = refl
