-- A flat entry that is no fork's leaves each process with the one number.
use Rattle.std.proofs.Common.{◌≡◌, ℕ, ◌==◌, Bool, true, false, ◌&&◌, List, [], ◌∷◌, Option, Some, None, Result, Ok, Err, ℤ, refl, sym, ap, ◌∙◌, subst, if◌then◌else◌}
use Rattle.std.proofs.lemmas.Bool.{eqb-true, and_parts}
use Rattle.std.proofs.lemmas.Option.{same_Some}
use Rattle.vm_facts.specs.Answers.{ByteWrite}
use Rattle.flat_state.specs.Space.{Space, answers_of, puts}
use Rattle.flat_state.specs.Flat.{Holding, Holds, Lends, Zombie, Process, FlatState, NamedImage, Inputs, process_of, can_step}
use Rattle.vm_facts.specs.declared.entry.Entry.{Entry}
use Rattle.vm_facts.specs.declared.entry.Entry.TheVariants as entries
use Rattle.vm_facts.specs.declared.regs.Regs.{Regs}
use Rattle.user_vax.specs.Effects.{Effect}
use Rattle.user_vax.specs.declared.refused.Refused.{Refused}
use Rattle.user_vax.specs.declared.refused.Refused.TheVariants.{Miss, Below, Signal}
use Rattle.flat_state.specs.Change.{apply_change, apply_writes}
use Rattle.flat_state.specs.declared.change.Change.{Change}
use Rattle.flat_state.specs.declared.change.Change.TheVariants.{Keep, Sleep, End}
use Rattle.flat_model.specs.declared.calls.Reply.{Reply}
use Rattle.flat_model.specs.declared.calls.Reply.TheVariants as replies
use Rattle.flat_model.specs.declared.calls.SystemCall.{SystemCall}
use Rattle.flat_model.specs.Calls.{call_of}
use Rattle.flat_model.specs.Instruction.{instruction_in}
use Rattle.flat_model.specs.Step.{step_of, step_behind, called_step, replied_step, step_holding, step_if, flat_step, written_process, reply_behind}
use Rattle.flat_model.specs.Run.{Point, is_refused, step_at, behind_first, due, due_at, behind, same_carry, same_entry, is_first_of, process_of_entry, is_due, ComesAt, led_to, flat_entry}
use Rattle.flat_model.proofs.Coming.{Came, came, stands}
use Rattle.flat_laws.specs.Visible.{is_fork_reply, is_fork}
use Rattle.flat_laws.proofs.Sole.{Only, BringsNone, only_applied, only_written}
use Rattle.flat_laws.proofs.Children.{Spares, reply_spares}
use Rattle.flat_laws.proofs.Entries.{carry_is}

-- the last of these entries is a fork's
abbrev pub ends_in_fork : List Entry → Bool
ends_in_fork [] = false
ends_in_fork (e ∷ []) = is_fork e
ends_in_fork (e ∷ f ∷ es) = ends_in_fork (f ∷ es)

-- Steps.

module _ (n : ℕ) (images : List NamedImage) (F : FlatState) where
  only_after : (pid : ℕ) (ws : List ByteWrite) (regs : Regs) (change : Change) → BringsNone change → Only n F.processes
      → Only n (apply_change images (apply_writes F pid ws) pid regs change).processes
  only_after pid ws regs change none k = only_applied n images (apply_writes F pid ws) pid regs change none (only_written n F pid ws k)

  only_replied : (p : Process) (call : SystemCall) (effect : Effect) (reply : Reply) → Spares call reply → Only n F.processes
      → ends_in_fork (replied_step images F p call effect reply).entries ≡ false → Only n (replied_step images F p call effect reply).after.processes
  only_replied p call effect (replies.Does regs change) spares k none = only_after p.pid effect.writes regs change (spares none) k
  only_replied p call effect replies.Waits spares k none = only_after p.pid effect.writes p.regs Sleep tt k
  only_replied p call effect (replies.Exits status) spares k none = only_after p.pid effect.writes p.regs (End status) tt k
  only_replied p call effect _ spares k none = only_after p.pid effect.writes _ Keep tt k

  only_called : (p : Process) (s : Space) (refused : Bool) (effect : Effect) (call : Option SystemCall) → Only n F.processes
      → ends_in_fork (called_step images F p s refused effect call).entries ≡ false → Only n (called_step images F p s refused effect call).after.processes
  only_called p s refused effect None k none = only_after p.pid effect.writes p.regs (End 12) tt k
  only_called p s refused effect (Some call) k none =
      only_replied p call effect (reply_behind images F p s refused call effect)
      (reply_spares images (apply_writes F p.pid effect.writes) (answers_of (puts s effect.writes)) (written_process p s effect.writes) (puts s effect.writes) call effect.regs refused) k none

  only_behind : (p : Process) (s : Space) (refused : Bool) (effect : Effect) (number : Option ℤ) → Only n F.processes
      → ends_in_fork (step_behind images F p s refused effect number).entries ≡ false → Only n (step_behind images F p s refused effect number).after.processes
  only_behind p s refused effect None k none = only_after p.pid effect.writes effect.regs Keep tt k
  only_behind p s refused effect (Some number) k none = only_called p s refused effect (call_of number) k none

  only_of : (p : Process) (s : Space) (refused : Bool) (result : Result Effect Refused) → Only n F.processes
      → ends_in_fork (step_of images F p s refused result).entries ≡ false → Only n (step_of images F p s refused result).after.processes
  only_of p s refused (Ok effect) k none = only_behind p s refused effect effect.call k none
  only_of p s refused (Err (Miss a w)) k none = k
  only_of p s true (Err (Below a)) k none = only_after p.pid [] p.regs (End 11) tt k
  only_of p s false (Err (Below a)) k none = only_after p.pid [] p.regs _ tt k
  only_of p s refused (Err (Signal number)) k none = only_after p.pid [] p.regs (End number) tt k

only_stepped : (n : ℕ) (A : Inputs) (F : FlatState) (pid : ℕ) (refused : Bool) → Only n F.processes → ends_in_fork (flat_step A F pid refused).entries ≡ false
    → Only n (flat_step A F pid refused).after.processes
unfolding flat_step
only_stepped n A F pid refused k none = go (process_of F pid) none
  where
    by : (p : Process) (held : Holding) → ends_in_fork (step_holding A.images F p refused held).entries ≡ false → Only n (step_holding A.images F p refused held).after.processes
    by p (Holds s) l = only_of n A.images F p s refused (instruction_in s p.regs) k l
    by p (Lends sid child) l = k
    by p (Zombie status) l = k

    go : (o : Option Process) → ends_in_fork (step_if A.images F refused o).entries ≡ false → Only n (step_if A.images F refused o).after.processes
    go None l = k
    go (Some p) l = by p p.holding l

-- Entries.

-- entries that are the same are both a fork's, or neither is
fork_same : (e f : Entry) → same_entry e f ≡ true → is_fork f ≡ false → is_fork e ≡ false
fork_same (entries.Call a n c r0 r1) (entries.Call b m d s0 s1) h k =
    let of = and_parts (a == b) (n == m && (same_carry c d && (r0 == s0 && r1 == s1))) h in
    let numbers = and_parts (n == m) (same_carry c d && (r0 == s0 && r1 == s1)) of.1 in
    let carries = and_parts (same_carry c d) (r0 == s0 && r1 == s1) numbers.1 in
    ap (λ (x : ℕ). is_fork_reply x c) (eqb-true n m numbers.0) ∙ ap (λ (x : Bool). is_fork_reply m x) (carry_is c d carries.0) ∙ k
fork_same (entries.Call a n c r0 r1) _ h k = absurd cc
fork_same _ f h k = refl

-- where one entry is due, it is the last one of the step
pub last_due : (last : Option Entry) (pid : ℕ) (es : List Entry) (e : Entry) → due last pid es ≡ e ∷ [] → ends_in_fork es ≡ is_fork e
last_due (Some (entries.Out p bytes)) pid es e h = go (p == pid) h
  where
    less : (xs : List Entry) → behind_first xs ≡ e ∷ [] → ends_in_fork xs ≡ is_fork e
    less [] l = absurd cc
    less (x ∷ xs) l = ap (λ (m : List Entry). ends_in_fork (x ∷ m)) l

    go : (b : Bool) → (if b then behind_first es else es) ≡ e ∷ [] → ends_in_fork es ≡ is_fork e
    go true l = less es l
    go false l = ap ends_in_fork l
last_due _ pid es e h = ap ends_in_fork h

only_point : (n : ℕ) (point : Point) (after : FlatState) (es : List Entry) → Only n point.flat.processes → ((e : Entry) → es ≡ e ∷ [] → Only n after.processes)
    → Only n (behind point after es).flat.processes
only_point n point after (e ∷ []) k next = next e refl
only_point n point after _ k next = k

only_led : (n : ℕ) (A : Inputs) (point : Point) (pid : ℕ) (e : Entry) → is_due A point pid e ≡ true → is_fork e ≡ false → Only n point.flat.processes
    → Only n (led_to A point pid e).flat.processes
only_led n A point pid (entries.Refused p) due none k = k
only_led n A point pid e due none k =
    only_point n point (step_at A point pid).after (due_at A point pid) k
    (λ f one.
    let is : same_entry f e ≡ true = sym (ap (λ (es : List Entry). is_first_of es e) one) ∙ due in
    only_stepped n A point.flat pid (is_refused point.last pid) k (last_due point.last pid (step_at A point pid).entries f one ∙ fork_same f e is none))

pub only_entry : (n : ℕ) (A : Inputs) (point q : Point) (e : Entry) → flat_entry A point e ≡ Some q → is_fork e ≡ false → Only n point.flat.processes
    → Only n q.flat.processes
only_entry n A point q e h none k = go (process_of_entry e) refl
  where
    go : (o : Option ℕ) → process_of_entry e ≡ o → Only n q.flat.processes
    go None of = subst (λ (x : Point). Only n x.flat.processes) (same_Some point q (sym (stands A point e of) ∙ h)) k
    go (Some pid) of =
        let c : Came A point q pid e = came A point q pid e of h in
        let d : ComesAt A point pid e = c.comes in
        subst (λ (x : Point). Only n x.flat.processes) c.leads (only_led n A point pid e d.next none k)

-- Who makes an entry.

-- the process of a flat entry can step
pub entry_steps : (A : Inputs) (point q : Point) (pid : ℕ) (e : Entry) → process_of_entry e ≡ Some pid → flat_entry A point e ≡ Some q
    → can_step point.flat pid ≡ true
entry_steps A point q pid e of h =
    let c : Came A point q pid e = came A point q pid e of h in
    let d : ComesAt A point pid e = c.comes in
    d.steps
