-- What the entries of a run count is at least one, and so they are within their ranges where their numbers are.
use Rattle.std.proofs.Common.{◌≡◌, inl, inr, ℕ, ◌==◌, ◌<◌, ◌≤◌, Bool, true, false, List, [], ◌∷◌, ◌++◌, length, Option, Some, None, Result, Ok, Err, ℤ, if◌then◌else◌, refl, sym, ◌∙◌, subst, arith}
use Rattle.std.specs.Prelude.{⊤}
use Rattle.vm_facts.specs.declared.entry.Entry.{Entry}
use Rattle.vm_facts.specs.declared.entry.Entry.TheVariants.{Ran, Out, Grew, Get, Hands, Put}
use Rattle.flat_state.specs.Space.{Space}
use Rattle.flat_state.specs.Flat.{Holding, Holds, Lends, Zombie, Process, FlatState, NamedImage, Inputs, process_of, can_step}
use Rattle.flat_state.specs.Journal.{join_by, join, append_after, append_joined, append, appended}
use Rattle.kernel_model.specs.Start.{ImagesFit}
use Rattle.user_vax.specs.Effects.{Effect}
use Rattle.user_vax.specs.declared.refused.Refused.{Refused as NotRun}
use Rattle.user_vax.specs.declared.refused.Refused.TheVariants.{Miss, Below, Signal}
use Rattle.flat_model.specs.Instruction.{instruction_in}
use Rattle.flat_model.specs.declared.calls.Reply.{Reply}
use Rattle.flat_model.specs.declared.calls.Reply.TheVariants.{Fails, Does, Writes, Waits, Exits}
use Rattle.flat_model.specs.declared.calls.SystemCall.{SystemCall}
use Rattle.flat_model.specs.Calls.{call_of}
use Rattle.flat_model.specs.Step.{replied_step, reply_behind, called_step, step_behind, step_of, step_holding, step_if, flat_step}
use Rattle.flat_model.specs.Run.{is_refused, step_at, behind_first, due, due_at, first_if, process_of_entry}
use Rattle.run_model.specs.State.{State}
use Rattle.run_model.specs.Act.{IsNext}
use Rattle.run_model.specs.After.{after}
use Rattle.run_model.specs.Next.{next_unit}
use Rattle.run_model.specs.Lawful.{Follows}
use Rattle.run_laws.specs.Standing.{IsAllowed}
use Rattle.run_laws.specs.Running.{IsRun}
use Rattle.run_laws.proofs.Flows.{Acted, Settles, Refuses, Steps, acted}
use Rattle.run_laws.proofs.Execs.{execs_fit}
use Rattle.run_laws.proofs.Lawful.{next_is_unit, all_next}
use Rattle.run_laws.proofs.Wholes.{unit_run, unit_allowed}
use Rattle.run_text.specs.Transcript.{HasNumbers, HaveNumbers, IsWithin, AreWithin}

-- an entry that counts counts at least one
abbrev pub CountsOne : Entry → Type 0
CountsOne (Ran pid count) = 1 ≤ count
CountsOne (Out pid bytes) = 1 ≤ length bytes
CountsOne (Grew pid pages) = 1 ≤ pages
CountsOne (Get page lo n) = 1 ≤ n
CountsOne (Hands count) = 1 ≤ count
CountsOne (Put page n) = 1 ≤ n
CountsOne _ = ⊤

abbrev pub AllCountOne : List Entry → Type 0
AllCountOne [] = ⊤
AllCountOne (e ∷ es) = CountsOne e × AllCountOne es

-- The entries of a step.

module _ (images : List NamedImage) (F : FlatState) (p : Process) where
  replied_counts : (call : SystemCall) (effect : Effect) (reply : Reply) → AllCountOne (replied_step images F p call effect reply).entries
  replied_counts call effect (Fails error) = (tt, tt)
  replied_counts call effect (Does regs change) = (tt, tt)
  replied_counts call effect (Writes []) = (tt, tt)
  replied_counts call effect (Writes (byte ∷ bytes)) = (omega arith, (tt, tt))
  replied_counts call effect Waits = (tt, tt)
  replied_counts call effect (Exits status) = (tt, tt)

  called_counts : (s : Space) (refused : Bool) (effect : Effect) (o : Option SystemCall) → AllCountOne (called_step images F p s refused effect o).entries
  called_counts s refused effect None = (tt, tt)
  called_counts s refused effect (Some call) = replied_counts call effect (reply_behind images F p s refused call effect)

  behind_counts : (s : Space) (refused : Bool) (effect : Effect) (o : Option ℤ) → AllCountOne (step_behind images F p s refused effect o).entries
  behind_counts s refused effect None = (omega arith, tt)
  behind_counts s refused effect (Some number) = called_counts s refused effect (call_of number)

  of_counts : (s : Space) (refused : Bool) (r : Result Effect NotRun) → AllCountOne (step_of images F p s refused r).entries
  of_counts s refused (Ok effect) = behind_counts s refused effect effect.call
  of_counts s refused (Err (Miss address write)) = tt
  of_counts s true (Err (Below address)) = (tt, tt)
  of_counts s false (Err (Below address)) = (omega arith, tt)
  of_counts s refused (Err (Signal number)) = (tt, tt)

  holding_counts : (refused : Bool) (h : Holding) → AllCountOne (step_holding images F p refused h).entries
  holding_counts refused (Holds s) = of_counts s refused (instruction_in s p.regs)
  holding_counts refused (Lends sid child) = tt
  holding_counts refused (Zombie status) = tt

if_counts : (images : List NamedImage) (F : FlatState) (refused : Bool) (o : Option Process) → AllCountOne (step_if images F refused o).entries
if_counts images F refused None = tt
if_counts images F refused (Some p) = holding_counts images F p refused p.holding

step_counts : (A : Inputs) (F : FlatState) (pid : ℕ) (refused : Bool) → AllCountOne (flat_step A F pid refused).entries
unfolding flat_step
step_counts A F pid refused = if_counts A.images F refused (process_of F pid)

behind_first_counts : (es : List Entry) → AllCountOne es → AllCountOne (behind_first es)
behind_first_counts [] h = tt
behind_first_counts (e ∷ es) h = h.1

due_counts : (last : Option Entry) (pid : ℕ) (es : List Entry) → AllCountOne es → AllCountOne (due last pid es)
due_counts (Some (Out p bytes)) pid es h = go (p == pid)
  where
    go : (b : Bool) → AllCountOne (if b then behind_first es else es)
    go true = behind_first_counts es h
    go false = h
due_counts _ pid es h = h

some_is : (e u : Entry) → Some e ≡ Some u → e ≡ u
some_is e u h = cc

first_counts : (b : Bool) (es : List Entry) (u : Entry) → AllCountOne es → first_if b es ≡ Some u → CountsOne u
first_counts true (e ∷ es) u h k = subst CountsOne (some_is e u k) h.0
first_counts true [] u h k = absurd cc
first_counts false es u h k = absurd cc

-- The units of a run.

acted_counts : (A : Inputs) (s : State) (pid : ℕ) (u : Entry) → Acted A s pid u → CountsOne u
acted_counts A s pid u (Settles e) = subst CountsOne (sym e) tt
acted_counts A s pid u (Refuses e) = subst CountsOne (sym e) tt
acted_counts A s pid u (Steps f g e) =
    first_counts (can_step s.point.flat pid) (due_at A s.point pid) u
    (due_counts s.point.last pid (step_at A s.point pid).entries (step_counts A s.point.flat pid (is_refused s.point.last pid))) e

flat_counts : (A : Inputs) (s : State) (u : Entry) (pid : ℕ) → ImagesFit A.images → IsRun A s → next_unit A s ≡ Some u → process_of_entry u ≡ Some pid
    → CountsOne u
flat_counts A s u pid images run next of = elim (all_next A (u ∷ []) s (after A s u) images (execs_fit A) run (next, refl)).0 [
  | inl none ↦ absurd (let z : None ≡ Some pid = sym none ∙ of in cc)
  | inr is ↦ (let n : IsNext A s u = is in acted_counts A s n.pid u (acted A s n.pid u n.next))
]

unit_counts : (A : Inputs) (s : State) (u : Entry) → ImagesFit A.images → IsRun A s → next_unit A s ≡ Some u → CountsOne u
unit_counts A s (Ran p n) images run next = let one : n ≡ 1 = next_is_unit A s (Ran p n) next in omega arith
unit_counts A s (Hands n) images run next = let one : n ≡ 1 = next_is_unit A s (Hands n) next in omega arith
unit_counts A s (Out p bytes) images run next = flat_counts A s (Out p bytes) p images run next refl
unit_counts A s (Grew p pages) images run next = flat_counts A s (Grew p pages) p images run next refl
unit_counts A s (Get q lo n) images run next =
    let allowed : IsAllowed s.place (Get q lo n) = unit_allowed A s (Get q lo n) run next in let some : 0 < n = allowed.begins.0 in omega arith
unit_counts A s (Put q n) images run next =
    let allowed : IsAllowed s.place (Put q n) = unit_allowed A s (Put q n) run next in let some : 0 < n = allowed.begins in omega arith
unit_counts A s _ images run next = tt

pub units_count : (A : Inputs) (us : List Entry) (s t : State) → ImagesFit A.images → IsRun A s → Follows A s us t → AllCountOne us
units_count A [] s t images run follows = tt
units_count A (u ∷ us) s t images run follows =
    (unit_counts A s u images run follows.0, units_count A us (after A s u) t images (unit_run A s u images run follows.0) follows.1)

-- The journal that they make.

joined_by : (b : Bool) (p m q n : ℕ) → 1 ≤ m → 1 ≤ n → AllCountOne (join_by b p m q n)
joined_by true p m q n h k = (omega arith, tt)
joined_by false p m q n h k = (h, (k, tt))

join_counts : (e u : Entry) → CountsOne e → CountsOne u → AllCountOne (join e u)
join_counts (Ran p m) (Ran q n) h k = joined_by (p == q) p m q n h k
join_counts (Hands m) (Hands n) h k = (omega arith, tt)
join_counts e u h k = (h, (k, tt))

after_counts : (e : Entry) (es : List Entry) (u : Entry) → CountsOne e → AllCountOne es → CountsOne u → AllCountOne (append_after e es u)
after_counts e [] u h hs k = join_counts e u h k
after_counts e (f ∷ es) u h hs k = (h, after_counts f es u hs.0 hs.1 k)

with_joined : (es : List Entry) (u : Entry) → AllCountOne es → CountsOne u → AllCountOne (append_joined es u)
with_joined [] u h k = (k, tt)
with_joined (e ∷ es) u h k = after_counts e es u h.0 h.1 k

with_behind : (es : List Entry) (u : Entry) → AllCountOne es → CountsOne u → AllCountOne (es ++ u ∷ [])
with_behind [] u h k = (k, tt)
with_behind (e ∷ es) u h k = (h.0, with_behind es u h.1 k)

append_counts : (es : List Entry) (u : Entry) → AllCountOne es → CountsOne u → AllCountOne (append es u)
append_counts es (Ran q n) h k = with_joined es (Ran q n) h k
append_counts es (Hands n) h k = with_joined es (Hands n) h k
append_counts es u h k = with_behind es u h k

pub appended_count : (es us : List Entry) → AllCountOne es → AllCountOne us → AllCountOne (appended es us)
appended_count es [] h k = h
appended_count es (u ∷ us) h k = appended_count (append es u) us (append_counts es u h k.0) k.1

-- Within their ranges.

is_within : (e : Entry) → HasNumbers e → CountsOne e → IsWithin e
is_within (Out pid bytes) n k = (n.0, (k, n.1))
is_within e n k = (n.0, k)

pub are_within : (es : List Entry) → HaveNumbers es → AllCountOne es → AreWithin es
are_within [] n k = tt
are_within (e ∷ es) n k = (is_within e n.0 k.0, are_within es n.1 k.1)
