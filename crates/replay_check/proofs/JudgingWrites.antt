-- Bytes and the reply after them, as the judge judges them.
use Rattle.std.proofs.Common.{◌≡◌, ℕ, ◌==◌, Bool, true, false, ◌&&◌, List, [], ◌∷◌, Option, Some, None, refl, sym, ap, ◌∙◌, subst, arith}
use Rattle.std.specs.Prelude.{if◌then◌else◌}
use Rattle.std.proofs.lemmas.Bool.Decides.{nat_tests}
use Rattle.flat_state.specs.Flat.{FlatState, Inputs, can_step}
use Rattle.vm_facts.specs.declared.regs.Regs.{Regs}
use Rattle.vm_facts.specs.declared.entry.Entry.{Entry}
use Rattle.vm_facts.specs.declared.entry.Entry.TheVariants as entries
use Rattle.flat_model.specs.declared.calls.SystemCall.{SystemCall}
use Rattle.flat_model.specs.Step.{Step, flat_step, call_entry}
use Rattle.flat_model.specs.Run.{Point, flat_entry, same_entry, is_first_of, due, due_at, is_refused, step_at, point_after, behind, may_follow}
use Rattle.flat_machine.specs.declared.deed.Did.{Did}
use Rattle.flat_machine.specs.declared.deed.Did.TheVariants as deeds
use Rattle.replay_check.specs.declared.replaying.Last.{Last}
use Rattle.replay_check.specs.declared.replaying.Last.TheVariants as lasts
use Rattle.flat_machine.specs.Machine.{entries_of, state_if, entries_if}
use Rattle.replay_check.specs.Judging.{is_other, last_behind, begins, IsWriting, IsAt, IsVerdict}
use Rattle.replay_check.proofs.Judging.{free_at, busy_at, followed, blocked, entry_of, last_verdict}
use Rattle.vm_facts.proofs.Tests.{eq_self}

-- where bytes are written, the process can step, and its reply is to come
begun : (A : Inputs) (F G : FlatState) (pid : ℕ) (reply : Entry) (bytes : List ℕ) (point : Point) → point.flat ≡ F
    → entries.Out pid bytes ∷ reply ∷ [] ≡ entries_if (can_step F pid) (flat_step A F pid false) → G ≡ state_if (can_step F pid) F (flat_step A F pid false)
    → IsWriting A G pid reply (record point { last = Some (entries.Out pid bytes) })
begun A F G pid reply bytes point flat es after = go (can_step F pid) refl es after
  where
    go : (c : Bool) → can_step F pid ≡ c → entries.Out pid bytes ∷ reply ∷ [] ≡ entries_if c (flat_step A F pid false) → G ≡ state_if c F (flat_step A F pid false)
        → IsWriting A G pid reply (record point { last = Some (entries.Out pid bytes) })
    go false can list left = absurd cc
    go true can list left = record {
      bytes = bytes;
      out = refl;
      can = ap (λ (H : FlatState). can_step H pid) flat ∙ can;
      due = ap (λ (H : FlatState). (flat_step A H pid false).entries) flat ∙ sym list;
      after = ap (λ (H : FlatState). (flat_step A H pid false).after) flat ∙ sym left;
    }

wrote_verdict : (A : Inputs) (point : Point) (F G : FlatState) (pid : ℕ) (bytes : List ℕ) (did : Did) (b : Bool) → point.flat ≡ F
    → entries_of pid did ≡ entries_if (can_step F pid) (flat_step A F pid false) → G ≡ state_if (can_step F pid) F (flat_step A F pid false)
    → b ≡ begins pid did (entries.Out pid bytes)
    → IsVerdict A b G (last_behind pid did) (if begins pid did (entries.Out pid bytes) then Some (behind point G (entries_of pid did)) else None)
wrote_verdict A point F G pid bytes deeds.Nothing b flat es after is = rw is tt
wrote_verdict A point F G pid bytes deeds.Ran b flat es after is = rw is tt
wrote_verdict A point F G pid bytes (deeds.Grew grown) b flat es after is = rw is tt
wrote_verdict A point F G pid bytes (deeds.Replied call regs) b flat es after is = rw is tt
wrote_verdict A point F G pid bytes (deeds.Wrote call [] regs) b flat es after is = rw is tt
wrote_verdict A point F G pid bytes (deeds.Wrote call (x ∷ xs) regs) b flat es after is = go b (begins pid (deeds.Wrote call (x ∷ xs) regs) (entries.Out pid bytes)) is
  where
    go : (b c : Bool) → b ≡ c → IsVerdict A b G (lasts.Wrote pid call regs) (if c then Some (record point { last = Some (entries.Out pid (x ∷ xs)) }) else None)
    go true true k = begun A F G pid (call_entry pid call regs) (x ∷ xs) point flat es after
    go false false k = tt
    go true false k = absurd cc
    go false true k = absurd cc
wrote_verdict A point F G pid bytes deeds.Slept b flat es after is = rw is tt
wrote_verdict A point F G pid bytes (deeds.Ended status) b flat es after is = rw is tt

pub wrote_at : (A : Inputs) (point : Point) (F G : FlatState) (last new : Last) (pid : ℕ) (bytes : List ℕ) (did : Did) (b : Bool)
    → is_other last ≡ true → new ≡ last_behind pid did → IsAt A F last point
    → entries_of pid did ≡ entries_if (can_step F pid) (flat_step A F pid false) → G ≡ state_if (can_step F pid) F (flat_step A F pid false)
    → b ≡ begins pid did (entries.Out pid bytes)
    → IsVerdict A b G new (flat_entry A point (entries.Out pid bytes))
wrote_at A point F G last new pid bytes did b other left at es after is =
    let opens = free_at A F last pid (entries.Out pid bytes) point other at in
    subst (λ (l : Last). IsVerdict A b G l (flat_entry A point (entries.Out pid bytes))) (sym left)
    (subst (λ (o : Option Point). IsVerdict A b G (last_behind pid did) o)
    (sym (entry_of A point F G pid false (entries.Out pid bytes) did opens (record { owner = refl; made = λ A point. refl }) es after))
    (wrote_verdict A point F G pid bytes did b opens.0.flat es after is))

pub wrote_busy : (A : Inputs) (point : Point) (F G : FlatState) (last new : Last) (pid : ℕ) (bytes : List ℕ) → is_other last ≡ false → IsAt A F last point
    → IsVerdict A false G new (flat_entry A point (entries.Out pid bytes))
wrote_busy A point F G last new pid bytes other at =
    blocked A point G new pid (entries.Out pid bytes) refl (busy_at A F last (entries.Out pid bytes) point other at (λ q. refl) (λ q. refl))

-- the reply after bytes is the rest of their step
replied : (A : Inputs) (point : Point) (F : FlatState) (pid : ℕ) (reply e : Entry) → IsWriting A F pid reply point
    → (if can_step point.flat pid && is_first_of (due_at A point pid) e then Some (point_after A point pid) else None)
    ≡ (if same_entry reply e then Some (record { flat = F; last = Some reply }) else None)
replied A point F pid reply e at =
    let step : step_at A point pid ≡ flat_step A point.flat pid false = ap (λ (o : Option Entry). flat_step A point.flat pid (is_refused o pid)) at.out in
    let rest : due_at A point pid ≡ reply ∷ [] =
    ap (λ (s : Step). due point.last pid s.entries) step ∙ ap (λ (xs : List Entry). due point.last pid xs) at.due
    ∙ ap (λ (o : Option Entry). due o pid (entries.Out pid at.bytes ∷ reply ∷ [])) at.out
    ∙ ap (λ (b : Bool). if b then reply ∷ [] else (entries.Out pid at.bytes ∷ reply ∷ [])) (eq_self pid) in
    let left : (step_at A point pid).after ≡ F = ap (λ (s : Step). s.after) step ∙ at.after in
    ap (λ (xs : List Entry). if can_step point.flat pid && is_first_of xs e then Some (behind point (step_at A point pid).after xs) else None) rest
    ∙ ap (λ (c : Bool). if c && same_entry reply e then Some (record { flat = (step_at A point pid).after; last = Some reply }) else None) at.can
    ∙ ap (λ (G : FlatState). if same_entry reply e then Some (record { flat = G; last = Some reply }) else None) left

pub answered_at : (A : Inputs) (point : Point) (F : FlatState) (last new : Last) (of pid number r0 r1 : ℕ) (carry b : Bool) (call : SystemCall) (regs : Regs)
    → last ≡ lasts.Wrote of call regs → new ≡ lasts.Other → IsAt A F last point
    → b ≡ (of == pid && same_entry (call_entry pid call regs) (entries.Call pid number carry r0 r1))
    → IsVerdict A b F new (flat_entry A point (entries.Call pid number carry r0 r1))
answered_at A point F last new of pid number r0 r1 carry b call regs was other at is =
    subst (λ (l : Last). IsVerdict A b F l (flat_entry A point (entries.Call pid number carry r0 r1))) (sym other)
    (go (of == pid) refl (subst (λ (l : Last). IsAt A F l point) was at) is)
  where
    go : (c : Bool) → (of == pid) ≡ c → IsWriting A F of (call_entry of call regs) point → b ≡ (c && same_entry (call_entry pid call regs) (entries.Call pid number carry r0 r1))
        → IsVerdict A b F lasts.Other (flat_entry A point (entries.Call pid number carry r0 r1))
    go false k writing e =
        let other : (pid == of) ≡ false = grind (arith, nat_tests) in
        subst (λ (x : Bool). IsVerdict A x F lasts.Other (flat_entry A point (entries.Call pid number carry r0 r1))) (sym e)
        (blocked A point F lasts.Other pid (entries.Call pid number carry r0 r1) refl
        (ap (λ (o : Option Entry). may_follow o (entries.Call pid number carry r0 r1)) writing.out ∙ other))
    go true k writing e =
        let same : of ≡ pid = grind (arith, nat_tests) in
        let mine : IsWriting A F pid (call_entry pid call regs) point = subst (λ (n : ℕ). IsWriting A F n (call_entry n call regs) point) same writing in
        let may : may_follow point.last (entries.Call pid number carry r0 r1) ≡ true = ap (λ (o : Option Entry). may_follow o (entries.Call pid number carry r0 r1)) mine.out ∙ eq_self pid in
        subst (λ (o : Option Point). IsVerdict A b F lasts.Other o)
        (sym (followed A point pid (entries.Call pid number carry r0 r1) true refl may ∙ replied A point F pid (call_entry pid call regs) (entries.Call pid number carry r0 r1) mine))
        (last_verdict A F (call_entry pid call regs) b (same_entry (call_entry pid call regs) (entries.Call pid number carry r0 r1)) tt e)
