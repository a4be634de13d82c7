-- Where the judge stands, and which entries follow there.
use Rattle.std.proofs.Common.{◌≡◌, ℕ, ◌==◌, Bool, true, false, ◌&&◌, List, [], ◌∷◌, Option, Some, None, refl, sym, ap, ◌∙◌, subst, arith}
use Rattle.std.specs.Prelude.{if◌then◌else◌}
use Rattle.std.proofs.lemmas.Bool.Decides.{nat_tests}
use Rattle.vm_facts.proofs.Tests.{eq_self}
use Rattle.flat_state.specs.Flat.{FlatState, Inputs, can_step}
use Rattle.vm_facts.specs.declared.regs.Regs.{Regs}
use Rattle.vm_facts.specs.declared.entry.Entry.{Entry}
use Rattle.vm_facts.specs.declared.entry.Entry.TheVariants as entries
use Rattle.flat_model.specs.declared.calls.SystemCall.{SystemCall}
use Rattle.flat_model.specs.Step.{Step, flat_step, call_entry}
use Rattle.flat_model.specs.Run.{Point, flat_entry, flat_entry_by, same_entry, is_first_of, due, due_at, is_due, led_to, is_refused, step_at, point_after, behind, may_follow, is_outcome_of, is_call_of, process_of_entry, IsBetween}
use Rattle.flat_machine.specs.declared.deed.Did.{Did}
use Rattle.flat_machine.specs.declared.deed.Did.TheVariants as deeds
use Rattle.replay_check.specs.declared.replaying.Last.{Last}
use Rattle.replay_check.specs.declared.replaying.Last.TheVariants as lasts
use Rattle.flat_machine.specs.Machine.{entries_of, state_if, entries_if}
use Rattle.replay_check.specs.Judging.{is_other, refused_in, begins, IsAt, IsVerdict}

free_last : (o : Option Entry) (pid : ℕ) (es : List Entry) (e : Entry) → IsBetween o
    → (is_refused o pid ≡ false) × (due o pid es ≡ es) × (may_follow o e ≡ true)
free_last None pid es e free = (refl, refl, refl)
free_last (Some (entries.Event x0)) pid es e free = (refl, refl, refl)
free_last (Some (entries.Turn x0)) pid es e free = (refl, refl, refl)
free_last (Some (entries.Ran x0 x1)) pid es e free = (refl, refl, refl)
free_last (Some (entries.Out x0 x1)) pid es e free = absurd free
free_last (Some (entries.Grew x0 x1)) pid es e free = (refl, refl, refl)
free_last (Some (entries.Call x0 x1 x2 x3 x4)) pid es e free = (refl, refl, refl)
free_last (Some (entries.Refused x0)) pid es e free = absurd free
free_last (Some (entries.Sleeps x0)) pid es e free = (refl, refl, refl)
free_last (Some (entries.Ended x0 x1)) pid es e free = (refl, refl, refl)
free_last (Some (entries.Zero x0)) pid es e free = (refl, refl, refl)
free_last (Some (entries.Get x0 x1 x2)) pid es e free = (refl, refl, refl)
free_last (Some (entries.Copy x0)) pid es e free = (refl, refl, refl)
free_last (Some (entries.Reclaim x0)) pid es e free = (refl, refl, refl)
free_last (Some (entries.Hands x0)) pid es e free = (refl, refl, refl)
free_last (Some (entries.Put x0 x1)) pid es e free = (refl, refl, refl)
free_last (Some entries.Done) pid es e free = (refl, refl, refl)
free_last (Some (entries.SwapOut x0)) pid es e free = (refl, refl, refl)
free_last (Some (entries.SwapIn x0)) pid es e free = (refl, refl, refl)
free_last (Some (entries.Owners x0 x1 x2 x3)) pid es e free = (refl, refl, refl)

-- Where the judge stands.

-- the process begins a step at this point, its pieces refused or not
pub record Opens (F : FlatState) (pid : ℕ) (refused : Bool) (point : Point) : Type 0 where
  pub flat : point.flat ≡ F
  pub refuses : is_refused point.last pid ≡ refused
  pub whole : (es : List Entry) → due point.last pid es ≡ es

free_opens : (F : FlatState) (pid : ℕ) (point : Point) → point.flat ≡ F → IsBetween point.last → Opens F pid false point
free_opens F pid point flat free = record {
  flat = flat;
  refuses = (free_last point.last pid [] entries.Done free).0;
  whole = λ es. (free_last point.last pid es entries.Done free).1;
}

refused_opens : (F : FlatState) (pid : ℕ) (point : Point) → point.flat ≡ F → point.last ≡ Some (entries.Refused pid) → Opens F pid true point
refused_opens F pid point flat last = record {
  flat = flat;
  refuses = ap (λ (o : Option Entry). is_refused o pid) last ∙ eq_self pid;
  whole = λ es. ap (λ (o : Option Entry). due o pid es) last;
}

-- where no step is begun, an entry may follow
pub free_at : (A : Inputs) (F : FlatState) (last : Last) (pid : ℕ) (e : Entry) (point : Point) → is_other last ≡ true → IsAt A F last point
    → Opens F pid false point × (may_follow point.last e ≡ true)
free_at A F lasts.Other pid e point other at = (free_opens F pid point at.0 at.1, (free_last point.last pid [] e at.1).2)
free_at A F (lasts.Refused q) pid e point other at = absurd cc
free_at A F (lasts.Wrote q call regs) pid e point other at = absurd cc

-- where its pieces found no place too, the outcome of a process may follow
pub open_at : (A : Inputs) (F : FlatState) (last : Last) (pid : ℕ) (refused : Bool) (e : Entry) (point : Point) → refused_in pid last ≡ Some refused
    → IsAt A F last point
    → is_outcome_of pid e ≡ true → Opens F pid refused point × (may_follow point.last e ≡ true)
open_at A F lasts.Other pid refused e point taken at outcome =
    let is : false ≡ refused = cc in
    subst (λ (b : Bool). Opens F pid b point × (may_follow point.last e ≡ true)) is (free_opens F pid point at.0 at.1, (free_last point.last pid [] e at.1).2)
open_at A F (lasts.Refused q) pid refused e point taken at outcome = go (q == pid) refl taken
  where
    go : (b : Bool) → (q == pid) ≡ b → (if b then Some true else None) ≡ Some refused → Opens F pid refused point × (may_follow point.last e ≡ true)
    go false k t = absurd cc
    go true k t =
        let same : q ≡ pid = grind (arith, nat_tests) in
        let is : true ≡ refused = cc in
        let last : point.last ≡ Some (entries.Refused pid) = at.1 ∙ ap (λ (n : ℕ). Some (entries.Refused n)) same in
        subst (λ (b : Bool). Opens F pid b point × (may_follow point.last e ≡ true)) is
        (refused_opens F pid point at.0 last, ap (λ (o : Option Entry). may_follow o e) last ∙ outcome)
open_at A F (lasts.Wrote q call regs) pid refused e point taken at outcome = absurd cc

-- where a step is begun, only an outcome may follow
pub busy_at : (A : Inputs) (F : FlatState) (last : Last) (e : Entry) (point : Point) → is_other last ≡ false → IsAt A F last point
    → ((q : ℕ) → is_outcome_of q e ≡ false) → ((q : ℕ) → is_call_of q e ≡ false) → may_follow point.last e ≡ false
busy_at A F lasts.Other e point other at outcome call = absurd cc
busy_at A F (lasts.Refused q) e point other at outcome call = ap (λ (o : Option Entry). may_follow o e) at.1 ∙ outcome q
busy_at A F (lasts.Wrote q number regs) e point other at outcome call = ap (λ (o : Option Entry). may_follow o e) at.out ∙ call q

-- where another step is begun, no outcome may follow
pub shut_at : (A : Inputs) (F : FlatState) (last : Last) (pid : ℕ) (e : Entry) (point : Point) → refused_in pid last ≡ None → IsAt A F last point
    → ((q : ℕ) → is_outcome_of q e ≡ (pid == q)) → ((q : ℕ) (call : SystemCall) (regs : Regs) → last ≡ lasts.Wrote q call regs → is_call_of q e ≡ false)
    → may_follow point.last e ≡ false
shut_at A F lasts.Other pid e point taken at outcome call = absurd cc
shut_at A F (lasts.Refused q) pid e point taken at outcome call = go (q == pid) refl taken
  where
    go : (b : Bool) → (q == pid) ≡ b → (if b then Some true else None) ≡ None → may_follow point.last e ≡ false
    go true k t = absurd cc
    go false k t =
        let other : (pid == q) ≡ false = grind (arith, nat_tests) in
        ap (λ (o : Option Entry). may_follow o e) at.1 ∙ outcome q ∙ other
shut_at A F (lasts.Wrote q number regs) pid e point taken at outcome call = ap (λ (o : Option Entry). may_follow o e) at.out ∙ call q number regs refl

-- What follows there.

-- an entry of a step of this process
pub record IsOf (pid : ℕ) (e : Entry) : Type 0 where
  pub owner : process_of_entry e ≡ Some pid
  pub made : (A : Inputs) (point : Point) → (if can_step point.flat pid && is_due A point pid e then Some (led_to A point pid e) else None)
      ≡ (if can_step point.flat pid && is_first_of (due_at A point pid) e then Some (point_after A point pid) else None)

pub followed : (A : Inputs) (point : Point) (pid : ℕ) (e : Entry) (may : Bool) → process_of_entry e ≡ Some pid → may_follow point.last e ≡ may
    → flat_entry A point e ≡ (if may && (can_step point.flat pid && is_due A point pid e) then Some (led_to A point pid e) else None)
unfolding flat_entry
followed A point pid e may owner follows =
    ap (λ (o : Option ℕ). flat_entry_by A point o e) owner
    ∙ ap (λ (b : Bool). if b && (can_step point.flat pid && is_due A point pid e) then Some (led_to A point pid e) else None) follows

-- an entry that may not follow is none
pub blocked : (A : Inputs) (point : Point) (G : FlatState) (new : Last) (pid : ℕ) (e : Entry) → process_of_entry e ≡ Some pid → may_follow point.last e ≡ false
    → IsVerdict A false G new (flat_entry A point e)
blocked A point G new pid e owner follows = subst (λ (o : Option Point). IsVerdict A false G new o) (sym (followed A point pid e false owner follows)) tt

made : (A : Inputs) (point : Point) (F : FlatState) (pid : ℕ) (refused : Bool) (e : Entry) → Opens F pid refused point
    → (if can_step point.flat pid && is_first_of (due_at A point pid) e then Some (point_after A point pid) else None)
    ≡ (if can_step F pid && is_first_of (flat_step A F pid refused).entries e
    then Some (behind point (flat_step A F pid refused).after (flat_step A F pid refused).entries) else None)
made A point F pid refused e opens =
    let step : step_at A point pid ≡ flat_step A F pid refused =
    ap (λ (b : Bool). flat_step A point.flat pid b) opens.refuses ∙ ap (λ (G : FlatState). flat_step A G pid refused) opens.flat in
    let es : due_at A point pid ≡ (flat_step A F pid refused).entries = opens.whole (step_at A point pid).entries ∙ ap (λ (s : Step). s.entries) step in
    ap (λ (G : FlatState). if can_step G pid && is_first_of (due_at A point pid) e then Some (point_after A point pid) else None) opens.flat
    ∙ ap (λ (xs : List Entry). if can_step F pid && is_first_of xs e then Some (behind point (step_at A point pid).after xs) else None) es
    ∙ ap (λ (s : Step). if can_step F pid && is_first_of (flat_step A F pid refused).entries e
    then Some (behind point s.after (flat_step A F pid refused).entries) else None) step

if_made : (point : Point) (F : FlatState) (c : Bool) (step : Step) (e : Entry)
    → (if c && is_first_of step.entries e then Some (behind point step.after step.entries) else None)
    ≡ (if is_first_of (entries_if c step) e then Some (behind point (state_if c F step) (entries_if c step)) else None)
if_made point F true step e = refl
if_made point F false step e = refl

-- what a process did begins with an entry, where that entry follows
pub entry_of : (A : Inputs) (point : Point) (F G : FlatState) (pid : ℕ) (refused : Bool) (e : Entry) (did : Did)
    → Opens F pid refused point × (may_follow point.last e ≡ true) → IsOf pid e
    → entries_of pid did ≡ entries_if (can_step F pid) (flat_step A F pid refused) → G ≡ state_if (can_step F pid) F (flat_step A F pid refused)
    → flat_entry A point e ≡ (if begins pid did e then Some (behind point G (entries_of pid did)) else None)
entry_of A point F G pid refused e did opens of es after =
    followed A point pid e true of.owner opens.1 ∙ of.made A point ∙ made A point F pid refused e opens.0 ∙ if_made point F (can_step F pid) (flat_step A F pid refused) e
    ∙ sym (ap (λ (H : FlatState). if is_first_of (entries_if (can_step F pid) (flat_step A F pid refused)) e
    then Some (behind point H (entries_if (can_step F pid) (flat_step A F pid refused))) else None) after)
    ∙ sym (ap (λ (xs : List Entry). if is_first_of xs e then Some (behind point G xs) else None) es)

-- an entry with which the step of its process doesn't begin is none
pub not_first : (A : Inputs) (point : Point) (F G : FlatState) (new : Last) (pid : ℕ) (refused : Bool) (e : Entry)
    → Opens F pid refused point × (may_follow point.last e ≡ true) → IsOf pid e
    → is_first_of (entries_if (can_step F pid) (flat_step A F pid refused)) e ≡ false
    → IsVerdict A false G new (flat_entry A point e)
not_first A point F G new pid refused e opens of none =
    let step : Step = flat_step A F pid refused in
    subst (λ (o : Option Point). IsVerdict A false G new o)
    (sym (followed A point pid e true of.owner opens.1 ∙ of.made A point ∙ made A point F pid refused e opens.0 ∙ if_made point F (can_step F pid) step e
    ∙ ap (λ (b : Bool). if b then Some (behind point (state_if (can_step F pid) F step) (entries_if (can_step F pid) step)) else None) none)) tt

-- the verdict on the last entry of a step
pub last_verdict : (A : Inputs) (F : FlatState) (x : Entry) (b c : Bool) → IsBetween (Some x) → b ≡ c
    → IsVerdict A b F lasts.Other (if c then Some (record { flat = F; last = Some x }) else None)
last_verdict A F x true true free k = (refl, free)
last_verdict A F x false false free k = tt
last_verdict A F x true false free k = absurd cc
last_verdict A F x false true free k = absurd cc

-- the verdict on an entry that isn't bytes, by what the process did
sole_verdict : (A : Inputs) (point : Point) (pid : ℕ) (e : Entry) (did : Did) (F : FlatState) (b : Bool)
    → ((bytes : List ℕ) → same_entry (entries.Out pid bytes) e ≡ false) → b ≡ begins pid did e
    → IsVerdict A b F lasts.Other (if begins pid did e then Some (behind point F (entries_of pid did)) else None)
sole_verdict A point pid e deeds.Nothing F b sole is = rw is tt
sole_verdict A point pid e deeds.Ran F b sole is = last_verdict A F (entries.Ran pid 1) b (begins pid deeds.Ran e) tt is
sole_verdict A point pid e (deeds.Grew grown) F b sole is = last_verdict A F (entries.Grew pid grown) b (begins pid (deeds.Grew grown) e) tt is
sole_verdict A point pid e (deeds.Replied call regs) F b sole is = last_verdict A F (call_entry pid call regs) b (begins pid (deeds.Replied call regs) e) tt is
sole_verdict A point pid e (deeds.Wrote call [] regs) F b sole is = last_verdict A F (call_entry pid call regs) b (begins pid (deeds.Wrote call [] regs) e) tt is
sole_verdict A point pid e (deeds.Wrote call (x ∷ xs) regs) F b sole is = rw (is ∙ sole (x ∷ xs), sole (x ∷ xs)) tt
sole_verdict A point pid e deeds.Slept F b sole is = last_verdict A F (entries.Sleeps pid) b (begins pid deeds.Slept e) tt is
sole_verdict A point pid e (deeds.Ended status) F b sole is = last_verdict A F (entries.Ended pid status) b (begins pid (deeds.Ended status) e) tt is

pub sole_at : (A : Inputs) (point : Point) (F G : FlatState) (new : Last) (pid : ℕ) (refused : Bool) (e : Entry) (did : Did) (b : Bool)
    → Opens F pid refused point × (may_follow point.last e ≡ true) → IsOf pid e
    → ((bytes : List ℕ) → same_entry (entries.Out pid bytes) e ≡ false) → new ≡ lasts.Other
    → entries_of pid did ≡ entries_if (can_step F pid) (flat_step A F pid refused)
    → G ≡ state_if (can_step F pid) F (flat_step A F pid refused) → b ≡ begins pid did e
    → IsVerdict A b G new (flat_entry A point e)
sole_at A point F G new pid refused e did b opens of sole other es after is =
    subst (λ (l : Last). IsVerdict A b G l (flat_entry A point e)) (sym other)
    (subst (λ (o : Option Point). IsVerdict A b G lasts.Other o) (sym (entry_of A point F G pid refused e did opens of es after)) (sole_verdict A point pid e did G b sole is))
