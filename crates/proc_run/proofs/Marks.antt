-- Whether a process goes on under its mark, by the machine's tables.
use Rattle.std.proofs.Common.{◌≡◌, ℕ, ◌+◌, ◌<◌, ◌≤◌, ◌==◌, nat_lt, Bool, true, false, ◌&&◌, not, List, [], ◌∷◌, map, Option, Some, None, refl, sym, ap, ◌∙◌, subst, arith}
use Rattle.std.specs.Prelude.{find, cond, min, if◌then◌else◌}
use Rattle.std.proofs.lemmas.Bool.{and_parts}
use Rattle.std.proofs.lemmas.Bool.Decides.{nat_tests}
use Rattle.vm_facts.specs.SwapImages.{SwapImage}
use Rattle.flat_state.specs.Space.{Space}
use Rattle.flat_state.specs.Flat.{FlatState, Process, Inputs, Holding, Holds, Lends, Zombie, process_of, ready_if, can_step as flat_steps, holds_space as flat_holds}
use Rattle.page_model.specs.Pages.{numbered}
use Rattle.page_model.specs.Placement.{Placement}
use Rattle.page_model.specs.Swapper.{is_out}
use Rattle.kernel_model.specs.Coupled.{Outline, outline_of, outline_kept, SameTables}
use Rattle.kernel_model.specs.Kernel.{Kernel, Proc}
use Rattle.kernel_model.specs.Unit.{proc_of}
use Rattle.run_model.specs.declared.mark.Mark.{Mark}
use Rattle.run_model.specs.declared.mark.Mark.TheVariants as marks
use Rattle.run_model.specs.Kinds.{ProcessRuns as Goes, GoesOn}
use Rattle.run_model.specs.Next.{goes_on, turn_instructions, turn_unit, under, work, when}
use Rattle.run_model.specs.State.{State}
use Rattle.economy_laws.proofs.Turns.{all_three}
use Rattle.step_units.specs.Serving.{At}
use Rattle.step_units.specs.Touching.{RunsInSpace}
use Rattle.proc_run.specs.Choosing.{is_space_holder, steps_by, may_run}
use Rattle.proc_run.specs.Running.{AsksRun}
use Rattle.proc_run.proofs.Ready.{ready_one}

-- A process can step where its record says so.

abbrev steps_outline : Option Outline → Bool
steps_outline None = false
steps_outline (Some o) = is_space_holder o.life && not o.asleep

kept_steps : (n : ℕ) (ps : List Proc)
    → steps_by (numbered (λ (p : Proc). p.pid) n ps) ≡ steps_outline (find (λ (o : Outline). o.pid == n) (map outline_kept ps))
kept_steps n [] = refl
kept_steps n (p ∷ ps) = go (p.pid == n) (kept_steps n ps)
  where
    go : (b : Bool) → steps_by (numbered (λ (q : Proc). q.pid) n ps) ≡ steps_outline (find (λ (o : Outline). o.pid == n) (map outline_kept ps))
        → steps_by (cond b (Some p) (numbered (λ (q : Proc). q.pid) n ps)) ≡ steps_outline (cond b (Some (outline_kept p)) (find (λ (o : Outline). o.pid == n) (map outline_kept ps)))
    go true e = refl
    go false e = e

flat_outline : (n : ℕ) (qs : List Process)
    → ready_if (find (λ (q : Process). q.pid == n) qs) ≡ steps_outline (find (λ (o : Outline). o.pid == n) (map outline_of qs))
flat_outline n [] = refl
flat_outline n (q ∷ qs) = go (q.pid == n) (flat_outline n qs)
  where
    go : (b : Bool) → ready_if (find (λ (y : Process). y.pid == n) qs) ≡ steps_outline (find (λ (o : Outline). o.pid == n) (map outline_of qs))
        → ready_if (cond b (Some q) (find (λ (y : Process). y.pid == n) qs)) ≡ steps_outline (cond b (Some (outline_of q)) (find (λ (o : Outline). o.pid == n) (map outline_of qs)))
    go true e = ready_one q.asleep q.holding
    go false e = e

pub steps_same : (k : Kernel) (F : FlatState) (pid : ℕ) → SameTables k F → flat_steps F pid ≡ steps_by (proc_of k pid)
steps_same k F pid t =
    flat_outline pid F.processes ∙ ap (λ (os : List Outline). steps_outline (find (λ (o : Outline). o.pid == pid) os)) (sym t.processes) ∙ sym (kept_steps pid k.processes)

-- Where it can step it holds a space.

held_there : (a : Bool) (h : Holding) → (if a then false else flat_holds h) ≡ true → (x : Space) × (h ≡ Holds x)
held_there true h e = absurd cc
held_there false (Holds x) e = (x, refl)
held_there false (Lends sid child) e = absurd cc
held_there false (Zombie status) e = absurd cc

there : (F : FlatState) (pid : ℕ) (o : Option Process) → process_of F pid ≡ o → ready_if o ≡ true
    → (p : Process) × (x : Space) × (process_of F pid ≡ Some p) × (p.holding ≡ Holds x)
there F pid None e r = absurd cc
there F pid (Some p) e r = let h = held_there p.asleep p.holding r in (p, h.0, e, h.1)

-- It goes on while instructions are left.

none_left : (c x y : Bool) → (x ≡ true → y ≡ true → ⊥) → (c && (x && y)) ≡ false
none_left false x y h = refl
none_left true false y h = refl
none_left true true false h = refl
none_left true true true h = absurd (h refl refl)

pub goes_true : (A : Inputs) (s : State) (pid more until : ℕ) → until ≡ min more A.limit → s.count < until → flat_steps s.point.flat pid ≡ true
    → goes_on A s pid more ≡ true
goes_true A s pid more until e l c =
    let below : s.count < A.limit = omega (arith, e, l) in
    let short : s.count < more = omega (arith, e, l) in
    all_three (flat_steps s.point.flat pid) (nat_lt s.count A.limit) (nat_lt s.count more) c (grind (arith, nat_tests)) (grind (arith, nat_tests))

pub goes_false : (A : Inputs) (s : State) (pid more until : ℕ) → until ≡ min more A.limit → until ≤ s.count → goes_on A s pid more ≡ false
goes_false A s pid more until e l =
    none_left (flat_steps s.point.flat pid) (nat_lt s.count A.limit) (nat_lt s.count more)
    (λ x y. let a : s.count < A.limit = grind (arith, nat_tests) in
    let b : s.count < more = grind (arith, nat_tests) in absurd (let z : s.count < until = omega (arith, e, a, b) in omega (arith, z, l)))

pub idle : (A : Inputs) (s : State) (pid more : ℕ) → flat_steps s.point.flat pid ≡ false → goes_on A s pid more ≡ false
idle A s pid more e = ap (λ (c : Bool). c && (nat_lt s.count A.limit && nat_lt s.count more)) e

is_false : (b : Bool) → not b ≡ true → b ≡ false
is_false true e = absurd cc
is_false false e = refl

module _ (A : Inputs) (s : State) (k : Kernel) (image : SwapImage) (pid until : ℕ) (at : At A s k image) where
  pub can_steps : flat_steps s.point.flat pid ≡ steps_by (proc_of k pid)
  can_steps = steps_same k s.point.flat pid at.stands.keeps.coupled.tables

  pub out_same : is_out k.place pid ≡ is_out s.place pid
  out_same = ap (λ (p : Placement). is_out p pid) at.stands.place

  pub runs : (now : Bool) → AsksRun A s pid now until → s.place.due ≡ [] → s.count < until → may_run k pid ≡ true
      → (p : Process) × (x : Space) × RunsInSpace A s pid now p x
  runs now asks clear l m =
      let parts = and_parts (steps_by (proc_of k pid)) (not (is_out k.place pid)) m in
      let can : flat_steps s.point.flat pid ≡ true = can_steps ∙ parts.0 in
      let t = there s.point.flat pid (process_of s.point.flat pid) refl can in
      let goes : Goes A s pid now = record { clear = clear; on = on now asks can; resident = sym out_same ∙ is_false (is_out k.place pid) parts.1 } in
      (t.0, t.1, record { runs = goes; here = t.2; holds = t.3 })
    where
      on : (now : Bool) → AsksRun A s pid now until → flat_steps s.point.flat pid ≡ true → GoesOn A s s.mark pid now
      on false (n, since, e, u) c = subst (λ (m : Mark). GoesOn A s m pid false) (sym e) (refl, goes_true A s pid (since + n) until u l c)
      on true (since, e, u) c = subst (λ (m : Mark). GoesOn A s m pid true) (sym e) (refl, goes_true A s pid (since + turn_instructions) until u l c)

  -- Nothing more is to come of the mark.

  under_dispatch : (n since : ℕ) → s.mark ≡ marks.Dispatch pid n since → (goes_on A s pid (since + n) && not (is_out s.place pid)) ≡ false → under A s s.mark ≡ None
  under_dispatch n since e g = ap (under A s) e ∙ ap (λ (b : Bool). when b (work A s pid false)) g

  under_turn : (since : ℕ) → s.mark ≡ marks.Turn pid since → goes_on A s pid (since + turn_instructions) ≡ false → under A s s.mark ≡ None
  under_turn since e g = ap (under A s) e ∙ ap (λ (b : Bool). when b (turn_unit A s pid)) g

  -- all its instructions are counted
  pub over_counted : (now : Bool) → AsksRun A s pid now until → until ≤ s.count → under A s s.mark ≡ None
  over_counted false (n, since, e, u) l = under_dispatch n since e (ap (λ (b : Bool). b && not (is_out s.place pid)) (goes_false A s pid (since + n) until u l))
  over_counted true (since, e, u) l = under_turn since e (goes_false A s pid (since + turn_instructions) until u l)

  -- it can't step, or is out
  dispatch_idle : (g c o : Bool) → (c ≡ false → g ≡ false) → (c && not o) ≡ false → (g && not o) ≡ false
  dispatch_idle g false o h e = ap (λ (b : Bool). b && not o) (h refl)
  dispatch_idle g true true h e = last g
    where
      last : (g : Bool) → (g && false) ≡ false
      last true = refl
      last false = refl
  dispatch_idle g true false h e = absurd cc

  turn_idle : (c o : Bool) → o ≡ false → (c && not o) ≡ false → c ≡ false
  turn_idle false o e h = refl
  turn_idle true true e h = absurd cc
  turn_idle true false e h = absurd cc

  pub over_idle : (now : Bool) → AsksRun A s pid now until → may_run k pid ≡ false → (now ≡ true → is_out s.place pid ≡ false) → under A s s.mark ≡ None
  over_idle now asks m r = go now asks r
    where
      idle_flat : (flat_steps s.point.flat pid && not (is_out s.place pid)) ≡ false
      idle_flat = ap (λ (c : Bool). c && not (is_out s.place pid)) can_steps ∙ ap (λ (o : Bool). steps_by (proc_of k pid) && not o) (sym out_same) ∙ m

      go : (now : Bool) → AsksRun A s pid now until → (now ≡ true → is_out s.place pid ≡ false) → under A s s.mark ≡ None
      go false (n, since, e, u) r =
          under_dispatch n since e
          (dispatch_idle (goes_on A s pid (since + n)) (flat_steps s.point.flat pid) (is_out s.place pid) (idle A s pid (since + n)) idle_flat)
      go true (since, e, u) r =
          under_turn since e (idle A s pid (since + turn_instructions) (turn_idle (flat_steps s.point.flat pid) (is_out s.place pid) (r refl) idle_flat))
