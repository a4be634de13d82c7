-- What a process does next is an entry of the flat machine's run.
use Rattle.std.proofs.Common.{◌≡◌, ◌⊎◌, inl, inr, ℕ, ◌==◌, Bool, true, false, not, ◌&&◌, List, [], ◌∷◌, Option, Some, None, bytes_eq, refl, sym, ap, ◌∙◌, subst, if◌then◌else◌}
use Rattle.std.proofs.lemmas.Slice.Eq.{bytes_eq-Decides}
use Rattle.std.proofs.lemmas.Bool.{eqb-true, and_from}
use Rattle.std.proofs.lemmas.Option.{same_Some}
use Rattle.vm_facts.proofs.Tests.{eq_self}
use Rattle.flat_state.specs.Flat.{FlatState, Inputs, can_step}
use Rattle.vm_facts.specs.declared.entry.Entry.{Entry}
use Rattle.vm_facts.specs.declared.entry.Entry.TheVariants.{Ran, Out, Grew, Call, Refused, Sleeps, Ended, Done}
use Rattle.swap_book.specs.Holdings.{Holdings}
use Rattle.swap_book.specs.Placing.{place_all, fits}
use Rattle.flat_state.specs.Journal.{appended, AllUnits}
use Rattle.flat_state.proofs.Joins.{appended_units}
use Rattle.flat_model.specs.Step.{flat_step}
use Rattle.flat_model.specs.Run.{Point, is_refused, step_at, behind_first, due_at, first_if, entry_of_step as next_of_step, behind, point_after, same_carry, same_entry, is_first_of, process_of_entry, may_follow, flat_entry, flat_units, flat_run, start_point}
use Rattle.flat_model.proofs.Coming.{leads, stands, IsOfStep, end_of_step}
use Rattle.flat_model.specs.Asked.{asks}
use Rattle.run_model.specs.State.{State, start}
use Rattle.run_model.specs.After.{after, state_after, AllFlat}
use Rattle.run_model.specs.Act.{must_refuse, must_settle, act_by, act_if, act, awaits, IsNext, AllNext, LastSays}
use Rattle.run_model.proofs.FlatRuns.{after_point, flat_is}
use Rattle.flat_model.proofs.StepEnds.{IsStepEnd, Shape, Empty, One, Two, step_shape, Outcome, Missed, Says, refused_outcome, writes_asks}

-- An entry is the same as itself.

pub carry_self : (c : Bool) → same_carry c c ≡ true
carry_self true = refl
carry_self false = refl

pub bytes_self : (bytes : List ℕ) → bytes_eq bytes bytes ≡ true
bytes_self bytes = (bytes_eq-Decides bytes bytes).1 refl

end_self : (pid : ℕ) (e : Entry) → IsStepEnd pid e → same_entry e e ≡ true
end_self pid (Ran p n) h = and_from (p == p) (n == n) (eq_self p) (eq_self n)
end_self pid (Grew p n) h = and_from (p == p) (n == n) (eq_self p) (eq_self n)
end_self pid (Call p n c r0 r1) h =
    and_from (p == p) (n == n && (same_carry c c && (r0 == r0 && r1 == r1))) (eq_self p)
    (and_from (n == n) (same_carry c c && (r0 == r0 && r1 == r1)) (eq_self n)
    (and_from (same_carry c c) (r0 == r0 && r1 == r1) (carry_self c) (and_from (r0 == r0) (r1 == r1) (eq_self r0) (eq_self r1))))
end_self pid (Sleeps p) h = eq_self p
end_self pid (Ended p n) h = and_from (p == p) (n == n) (eq_self p) (eq_self n)
end_self pid _ h = absurd h

-- The next entry of a step that may follow is an entry of the run.

-- the next entry of a step is the first of those that are due, and the process can step
next_first : (can : Bool) (es : List Entry) (e : Entry) → first_if can es ≡ Some e → same_entry e e ≡ true → (can ≡ true) × (is_first_of es e ≡ true)
next_first true (x ∷ es) e h k = (refl, subst (λ (y : Entry). same_entry y e ≡ true) (sym (same_Some x e h)) k)
next_first true [] e h k = absurd cc
next_first false es e h k = absurd cc

end_led : (A : Inputs) (point : Point) (pid : ℕ) (e : Entry) → IsStepEnd pid e → may_follow point.last e ≡ true → next_of_step A point pid ≡ Some e
    → flat_entry A point e ≡ Some (point_after A point pid)
end_led A point pid e h m k =
    let o : IsOfStep A point pid e = end_of_step A point pid e h in
    let n = next_first (can_step point.flat pid) (due_at A point pid) e k (end_self pid e h) in
    leads A point pid e (record { process = o.process; follows = m; steps = n.0; next = o.due ∙ n.1 }) ∙ ap (λ (x : Point). Some x) o.led

out_led : (A : Inputs) (point : Point) (pid : ℕ) (bytes : List ℕ) → may_follow point.last (Out pid bytes) ≡ true
    → next_of_step A point pid ≡ Some (Out pid bytes) → flat_entry A point (Out pid bytes) ≡ Some (point_after A point pid)
out_led A point pid bytes m k =
    let n = next_first (can_step point.flat pid) (due_at A point pid) (Out pid bytes) k
    (and_from (pid == pid) (bytes_eq bytes bytes) (eq_self pid) (bytes_self bytes)) in
    leads A point pid (Out pid bytes) (record { process = refl; follows = m; steps = n.0; next = n.1 })

-- What is due of a step.

data Ready (A : Inputs) (F : FlatState) (last : Option Entry) (pid : ℕ) (es : List Entry) : Type 0 where
  Nothing : es ≡ [] → Ready A F last pid es
  Ends : (e : Entry) → IsStepEnd pid e → may_follow last e ≡ true → es ≡ e ∷ [] → Ready A F last pid es
  Begins : (bytes : List ℕ) (e : Entry) → may_follow last (Out pid bytes) ≡ true → (flat_step A F pid false).entries ≡ Out pid bytes ∷ e ∷ []
      → es ≡ Out pid bytes ∷ e ∷ [] → Ready A F last pid es

abbrev at : FlatState → Option Entry → Point
at F last = record { flat = F; last = last }

plain_ready : (A : Inputs) (F : FlatState) (last : Option Entry) (pid : ℕ) → ((e : Entry) → may_follow last e ≡ true)
    → Ready A F last pid (flat_step A F pid false).entries
plain_ready A F last pid free = go (flat_step A F pid false).entries refl (step_shape A F pid false)
  where
    go : (es : List Entry) → (flat_step A F pid false).entries ≡ es → Shape pid es → Ready A F last pid es
    go es same (Empty h) = Nothing h
    go es same (One e k h) = Ends e k (free e) h
    go es same (Two bytes n c r0 r1 h) = Begins bytes (Call pid n c r0 r1) (free (Out pid bytes)) (same ∙ h) h

refused_ready : (A : Inputs) (F : FlatState) (p pid : ℕ) → p ≡ pid → (asks A F p ≡ [] → ⊥)
    → Ready A F (Some (Refused p)) pid (due_at A (at F (Some (Refused p))) pid)
refused_ready A F p pid same n =
    subst (λ (x : ℕ). Ready A F (Some (Refused p)) x (due_at A (at F (Some (Refused p))) x)) same
    (subst (λ (b : Bool). Ready A F (Some (Refused p)) p (flat_step A F p b).entries) (sym (eq_self p)) (go (flat_step A F p true).entries (refused_outcome A F p n)))
  where
    go : (es : List Entry) → Outcome p es → Ready A F (Some (Refused p)) p es
    go es (Missed h) = Nothing h
    go es (Says e k o h) = Ends e k o h

call_only : (pid p : ℕ) (bytes : List ℕ) (behind es : List Entry) → es ≡ Out pid bytes ∷ behind → Shape pid es
    → (n : ℕ) × (c : Bool) × (r0 : ℕ) × (r1 : ℕ) × (behind ≡ Call pid n c r0 r1 ∷ [])
call_only pid p bytes behind es h (Empty k) = absurd (let bad : [] ≡ Out pid bytes ∷ behind = sym k ∙ h in cc)
call_only pid p bytes behind es h (One e i k) =
    absurd (let same : e ∷ [] ≡ Out pid bytes ∷ behind = sym k ∙ h in let is : e ≡ Out pid bytes = cc in subst (IsStepEnd pid) is i)
call_only pid p bytes behind es h (Two others n c r0 r1 k) =
    (n, c, r0, r1, let same : Out pid others ∷ Call pid n c r0 r1 ∷ [] ≡ Out pid bytes ∷ behind = sym k ∙ h in let is : behind ≡ Call pid n c r0 r1 ∷ [] = cc in is)

out_ready : (A : Inputs) (F : FlatState) (p pid : ℕ) (bytes : List ℕ) (rest : List Entry) → p ≡ pid → (flat_step A F p false).entries ≡ Out p bytes ∷ rest
    → Ready A F (Some (Out p bytes)) pid (due_at A (at F (Some (Out p bytes))) pid)
out_ready A F p pid bytes rest same h =
    subst (λ (x : ℕ). Ready A F (Some (Out p bytes)) x (due_at A (at F (Some (Out p bytes))) x)) same
    (go (call_only p p bytes rest (flat_step A F p false).entries h (step_shape A F p false)))
  where
    go : (n : ℕ) × (c : Bool) × (r0 : ℕ) × (r1 : ℕ) × (rest ≡ Call p n c r0 r1 ∷ []) → Ready A F (Some (Out p bytes)) p (due_at A (at F (Some (Out p bytes))) p)
    go (n, c, r0, r1, k) =
        Ends (Call p n c r0 r1) refl (eq_self p)
        (ap (λ (b : Bool). if b then behind_first (flat_step A F p false).entries else (flat_step A F p false).entries) (eq_self p) ∙ ap behind_first h ∙ k)

ready : (A : Inputs) (F : FlatState) (last : Option Entry) (pid : ℕ) → LastSays A F last → awaits last pid ≡ true
    → Ready A F last pid (due_at A (at F last) pid)
ready A F None pid says w = plain_ready A F None pid (λ e. refl)
ready A F (Some (Refused p)) pid says w = refused_ready A F p pid (eqb-true p pid w) says
ready A F (Some (Out p bytes)) pid says w = out_ready A F p pid bytes says.0 (eqb-true p pid w) says.1
ready A F (Some last) pid says w = plain_ready A F (Some last) pid (λ e. refl)

-- Where an entry leads, and what the last entry then says.
pub record Leads (A : Inputs) (point : Point) (u : Entry) : Type 0 where
  pub to : Point
  pub flat : flat_entry A point u ≡ Some to
  pub says : LastSays A to.flat to.last

first_is : (b : Bool) (e u : Entry) (rest : List Entry) → first_if b (e ∷ rest) ≡ Some u → e ≡ u
first_is true e u rest h = cc
first_is false e u rest h = absurd cc

no_first : (b : Bool) (u : Entry) → first_if b [] ≡ Some u → ⊥
no_first true u h = absurd cc
no_first false u h = absurd cc

end_says : (A : Inputs) (F : FlatState) (pid : ℕ) (e : Entry) → IsStepEnd pid e → LastSays A F (Some e)
end_says A F pid (Out p bytes) h = absurd h
end_says A F pid (Refused p) h = absurd h
end_says A F pid _ h = tt

step_leads : (A : Inputs) (F : FlatState) (last : Option Entry) (pid : ℕ) (u : Entry) → LastSays A F last → awaits last pid ≡ true
    → next_of_step A (at F last) pid ≡ Some u → Leads A (at F last) u
step_leads A F last pid u says w h = go (due_at A (at F last) pid) refl (ready A F last pid says w)
  where
    go : (es : List Entry) → due_at A (at F last) pid ≡ es → Ready A F last pid es → Leads A (at F last) u
    go es same (Nothing k) =
        absurd (no_first (can_step F pid) u (sym (ap (first_if (can_step F pid)) (same ∙ k)) ∙ h))
    go es same (Ends e k m l) =
        let is : e ≡ u = first_is (can_step F pid) e u [] (sym (ap (first_if (can_step F pid)) (same ∙ l)) ∙ h) in
        let to : point_after A (at F last) pid ≡ at (step_at A (at F last) pid).after (Some e) =
        ap (behind (at F last) (step_at A (at F last) pid).after) (same ∙ l) in
        record {
          to = at (step_at A (at F last) pid).after (Some e);
          flat = subst (λ (x : Entry). flat_entry A (at F last) x ≡ Some (at (step_at A (at F last) pid).after (Some e))) is
              (end_led A (at F last) pid e k m (h ∙ ap (λ (x : Entry). Some x) (sym is)) ∙ ap (λ (x : Point). Some x) to);
          says = end_says A (step_at A (at F last) pid).after pid e k;
        }
    go es same (Begins bytes e m k l) =
        let is : Out pid bytes ≡ u = first_is (can_step F pid) (Out pid bytes) u (e ∷ []) (sym (ap (first_if (can_step F pid)) (same ∙ l)) ∙ h) in
        let to : point_after A (at F last) pid ≡ at F (Some (Out pid bytes)) = ap (behind (at F last) (step_at A (at F last) pid).after) (same ∙ l) in
        record {
          to = at F (Some (Out pid bytes));
          flat = subst (λ (x : Entry). flat_entry A (at F last) x ≡ Some (at F (Some (Out pid bytes)))) is
              (out_led A (at F last) pid bytes m (h ∙ ap (λ (x : Entry). Some x) (sym is)) ∙ ap (λ (x : Point). Some x) to);
          says = (e ∷ [], k);
        }

-- Refused pieces.

refused_parts : (a b : Bool) → (not a && not b) ≡ true → (a ≡ false) × (b ≡ false)
refused_parts true b h = absurd cc
refused_parts false true h = absurd cc
refused_parts false false h = (refl, refl)

asks_some : (A : Inputs) (hs : Holdings) (F : FlatState) (pid : ℕ) → fits A.swap_blocks hs (asks A F pid) ≡ false → asks A F pid ≡ [] → ⊥
unfolding place_all
asks_some A hs F pid h k = absurd (let bad : true ≡ false = sym (ap (fits A.swap_blocks hs) k) ∙ h in cc)

may_refuse : (A : Inputs) (F : FlatState) (last : Option Entry) (pid : ℕ) → LastSays A F last → awaits last pid ≡ true → is_refused last pid ≡ false
    → (asks A F pid ≡ [] → ⊥) → may_follow last (Refused pid) ≡ true
may_refuse A F None pid says w r n = refl
may_refuse A F (Some (Refused p)) pid says w r n = absurd (let bad : true ≡ false = sym w ∙ r in cc)
may_refuse A F (Some (Out p bytes)) pid says w r n =
    absurd (n (subst (λ (x : ℕ). asks A F x ≡ []) (eqb-true p pid w) (writes_asks A F p bytes says.0 says.1)))
may_refuse A F (Some last) pid says w r n = refl

refused_leads : (A : Inputs) (F : FlatState) (last : Option Entry) (pid : ℕ) → can_step F pid ≡ true → may_follow last (Refused pid) ≡ true
    → (asks A F pid ≡ [] → ⊥) → Leads A (at F last) (Refused pid)
refused_leads A F last pid c m n = record {
  to = at F (Some (Refused pid));
  flat = leads A (at F last) pid (Refused pid) (record { process = refl; follows = m; steps = c; next = refl });
  says = n;
}

-- a unit that is no flat entry
other_leads : (A : Inputs) (F : FlatState) (last : Option Entry) (u : Entry) → process_of_entry u ≡ None → LastSays A F last → Leads A (at F last) u
other_leads A F last u h says = record { to = at F last; flat = stands A (at F last) u h; says = says }

act_leads : (A : Inputs) (s : State) (u : Entry) → LastSays A s.point.flat s.point.last → IsNext A s u → Leads A s.point u
unfolding act
act_leads A s u says n = can (can_step s.point.flat n.pid) refl n.next
  where
    by : (can_step s.point.flat n.pid ≡ true) → (r t : Bool) → must_refuse A s n.pid ≡ r → act_by A s n.pid r t ≡ Some u → Leads A s.point u
    by c true t e h =
        let parts : (is_refused s.point.last n.pid ≡ false) × (fits A.swap_blocks s.holdings (asks A s.point.flat n.pid) ≡ false)
        = refused_parts (is_refused s.point.last n.pid) (fits A.swap_blocks s.holdings (asks A s.point.flat n.pid)) e in
        let some : asks A s.point.flat n.pid ≡ [] → ⊥ = asks_some A s.holdings s.point.flat n.pid parts.1 in
        subst (Leads A s.point) (same_Some (Refused n.pid) u h)
        (refused_leads A s.point.flat s.point.last n.pid c (may_refuse A s.point.flat s.point.last n.pid says n.awaited parts.0 some) some)
    by c false true e h = subst (Leads A s.point) (same_Some Done u h) (other_leads A s.point.flat s.point.last Done refl says)
    by c false false e h = step_leads A s.point.flat s.point.last n.pid u says n.awaited h

    can : (b : Bool) → can_step s.point.flat n.pid ≡ b → act_if b A s n.pid ≡ Some u → Leads A s.point u
    can true c h = by c (must_refuse A s n.pid) (must_settle A s n.pid) refl h
    can false c h = absurd cc

-- so is the state's point
pub record LeadsOn (A : Inputs) (s : State) (u : Entry) : Type 0 where
  pub flat : flat_entry A s.point u ≡ Some (after A s u).point
  pub says : LastSays A (after A s u).point.flat (after A s u).point.last

leads_on : (A : Inputs) (s : State) (u : Entry) → Leads A s.point u → LeadsOn A s u
leads_on A s u l =
    let same : (after A s u).point ≡ l.to = after_point A s u l.to l.flat in
    record {
      flat = l.flat ∙ ap (λ (x : Point). Some x) (sym same);
      says = subst (λ (x : Point). LastSays A x.flat x.last) (sym same) l.says;
    }

unit_leads : (A : Inputs) (s : State) (u : Entry) → LastSays A s.point.flat s.point.last → (process_of_entry u ≡ None) ⊎ IsNext A s u → LeadsOn A s u
unit_leads A s u says (inl h) = leads_on A s u (other_leads A s.point.flat s.point.last u h says)
unit_leads A s u says (inr n) = leads_on A s u (act_leads A s u says n)

-- what a process does next is an entry of the flat machine's run, and leads where the state goes
pub next_flat : (A : Inputs) (s : State) (u : Entry) → LastSays A s.point.flat s.point.last → IsNext A s u → flat_entry A s.point u ≡ Some (after A s u).point
next_flat A s u says n = (unit_leads A s u says (inr n)).flat

pub next_says : (A : Inputs) (s : State) (u : Entry) → LastSays A s.point.flat s.point.last → (process_of_entry u ≡ None) ⊎ IsNext A s u
    → LastSays A (after A s u).point.flat (after A s u).point.last
next_says A s u says n = (unit_leads A s u says n).says

all_flat : (A : Inputs) (s : State) (us : List Entry) → LastSays A s.point.flat s.point.last → AllNext A s us → AllFlat A s us
all_flat A s [] says n = tt
all_flat A s (u ∷ us) says n =
    let l : LeadsOn A s u = unit_leads A s u says n.0 in
    (l.flat, all_flat A (after A s u) us l.says n.1)

pub next_all_flat : (A : Inputs) (hs : Holdings) (us : List Entry) → AllNext A (start A hs) us → AllFlat A (start A hs) us
next_all_flat A hs us n = all_flat A (start A hs) us tt n

-- the journal that units make, each what a process does next or no flat entry, is a run of the flat machine to the state's point
pub next_run : (A : Inputs) (hs : Holdings) (us : List Entry) → AllUnits us → AllNext A (start A hs) us
    → flat_run A (appended [] us) ≡ Some (state_after A (start A hs) us).point
next_run A hs us k n =
    ap (flat_units A (Some (start_point A))) (appended_units [] us k) ∙ flat_is A (start A hs) us (next_all_flat A hs us n)
