-- Along a run the journal tells how a step is begun: nothing but ends of transfers comes after the entry that begins it.
use Rattle.std.proofs.Common.{◌≡◌, ◌⊎◌, inl, inr, ℕ, ◌+◌, ◌==◌, Bool, true, false, List, [], ◌∷◌, ◌++◌, Option, Some, None, refl, sym, ap, ◌∙◌, subst}
use Rattle.std.proofs.lemmas.Option.{same_Some}
use Rattle.vm_facts.specs.declared.entry.Entry.{Entry}
use Rattle.vm_facts.specs.declared.entry.Entry.TheVariants as entries
use Rattle.flat_state.specs.Flat.{Inputs, can_step}
use Rattle.flat_state.specs.Journal.{join, join_by, append, append_after, append_joined}
use Rattle.flat_model.specs.Run.{Point, step_at, due_at, behind, first_if, point_after, process_of_entry, entry_of_step as next_of_step}
use Rattle.kernel_model.specs.Start.{ImagesFit}
use Rattle.run_model.specs.State.{State, start}
use Rattle.run_model.specs.After.{after}
use Rattle.run_model.specs.Act.{IsNext}
use Rattle.run_model.specs.Next.{or_else, next_unit}
use Rattle.run_model.specs.Lawful.{Follows}
use Rattle.run_model.proofs.After.{after_journal}
use Rattle.run_model.proofs.NextUnits.{kind_of}
use Rattle.run_laws.specs.Running.{IsRun}
use Rattle.run_laws.proofs.Execs.{execs_fit}
use Rattle.run_laws.proofs.Flows.{awaits_next, next_or, act_plain, acted, Acted, Settles, Refuses, Steps, steps_own, plain_point}
use Rattle.run_laws.proofs.Beginning.{run_start}
use Rattle.run_laws.proofs.Running.{run_on}
use Rattle.run_laws.specs.Flowing.{WaitsBy}
use Rattle.step_units.specs.Rests.{unless_done, before_done, beginning, BeginningIsLast}
use Rattle.step_units.proofs.Behind.{refusal_waits}

-- One more entry.

or_none : {X : Type 0} (a : Option X) → or_else a None ≡ a
or_none None = refl
or_none (Some x) = refl

or_both : {X : Type 0} (a b c : Option X) → or_else (or_else a b) c ≡ or_else a (or_else b c)
or_both None b c = refl
or_both (Some x) b c = refl

before_more : (js : List Entry) (e : Entry) → before_done (js ++ e ∷ []) ≡ or_else (unless_done e) (before_done js)
before_more [] e = sym (or_none (unless_done e))
before_more (x ∷ js) e = ap (λ (o : Option Entry). or_else o (unless_done x)) (before_more js e) ∙ or_both (unless_done e) (before_done js) (unless_done x)

-- the last of these entries begins no step
abbrev BeginsNone : List Entry → Type 0
BeginsNone es = (y : Entry) × (before_done es ≡ Some y) × (beginning (Some y) ≡ None)

none_more : (e : Entry) (es : List Entry) → BeginsNone es → BeginsNone (e ∷ es)
none_more e es (y, h, n) = (y, ap (λ (o : Option Entry). or_else o (unless_done e)) h, n)

ran_joins : (b : Bool) (p m q n : ℕ) → BeginsNone (join_by b p m q n)
ran_joins true p m q n = (entries.Ran p (m + n), refl, refl)
ran_joins false p m q n = (entries.Ran q n, refl, refl)

join_ran : (e : Entry) (q n : ℕ) → BeginsNone (join e (entries.Ran q n))
join_ran (entries.Ran p m) q n = ran_joins (p == q) p m q n
join_ran (entries.Hands m) q n = (entries.Ran q n, refl, refl)
join_ran _ q n = (entries.Ran q n, refl, refl)

join_hands : (e : Entry) (n : ℕ) → BeginsNone (join e (entries.Hands n))
join_hands (entries.Hands m) n = (entries.Hands (m + n), refl, refl)
join_hands (entries.Ran p m) n = (entries.Hands n, refl, refl)
join_hands _ n = (entries.Hands n, refl, refl)

none_after : (u : Entry) → ((e : Entry) → BeginsNone (join e u)) → (e : Entry) (js : List Entry) → BeginsNone (append_after e js u)
none_after u joins e [] = joins e
none_after u joins e (f ∷ js) = none_more e (append_after f js u) (none_after u joins f js)

none_joined : (u : Entry) → ((e : Entry) → BeginsNone (join e u)) → BeginsNone (u ∷ []) → (js : List Entry) → BeginsNone (append_joined js u)
none_joined u joins one [] = one
none_joined u joins one (e ∷ js) = none_after u joins e js

says_none : (es : List Entry) → BeginsNone es → beginning (before_done es) ≡ None
says_none es (y, h, n) = ap beginning h ∙ n

done_more : (js : List Entry) → before_done (append js entries.Done) ≡ before_done js
done_more js = before_more js entries.Done

abbrev IsDone : Entry → Type 0
IsDone entries.Done = Unit {0}
IsDone _ = ⊥

done_or : (u : Entry) → (IsDone u → ⊥) ⊎ (u ≡ entries.Done)
done_or entries.Done = inr refl
done_or _ = inl (λ d. d)

-- any other entry is the last one then
other_more : (js : List Entry) (u : Entry) → (IsDone u → ⊥) → beginning (before_done (append js u)) ≡ beginning (Some u)
other_more js (entries.Ran q n) h = says_none (append_joined js (entries.Ran q n)) (none_joined (entries.Ran q n) (λ e. join_ran e q n) (entries.Ran q n, refl, refl) js)
other_more js (entries.Hands n) h = says_none (append_joined js (entries.Hands n)) (none_joined (entries.Hands n) (λ e. join_hands e n) (entries.Hands n, refl, refl) js)
other_more js entries.Done h = absurd (h tt)
other_more js (entries.Event line) h = ap beginning (before_more js (entries.Event line))
other_more js (entries.Turn p) h = ap beginning (before_more js (entries.Turn p))
other_more js (entries.Out p bytes) h = ap beginning (before_more js (entries.Out p bytes))
other_more js (entries.Grew p n) h = ap beginning (before_more js (entries.Grew p n))
other_more js (entries.Call p n c r0 r1) h = ap beginning (before_more js (entries.Call p n c r0 r1))
other_more js (entries.Refused p) h = ap beginning (before_more js (entries.Refused p))
other_more js (entries.Sleeps p) h = ap beginning (before_more js (entries.Sleeps p))
other_more js (entries.Ended p n) h = ap beginning (before_more js (entries.Ended p n))
other_more js (entries.Zero q) h = ap beginning (before_more js (entries.Zero q))
other_more js (entries.Get q lo n) h = ap beginning (before_more js (entries.Get q lo n))
other_more js (entries.Copy q) h = ap beginning (before_more js (entries.Copy q))
other_more js (entries.Reclaim q) h = ap beginning (before_more js (entries.Reclaim q))
other_more js (entries.Put q n) h = ap beginning (before_more js (entries.Put q n))
other_more js (entries.SwapOut p) h = ap beginning (before_more js (entries.SwapOut p))
other_more js (entries.SwapIn p) h = ap beginning (before_more js (entries.SwapIn p))
other_more js (entries.Owners a b c d) h = ap beginning (before_more js (entries.Owners a b c d))

-- One more unit.

plain_none : (u : Entry) → process_of_entry u ≡ None → beginning (Some u) ≡ None
plain_none (entries.Out p bytes) e = absurd cc
plain_none (entries.Refused p) e = absurd cc
plain_none _ e = refl

flat_undone : (u : Entry) (pid : ℕ) → process_of_entry u ≡ Some pid → IsDone u → ⊥
flat_undone entries.Done pid e h = absurd cc
flat_undone _ pid e h = h

-- the next entry of a process's step is the last flat entry then
head_last : (A : Inputs) (point : Point) (pid : ℕ) (u : Entry) → next_of_step A point pid ≡ Some u → (point_after A point pid).last ≡ Some u
head_last A point pid u h = go (due_at A point pid) (can_step point.flat pid) h
  where
    go : (es : List Entry) (b : Bool) → first_if b es ≡ Some u → (behind point (step_at A point pid).after es).last ≡ Some u
    go [] true k = absurd cc
    go [] false k = absurd cc
    go (e ∷ es) false k = absurd cc
    go (e ∷ []) true k = k
    go (e ∷ f ∷ es) true k = k

last_at : (A : Inputs) (point : Point) (q pid : ℕ) (u : Entry) → Some q ≡ Some pid → next_of_step A point pid ≡ Some u → (point_after A point q).last ≡ Some u
last_at A point q pid u e h = ap (λ (n : ℕ). (point_after A point n).last) (same_Some q pid e) ∙ head_last A point pid u h

pub last_is : (A : Inputs) (s : State) (pid : ℕ) (u : Entry) → next_of_step A s.point pid ≡ Some u → process_of_entry u ≡ Some pid
    → (after A s u).point.last ≡ Some u
unfolding after
last_is A s pid (entries.Ran q n) h e = last_at A s.point q pid (entries.Ran q n) e h
last_is A s pid (entries.Out q bytes) h e = last_at A s.point q pid (entries.Out q bytes) e h
last_is A s pid (entries.Grew q n) h e = last_at A s.point q pid (entries.Grew q n) e h
last_is A s pid (entries.Call q n c r0 r1) h e = last_at A s.point q pid (entries.Call q n c r0 r1) e h
last_is A s pid (entries.Refused q) h e = refl
last_is A s pid (entries.Sleeps q) h e = last_at A s.point q pid (entries.Sleeps q) e h
last_is A s pid (entries.Ended q n) h e = last_at A s.point q pid (entries.Ended q n) e h
last_is A s pid _ h e = absurd cc

-- the journal tells how a step is begun
abbrev pub TellsBegun : State → Type 0
TellsBegun s = beginning (before_done s.journal) ≡ beginning s.point.last

module _ (A : Inputs) (s : State) (u : Entry) (r : IsRun A s) (h : next_unit A s ≡ Some u) (told : TellsBegun s) where
  by_last : (IsDone u → ⊥) → beginning (after A s u).point.last ≡ beginning (Some u) → TellsBegun (after A s u)
  by_last other e = ap (λ (js : List Entry). beginning (before_done js)) (after_journal A s u) ∙ other_more s.journal u other ∙ sym e

  -- an entry that is no flat one comes after a step that is complete, unless it is the end of a transfer
  plain_tells : process_of_entry u ≡ None → TellsBegun (after A s u)
  plain_tells n = by (done_or u)
    where
      point : (after A s u).point ≡ s.point
      point = plain_point A s u n

      settled : (o : Option Entry) → s.point.last ≡ o → (IsDone u → ⊥) → beginning s.point.last ≡ None
      settled (Some (entries.Out p bytes)) e d =
          absurd (d (subst IsDone (sym (act_plain A s p u (awaits_next A s u p (subst (λ (o : Option Entry). WaitsBy A s o) e r.flows.waits) h) n)) tt))
      settled (Some (entries.Refused p)) e d =
          absurd (d (subst IsDone (sym (act_plain A s p u (awaits_next A s u p (subst (λ (o : Option Entry). WaitsBy A s o) e r.flows.waits) h) n)) tt))
      settled None e d = ap beginning e
      settled (Some _) e d = ap beginning e

      other : (IsDone u → ⊥) → TellsBegun (after A s u)
      other d = by_last d (ap (λ (x : Point). beginning x.last) point ∙ settled s.point.last refl d ∙ sym (plain_none u n))

      by : (IsDone u → ⊥) ⊎ (u ≡ entries.Done) → TellsBegun (after A s u)
      by (inl d) = other d
      by (inr e) =
          ap (λ (js : List Entry). beginning (before_done js)) (after_journal A s u ∙ ap (append s.journal) e) ∙ ap beginning (done_more s.journal) ∙ told
          ∙ ap (λ (x : Point). beginning x.last) (sym point)

  acts_tell : (pid : ℕ) → Acted A s pid u → TellsBegun (after A s u)
  acts_tell pid (Settles e) = plain_tells (ap process_of_entry e)
  acts_tell pid (Refuses e) = refused e
    where
      refused : u ≡ entries.Refused pid → TellsBegun (after A s u)
      refused e =
          by_last (subst (λ (v : Entry). IsDone v → ⊥) (sym e) (λ d. d))
          (subst (λ (v : Entry). beginning (after A s v).point.last ≡ beginning (Some v)) (sym e) (ap beginning (refusal_waits A s pid).last))
  acts_tell pid (Steps f g e) =
      let own : process_of_entry u ≡ Some pid = steps_own A s.point pid u e in
      by_last (flat_undone u pid own) (ap beginning (last_is A s pid u e own))

  pub unit_tells : TellsBegun (after A s u)
  unit_tells = go (next_or A s u r.flows.waits (kind_of A s u h))
    where
      go : (process_of_entry u ≡ None) ⊎ IsNext A s u → TellsBegun (after A s u)
      go (inl n) = plain_tells n
      go (inr n) = acts_tell n.pid (acted A s n.pid u n.next)

all_tell : (A : Inputs) (us : List Entry) (s t : State) → ImagesFit A.images → IsRun A s → Follows A s us t → TellsBegun s → TellsBegun t
all_tell A [] s t images r f told = subst TellsBegun f told
all_tell A (u ∷ us) s t images r f told =
    all_tell A us (after A s u) t images (run_on A s u images (execs_fit A) r f.0) f.1 (unit_tells A s u r f.0 told)

pub beginning_last : BeginningIsLast
beginning_last A hs us s can f = all_tell A us (start A hs) s can.images (run_start A hs can.images can.first can.frames can.pieces) f refl
