-- An entry of a process that may come is what the process does next.
use Rattle.std.proofs.Common.{◌≡◌, ◌⊎◌, inl, inr, ℕ, ◌+◌, ◌≤◌, ◌==◌, max, nat_le, true, false, not, List, [], ◌∷◌, Option, Some, None, refl, sym, ap, ◌∙◌, subst, arith}
use Rattle.std.proofs.lemmas.Bool.Decides.{nat_tests}
use Rattle.vm_facts.specs.declared.entry.Entry.{Entry}
use Rattle.vm_facts.specs.declared.entry.Entry.TheVariants as entries
use Rattle.flat_state.specs.Flat.{Inputs}
use Rattle.flat_state.specs.Journal.{counted, instructions_of, units_of}
use Rattle.page_model.specs.Swapper.{is_out}
use Rattle.flat_model.specs.Run.{Point, process_of_entry, flat_entry, flat_units, flat_run}
use Rattle.run_model.specs.State.{State, start}
use Rattle.run_model.specs.Act.{act, awaits, LastSays, IsNext}
use Rattle.run_model.proofs.After.{after_count, count_of_units}
use Rattle.run_model.proofs.Acting.{next_flat, next_says}
use Rattle.run_laws.proofs.Flows.{plain_point}
use Rattle.flat_model.proofs.Coming.{stands}
use Rattle.paged_model.specs.declared.reason.Reason.TheVariants as reasons
use Rattle.paged_model.specs.Reasons.{unless, or_reason}
use Rattle.paged_model.specs.Moves.{due_first}
use Rattle.paged_model.specs.Steps.{other_begun, stuck, page_away, is_same, other_act, step_reason}
use Rattle.paged_model.specs.Runs.{paged_after, paged_state, unit_reason, units_reason, IsPagedRun}
use Rattle.paged_model.proofs.Reasoned.{or_none, unless_none}
use Rattle.paged_model.proofs.Fronts.{front_units}
use Rattle.paged_model.proofs.PartReasons.{not_true}
use Rattle.paged_laws.proofs.SameEntries.{same_is}

-- what the conditions of a step come to
pub record Steps (A : Inputs) (s : State) (pid : ℕ) (u : Entry) : Type 0 where
  pub few : s.count + max 1 (counted u) ≤ A.limit
  pub can : stuck A s pid ≡ None
  pub own : other_begun s.point.last pid ≡ None
  pub clear : due_first s.place.due ≡ None
  pub resident : is_out s.place pid ≡ false
  pub pages : page_away A s pid ≡ None
  pub does : other_act pid u (act A s pid) ≡ None

pub steps : (A : Inputs) (s : State) (pid : ℕ) (u : Entry) → step_reason A s pid u ≡ None → Steps A s pid u
steps A s pid u e =
    let f = other_act pid u (act A s pid) in
    let g = page_away A s pid in
    let h = unless (not (is_out s.place pid)) (reasons.IsOut pid) in
    let i = due_first s.place.due in
    let j = other_begun s.point.last pid in
    let k = stuck A s pid in
    let l = unless (nat_le (s.count + max 1 (counted u)) A.limit) reasons.TooMany in
    let a = or_none l (or_reason k (or_reason j (or_reason i (or_reason h (or_reason g f))))) e in
    let b = or_none k (or_reason j (or_reason i (or_reason h (or_reason g f)))) a.1 in
    let c = or_none j (or_reason i (or_reason h (or_reason g f))) b.1 in
    let d = or_none i (or_reason h (or_reason g f)) c.1 in
    let m = or_none h (or_reason g f) d.1 in
    let n = or_none g f m.1 in
    record {
      few = (let t : nat_le (s.count + max 1 (counted u)) A.limit ≡ true = unless_none (nat_le (s.count + max 1 (counted u)) A.limit) reasons.TooMany a.0 in grind (arith, nat_tests));
      can = b.0;
      own = c.0;
      clear = d.0;
      resident = not_true (is_out s.place pid) (unless_none (not (is_out s.place pid)) (reasons.IsOut pid) m.0);
      pages = n.0;
      does = n.1;
    }

same_then : (pid : ℕ) (u e : Entry) → unless (is_same e u) (reasons.Comes e) ≡ None → Some e ≡ Some u
same_then pid u e h = ap (λ (x : Entry). Some x) (same_is e u (unless_none (is_same e u) (reasons.Comes e) h))

-- the entry is the one that the process does
pub act_is : (pid : ℕ) (u : Entry) (o : Option Entry) → other_act pid u o ≡ None → o ≡ Some u
act_is pid u None h = absurd cc
act_is pid u (Some entries.Done) h = absurd cc
act_is pid u (Some (entries.Event x0)) h = same_then pid u (entries.Event x0) h
act_is pid u (Some (entries.Turn x0)) h = same_then pid u (entries.Turn x0) h
act_is pid u (Some (entries.Ran x0 x1)) h = same_then pid u (entries.Ran x0 x1) h
act_is pid u (Some (entries.Out x0 x1)) h = same_then pid u (entries.Out x0 x1) h
act_is pid u (Some (entries.Grew x0 x1)) h = same_then pid u (entries.Grew x0 x1) h
act_is pid u (Some (entries.Call x0 x1 x2 x3 x4)) h = same_then pid u (entries.Call x0 x1 x2 x3 x4) h
act_is pid u (Some (entries.Refused x0)) h = same_then pid u (entries.Refused x0) h
act_is pid u (Some (entries.Sleeps x0)) h = same_then pid u (entries.Sleeps x0) h
act_is pid u (Some (entries.Ended x0 x1)) h = same_then pid u (entries.Ended x0 x1) h
act_is pid u (Some (entries.Zero x0)) h = same_then pid u (entries.Zero x0) h
act_is pid u (Some (entries.Get x0 x1 x2)) h = same_then pid u (entries.Get x0 x1 x2) h
act_is pid u (Some (entries.Copy x0)) h = same_then pid u (entries.Copy x0) h
act_is pid u (Some (entries.Reclaim x0)) h = same_then pid u (entries.Reclaim x0) h
act_is pid u (Some (entries.Hands x0)) h = same_then pid u (entries.Hands x0) h
act_is pid u (Some (entries.Put x0 x1)) h = same_then pid u (entries.Put x0 x1) h
act_is pid u (Some (entries.SwapOut x0)) h = same_then pid u (entries.SwapOut x0) h
act_is pid u (Some (entries.SwapIn x0)) h = same_then pid u (entries.SwapIn x0) h
act_is pid u (Some (entries.Owners x0 x1 x2 x3)) h = same_then pid u (entries.Owners x0 x1 x2 x3) h

pub own_awaits : (last : Option Entry) (pid : ℕ) → other_begun last pid ≡ None → awaits last pid ≡ true
own_awaits (Some (entries.Refused p)) pid h = unless_none (p == pid) (reasons.Begun p) h
own_awaits (Some (entries.Out p bytes)) pid h = unless_none (p == pid) (reasons.Begun p) h
own_awaits _ pid h = refl

pub is_next : (A : Inputs) (s : State) (pid : ℕ) (u : Entry) → step_reason A s pid u ≡ None → IsNext A s u
is_next A s pid u e =
    let x : Steps A s pid u = steps A s pid u e in
    record { pid = pid; next = act_is pid u (act A s pid) x.does; awaited = own_awaits s.point.last pid x.own }

pub next_or : (A : Inputs) (s : State) (u : Entry) → unit_reason A s u ≡ None → (process_of_entry u ≡ None) ⊎ IsNext A s u
unfolding unit_reason
next_or A s (entries.Ran p n) h = inr (is_next A s p (entries.Ran p n) h)
next_or A s (entries.Out p bytes) h = inr (is_next A s p (entries.Out p bytes) h)
next_or A s (entries.Grew p n) h = inr (is_next A s p (entries.Grew p n) h)
next_or A s (entries.Call p n c r0 r1) h = inr (is_next A s p (entries.Call p n c r0 r1) h)
next_or A s (entries.Refused p) h = inr (is_next A s p (entries.Refused p) h)
next_or A s (entries.Sleeps p) h = inr (is_next A s p (entries.Sleeps p) h)
next_or A s (entries.Ended p n) h = inr (is_next A s p (entries.Ended p n) h)
next_or A s (entries.Event line) h = inl refl
next_or A s (entries.Turn pid) h = inl refl
next_or A s (entries.Zero q) h = inl refl
next_or A s (entries.Get q lo n) h = inl refl
next_or A s (entries.Copy q) h = inl refl
next_or A s (entries.Reclaim q) h = inl refl
next_or A s (entries.Hands n) h = inl refl
next_or A s (entries.Put q n) h = inl refl
next_or A s entries.Done h = inl refl
next_or A s (entries.SwapOut pid) h = inl refl
next_or A s (entries.SwapIn pid) h = inl refl
next_or A s (entries.Owners f u m k) h = inl refl

-- a unit that may come is an entry of the flat machine's run, or none of a process
unit_flat : (A : Inputs) (s : State) (u : Entry) → LastSays A s.point.flat s.point.last → unit_reason A s u ≡ None
    → flat_entry A s.point u ≡ Some (paged_after A s u).point
unit_flat A s u says h = elim (next_or A s u h) [
  | inl none ↦ stands A s.point u none ∙ ap (λ (x : Point). Some x) (sym (plain_point A s u none))
  | inr next ↦ next_flat A s u says next
]

pub units_flat : (A : Inputs) (s : State) (us : List Entry) → LastSays A s.point.flat s.point.last → units_reason A s us ≡ None
    → flat_units A (Some s.point) us ≡ Some (paged_state A s us).point
unfolding units_reason paged_state flat_units
units_flat A s [] says h = refl
units_flat A s (u ∷ us) says h =
    let o = or_none (unit_reason A s u) (units_reason A (paged_after A s u) us) h in
    ap (λ (x : Option Point). flat_units A x us) (unit_flat A s u says o.0)
    ∙ units_flat A (paged_after A s u) us (next_says A s u says (next_or A s u o.0)) o.1

-- Counts.

few_unit : (A : Inputs) (s : State) (u : Entry) → unit_reason A s u ≡ None → s.count ≤ A.limit → s.count + counted u ≤ A.limit
unfolding unit_reason
few_unit A s (entries.Ran p n) h l = let x : Steps A s p (entries.Ran p n) = steps A s p (entries.Ran p n) h in let f = x.few in omega (arith, f)
few_unit A s (entries.Call p n c r0 r1) h l = let x : Steps A s p (entries.Call p n c r0 r1) = steps A s p (entries.Call p n c r0 r1) h in let f = x.few in omega (arith, f)
few_unit A s (entries.Ended p n) h l = let x : Steps A s p (entries.Ended p n) = steps A s p (entries.Ended p n) h in let f = x.few in omega (arith, f)
few_unit A s (entries.Out p bytes) h l = omega (arith, l)
few_unit A s (entries.Grew p n) h l = omega (arith, l)
few_unit A s (entries.Refused p) h l = omega (arith, l)
few_unit A s (entries.Sleeps p) h l = omega (arith, l)
few_unit A s (entries.Event line) h l = omega (arith, l)
few_unit A s (entries.Turn pid) h l = omega (arith, l)
few_unit A s (entries.Zero q) h l = omega (arith, l)
few_unit A s (entries.Get q lo n) h l = omega (arith, l)
few_unit A s (entries.Copy q) h l = omega (arith, l)
few_unit A s (entries.Reclaim q) h l = omega (arith, l)
few_unit A s (entries.Hands n) h l = omega (arith, l)
few_unit A s (entries.Put q n) h l = omega (arith, l)
few_unit A s entries.Done h l = omega (arith, l)
few_unit A s (entries.SwapOut pid) h l = omega (arith, l)
few_unit A s (entries.SwapIn pid) h l = omega (arith, l)
few_unit A s (entries.Owners f u m k) h l = omega (arith, l)

pub few_units : (A : Inputs) (s : State) (us : List Entry) → units_reason A s us ≡ None → s.count ≤ A.limit → (paged_state A s us).count ≤ A.limit
unfolding units_reason paged_state
few_units A s [] h l = l
few_units A s (u ∷ us) h l =
    let o = or_none (unit_reason A s u) (units_reason A (paged_after A s u) us) h in
    few_units A (paged_after A s u) us o.1 (subst (λ (n : ℕ). n ≤ A.limit) (sym (after_count A s u)) (few_unit A s u o.0 l))

pub units_count : (A : Inputs) (s : State) (us : List Entry) → (paged_state A s us).count ≡ s.count + instructions_of us
unfolding paged_state
units_count A s [] = omega arith
units_count A s (u ∷ us) =
    let a = units_count A (paged_after A s u) us in let b = after_count A s u in omega (arith, a, b)

-- Runs.

pub paged_flat : (A : Inputs) (es : List Entry) → IsPagedRun A es → (point : Point) × (flat_run A es ≡ Some point)
paged_flat A es r =
    ((paged_state A (start A r.holdings) (units_of es)).point, units_flat A (start A r.holdings) (units_of es) tt (front_units A (start A r.holdings) 1 es r.good))

pub paged_few : (A : Inputs) (es : List Entry) → IsPagedRun A es → instructions_of es ≤ A.limit
paged_few A es r =
    let l : (paged_state A (start A r.holdings) (units_of es)).count ≤ A.limit =
    few_units A (start A r.holdings) (units_of es) (front_units A (start A r.holdings) 1 es r.good) (omega arith) in
    let c = units_count A (start A r.holdings) (units_of es) in
    let k = count_of_units es in
    omega (arith, l, c, k)
