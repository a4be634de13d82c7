-- Following a run unit by unit.
use Rattle.std.proofs.Common.{◌≡◌, ℕ, zero, suc, ◌+◌, ◌-◌, ◌<◌, ◌≤◌, ◌==◌, ◌⊎◌, inl, inr, Bool, true, false, not, ◌&&◌, cond, List, [], ◌∷◌, ◌++◌, length, take, Option, Some, None, is_some, Result, Ok, Err, OnOk, refl, sym, ap, ap₂, ◌∙◌, subst, arith, append-nil, append_assoc, if◌then◌else◌}
use Rattle.std.specs.Prelude.{IsSome, find, nat_le}
use Rattle.std.specs.List.{range_with_len}
use Rattle.std.proofs.lemmas.List.{take_all}
use Rattle.flat_state.specs.Flat.{FlatState, Inputs, can_step, start_state}
use Rattle.vm_facts.specs.declared.page.Page.{Page}
use Rattle.vm_facts.specs.declared.entry.Entry.{Entry}
use Rattle.vm_facts.specs.declared.entry.Entry.TheVariants as entries
use Rattle.flat_state.specs.Journal.{units_of, units_with, repeated, instructions_of}
use Rattle.flat_model.specs.Step.{flat_step}
use Rattle.flat_model.specs.Run.{Point, is_refused, step_at, behind_first, due, due_at, behind, same_entry, is_first_of, ComesAt, flat_entry, flat_units, flat_run, start_point}
use Rattle.flat_model.proofs.Coming.{Came, came, IsOfStep, end_of_step}
use Rattle.flat_model.specs.Touched.{touched}
use Rattle.flat_model.proofs.StepEnds.{IsStepEnd, Shape, Empty, One, Two, step_shape}
use Rattle.flat_machine.specs.Machine.{state_if}
use Rattle.replay_check.specs.Verdicts.{is_run, first_bad, instruction_limit, touched_by_unit, references_from, references_of}
use Rattle.replay_check.specs.Following.{is_this, IsOnWay}

-- An entry that completes a step.

due_cases : (last : Option Entry) (pid : ℕ) (es : List Entry) → (due last pid es ≡ es) ⊎ (due last pid es ≡ behind_first es)
due_cases None pid es = inl refl
due_cases (Some (entries.Out p bytes)) pid es = go (p == pid)
  where
    go : (b : Bool) → ((if b then behind_first es else es) ≡ es) ⊎ ((if b then behind_first es else es) ≡ behind_first es)
    go true = inr refl
    go false = inl refl
due_cases (Some e) pid es = inl refl

none_first : (left : List Entry) (u : Entry) → left ≡ [] → is_first_of left u ≡ true → ⊥
none_first left u e h = let k : is_first_of [] u ≡ true = subst (λ (es : List Entry). is_first_of es u ≡ true) e h in cc

begins_so : (left more : List Entry) (e u : Entry) → left ≡ e ∷ more → is_first_of left u ≡ true → same_entry e u ≡ true
begins_so left more e u is h = subst (λ (es : List Entry). is_first_of es u ≡ true) is h

out_differs : (pid p : ℕ) (bytes : List ℕ) (u : Entry) → IsStepEnd pid u → same_entry (entries.Out p bytes) u ≡ true → ⊥
out_differs pid p bytes (entries.Ran q n) ends h = cc
out_differs pid p bytes (entries.Grew q n) ends h = cc
out_differs pid p bytes (entries.Call q n c r0 r1) ends h = cc
out_differs pid p bytes (entries.Sleeps q) ends h = cc
out_differs pid p bytes (entries.Ended q n) ends h = cc
out_differs pid p bytes _ ends h = absurd ends

end_differs : (pid p : ℕ) (bytes : List ℕ) (e : Entry) → IsStepEnd pid e → same_entry e (entries.Out p bytes) ≡ true → ⊥
end_differs pid p bytes (entries.Ran q n) ends h = cc
end_differs pid p bytes (entries.Grew q n) ends h = cc
end_differs pid p bytes (entries.Call q n c r0 r1) ends h = cc
end_differs pid p bytes (entries.Sleeps q) ends h = cc
end_differs pid p bytes (entries.Ended q n) ends h = cc
end_differs pid p bytes _ ends h = absurd ends

-- the step is completed by its next entry
record IsLast (pid : ℕ) (left : List Entry) : Type 0 where
  e : Entry
  only : left ≡ e ∷ []
  ends : IsStepEnd pid e

last_of : (pid : ℕ) (es left : List Entry) (u : Entry) → Shape pid es → (left ≡ es) ⊎ (left ≡ behind_first es) → IsStepEnd pid u
    → is_first_of left u ≡ true → IsLast pid left
last_of pid es left u (Empty e) (inl d) ends h = absurd (none_first left u (d ∙ e) h)
last_of pid es left u (Empty e) (inr d) ends h = absurd (none_first left u (d ∙ ap behind_first e) h)
last_of pid es left u (One x done e) (inl d) ends h = record { e = x; only = d ∙ e; ends = done }
last_of pid es left u (One x done e) (inr d) ends h = absurd (none_first left u (d ∙ ap behind_first e) h)
last_of pid es left u (Two bytes n c r0 r1 e) (inl d) ends h = absurd (out_differs pid pid bytes u ends (begins_so left _ _ u (d ∙ e) h))
last_of pid es left u (Two bytes n c r0 r1 e) (inr d) ends h = record { e = entries.Call pid n c r0 r1; only = d ∙ ap behind_first e; ends = refl }

unrefused : (pid : ℕ) (e : Entry) → IsStepEnd pid e → (q : ℕ) → is_refused (Some e) q ≡ false
unrefused pid (entries.Ran p n) ends q = refl
unrefused pid (entries.Grew p n) ends q = refl
unrefused pid (entries.Call p n c r0 r1) ends q = refl
unrefused pid (entries.Sleeps p) ends q = refl
unrefused pid (entries.Ended p n) ends q = refl
unrefused pid _ ends q = absurd ends

-- the point after an entry that completes a step
record IsBeyond (A : Inputs) (point : Point) (pid : ℕ) (next : Point) : Type 0 where
  can : can_step point.flat pid ≡ true
  flat : next.flat ≡ (step_at A point pid).after
  last : (q : ℕ) → is_refused next.last q ≡ false

beyond : (A : Inputs) (point : Point) (pid : ℕ) (u : Entry) (next : Point) → IsStepEnd pid u → flat_entry A point u ≡ Some next → IsBeyond A point pid next
beyond A point pid u next ends h =
    let o : IsOfStep A point pid u = end_of_step A point pid u ends in
    let c : Came A point next pid u = came A point next pid u o.process h in
    let d : ComesAt A point pid u = c.comes in
    let one = last_of pid (step_at A point pid).entries (due_at A point pid) u (step_shape A point.flat pid (is_refused point.last pid))
    (due_cases point.last pid (step_at A point pid).entries) ends (sym o.due ∙ d.next) in
    let is : next ≡ record { flat = (step_at A point pid).after; last = Some one.e } =
    sym c.leads ∙ o.led ∙ ap (behind point (step_at A point pid).after) one.only in
    record {
      can = d.steps;
      flat = ap (λ (x : Point). x.flat) is;
      last = λ q. ap (λ (x : Point). is_refused x.last q) is ∙ unrefused pid one.e one.ends q;
    }

-- The point after an `Out`.

stays_by : (p : ℕ) (bytes : List ℕ) (point : Point) (after : FlatState) (es left : List Entry) → Shape p es
    → (left ≡ es) ⊎ (left ≡ behind_first es)
    → is_first_of left (entries.Out p bytes) ≡ true → ((behind point after left).flat ≡ point.flat)
    × ((q : ℕ) → is_refused (behind point after left).last q ≡ false)
stays_by p bytes point after es left (Empty e) (inl d) h = absurd (none_first left _ (d ∙ e) h)
stays_by p bytes point after es left (Empty e) (inr d) h = absurd (none_first left _ (d ∙ ap behind_first e) h)
stays_by p bytes point after es left (One x done e) (inl d) h = absurd (end_differs p p bytes x done (begins_so left [] x _ (d ∙ e) h))
stays_by p bytes point after es left (One x done e) (inr d) h = absurd (none_first left _ (d ∙ ap behind_first e) h)
stays_by p bytes point after es left (Two written n c r0 r1 e) (inl d) h =
    let is : behind point after left ≡ record point { last = Some (entries.Out p written) } = ap (behind point after) (d ∙ e) in
    (ap (λ (x : Point). x.flat) is, λ q. ap (λ (x : Point). is_refused x.last q) is)
stays_by p bytes point after es left (Two written n c r0 r1 e) (inr d) h =
    absurd (end_differs p p bytes (entries.Call p n c r0 r1) refl (begins_so left [] _ _ (d ∙ ap behind_first e) h))

stays : (A : Inputs) (point : Point) (p : ℕ) (bytes : List ℕ) (next : Point) → flat_entry A point (entries.Out p bytes) ≡ Some next
    → (next.flat ≡ point.flat) × ((q : ℕ) → is_refused next.last q ≡ false)
stays A point p bytes next h =
    let c : Came A point next p (entries.Out p bytes) = came A point next p (entries.Out p bytes) refl h in
    let d : ComesAt A point p (entries.Out p bytes) = c.comes in
    subst (λ (x : Point). (x.flat ≡ point.flat) × ((q : ℕ) → is_refused x.last q ≡ false)) c.leads
    (stays_by p bytes point (step_at A point p).after (step_at A point p).entries (due_at A point p)
    (step_shape A point.flat p (is_refused point.last p)) (due_cases point.last p (step_at A point p).entries) d.next)

-- The way goes on.

next_of : (A : Inputs) (point : Point) (u : Entry) (us : List Entry) → IsSome (flat_units A (Some point) (u ∷ us))
    → (next : Point) × (flat_entry A point u ≡ Some next) × IsSome (flat_units A (Some next) us)
unfolding flat_units
next_of A point u us h = go (flat_entry A point u) refl h
  where
    go : (o : Option Point) → flat_entry A point u ≡ o → IsSome (flat_units A o us) → (next : Point) × (flat_entry A point u ≡ Some next) × IsSome (flat_units A (Some next) us)
    go None e k = absurd cc
    go (Some next) e k = (next, e, k)

moved : (A : Inputs) (F G : FlatState) (refused behind : Option ℕ) (pages more : List Page) (u : Entry) (us : List Entry) (whole : List Page)
    (h : IsOnWay A F refused pages (u ∷ us) whole)
    → ((next : Point) → flat_entry A h.point u ≡ Some next → (next.flat ≡ G) × ((q : ℕ) → is_refused next.last q ≡ is_this behind q))
    → more ≡ pages ++ touched_by_unit A h.point u → IsOnWay A G behind more us whole
unfolding references_from
moved A F G refused behind pages more u us whole h goes is =
    let next = next_of A h.point u us h.runs in
    let there = goes next.0 next.1 in
    record {
      point = next.0;
      flat = there.0;
      last = there.1;
      runs = next.2;
      listed =
          ap (λ (l : List Page). l ++ references_from A (Some next.0) us) is
          ∙ append_assoc pages (touched_by_unit A h.point u) (references_from A (Some next.0) us)
          ∙ ap (λ (o : Option Point). pages ++ (touched_by_unit A h.point u ++ references_from A o us)) (sym next.1)
          ∙ h.listed;
    }

-- by an entry that completes a step of a process
pub step_on : (A : Inputs) (F G : FlatState) (refused : Option ℕ) (pages more : List Page) (u : Entry) (us : List Entry) (whole : List Page) (pid : ℕ)
    → IsStepEnd pid u
    → IsOnWay A F refused pages (u ∷ us) whole → G ≡ state_if (can_step F pid) F (flat_step A F pid (is_this refused pid))
    → ((point : Point) → point.flat ≡ F → more ≡ pages ++ touched_by_unit A point u) → IsOnWay A G None more us whole
step_on A F G refused pages more u us whole pid ends h is list =
    moved A F G refused None pages more u us whole h
    (λ next e.
    let b = beyond A h.point pid u next ends e in (
      b.flat
          ∙ ap₂ (λ (x : FlatState) (y : Bool). (flat_step A x pid y).after) h.flat (h.last pid)
          ∙ sym (is ∙ ap (λ (c : Bool). state_if c F (flat_step A F pid (is_this refused pid))) (ap (λ (x : FlatState). can_step x pid) (sym h.flat) ∙ b.can)),
      b.last,
    ))
    (list h.point h.flat)

on_both : {X E P Q R : Type 0} (r : Result X E) → (P → Q → R) → OnOk r P → OnOk r Q → OnOk r R
on_both (Ok x) f p q = f p q
on_both (Err e) f p q = tt

on_one : {X E P R : Type 0} (r : Result X E) → (P → R) → OnOk r P → OnOk r R
on_one (Ok x) f p = f p
on_one (Err e) f p = tt

-- by an entry whose instruction counts, where a step was made
pub counted_on : {X E : Type 0} (A : Inputs) (F G : FlatState) (refused behind : Option ℕ) (pages more : List Page) (e u : Entry) (us : List Entry)
    (whole : List Page) (pid : ℕ) (r : Result X E)
    → e ≡ u → IsStepEnd pid u → units_with u us ≡ u ∷ us → ((point : Point) → touched_by_unit A point u ≡ touched A point.flat pid)
    → IsOnWay A F refused pages (units_with e us) whole → behind ≡ None
    → OnOk r (G ≡ state_if (can_step F pid) F (flat_step A F pid (is_this refused pid))) → OnOk r (more ≡ pages ++ touched A F pid)
    → OnOk r (IsOnWay A G behind more us whole)
counted_on A F G refused behind pages more e u us whole pid r is ends one touches way none =
    let here = subst (λ (vs : List Entry). IsOnWay A F refused pages vs whole) (ap (λ (x : Entry). units_with x us) is ∙ one) way in
    on_both r (λ after list. subst (λ (o : Option ℕ). IsOnWay A G o more us whole) (sym none) (
    step_on A F G refused pages more u us whole pid ends here after
    (λ point flat. list ∙ ap (λ (l : List Page). pages ++ l) (ap (λ (x : FlatState). touched A x pid) (sym flat) ∙ sym (touches point)))
    ))

-- by another entry that completes a step
pub stepped_on : {X E : Type 0} (A : Inputs) (F G : FlatState) (refused behind : Option ℕ) (pages more : List Page) (e u : Entry) (us : List Entry)
    (whole : List Page) (pid : ℕ) (r : Result X E)
    → e ≡ u → IsStepEnd pid u → units_with u us ≡ u ∷ us → ((point : Point) → touched_by_unit A point u ≡ [])
    → IsOnWay A F refused pages (units_with e us) whole → behind ≡ None → more ≡ pages
    → OnOk r (G ≡ state_if (can_step F pid) F (flat_step A F pid (is_this refused pid))) → OnOk r (IsOnWay A G behind more us whole)
stepped_on A F G refused behind pages more e u us whole pid r is ends one none way free same =
    let here = subst (λ (vs : List Entry). IsOnWay A F refused pages vs whole) (ap (λ (x : Entry). units_with x us) is ∙ one) way in
    on_one r (λ after. subst (λ (o : Option ℕ). IsOnWay A G o more us whole) (sym free) (
    step_on A F G refused pages more u us whole pid ends here after
    (λ point flat. same ∙ sym (append-nil pages) ∙ ap (λ (l : List Page). pages ++ l) (sym (none point)))
    ))

module _ (A : Inputs) (F : FlatState) (refused : Option ℕ) (pages : List Page) where
  pub out_on : (p : ℕ) (bytes : List ℕ) (us : List Entry) (whole : List Page)
      → IsOnWay A F refused pages (entries.Out p bytes ∷ us) whole → IsOnWay A F None pages us whole
  out_on p bytes us whole h =
      moved A F F refused None pages pages (entries.Out p bytes) us whole h
      (λ next e. let s = stays A h.point p bytes next e in (s.0 ∙ h.flat, s.1)) (sym (append-nil pages))

  pub refused_on : (p : ℕ) (us : List Entry) (whole : List Page)
      → IsOnWay A F refused pages (entries.Refused p ∷ us) whole → IsOnWay A F (Some p) pages us whole
  refused_on p us whole h =
      moved A F F refused (Some p) pages pages (entries.Refused p) us whole h
      (λ next e.
      let is = sym (came A h.point next p (entries.Refused p) refl e).leads in
      (ap (λ (x : Point). x.flat) is ∙ h.flat, λ q. ap (λ (x : Point). is_refused x.last q) is))
      (sym (append-nil pages))

  one_skipped : (u : Entry) (us : List Entry) (whole : List Page) → ((point : Point) → flat_entry A point u ≡ Some point)
      → ((point : Point) → touched_by_unit A point u ≡ []) → IsOnWay A F refused pages (u ∷ us) whole → IsOnWay A F refused pages us whole
  one_skipped u us whole same none h =
      moved A F F refused refused pages pages u us whole h
      (λ next e.
      let is : h.point ≡ next = let k = same h.point in cc in
      subst (λ (x : Point). (x.flat ≡ F) × ((q : ℕ) → is_refused x.last q ≡ is_this refused q)) is (h.flat, h.last))
      (sym (append-nil pages) ∙ ap (λ (l : List Page). pages ++ l) (sym (none h.point)))

  -- by an entry that no process made
  pub skip_on : (e : Entry) (us : List Entry) (whole : List Page) → ((p n : ℕ) → e ≡ entries.Ran p n → ⊥)
      → ((p : ℕ) (bytes : List ℕ) → e ≡ entries.Out p bytes → ⊥) → ((p n : ℕ) → e ≡ entries.Grew p n → ⊥)
      → ((p n : ℕ) (carry : Bool) (r0 r1 : ℕ) → e ≡ entries.Call p n carry r0 r1 → ⊥) → ((p : ℕ) → e ≡ entries.Refused p → ⊥)
      → ((p : ℕ) → e ≡ entries.Sleeps p → ⊥) → ((p n : ℕ) → e ≡ entries.Ended p n → ⊥) → IsOnWay A F refused pages (units_with e us) whole
      → IsOnWay A F refused pages us whole
  unfolding flat_entry
  skip_on (entries.Ran pid n) us whole ran out grew call held sleeps ended h = absurd (ran pid n refl)
  skip_on (entries.Out pid bytes) us whole ran out grew call held sleeps ended h = absurd (out pid bytes refl)
  skip_on (entries.Grew pid n) us whole ran out grew call held sleeps ended h = absurd (grew pid n refl)
  skip_on (entries.Call pid number carry r0 r1) us whole ran out grew call held sleeps ended h = absurd (call pid number carry r0 r1 refl)
  skip_on (entries.Refused pid) us whole ran out grew call held sleeps ended h = absurd (held pid refl)
  skip_on (entries.Sleeps pid) us whole ran out grew call held sleeps ended h = absurd (sleeps pid refl)
  skip_on (entries.Ended pid status) us whole ran out grew call held sleeps ended h = absurd (ended pid status refl)
  skip_on (entries.Hands n) us whole ran out grew call held sleeps ended h = go n h
    where
      go : (k : ℕ) → IsOnWay A F refused pages (repeated (entries.Hands 1) k us) whole → IsOnWay A F refused pages us whole
      go zero m = m
      go (suc k) m = go k (one_skipped (entries.Hands 1) (repeated (entries.Hands 1) k us) whole (λ point. refl) (λ point. refl) m)
  skip_on e us whole ran out grew call held sleeps ended h = one_skipped e us whole (λ point. refl) (λ point. refl) h

-- A `Ran` instruction by instruction.

pub ran_next : (u : Entry) (n i : ℕ) (us : List Entry) → i < n → repeated u (n - i) us ≡ u ∷ repeated u (n - (i + 1)) us
ran_next u n i us below = let e : n - i ≡ suc (n - (i + 1)) = omega arith in ap (λ (k : ℕ). repeated u k us) e

pub ran_all : (u : Entry) (n i : ℕ) (us : List Entry) → n ≤ i → repeated u (n - i) us ≡ us
ran_all u n i us all = let e : n - i ≡ zero = omega arith in ap (λ (k : ℕ). repeated u k us) e

-- Where no front of the entries is bad, they are a run.

not_found : (test : ℕ → Bool) (from n k : ℕ) → find test (range_with_len from n) ≡ None → k < n → test (from + k) ≡ false
not_found test from zero k h below = absurd (omega arith)
not_found test from (suc n) k h below = go (not_found test (from + 1) n) (test from) refl h k below
  where
    go : ((j : ℕ) → find test (range_with_len (from + 1) n) ≡ None → j < n → test (from + 1 + j) ≡ false) → (b : Bool) → test from ≡ b
        → cond b (Some from) (find test (range_with_len (from + 1) n)) ≡ None → (j : ℕ) → j < suc n → test (from + j) ≡ false
    go more true e m j low = absurd cc
    go more false e m zero low = let same : from + zero ≡ from = omega arith in ap test same ∙ e
    go more false e m (suc j) low = let same : from + suc j ≡ from + 1 + j = omega arith in ap test same ∙ more j m (omega arith)

both_true : (a b : Bool) → not (a && b) ≡ false → a ≡ true
both_true true b h = refl
both_true false b h = absurd cc

pub run_of : (A : Inputs) (journal : List Entry) → first_bad A journal ≡ None → IsSome (flat_run A journal)
run_of A journal h =
    let all = not_found (λ (i : ℕ). not (is_run A (take i journal))) 0 (length journal + 1) (length journal) h (omega arith) in
    let e : 0 + length journal ≡ length journal = omega arith in
    let whole = ap (λ (i : ℕ). take i journal) e ∙ take_all (length journal) journal (omega arith) in
    both_true (is_some (flat_run A journal)) (nat_le (instructions_of journal) instruction_limit)
    (sym (ap (λ (es : List Entry). not (is_run A es)) whole) ∙ all)

-- at the start of a run all is still to come
pub start_on : (A : Inputs) (F : FlatState) (refused : Option ℕ) (pages : List Page) (journal : List Entry) → first_bad A journal ≡ None
    → F ≡ start_state A → refused ≡ None → pages ≡ []
    → IsOnWay A F refused pages (units_of journal) (references_of A journal)
start_on A F refused pages journal h state none empty = record {
  point = start_point A;
  flat = sym state;
  last = λ q. sym (ap (λ (o : Option ℕ). is_this o q) none);
  runs = run_of A journal h;
  listed = ap (λ (l : List Page). l ++ references_of A journal) empty;
}

pub end_on : (A : Inputs) (F : FlatState) (refused : Option ℕ) (pages : List Page) (units : List Entry) (whole : List Page) → units ≡ []
    → IsOnWay A F refused pages units whole → pages ≡ whole
unfolding references_from
end_on A F refused pages units whole e h =
    sym (append-nil pages) ∙ sym (ap (λ (us : List Entry). pages ++ references_from A (Some h.point) us) e) ∙ h.listed
