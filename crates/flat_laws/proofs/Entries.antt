-- Which entry comes next is determined.
use Rattle.std.proofs.Common.{◌≡◌, ℕ, ◌==◌, Bool, true, false, ◌&&◌, List, [], ◌∷◌, bytes_eq, Option, Some, refl, sym, ap, ◌∙◌, if◌then◌else◌}
use Rattle.std.proofs.lemmas.Slice.Eq.{bytes_eq-Decides}
use Rattle.std.proofs.lemmas.Bool.{eqb-true, and_parts}
use Rattle.flat_state.specs.Flat.{FlatState, Inputs, can_step}
use Rattle.vm_facts.specs.declared.entry.Entry.{Entry}
use Rattle.vm_facts.specs.declared.entry.Entry.TheVariants as entries
use Rattle.flat_model.specs.Step.{Step, flat_step}
use Rattle.flat_model.specs.Run.{Point, is_refused, step_at, behind_first, due, due_at, first_if, entry_of_step, same_carry, same_entry, is_first_of, process_of_entry, is_due, ComesAt, flat_entry}
use Rattle.flat_model.proofs.Coming.{came}
use Rattle.flat_laws.specs.Others.{is_refusal, is_writing}

-- By the state.

abbrev due_by : Bool → List Entry → List Entry
due_by true es = behind_first es
due_by false es = es

-- what is due depends on whether bytes are out alone
due_same : (last : Option Entry) (pid : ℕ) (es : List Entry) → due last pid es ≡ due_by (is_writing last pid) es
due_same (Some (entries.Out p bytes)) pid es = go (p == pid)
  where
    go : (b : Bool) → (if b then behind_first es else es) ≡ due_by b es
    go true = refl
    go false = refl
due_same _ pid es = refl

pub next_same : (A : Inputs) (point other : Point) (pid : ℕ) → other.flat ≡ point.flat → is_refused other.last pid ≡ is_refused point.last pid
    → is_writing other.last pid ≡ is_writing point.last pid → entry_of_step A other pid ≡ entry_of_step A point pid
next_same A point other pid flat refused writing =
    let step : step_at A other pid ≡ step_at A point pid =
    ap (λ (F : FlatState). flat_step A F pid (is_refused other.last pid)) flat ∙ ap (λ (b : Bool). flat_step A point.flat pid b) refused in
    let es : due_at A other pid ≡ due_at A point pid =
    due_same other.last pid (step_at A other pid).entries
    ∙ ap (λ (b : Bool). due_by b (step_at A other pid).entries) writing
    ∙ ap (λ (s : Step). due_by (is_writing point.last pid) s.entries) step
    ∙ sym (due_same point.last pid (step_at A point pid).entries) in
    ap (λ (F : FlatState). first_if (can_step F pid) (due_at A other pid)) flat ∙ ap (λ (xs : List Entry). first_if (can_step point.flat pid) xs) es

-- Entries that are the same.

pub carry_is : (a b : Bool) → same_carry a b ≡ true → a ≡ b
carry_is true true h = refl
carry_is false false h = refl
carry_is true false h = absurd cc
carry_is false true h = absurd cc

pub entry_is : (e f : Entry) → same_entry e f ≡ true → e ≡ f
entry_is (entries.Ran a n) (entries.Ran b m) h =
    let parts = and_parts (a == b) (n == m) h in
    ap (λ (x : ℕ). entries.Ran x n) (eqb-true a b parts.0) ∙ ap (λ (x : ℕ). entries.Ran b x) (eqb-true n m parts.1)
entry_is (entries.Grew a n) (entries.Grew b m) h =
    let parts = and_parts (a == b) (n == m) h in
    ap (λ (x : ℕ). entries.Grew x n) (eqb-true a b parts.0) ∙ ap (λ (x : ℕ). entries.Grew b x) (eqb-true n m parts.1)
entry_is (entries.Ended a n) (entries.Ended b m) h =
    let parts = and_parts (a == b) (n == m) h in
    ap (λ (x : ℕ). entries.Ended x n) (eqb-true a b parts.0) ∙ ap (λ (x : ℕ). entries.Ended b x) (eqb-true n m parts.1)
entry_is (entries.Out a xs) (entries.Out b ys) h =
    let parts = and_parts (a == b) (bytes_eq xs ys) h in
    ap (λ (x : ℕ). entries.Out x xs) (eqb-true a b parts.0) ∙ ap (λ (x : List ℕ). entries.Out b x) ((bytes_eq-Decides xs ys).0 parts.1)
entry_is (entries.Sleeps a) (entries.Sleeps b) h = ap (λ (x : ℕ). entries.Sleeps x) (eqb-true a b h)
entry_is (entries.Call a n c r0 r1) (entries.Call b m d s0 s1) h =
    let p = and_parts (a == b) (n == m && (same_carry c d && (r0 == s0 && r1 == s1))) h in
    let q = and_parts (n == m) (same_carry c d && (r0 == s0 && r1 == s1)) p.1 in
    let r = and_parts (same_carry c d) (r0 == s0 && r1 == s1) q.1 in
    let s = and_parts (r0 == s0) (r1 == s1) r.1 in
    ap (λ (x : ℕ). entries.Call x n c r0 r1) (eqb-true a b p.0) ∙ ap (λ (x : ℕ). entries.Call b x c r0 r1) (eqb-true n m q.0)
    ∙ ap (λ (x : Bool). entries.Call b m x r0 r1) (carry_is c d r.0) ∙ ap (λ (x : ℕ). entries.Call b m d x r1) (eqb-true r0 s0 s.0)
    ∙ ap (λ (x : ℕ). entries.Call b m d s0 x) (eqb-true r1 s1 s.1)
entry_is _ _ h = absurd cc

-- An entry that may come next is the one that the step gives.

due_first : (A : Inputs) (point : Point) (pid : ℕ) (e : Entry) → is_refusal e ≡ false → is_due A point pid e ≡ true
    → is_first_of (due_at A point pid) e ≡ true
due_first A point pid (entries.Refused q) plain h = absurd cc
due_first A point pid e plain h = h

same_first : (es : List Entry) (e f : Entry) → is_first_of es e ≡ true → is_first_of es f ≡ true → e ≡ f
same_first [] e f h k = absurd cc
same_first (first ∷ es) e f h k = sym (entry_is first e h) ∙ entry_is first f k

pub one_entry : (A : Inputs) (point p q : Point) (pid : ℕ) (e f : Entry) → process_of_entry e ≡ Some pid → process_of_entry f ≡ Some pid
    → is_refusal e ≡ false → is_refusal f ≡ false
    → flat_entry A point e ≡ Some p → flat_entry A point f ≡ Some q → e ≡ f
one_entry A point p q pid e f of_e of_f plain_e plain_f h k =
    let x : ComesAt A point pid e = (came A point p pid e of_e h).comes in
    let y : ComesAt A point pid f = (came A point q pid f of_f k).comes in
    same_first (due_at A point pid) e f (due_first A point pid e plain_e x.next) (due_first A point pid f plain_f y.next)
