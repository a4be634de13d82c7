-- The processes and the spaces of a flat state, where one process gives way to another.
use Rattle.std.proofs.Common.{◌≡◌, ◌≢◌, inl, inr, ℕ, ◌==◌, Bool, cond, List, [], ◌∷◌, ◌++◌, map, Option, Some, None, refl, sym, ap, ◌∙◌, subst, append_assoc}
use Rattle.std.specs.Prelude.{flat_map, find}
use Rattle.std.proofs.lemmas.Bool.{cases_eq, ne_eqb}
use Rattle.flat_state.specs.Space.{Space}
use Rattle.flat_state.specs.Flat.{Holding, Holds, Process, space_held}
use Rattle.flat_state.specs.Change.{replaced, replaced_by}
use Rattle.page_model.specs.Pages.{numbered}
use Rattle.flat_state.specs.Numbers.{AllDistinct}
use Rattle.page_laws.proofs.Lists.Local.{none_some}
use Rattle.std.proofs.lemmas.Option.{same_Some}
use Rattle.kernel_laws.proofs.Flat.Numbered.{has_number, or_else, numbered_append, absent_none, distinct_append}
use Rattle.page_laws.proofs.Lists.Pages.{numbered_hit, numbered_miss}
use Rattle.vm_facts.proofs.Tests.{eq_self}

abbrev pub pid_of : Process → ℕ
pid_of q = q.pid

abbrev pub sid_of : Space → ℕ
sid_of s = s.sid

abbrev pub held : List Process → List Space
held ps = flat_map (λ (q : Process). space_held q.holding) ps

pub found_is : (ps : List Process) (pid : ℕ) → find (λ (q : Process). q.pid == pid) ps ≡ numbered pid_of pid ps
found_is [] pid = refl
found_is (p ∷ ps) pid = ap (λ (o : Option Process). cond (p.pid == pid) (Some p) o) (found_is ps pid)

-- the process with its neighbours, and the list once it gave way
pub record Parts (ps : List Process) (q p : Process) : Type 0 where
  pub front : List Process
  pub back : List Process
  pub old : ps ≡ front ++ q ∷ back
  pub new : replaced ps p ≡ front ++ p ∷ back

pub parts_at : (ps : List Process) (q p : Process) → numbered pid_of p.pid ps ≡ Some q → Parts ps q p
unfolding replaced
parts_at [] q p e = none_some q e
parts_at (x ∷ xs) q p e = elim (cases_eq x.pid p.pid) [
  | inl h ↦ record {
    front = [];
    back = xs;
    old = ap (λ (y : Process). y ∷ xs) (same_Some x q (sym (numbered_hit pid_of p.pid x xs h) ∙ e));
    new = ap (λ (b : Bool). replaced_by b p x xs (replaced xs p)) (ap (λ (n : ℕ). n == p.pid) h ∙ eq_self p.pid);
  }
  | inr n ↦ (let r : Parts xs q p = parts_at xs q p (sym (numbered_miss pid_of p.pid x xs n) ∙ e) in
      record {
        front = x ∷ r.front;
        back = r.back;
        old = ap (λ (ys : List Process). x ∷ ys) r.old;
        new = ap (λ (b : Bool). replaced_by b p x xs (replaced xs p)) (ne_eqb x.pid p.pid n) ∙ ap (λ (ys : List Process). x ∷ ys) r.new;
      })
]

pub replaced_at : (ps : List Process) (q p : Process) → numbered pid_of p.pid ps ≡ Some q → numbered pid_of p.pid (replaced ps p) ≡ Some p
unfolding replaced
replaced_at [] q p e = none_some q e
replaced_at (x ∷ xs) q p e = elim (cases_eq x.pid p.pid) [
  | inl h ↦ ap (λ (b : Bool). numbered pid_of p.pid (replaced_by b p x xs (replaced xs p))) (ap (λ (n : ℕ). n == p.pid) h ∙ eq_self p.pid) ∙ numbered_hit pid_of p.pid p xs refl
  | inr n ↦ ap (λ (b : Bool). numbered pid_of p.pid (replaced_by b p x xs (replaced xs p))) (ne_eqb x.pid p.pid n) ∙ numbered_miss pid_of p.pid x (replaced xs p) n
      ∙ replaced_at xs q p (sym (numbered_miss pid_of p.pid x xs n) ∙ e)
]

pub replaced_not : (ps : List Process) (p : Process) (n : ℕ) → n ≢ p.pid → numbered pid_of n (replaced ps p) ≡ numbered pid_of n ps
unfolding replaced
replaced_not [] p n d = refl
replaced_not (x ∷ xs) p n d = elim (cases_eq x.pid p.pid) [
  | inl h ↦ ap (λ (b : Bool). numbered pid_of n (replaced_by b p x xs (replaced xs p))) (ap (λ (m : ℕ). m == p.pid) h ∙ eq_self p.pid)
      ∙ numbered_miss pid_of n p xs (λ k. d (sym k)) ∙ sym (numbered_miss pid_of n x xs (λ k. d (sym k ∙ h)))
  | inr m ↦ ap (λ (b : Bool). numbered pid_of n (replaced_by b p x xs (replaced xs p))) (ne_eqb x.pid p.pid m)
      ∙ ap (λ (o : Option Process). cond (x.pid == n) (Some x) o) (replaced_not xs p n d)
]

-- Spaces.

pub held-append : (xs ys : List Process) → held (xs ++ ys) ≡ held xs ++ held ys
held-append [] ys = refl
held-append (x ∷ xs) ys = ap (λ (l : List Space). space_held x.holding ++ l) (held-append xs ys) ∙ sym (append_assoc (space_held x.holding) (held xs) (held ys))

pub held_parts : (xs : List Process) (p : Process) (ys : List Process) → held (xs ++ p ∷ ys) ≡ held xs ++ (space_held p.holding ++ held ys)
held_parts xs p ys = held-append xs (p ∷ ys)

-- a process with the same holding leaves all spaces
pub same_held : (ps : List Process) (q p : Process) → numbered pid_of p.pid ps ≡ Some q → p.holding ≡ q.holding → held (replaced ps p) ≡ held ps
same_held ps q p e h =
    let r : Parts ps q p = parts_at ps q p e in
    ap held r.new ∙ held_parts r.front p r.back ∙ ap (λ (x : Holding). held r.front ++ (space_held x ++ held r.back)) h ∙ sym (held_parts r.front q r.back) ∙ sym (ap held r.old)

-- The space of one process.

-- the spaces before and after that of a process, which have other numbers
pub record HeldAt (ps : List Process) (p : Process) (s : Space) : Type 0 where
  pub front : List Space
  pub back : List Space
  pub old : held ps ≡ front ++ s ∷ back
  pub new : held (replaced ps p) ≡ front ++ (space_held p.holding ++ back)
  pub in_front : numbered sid_of s.sid front ≡ None
  pub in_back : numbered sid_of s.sid back ≡ None

pub sids-append : (xs ys : List Space) → map sid_of (xs ++ ys) ≡ map sid_of xs ++ map sid_of ys
sids-append [] ys = refl
sids-append (x ∷ xs) ys = ap (λ (l : List ℕ). x.sid ∷ l) (sids-append xs ys)

pub held_at : (ps : List Process) (q p : Process) (s : Space) → numbered pid_of p.pid ps ≡ Some q → q.holding ≡ Holds s
    → AllDistinct (map sid_of (held ps)) → HeldAt ps p s
held_at ps q p s e h d =
    let r : Parts ps q p = parts_at ps q p e in
    let old : held ps ≡ held r.front ++ s ∷ held r.back = ap held r.old ∙ held_parts r.front q r.back ∙ ap (λ (x : Holding). held r.front ++ (space_held x ++ held r.back)) h in
    let n = distinct_append (map sid_of (held r.front)) s.sid (map sid_of (held r.back)) (subst AllDistinct (ap (map sid_of) old ∙ sids-append (held r.front) (s ∷ held r.back)) d) in
    record {
      front = held r.front;
      back = held r.back;
      old = old;
      new = ap held r.new ∙ held_parts r.front p r.back;
      in_front = absent_none sid_of s.sid (held r.front) n.0;
      in_back = absent_none sid_of s.sid (held r.back) n.1;
    }

pub three : (n : ℕ) (xs ys zs : List Space)
    → numbered sid_of n (xs ++ (ys ++ zs)) ≡ or_else (numbered sid_of n xs) (or_else (numbered sid_of n ys) (numbered sid_of n zs))
three n xs ys zs = numbered_append sid_of n xs (ys ++ zs) ∙ ap (or_else (numbered sid_of n xs)) (numbered_append sid_of n ys zs)

-- the space is found by its number
pub held_own : (ps : List Process) (p : Process) (s : Space) → HeldAt ps p s → numbered sid_of s.sid (held ps) ≡ Some s
held_own ps p s a =
    ap (numbered sid_of s.sid) a.old ∙ three s.sid a.front (s ∷ []) a.back ∙ ap (λ (o : Option Space). or_else o (or_else (numbered sid_of s.sid (s ∷ [])) (numbered sid_of s.sid a.back))) a.in_front
    ∙ ap (λ (o : Option Space). or_else o (numbered sid_of s.sid a.back)) (numbered_hit sid_of s.sid s [] refl)

-- another space is as it was
pub held_other : (ps : List Process) (p : Process) (s : Space) (n : ℕ) → HeldAt ps p s → n ≢ s.sid → numbered sid_of n (space_held p.holding) ≡ None
    → numbered sid_of n (held (replaced ps p)) ≡ numbered sid_of n (held ps)
held_other ps p s n a d e =
    ap (numbered sid_of n) a.new ∙ three n a.front (space_held p.holding) a.back
    ∙ ap (λ (o : Option Space). or_else (numbered sid_of n a.front) (or_else o (numbered sid_of n a.back))) (e ∙ sym (numbered_miss sid_of n s [] (λ h. d (sym h))))
    ∙ sym (three n a.front (s ∷ []) a.back) ∙ sym (ap (numbered sid_of n) a.old)

-- the number has what the process holds now
pub held_now : (ps : List Process) (p : Process) (s : Space) → HeldAt ps p s
    → numbered sid_of s.sid (held (replaced ps p)) ≡ numbered sid_of s.sid (space_held p.holding)
held_now ps p s a =
    ap (numbered sid_of s.sid) a.new ∙ three s.sid a.front (space_held p.holding) a.back
    ∙ ap (λ (o : Option Space). or_else o (or_else (numbered sid_of s.sid (space_held p.holding)) (numbered sid_of s.sid a.back))) a.in_front
    ∙ ap (or_else (numbered sid_of s.sid (space_held p.holding))) a.in_back ∙ or_none (numbered sid_of s.sid (space_held p.holding))
  where
    or_none : (o : Option Space) → or_else o None ≡ o
    or_none None = refl
    or_none (Some x) = refl

-- a number that no space had
pub held_new : (ps : List Process) (p : Process) (s : Space) (n : ℕ) → HeldAt ps p s → numbered sid_of n (held ps) ≡ None
    → numbered sid_of n (held (replaced ps p)) ≡ numbered sid_of n (space_held p.holding)
held_new ps p s n a e =
    let f : or_else (numbered sid_of n a.front) (or_else (numbered sid_of n (s ∷ [])) (numbered sid_of n a.back)) ≡ None =
    sym (three n a.front (s ∷ []) a.back) ∙ sym (ap (numbered sid_of n) a.old) ∙ e in
    let x : numbered sid_of n a.front ≡ None = first_none (numbered sid_of n a.front) (or_else (numbered sid_of n (s ∷ [])) (numbered sid_of n a.back)) f in
    let y : or_else (numbered sid_of n (s ∷ [])) (numbered sid_of n a.back) ≡ None =
    sym (ap (λ (o : Option Space). or_else o (or_else (numbered sid_of n (s ∷ [])) (numbered sid_of n a.back))) x) ∙ f in
    let z : numbered sid_of n a.back ≡ None = sym (ap (λ (o : Option Space). or_else o (numbered sid_of n a.back)) (first_none (numbered sid_of n (s ∷ [])) (numbered sid_of n a.back) y)) ∙ y in
    ap (numbered sid_of n) a.new ∙ three n a.front (space_held p.holding) a.back
    ∙ ap (λ (o : Option Space). or_else o (or_else (numbered sid_of n (space_held p.holding)) (numbered sid_of n a.back))) x
    ∙ ap (or_else (numbered sid_of n (space_held p.holding))) z ∙ or_none (numbered sid_of n (space_held p.holding))
  where
    first_none : (o r : Option Space) → or_else o r ≡ None → o ≡ None
    first_none None r h = refl
    first_none (Some x) r h = absurd cc

    or_none : (o : Option Space) → or_else o None ≡ o
    or_none None = refl
    or_none (Some x) = refl

-- a process that held nothing gets a space that nobody has
pub held_gain : (ps : List Process) (m p : Process) (s : Space) → numbered pid_of p.pid ps ≡ Some m → space_held m.holding ≡ [] → p.holding ≡ Holds s
    → numbered sid_of s.sid (held ps) ≡ None
    → (numbered sid_of s.sid (held (replaced ps p)) ≡ Some s) × ((n : ℕ) → n ≢ s.sid → numbered sid_of n (held (replaced ps p)) ≡ numbered sid_of n (held ps))
held_gain ps m p s e h i z =
    let r : Parts ps m p = parts_at ps m p e in
    let front : List Space = held r.front in
    let back : List Space = held r.back in
    let old : held ps ≡ front ++ back = ap held r.old ∙ held_parts r.front m r.back ∙ ap (λ (l : List Space). front ++ (l ++ back)) h in
    let new : held (replaced ps p) ≡ front ++ ((s ∷ []) ++ back) = ap held r.new ∙ held_parts r.front p r.back ∙ ap (λ (x : Holding). front ++ (space_held x ++ back)) i in
    let own : numbered sid_of s.sid (held (replaced ps p)) ≡ Some s = ap (numbered sid_of s.sid) new ∙ three s.sid front (s ∷ []) back
    ∙ ap (λ (o : Option Space). or_else o (or_else (numbered sid_of s.sid (s ∷ [])) (numbered sid_of s.sid back)))
    (first_none (numbered sid_of s.sid front) (numbered sid_of s.sid back) (sym (numbered_append sid_of s.sid front back) ∙ sym (ap (numbered sid_of s.sid) old) ∙ z))
    ∙ ap (λ (o : Option Space). or_else o (numbered sid_of s.sid back)) (numbered_hit sid_of s.sid s [] refl) in
    let other : (n : ℕ) → n ≢ s.sid → numbered sid_of n (held (replaced ps p)) ≡ numbered sid_of n (held ps) = λ n d.
    ap (numbered sid_of n) new ∙ three n front (s ∷ []) back
    ∙ ap (λ (o : Option Space). or_else (numbered sid_of n front) (or_else o (numbered sid_of n back))) (numbered_miss sid_of n s [] (λ x. d (sym x)))
    ∙ sym (numbered_append sid_of n front back) ∙ sym (ap (numbered sid_of n) old) in
    (own, other)
  where
    first_none : (o x : Option Space) → or_else o x ≡ None → o ≡ None
    first_none None x y = refl
    first_none (Some w) x y = absurd cc

-- the same numbers
pub replaced_pids : (ps : List Process) (q p : Process) → numbered pid_of p.pid ps ≡ Some q → map pid_of (replaced ps p) ≡ map pid_of ps
replaced_pids ps q p e =
    let r : Parts ps q p = parts_at ps q p e in
    ap (map pid_of) r.new ∙ go r.front r.back ∙ sym (ap (map pid_of) r.old)
  where
    go : (xs ys : List Process) → map pid_of (xs ++ p ∷ ys) ≡ map pid_of (xs ++ q ∷ ys)
    go [] ys = ap (λ (n : ℕ). n ∷ map pid_of ys) (sym (has_number pid_of p.pid ps q e))
    go (x ∷ xs) ys = ap (λ (l : List ℕ). x.pid ∷ l) (go xs ys)
