-- The records of the processes hold what they are to hold, once a process has come, has ended, or has passed its space.
use Rattle.std.proofs.Common.{◌≡◌, ◌≢◌, inl, inr, ℕ, ◌+◌, ◌<◌, ◌≤◌, ◌==◌, Bool, true, false, List, Option, Some, None, refl, sym, ap, ◌∙◌, subst, arith}
use Rattle.std.specs.List.{list_any}
use Rattle.std.proofs.lemmas.Bool.{cases_eq, false_from_ne_true}
use Rattle.std.proofs.lemmas.Option.{same_Some}
use Rattle.proc_table.specs.declared.process.Proc.{Proc as Record}
use Rattle.proc_table.specs.declared.process.Life.{Life as RecordLife}
use Rattle.proc_table.specs.declared.process.Life.TheVariants as lives
use Rattle.proc_table.specs.Records.{find, Changes, IsProcTable}
use Rattle.kernel_laws.proofs.Local.{none_some}
use Rattle.kernel_tables.specs.Alike.{lends_to_by, lends_to, is_borrower_in, HoldsBorrowed, AreRecords}
use Rattle.kernel_tables.specs.Families.{left_life, left_by, left_in, IsAlone}
use Rattle.kernel_tables.proofs.Records.{any_found, found_any, both_or_neither}
use Rattle.kernel_tables.proofs.Recorded.{StandsFor, Comes, stand_records}

pub true_false : {A : Type 0} (b : Bool) → b ≡ true → b ≡ false → A
true_false b t f = absurd (let z : true ≡ false = sym t ∙ f in cc)

-- Records that neither lend nor borrow.

pub alone_stands : (p q : Record) → IsAlone p → IsAlone q → StandsFor p q
alone_stands p q a b = record {
  lends = λ n. a.lends n ∙ sym (b.lends n);
  borrowed = a.borrows ∙ sym b.borrows;
  holds = λ t. true_false p.borrowed t a.borrows;
}

pub zombie_alone : (ps : List Record) (next pid : ℕ) (p : Record) (status : ℕ) → AreRecords ps next → find pid ps ≡ Some p
    → p.state ≡ lives.Zombie status → IsAlone p
zombie_alone ps next pid p status h f e = record {
  lends = λ n. ap (lends_to_by n) e;
  borrows = false_from_ne_true p.borrowed (λ t. subst HoldsBorrowed e (h.holds pid p f t));
}

-- One more.

pub unknown : (ps : List Record) (next : ℕ) → AreRecords ps next → find next ps ≡ None
unknown ps next h = go (find next ps) refl
  where
    go : (o : Option Record) → find next ps ≡ o → o ≡ None
    go None e = refl
    go (Some p) e = absurd (let b = h.known next p e in omega (arith, b.1))

pub added_records : (old new : List Record) (next : ℕ) (p : Record) → AreRecords old next → IsProcTable new → Changes old new next (Some p)
    → IsAlone p → AreRecords new (next + 1)
added_records old new next p h after c a =
    let is_new : (k : ℕ) (q : Record) → k ≡ next → find k new ≡ Some q → p ≡ q = λ k q i e. same_Some p q (sym c.changed ∙ ap (λ (l : ℕ). find l new) (sym i) ∙ e) in
    -- who lends was there
    let before : (n k : ℕ) (q : Record) → find k new ≡ Some q → lends_to n q ≡ true → find k old ≡ Some q = λ n k q e s. elim (cases_eq k next) [
      | inl i ↦ true_false (lends_to n q) s (ap (lends_to n) (sym (is_new k q i e)) ∙ a.lends n)
      | inr d ↦ sym (c.others k d) ∙ e
    ] in
    let not_next : (k : ℕ) (q : Record) → find k old ≡ Some q → k ≢ next = λ k q e i. none_some q (sym (unknown old next h) ∙ ap (λ (l : ℕ). find l old) (sym i) ∙ e) in
    let lenders : (n : ℕ) → list_any (lends_to n) new ≡ list_any (lends_to n) old = λ n. both_or_neither (list_any (lends_to n) new) (list_any (lends_to n) old)
    (λ t. let x = any_found (lends_to n) new after.apart t in found_any (lends_to n) old x.0.pid x.0 (before n x.0.pid x.0 x.1 x.2) x.2)
    (λ t. let x = any_found (lends_to n) old h.table.apart t in found_any (lends_to n) new x.0.pid x.0 (c.others x.0.pid (not_next x.0.pid x.0 x.1) ∙ x.1) x.2) in
    let borrowers : (n : ℕ) → is_borrower_in (find n new) ≡ is_borrower_in (find n old) = λ n. elim (cases_eq n next) [
      | inl i ↦
          ap is_borrower_in (ap (λ (l : ℕ). find l new) i ∙ c.changed) ∙ a.borrows ∙ sym (ap is_borrower_in (ap (λ (l : ℕ). find l old) i ∙ unknown old next h))
      | inr d ↦ ap is_borrower_in (c.others n d)
    ] in
    let known : (k : ℕ) (q : Record) → find k new ≡ Some q → (1 ≤ k) × (k < next + 1) = λ k q e. elim (cases_eq k next) [
      | inl i ↦ (let l = h.first in omega arith, omega arith)
      | inr d ↦ let b = h.known k q (sym (c.others k d) ∙ e) in (b.0, omega (arith, b.1))
    ] in
    let holds : (k : ℕ) (q : Record) → find k new ≡ Some q → q.borrowed ≡ true → HoldsBorrowed q.state = λ k q e t. elim (cases_eq k next) [
      | inl i ↦ true_false q.borrowed t (ap (λ (x : Record). x.borrowed) (sym (is_new k q i e)) ∙ a.borrows)
      | inr d ↦ h.holds k q (sym (c.others k d) ∙ e) t
    ] in
    record {
      table = after;
      first = let l = h.first in omega arith;
      known = known;
      marked = λ n. borrowers n ∙ h.marked n ∙ sym (lenders n);
      one = λ n x y q r e f s t. h.one n x y q r (before n x q e s) (before n y r f t) s t;
      holds = holds;
    }

-- The children of one have left it.

module _ (old new : List Record) (next pid : ℕ) (h : AreRecords old next) (after : IsProcTable new) (left : (n : ℕ) → find n new ≡ left_in pid (find n old)) where
  stays : (k : ℕ) (q : Record) → find k old ≡ Some q → StandsFor (record q { parent = 0 }) q
  stays k q e = record { lends = λ n. refl; borrowed = refl; holds = h.holds k q e }

  itself : (k : ℕ) (q : Record) → find k old ≡ Some q → StandsFor q q
  itself k q e = record { lends = λ n. refl; borrowed = refl; holds = h.holds k q e }

  comes_life : (k : ℕ) (q : Record) (l : RecordLife) → find k old ≡ Some q → q.state ≡ l → Comes (left_life q l) q
  comes_life k q (lives.Zombie status) e s = zombie_alone old next k q status h e s
  comes_life k q _ e s = stays k q e

  comes_by : (k : ℕ) (q : Record) (b : Bool) → find k old ≡ Some q → Comes (left_by b q) q
  comes_by k q true e = comes_life k q q.state e refl
  comes_by k q false e = itself k q e

  back : (k : ℕ) (p : Record) → find k new ≡ Some p → (q : Record) × (find k old ≡ Some q) × StandsFor p q
  back k p e = go (find k old) refl (sym (left k) ∙ e)
    where
      go : (o : Option Record) → find k old ≡ o → left_in pid o ≡ Some p → (q : Record) × (find k old ≡ Some q) × StandsFor p q
      go None f s = none_some p s
      go (Some q) f s = (q, f, subst (λ (x : Option Record). Comes x q) s (comes_by k q (q.parent == pid) f))

  pub left_records : AreRecords new next
  left_records = stand_records old new next h after back (λ k q e. subst (λ (x : Option Record). Comes x q) (sym (left k ∙ ap (left_in pid) e)) (comes_by k q (q.parent == pid) e))

-- A space has passed.

-- a record in the place of another where it may lend to this one otherwise
pub record Follows (m k : ℕ) (p q : Record) : Type 0 where
  pub lends : (n : ℕ) → n ≢ m → lends_to n p ≡ lends_to n q
  pub borrowed : k ≢ m → p.borrowed ≡ q.borrowed
  pub holds : p.borrowed ≡ true → HoldsBorrowed p.state

module _ (old new : List Record) (next m from to : ℕ) (g b giver taker : Record) (h : AreRecords old next) (after : IsProcTable new) (apart : from ≢ to)
    (gave : find from old ≡ Some g) (took : find to old ≡ Some b) (gives : find from new ≡ Some giver) (takes : find to new ≡ Some taker)
    (others : (n : ℕ) → n ≢ from → n ≢ to → find n new ≡ find n old) (gf : Follows m from giver g) (tf : Follows m to taker b) where
  at_new : (k a : ℕ) (x p : Record) → find a new ≡ Some x → k ≡ a → find k new ≡ Some p → x ≡ p
  at_new k a x p e i f = same_Some x p (sym e ∙ ap (λ (l : ℕ). find l new) (sym i) ∙ f)

  at_old : (k a : ℕ) (x p : Record) → find a old ≡ Some x → k ≡ a → find k old ≡ Some p → x ≡ p
  at_old k a x p e i f = same_Some x p (sym e ∙ ap (λ (l : ℕ). find l old) (sym i) ∙ f)

  same : (k : ℕ) (p : Record) → find k old ≡ Some p → Follows m k p p
  same k p e = record { lends = λ n d. refl; borrowed = λ d. refl; holds = h.holds k p e }

  pub passed_back : (k : ℕ) (p : Record) → find k new ≡ Some p → (q : Record) × (find k old ≡ Some q) × Follows m k p q
  passed_back k p e = elim (cases_eq k from) [
    | inl i ↦
        (g, ap (λ (l : ℕ). find l old) i ∙ gave, subst (λ (l : ℕ). Follows m l p g) (sym i) (subst (λ (x : Record). Follows m from x g) (at_new k from giver p gives i e) gf))
    | inr d ↦ elim (cases_eq k to) [
      | inl i ↦
          (b, ap (λ (l : ℕ). find l old) i ∙ took, subst (λ (l : ℕ). Follows m l p b) (sym i) (subst (λ (x : Record). Follows m to x b) (at_new k to taker p takes i e) tf))
      | inr c ↦ let f : find k old ≡ Some p = sym (others k d c) ∙ e in (p, f, same k p f)
    ]
  ]

  pub passed_forth : (k : ℕ) (q : Record) → find k old ≡ Some q → (p : Record) × (find k new ≡ Some p) × Follows m k p q
  passed_forth k q e = elim (cases_eq k from) [
    | inl i ↦
        (giver, ap (λ (l : ℕ). find l new) i ∙ gives, subst (λ (l : ℕ). Follows m l giver q) (sym i) (subst (Follows m from giver) (at_old k from g q gave i e) gf))
    | inr d ↦ elim (cases_eq k to) [
      | inl i ↦
          (taker, ap (λ (l : ℕ). find l new) i ∙ takes, subst (λ (l : ℕ). Follows m l taker q) (sym i) (subst (Follows m to taker) (at_old k to b q took i e) tf))
      | inr c ↦ (q, others k d c ∙ e, same k q e)
    ]
  ]

  lenders : (n : ℕ) → n ≢ m → list_any (lends_to n) new ≡ list_any (lends_to n) old
  lenders n d = both_or_neither (list_any (lends_to n) new) (list_any (lends_to n) old)
      (λ t. let x = any_found (lends_to n) new after.apart t in let y = passed_back x.0.pid x.0 x.1 in found_any (lends_to n) old x.0.pid y.0 y.1 (sym (y.2.lends n d) ∙ x.2))
      (λ t. let x = any_found (lends_to n) old h.table.apart t in let y = passed_forth x.0.pid x.0 x.1 in found_any (lends_to n) new x.0.pid y.0 y.1 (y.2.lends n d ∙ x.2))

  borrowers : (n : ℕ) → n ≢ m → is_borrower_in (find n new) ≡ is_borrower_in (find n old)
  borrowers n d = go (find n new) (find n old) refl refl
    where
      go : (o w : Option Record) → find n new ≡ o → find n old ≡ w → is_borrower_in o ≡ is_borrower_in w
      go None None e f = refl
      go None (Some q) e f = let x = passed_forth n q f in none_some x.0 (sym e ∙ x.1)
      go (Some p) w e f = let x = passed_back n p e in x.2.borrowed d ∙ ap is_borrower_in (sym x.1 ∙ f)

  pub follow_records : is_borrower_in (find m new) ≡ list_any (lends_to m) new
      → ((x y : ℕ) (p q : Record) → find x new ≡ Some p → find y new ≡ Some q → lends_to m p ≡ true → lends_to m q ≡ true → x ≡ y) → AreRecords new next
  follow_records marked one = record {
    table = after;
    first = h.first;
    known = λ k p e. let x = passed_back k p e in h.known k x.0 x.1;
    marked = λ n. elim (cases_eq n m) [
      | inl i ↦ subst (λ (l : ℕ). is_borrower_in (find l new) ≡ list_any (lends_to l) new) (sym i) marked
      | inr d ↦ borrowers n d ∙ h.marked n ∙ sym (lenders n d)
    ];
    one = λ n x y p q e f s t. elim (cases_eq n m) [
      | inl i ↦ one x y p q e f (ap (λ (l : ℕ). lends_to l p) (sym i) ∙ s) (ap (λ (l : ℕ). lends_to l q) (sym i) ∙ t)
      | inr d ↦
          let u = passed_back x p e in
          let v = passed_back y q f in
          h.one n x y u.0 v.0 u.1 v.1 (sym (u.2.lends n d) ∙ s) (sym (v.2.lends n d) ∙ t)
    ];
    holds = λ k p e t. let x = passed_back k p e in x.2.holds t;
  }
