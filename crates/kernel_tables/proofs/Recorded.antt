-- The records of the processes hold what they are to hold, once some have changed, have come or have gone.
use Rattle.std.proofs.Common.{◌≡◌, inl, inr, ℕ, true, false, List, [], Option, Some, None, refl, sym, ap, ◌∙◌, subst, arith}
use Rattle.std.specs.List.{list_any}
use Rattle.std.proofs.lemmas.Bool.{cases_eq}
use Rattle.std.proofs.lemmas.Option.{same_Some}
use Rattle.vm_facts.specs.declared.regs.Regs.{Regs}
use Rattle.proc_table.specs.declared.process.Proc.{Proc as Record}
use Rattle.proc_table.specs.Records.{find, Changes, IsProcTable}
use Rattle.kernel_laws.proofs.Local.{none_some}
use Rattle.kernel_tables.specs.Alike.{lends_to_by, lends_to, is_borrower_in, HoldsBorrowed, AreRecords}
use Rattle.kernel_tables.specs.Families.{IsAlone}
use Rattle.kernel_tables.proofs.Records.{any_found, found_any, both_or_neither}

pub no_records : AreRecords [] 1
no_records = record {
  table = record { few = omega arith; apart = tt };
  first = omega arith;
  known = λ pid p e. none_some p e;
  marked = λ pid. refl;
  one = λ pid a b p q e f g h. none_some p e;
  holds = λ pid p e h. none_some p e;
}

-- a record in the place of another: it lends to the same, and is a borrower as that was
pub record StandsFor (p q : Record) : Type 0 where
  pub lends : (n : ℕ) → lends_to n p ≡ lends_to n q
  pub borrowed : p.borrowed ≡ q.borrowed
  pub holds : p.borrowed ≡ true → HoldsBorrowed p.state

-- what may come of a record
abbrev pub Comes : Option Record → Record → Type 0
Comes None q = IsAlone q
Comes (Some p) q = StandsFor p q

-- each record stands in the place of one that was there, and only those have gone that neither lend nor borrow
module _ (old new : List Record) (next : ℕ) (h : AreRecords old next) (after : IsProcTable new)
    (back : (k : ℕ) (p : Record) → find k new ≡ Some p → (q : Record) × (find k old ≡ Some q) × StandsFor p q)
    (forth : (k : ℕ) (q : Record) → find k old ≡ Some q → Comes (find k new) q) where
  forth_by : (k : ℕ) (q : Record) (o : Option Record) → find k new ≡ o → find k old ≡ Some q → Comes o q
  forth_by k q o e f = subst (λ (x : Option Record). Comes x q) e (forth k q f)

  lenders : (n : ℕ) → list_any (lends_to n) new ≡ list_any (lends_to n) old
  lenders n = both_or_neither (list_any (lends_to n) new) (list_any (lends_to n) old)
      (λ t. let x = any_found (lends_to n) new after.apart t in let y = back x.0.pid x.0 x.1 in found_any (lends_to n) old x.0.pid y.0 y.1 (sym (y.2.lends n) ∙ x.2))
      (λ t. let x = any_found (lends_to n) old h.table.apart t in go x.0 x.1 x.2 (find x.0.pid new) refl)
    where
      go : (q : Record) → find q.pid old ≡ Some q → lends_to n q ≡ true → (o : Option Record) → find q.pid new ≡ o → list_any (lends_to n) new ≡ true
      go q f t None e = absurd (let z : true ≡ false = sym t ∙ (forth_by q.pid q None e f).lends n in cc)
      go q f t (Some p) e = found_any (lends_to n) new q.pid p e ((forth_by q.pid q (Some p) e f).lends n ∙ t)

  borrowers : (n : ℕ) → is_borrower_in (find n new) ≡ is_borrower_in (find n old)
  borrowers n = go (find n new) (find n old) refl refl
    where
      go : (o w : Option Record) → find n new ≡ o → find n old ≡ w → is_borrower_in o ≡ is_borrower_in w
      go None None e f = refl
      go None (Some q) e f = sym (forth_by n q None e f).borrows
      go (Some p) w e f = let x = back n p e in x.2.borrowed ∙ ap is_borrower_in (sym x.1 ∙ f)

  pub stand_records : AreRecords new next
  stand_records = record {
    table = after;
    first = h.first;
    known = λ k p e. let x = back k p e in h.known k x.0 x.1;
    marked = λ n. borrowers n ∙ h.marked n ∙ sym (lenders n);
    one = λ n a b p q e f x y.
        let r = back a p e in
        let s = back b q f in
        h.one n a b r.0 s.0 r.1 s.1 (sym (r.2.lends n) ∙ x) (sym (s.2.lends n) ∙ y);
    holds = λ k p e b. let x = back k p e in x.2.holds b;
  }

-- One record has changed, or gone.

itself : (k : ℕ) (p : Record) (ps : List Record) (next : ℕ) → AreRecords ps next → find k ps ≡ Some p → StandsFor p p
itself k p ps next h e = record { lends = λ n. refl; borrowed = refl; holds = h.holds k p e }

pub changed_records : (old new : List Record) (next pid : ℕ) (was : Record) (found : Option Record) → IsProcTable new → find pid old ≡ Some was
    → Changes old new pid found → Comes found was
    → AreRecords old next → AreRecords new next
changed_records old new next pid was found b e c s h =
    let back : (k : ℕ) (p : Record) → find k new ≡ Some p → (q : Record) × (find k old ≡ Some q) × StandsFor p q = λ k p g. elim (cases_eq k pid) [
      | inl i ↦
          let is : found ≡ Some p = sym c.changed ∙ ap (λ (l : ℕ). find l new) (sym i) ∙ g in
          (was, ap (λ (l : ℕ). find l old) i ∙ e, subst (λ (x : Option Record). Comes x was) is s)
      | inr d ↦ let f : find k old ≡ Some p = sym (c.others k d) ∙ g in (p, f, itself k p old next h f)
    ] in
    let forth : (k : ℕ) (q : Record) → find k old ≡ Some q → Comes (find k new) q = λ k q g. elim (cases_eq k pid) [
      | inl i ↦
          let is : was ≡ q = same_Some was q (sym e ∙ ap (λ (l : ℕ). find l old) (sym i) ∙ g) in
          subst (λ (x : Option Record). Comes x q) (sym (ap (λ (l : ℕ). find l new) i ∙ c.changed)) (subst (Comes found) is s)
      | inr d ↦ subst (λ (x : Option Record). Comes x q) (sym (c.others k d ∙ g)) (itself k q old next h g)
    ] in
    stand_records old new next h b back forth

-- of the same life
pub same_life : (old : List Record) (next pid : ℕ) (was now : Record) → AreRecords old next → find pid old ≡ Some was
    → now.state ≡ was.state → now.borrowed ≡ was.borrowed → StandsFor now was
same_life old next pid was now h e s b = record {
  lends = λ n. ap (lends_to_by n) s;
  borrowed = b;
  holds = λ x. subst HoldsBorrowed (sym s) (h.holds pid was e (sym b ∙ x));
}

pub regs_records : (old new : List Record) (next pid : ℕ) (regs : Regs) (was : Record) → find pid old ≡ Some was
    → Changes old new pid (Some (record was { regs = regs }))
    → IsProcTable new → AreRecords old next → AreRecords new next
regs_records old new next pid regs was e c b h =
    changed_records old new next pid was (Some (record was { regs = regs })) b e c (same_life old next pid was (record was { regs = regs }) h e refl refl) h
