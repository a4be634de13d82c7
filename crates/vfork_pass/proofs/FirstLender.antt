-- The first record that lends is that of the first process in the kernel's list that lends.
use Rattle.std.proofs.Common.{◌≡◌, inl, inr, ℕ, zero, suc, ◌+◌, ◌-◌, ◌<◌, ◌≤◌, Bool, true, false, ◌||◌, cond, List, ◌∷◌, Option, Some, None, refl, sym, ap, ◌∙◌, subst, arith}
use Rattle.std.specs.Prelude.{filter_map}
use Rattle.std.specs.List.{range_with_len}
use Rattle.std.proofs.lemmas.Bool.{cases_eq, cases_lt}
use Rattle.proc_table.specs.declared.process.Proc.{Proc as Record}
use Rattle.proc_table.specs.Records.{find, Lowest}
use Rattle.kernel_model.specs.Kernel.{Proc}
use Rattle.kernel_model.specs.Unit.{lends_life, has_lender, lender_among}
use Rattle.machine_state.proofs.Listed.{lends_shown}
use Rattle.machine_state.specs.Machine.{life_shown, proc_shown, proc_of_record, processes_of}
use Rattle.machine_state.proofs.Records.{keeps_none, keeps_some, found_pid}
use Rattle.machine_state.proofs.Kin.{true_false}
use Rattle.vfork_pass.specs.Lenders.{lends_in, IsLender}

-- from this number on it is the first that lends
pub record IsFirst (ps : List Record) (borrower a n : ℕ) : Type 0 where
  pub from : a ≤ n
  pub lends : lends_in borrower (find n ps) ≡ true
  pub none : (q : ℕ) → a ≤ q → q < n → lends_in borrower (find q ps) ≡ false

module _ (ps : List Record) (borrower : ℕ) where
  abbrev shown : ℕ → Option Proc
  shown n = proc_of_record (find n ps)

  earlier : (a n : ℕ) → lends_in borrower (find a ps) ≡ false → IsFirst ps borrower (a + 1) n → IsFirst ps borrower a n
  earlier a n here f = record {
    from = let l = f.from in omega (arith, l);
    lends = f.lends;
    none = λ q more less. elim (cases_eq q a) [
      | inl i ↦ ap (λ (k : ℕ). lends_in borrower (find k ps)) i ∙ here
      | inr d ↦ f.none q (omega (arith, more, d)) less
    ];
  }

  pub first_over : (k a : ℕ) → has_lender (filter_map (λ n. proc_of_record (find n ps)) (range_with_len a k)) borrower ≡ true
      → IsFirst ps borrower a (lender_among (filter_map (λ n. proc_of_record (find n ps)) (range_with_len a k)) borrower)
  first_over zero a e = absurd (let z : false ≡ true = e in cc)
  first_over (suc k) a e = go (find a ps) refl (first_over k (a + 1))
    where
      rest : List Proc
      rest = filter_map shown (range_with_len (a + 1) k)

      all : List Proc
      all = filter_map shown (range_with_len a (suc k))

      by : (x : Record) (b : Bool) → find a ps ≡ Some x → lends_life borrower (life_shown x.state) ≡ b
          → (b || has_lender rest borrower) ≡ true → (has_lender rest borrower ≡ true → IsFirst ps borrower (a + 1) (lender_among rest borrower))
          → IsFirst ps borrower a (cond b x.pid (lender_among rest borrower))
      by x true f l t more = record {
        from = let i = found_pid a ps x f in omega (arith, i);
        lends = ap (λ (n : ℕ). lends_in borrower (find n ps)) (found_pid a ps x f) ∙ ap (lends_in borrower) f ∙ sym (lends_shown borrower x.state) ∙ l;
        none = λ q low less. absurd (let i = found_pid a ps x f in omega (arith, i, low, less));
      }
      by x false f l t more = earlier a (lender_among rest borrower) (ap (lends_in borrower) f ∙ sym (lends_shown borrower x.state) ∙ l) (more t)

      go : (o : Option Record) → find a ps ≡ o → (has_lender rest borrower ≡ true → IsFirst ps borrower (a + 1) (lender_among rest borrower))
          → IsFirst ps borrower a (lender_among all borrower)
      go None f more =
          let is : all ≡ rest = keeps_none shown a (range_with_len (a + 1) k) (ap proc_of_record f) in
          subst (λ (ls : List Proc). IsFirst ps borrower a (lender_among ls borrower)) (sym is)
          (earlier a (lender_among rest borrower) (ap (lends_in borrower) f) (more (sym (ap (λ (ls : List Proc). has_lender ls borrower) is) ∙ e)))
      go (Some x) f more =
          let is : all ≡ proc_shown x ∷ rest = keeps_some shown a (range_with_len (a + 1) k) (proc_shown x) (ap proc_of_record f) in
          subst (λ (ls : List Proc). IsFirst ps borrower a (lender_among ls borrower)) (sym is)
          (by x (lends_life borrower (life_shown x.state)) f refl (sym (ap (λ (ls : List Proc). has_lender ls borrower) is) ∙ e) more)

-- the walk finds the first in the list
pub first_is : (ps : List Record) (next borrower : ℕ) (o : Option ℕ) → Lowest (IsLender ps borrower) o → has_lender (processes_of ps next) borrower ≡ true
    → o ≡ Some (lender_among (processes_of ps next) borrower)
first_is ps next borrower None l e =
    let f = first_over ps borrower (next - 1) 1 e in
    absurd (l (lender_among (processes_of ps next) borrower) ((let a = f.from in omega (arith, a)), f.lends))
first_is ps next borrower (Some n) l e =
    let f = first_over ps borrower (next - 1) 1 e in
    let m : ℕ = lender_among (processes_of ps next) borrower in
    let most : n ≤ m = l.1 m ((let a = f.from in omega (arith, a)), f.lends) in
    let some : 0 < n = l.0.0 in
    elim (cases_lt n m) [
      | inl less ↦ true_false (lends_in borrower (find n ps)) l.0.1 (f.none n (omega (arith, some)) less)
      | inr more ↦ let is : n ≡ m = omega (arith, most, more) in ap (λ (k : ℕ). Some k) is
    ]
