-- The processes that are shown are as many as there are records.
use Rattle.std.proofs.Common.{◌≡◌, ◌≢◌, inl, inr, ℕ, zero, suc, ◌+◌, ◌-◌, ◌<◌, ◌≤◌, List, [], ◌∷◌, length, Option, Some, None, refl, sym, ap, ◌∙◌, arith}
use Rattle.std.specs.Prelude.{filter_map}
use Rattle.std.specs.List.{range_with_len}
use Rattle.std.proofs.lemmas.Bool.{cases_eq}
use Rattle.proc_table.specs.declared.process.Proc.{Proc as Record}
use Rattle.proc_table.specs.Records.{find, ArePidsApart}
use Rattle.kernel_model.specs.Kernel.{Proc}
use Rattle.machine_state.specs.Machine.{proc_shown, proc_of_record, processes_of}
use Rattle.machine_state.proofs.Records.{keeps_none, keeps_some, find_hit, find_miss}

-- over numbers at which two functions are one, they find as many
same_over : {A : Type 0} (g h : ℕ → Option A) (a k : ℕ) → ((m : ℕ) → a ≤ m → g m ≡ h m) → filter_map g (range_with_len a k) ≡ filter_map h (range_with_len a k)
same_over g h a zero e = refl
same_over {A = A} g h a (suc k) e = go (h a) refl (e a (omega arith)) (same_over g h (a + 1) k (λ m l. e m (omega arith)))
  where
    go : (o : Option A) → h a ≡ o → g a ≡ h a → filter_map g (range_with_len (a + 1) k) ≡ filter_map h (range_with_len (a + 1) k)
        → filter_map g (a ∷ range_with_len (a + 1) k) ≡ filter_map h (a ∷ range_with_len (a + 1) k)
    go None f s more = keeps_none g a (range_with_len (a + 1) k) (s ∙ f) ∙ more ∙ sym (keeps_none h a (range_with_len (a + 1) k) f)
    go (Some y) f s more = keeps_some g a (range_with_len (a + 1) k) y (s ∙ f) ∙ ap (λ (l : List A). y ∷ l) more ∙ sym (keeps_some h a (range_with_len (a + 1) k) y f)

-- one finds something at a number, where the other finds nothing, and is else the same: it finds one more
one_more : {A : Type 0} (g h : ℕ → Option A) (n : ℕ) (y : A) → g n ≡ Some y → h n ≡ None → ((m : ℕ) → m ≢ n → g m ≡ h m) → (a k : ℕ) → a ≤ n → n < a + k
    → length (filter_map g (range_with_len a k)) ≡ suc (length (filter_map h (range_with_len a k)))
one_more g h n y f z e a zero l m = absurd (omega arith)
one_more {A = A} g h n y f z e a (suc k) l m = elim (cases_eq a n) [
  | inl i ↦
      let rest : filter_map g (range_with_len (a + 1) k) ≡ filter_map h (range_with_len (a + 1) k) = same_over g h (a + 1) k (λ b r. e b (λ j. absurd (omega (arith, i, j, r)))) in
      ap (λ (xs : List A). length xs) (keeps_some g a (range_with_len (a + 1) k) y (ap g i ∙ f))
      ∙ ap (λ (xs : List A). suc (length xs)) rest
      ∙ sym (ap (λ (xs : List A). suc (length xs)) (keeps_none h a (range_with_len (a + 1) k) (ap h i ∙ z)))
  | inr d ↦ go (h a) refl (e a d) (one_more g h n y f z e (a + 1) k (let x : (a ≡ n → ⊥) = d in omega (arith, x)) (omega arith))
]
  where
    go : (o : Option A) → h a ≡ o → g a ≡ h a → length (filter_map g (range_with_len (a + 1) k)) ≡ suc (length (filter_map h (range_with_len (a + 1) k)))
        → length (filter_map g (a ∷ range_with_len (a + 1) k)) ≡ suc (length (filter_map h (a ∷ range_with_len (a + 1) k)))
    go None r s more =
        ap (λ (xs : List A). length xs) (keeps_none g a (range_with_len (a + 1) k) (s ∙ r)) ∙ more
        ∙ sym (ap (λ (xs : List A). suc (length xs)) (keeps_none h a (range_with_len (a + 1) k) r))
    go (Some x) r s more =
        ap (λ (xs : List A). length xs) (keeps_some g a (range_with_len (a + 1) k) x (s ∙ r)) ∙ ap suc more
        ∙ sym (ap (λ (xs : List A). suc (length xs)) (keeps_some h a (range_with_len (a + 1) k) x r))

none_over : {A : Type 0} (g : ℕ → Option A) (a k : ℕ) → ((m : ℕ) → g m ≡ None) → filter_map g (range_with_len a k) ≡ []
none_over g a zero e = refl
none_over g a (suc k) e = keeps_none g a (range_with_len (a + 1) k) (e a) ∙ none_over g (a + 1) k e

-- each record's number is below the next
pub crowd : (ps : List Record) (next : ℕ) → ArePidsApart ps → ((pid : ℕ) (p : Record) → find pid ps ≡ Some p → (1 ≤ pid) × (pid < next))
    → length (processes_of ps next) ≡ length ps
crowd [] next apart known = ap (λ (xs : List Proc). length xs) (none_over (λ pid. proc_of_record (find pid [])) 1 (next - 1) (λ m. refl))
crowd (p ∷ ps) next apart known =
    let range : (1 ≤ p.pid) × (p.pid < next) = known p.pid p (find_hit p.pid p ps refl) in
    let low = range.0 in
    let high = range.1 in
    one_more (λ pid. proc_of_record (find pid (p ∷ ps))) (λ pid. proc_of_record (find pid ps)) p.pid (proc_shown p) (ap proc_of_record (find_hit p.pid p ps refl)) (ap proc_of_record apart.0)
    (λ m d. ap proc_of_record (find_miss m p ps (λ i. d (sym i)))) 1 (next - 1) low (omega arith)
    ∙ ap suc (crowd ps next apart.1 later)
  where
    later : (pid : ℕ) (q : Record) → find pid ps ≡ Some q → (1 ≤ pid) × (pid < next)
    later pid q e = elim (cases_eq p.pid pid) [
      | inl i ↦ absurd (let x : Some q ≡ None = sym e ∙ sym (ap (λ (n : ℕ). find n ps) i) ∙ apart.0 in cc)
      | inr d ↦ known pid q (find_miss pid p ps d ∙ e)
    ]
