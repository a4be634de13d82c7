-- One process more, with the next number: the processes and the residents by rising pid.
use Rattle.std.proofs.Common.{◌≡◌, ◌≢◌, ℕ, zero, suc, ◌+◌, ◌-◌, ◌≤◌, List, [], ◌∷◌, ◌++◌, Option, Some, None, refl, sym, ap, ◌∙◌, arith}
use Rattle.std.specs.Prelude.{filter_map}
use Rattle.std.specs.List.{range_with_len}
use Rattle.proc_table.specs.declared.process.Proc.{Proc as Record}
use Rattle.proc_table.specs.Records.{find, Changes}
use Rattle.page_model.specs.Placement.{Residence}
use Rattle.kernel_tables.specs.Machine.{proc_shown, proc_of_record, processes_of, residence_by, residence_shown, residents_of}
use Rattle.kernel_tables.proofs.Records.{keeps_none, keeps_some}

-- over the numbers up to the last, of which that one alone has something else
added_from : {A : Type 0} (g h : ℕ → Option A) (next : ℕ) (x : A) → g next ≡ Some x → ((m : ℕ) → m ≢ next → g m ≡ h m) → (a n : ℕ) → a + n ≡ next
    → filter_map g (range_with_len a (suc n)) ≡ filter_map h (range_with_len a n) ++ x ∷ []
added_from g h next x is others a zero e = keeps_some g a [] x (ap g (let z : a ≡ next = omega (arith, e) in z) ∙ is)
added_from {A = A} g h next x is others a (suc n) e =
    go (h a) refl (others a (λ z. absurd (omega (arith, e, z)))) (added_from g h next x is others (a + 1) n (omega (arith, e)))
  where
    go : (o : Option A) → h a ≡ o → g a ≡ h a → filter_map g (range_with_len (a + 1) (suc n)) ≡ filter_map h (range_with_len (a + 1) n) ++ x ∷ []
        → filter_map g (a ∷ range_with_len (a + 1) (suc n)) ≡ filter_map h (a ∷ range_with_len (a + 1) n) ++ x ∷ []
    go None k same more = keeps_none g a (range_with_len (a + 1) (suc n)) (same ∙ k) ∙ more ∙ ap (λ (l : List A). l ++ x ∷ []) (sym (keeps_none h a (range_with_len (a + 1) n) k))
    go (Some y) k same more =
        keeps_some g a (range_with_len (a + 1) (suc n)) y (same ∙ k) ∙ ap (λ (l : List A). y ∷ l) more ∙ ap (λ (l : List A). l ++ x ∷ []) (sym (keeps_some h a (range_with_len (a + 1) n) y k))

one_more : (next : ℕ) → 1 ≤ next → next + 1 - 1 ≡ suc (next - 1)
one_more next l = omega arith

pub added_processes : (old new : List Record) (next : ℕ) (p : Record) → 1 ≤ next → Changes old new next (Some p)
    → processes_of new (next + 1) ≡ processes_of old next ++ proc_shown p ∷ []
added_processes old new next p l c =
    ap (λ (n : ℕ). filter_map (λ pid. proc_of_record (find pid new)) (range_with_len 1 n)) (one_more next l)
    ∙ added_from (λ pid. proc_of_record (find pid new)) (λ pid. proc_of_record (find pid old)) next (proc_shown p) (ap proc_of_record c.changed) (λ m d. ap proc_of_record (c.others m d)) 1
    (next - 1) (omega arith)

pub added_residents : (old new : List Record) (next : ℕ) (p : Record) (r : Residence) → 1 ≤ next → Changes old new next (Some p)
    → residence_by p p.state ≡ Some r → residents_of new (next + 1) ≡ residents_of old next ++ r ∷ []
added_residents old new next p r l c is =
    ap (λ (n : ℕ). filter_map (λ pid. residence_shown (find pid new)) (range_with_len 1 n)) (one_more next l)
    ∙ added_from (λ pid. residence_shown (find pid new)) (λ pid. residence_shown (find pid old)) next r
    (ap residence_shown c.changed ∙ is) (λ m d. ap residence_shown (c.others m d)) 1 (next - 1) (omega arith)
