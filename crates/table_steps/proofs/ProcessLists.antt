-- Lists of processes in which one has other registers.
use Rattle.std.proofs.Common.{◌≡◌, ◌⊎◌, inl, inr, ℕ, suc, ◌==◌, Bool, true, false, not, ◌&&◌, ◌||◌, cond, List, [], ◌∷◌, ◌++◌}
use Rattle.std.proofs.Common.{length, map, filter, Some, refl, sym, ap, ap₂, ◌∙◌, subst}
use Rattle.std.proofs.lemmas.Bool.{cases_eq, eqb-true, eq-eqb, cond-true}
use Rattle.std.proofs.lemmas.Option.{same_Some}
use Rattle.vm_facts.specs.declared.regs.Regs.{Regs}
use Rattle.flat_state.specs.Numbers.{IsAbsent, AllDistinct}
use Rattle.flat_state.specs.declared.change.Change.{Change}
use Rattle.flat_state.specs.declared.change.Change.TheVariants.{Fork, Lend, Exec, Reap, Sleep, End}
use Rattle.page_model.specs.Pages.{numbered}
use Rattle.kernel_model.specs.Kernel.{Proc, Life, New, HoldsSpace, Ended}
use Rattle.kernel_model.specs.Sound.{lives, lives_in}
use Rattle.kernel_model.specs.Unit.{lends_life, has_lender}
use Rattle.kernel_model.specs.ChangeStep.{with_proc, without_proc, is_ended, orphaned_procs, woken_procs, left_procs, child_proc}
use Rattle.kernel_model.specs.ChangeStep.{procs_after}
use Rattle.kernel_tables.proofs.KernelLawsMachineProcesses.{with_at, with_not}
use Rattle.kernel_tables.proofs.Lives.{pid_of}

-- two records of one process, with one parent and one life
pub record Other (pid : ℕ) (x y : Proc) : Type 0 where
  pub first : x.pid ≡ pid
  pub second : y.pid ≡ pid
  pub parent : x.parent ≡ y.parent
  pub life : x.life ≡ y.life

abbrev pub Twin : ℕ → Proc → Proc → Type 0
Twin pid x y = (x ≡ y) ⊎ Other pid x y

-- lists that differ in a process of this number alone, and there not in its parent nor its life
abbrev pub Twins : ℕ → List Proc → List Proc → Type 0
Twins pid [] [] = Unit {0}
Twins pid [] (y ∷ ys) = ⊥
Twins pid (x ∷ xs) [] = ⊥
Twins pid (x ∷ xs) (y ∷ ys) = Twin pid x y × Twins pid xs ys

twin_by : {A : Type 0} (pid : ℕ) (x y : Proc) (f : Proc → A) → Twin pid x y → (Other pid x y → f x ≡ f y) → f x ≡ f y
twin_by pid x y f t h = elim t [ inl e ↦ ap f e | inr o ↦ h o ]

twins_filter : (pid : ℕ) (test : Proc → Bool) → ((x y : Proc) → Other pid x y → test x ≡ test y) → (xs ys : List Proc) → Twins pid xs ys
    → Twins pid (filter test xs) (filter test ys)
twins_filter pid test k [] [] t = tt
twins_filter pid test k [] (y ∷ ys) t = absurd t
twins_filter pid test k (x ∷ xs) [] t = absurd t
twins_filter pid test k (x ∷ xs) (y ∷ ys) t = go (test x) (test y) (twin_by pid x y test t.0 (k x y)) (twins_filter pid test k xs ys t.1)
  where
    go : (a b : Bool) → a ≡ b → Twins pid (filter test xs) (filter test ys)
        → Twins pid (cond a (x ∷ filter test xs) (filter test xs)) (cond b (y ∷ filter test ys) (filter test ys))
    go true true e r = (t.0, r)
    go true false e r = absurd cc
    go false true e r = absurd cc
    go false false e r = r

twins_map : (pid : ℕ) (f : Proc → Proc) → ((x y : Proc) → Other pid x y → Other pid (f x) (f y)) → (xs ys : List Proc) → Twins pid xs ys
    → Twins pid (map f xs) (map f ys)
twins_map pid f k [] [] t = tt
twins_map pid f k [] (y ∷ ys) t = absurd t
twins_map pid f k (x ∷ xs) [] t = absurd t
twins_map pid f k (x ∷ xs) (y ∷ ys) t = (elim t.0 [ inl e ↦ inl (ap f e) | inr o ↦ inr (k x y o) ], twins_map pid f k xs ys t.1)

twins_with : (pid : ℕ) (r : Proc) → r.pid ≡ pid → (xs ys : List Proc) → Twins pid xs ys → with_proc xs r ≡ with_proc ys r
twins_with pid r i [] [] t = refl
twins_with pid r i [] (y ∷ ys) t = absurd t
twins_with pid r i (x ∷ xs) [] t = absurd t
twins_with pid r i (x ∷ xs) (y ∷ ys) t = ap₂ (λ (q : Proc) (qs : List Proc). q ∷ qs)
    (twin_by pid x y (λ (q : Proc). cond (q.pid == r.pid) r q) t.0 (λ o.
    cond-true (x.pid == r.pid) r x (eq-eqb x.pid r.pid (o.first ∙ sym i)) ∙ sym (cond-true (y.pid == r.pid) r y (eq-eqb y.pid r.pid (o.second ∙ sym i)))))
    (twins_with pid r i xs ys t.1)

twins_without : (pid : ℕ) (xs ys : List Proc) → Twins pid xs ys → without_proc xs pid ≡ without_proc ys pid
twins_without pid [] [] t = refl
twins_without pid [] (y ∷ ys) t = absurd t
twins_without pid (x ∷ xs) [] t = absurd t
twins_without pid (x ∷ xs) (y ∷ ys) t = elim t.0 [
  | inl e ↦ ap₂ (λ (q : Proc) (qs : List Proc). cond (not (q.pid == pid)) (q ∷ qs) qs) e (twins_without pid xs ys t.1)
  | inr o ↦ gone x xs o.first ∙ twins_without pid xs ys t.1 ∙ sym (gone y ys o.second)
]
  where
    gone : (q : Proc) (qs : List Proc) → q.pid ≡ pid → without_proc (q ∷ qs) pid ≡ without_proc qs pid
    gone q qs e = ap (λ (b : Bool). cond (not b) (q ∷ without_proc qs pid) (without_proc qs pid)) (eq-eqb q.pid pid e)

twins_lender : (pid n : ℕ) (xs ys : List Proc) → Twins pid xs ys → has_lender xs n ≡ has_lender ys n
twins_lender pid n [] [] t = refl
twins_lender pid n [] (y ∷ ys) t = absurd t
twins_lender pid n (x ∷ xs) [] t = absurd t
twins_lender pid n (x ∷ xs) (y ∷ ys) t = ap₂ (λ (a b : Bool). a || b) (twin_by pid x y (λ (q : Proc). lends_life n q.life) t.0 (λ o. ap (lends_life n) o.life)) (twins_lender pid n xs ys t.1)

twins_length : (pid : ℕ) (xs ys : List Proc) → Twins pid xs ys → length xs ≡ length ys
twins_length pid [] [] t = refl
twins_length pid [] (y ∷ ys) t = absurd t
twins_length pid (x ∷ xs) [] t = absurd t
twins_length pid (x ∷ xs) (y ∷ ys) t = ap suc (twins_length pid xs ys t.1)

twins_pids : (pid : ℕ) (xs ys : List Proc) → Twins pid xs ys → map pid_of xs ≡ map pid_of ys
twins_pids pid [] [] t = refl
twins_pids pid [] (y ∷ ys) t = absurd t
twins_pids pid (x ∷ xs) [] t = absurd t
twins_pids pid (x ∷ xs) (y ∷ ys) t = ap₂ (λ (n : ℕ) (ns : List ℕ). n ∷ ns) (twin_by pid x y pid_of t.0 (λ o. o.first ∙ sym o.second)) (twins_pids pid xs ys t.1)

twins_orphaned : (pid n : ℕ) (xs ys : List Proc) → Twins pid xs ys → Twins pid (orphaned_procs xs n) (orphaned_procs ys n)
twins_orphaned pid n xs ys t =
    let test : Proc → Bool = λ q. not ((q.parent == n) && is_ended q.life) in
    twins_map pid (λ (q : Proc). record q { parent = cond (q.parent == n) 0 q.parent })
    (λ x y o. record { first = o.first; second = o.second; parent = ap (λ (m : ℕ). cond (m == n) 0 m) o.parent; life = o.life })
    (filter test xs) (filter test ys) (twins_filter pid test (λ x y o. ap₂ (λ (m : ℕ) (l : Life). not ((m == n) && is_ended l)) o.parent o.life) xs ys t)

-- The one process of a number.

abbrev pub EachProc : (Proc → Type 0) → List Proc → Type 0
EachProc P [] = Unit {0}
EachProc P (q ∷ qs) = P q × EachProc P qs

-- whoever has the number of this one is this one
abbrev pub OnlyOne : Proc → List Proc → Type 0
OnlyOne p ps = EachProc (λ (q : Proc). q.pid ≡ p.pid → q ≡ p) ps

pub found_number : (ps : List Proc) (n : ℕ) (p : Proc) → numbered pid_of n ps ≡ Some p → p.pid ≡ n
found_number [] n p e = absurd cc
found_number (q ∷ qs) n p e = go (q.pid == n) refl e (found_number qs n p)
  where
    go : (b : Bool) → (q.pid == n) ≡ b → cond b (Some q) (numbered pid_of n qs) ≡ Some p → (numbered pid_of n qs ≡ Some p → p.pid ≡ n)
        → p.pid ≡ n
    go true h k more = ap pid_of (sym (same_Some q p k)) ∙ eqb-true q.pid n h
    go false h k more = more k

none_else : (p : Proc) (n : ℕ) (qs : List Proc) → n ≡ p.pid → IsAbsent n (map pid_of qs) → OnlyOne p qs
none_else p n [] i a = tt
none_else p n (q ∷ qs) i a = ((λ e. absurd (a.0 (e ∙ sym i))), none_else p n qs i a.1)

pub only_one : (ps : List Proc) (n : ℕ) (p : Proc) → numbered pid_of n ps ≡ Some p → AllDistinct (map pid_of ps) → OnlyOne p ps
only_one [] n p e d = tt
only_one (q ∷ qs) n p e d = go (q.pid == n) refl e (λ k. only_one qs n p k d.1)
  where
    number : p.pid ≡ n
    number = found_number (q ∷ qs) n p e

    go : (b : Bool) → (q.pid == n) ≡ b → cond b (Some q) (numbered pid_of n qs) ≡ Some p → (numbered pid_of n qs ≡ Some p → OnlyOne p qs)
        → OnlyOne p (q ∷ qs)
    go true h k more = ((λ i. same_Some q p k), none_else p q.pid qs (ap pid_of (same_Some q p k)) d.0)
    go false h k more = ((λ i. absurd (let z : true ≡ false = sym (eq-eqb q.pid n (i ∙ number)) ∙ h in cc)), more k)

each_filter : (P : Proc → Type 0) (test : Proc → Bool) (ps : List Proc) → EachProc P ps → EachProc P (filter test ps)
each_filter P test [] h = tt
each_filter P test (q ∷ qs) h = go (test q) (each_filter P test qs h.1)
  where
    go : (b : Bool) → EachProc P (filter test qs) → EachProc P (cond b (q ∷ filter test qs) (filter test qs))
    go true r = (h.0, r)
    go false r = r

-- it stands for itself
pub with_self : (ps : List Proc) (p : Proc) → OnlyOne p ps → with_proc ps p ≡ ps
with_self [] p o = refl
with_self (q ∷ qs) p o = ap₂ (λ (x : Proc) (xs : List Proc). x ∷ xs) (go (q.pid == p.pid) refl) (with_self qs p o.1)
  where
    go : (b : Bool) → (q.pid == p.pid) ≡ b → cond b p q ≡ q
    go true e = sym (o.0 (eqb-true q.pid p.pid e))
    go false e = refl

pub without_self : (ps : List Proc) (p : Proc) (child : ℕ) → OnlyOne p ps → with_proc (without_proc ps child) p ≡ without_proc ps child
without_self ps p child o = with_self (without_proc ps child) p (each_filter (λ (q : Proc). q.pid ≡ p.pid → q ≡ p) (λ (q : Proc). not (q.pid == child)) ps o)

-- Other registers.

twins_regs : (ps : List Proc) (p : Proc) (regs : Regs) → OnlyOne p ps → Twins p.pid (with_proc ps (record p { regs = regs })) ps
twins_regs [] p regs o = tt
twins_regs (q ∷ qs) p regs o = (go (q.pid == p.pid) refl, twins_regs qs p regs o.1)
  where
    go : (b : Bool) → (q.pid == p.pid) ≡ b → Twin p.pid (cond b (record p { regs = regs }) q) q
    go true e =
        let i : q.pid ≡ p.pid = eqb-true q.pid p.pid e in
        let s : q ≡ p = o.0 i in
        inr (record { first = refl; second = i; parent = ap (λ (x : Proc). x.parent) (sym s); life = ap (λ (x : Proc). x.life) (sym s) })
    go false e = inl refl

module _ (ps : List Proc) (p : Proc) (regs : Regs) (o : OnlyOne p ps) where
  twins : Twins p.pid (with_proc ps (record p { regs = regs })) ps
  twins = twins_regs ps p regs o

  -- a change makes the same of the processes
  pub regs_after : (next : ℕ) (change : Change)
      → procs_after (with_proc ps (record p { regs = regs })) (record p { regs = regs }) next change ≡ procs_after ps (record p { regs = regs }) next change
  regs_after next (Fork child) = ap (λ (xs : List Proc). xs ++ child_proc (record p { regs = regs }) child (HoldsSpace next) ∷ [])
      (twins_with p.pid (record p { regs = regs }) refl (with_proc ps (record p { regs = regs })) ps twins)
  regs_after next (Lend child) =
      ap (λ (xs : List Proc). xs ++ child_proc (record p { regs = regs }) child New ∷ []) (twins_with p.pid (record p { regs = regs }) refl (with_proc ps (record p { regs = regs })) ps twins)
  regs_after next (Exec image top) = twins_with p.pid (record p { regs = regs; life = HoldsSpace next }) refl (with_proc ps (record p { regs = regs })) ps twins
  regs_after next (Reap child) = twins_with p.pid (record p { regs = regs }) refl (without_proc (with_proc ps (record p { regs = regs })) child) (without_proc ps child)
      (twins_filter p.pid (λ (q : Proc). not (q.pid == child)) (λ x y t. ap (λ (n : ℕ). not (n == child)) (t.first ∙ sym t.second)) (with_proc ps (record p { regs = regs })) ps twins)
  regs_after next Sleep = twins_with p.pid (record p { regs = regs; asleep = true }) refl (with_proc ps (record p { regs = regs })) ps twins
  regs_after next (End status) = go (p.parent == 0)
    where
      t : Twins p.pid (orphaned_procs (with_proc ps (record p { regs = regs })) p.pid) (orphaned_procs ps p.pid)
      t = twins_orphaned p.pid p.pid (with_proc ps (record p { regs = regs })) ps twins

      go : (b : Bool)
          → left_procs b (orphaned_procs (with_proc ps (record p { regs = regs })) p.pid) (record p { regs = regs }) status ≡ left_procs b (orphaned_procs ps p.pid) (record p { regs = regs }) status
      go true = twins_without p.pid (orphaned_procs (with_proc ps (record p { regs = regs })) p.pid) (orphaned_procs ps p.pid) t
      go false = ap (λ (xs : List Proc). woken_procs xs p.parent)
          (twins_with p.pid (record p { regs = regs; life = Ended status }) refl (orphaned_procs (with_proc ps (record p { regs = regs })) p.pid) (orphaned_procs ps p.pid) t)
  regs_after next _ = twins_with p.pid (record p { regs = regs }) refl (with_proc ps (record p { regs = regs })) ps twins

  pub regs_lender : (n : ℕ) → has_lender (with_proc ps (record p { regs = regs })) n ≡ has_lender ps n
  regs_lender n = twins_lender p.pid n (with_proc ps (record p { regs = regs })) ps twins

  pub regs_count : length (with_proc ps (record p { regs = regs })) ≡ length ps
  regs_count = twins_length p.pid (with_proc ps (record p { regs = regs })) ps twins

  pub regs_pids : map pid_of (with_proc ps (record p { regs = regs })) ≡ map pid_of ps
  regs_pids = twins_pids p.pid (with_proc ps (record p { regs = regs })) ps twins

  pub regs_there : numbered pid_of p.pid ps ≡ Some p
      → numbered pid_of p.pid (with_proc ps (record p { regs = regs })) ≡ Some (record p { regs = regs })
  regs_there e = with_at ps (record p { regs = regs }) p e

  pub regs_lives : numbered pid_of p.pid ps ≡ Some p → (n : ℕ) → lives (with_proc ps (record p { regs = regs })) n ≡ lives ps n
  regs_lives e n = elim (cases_eq n p.pid) [
    | inl i ↦ subst (λ (m : ℕ). lives (with_proc ps (record p { regs = regs })) m ≡ lives ps m) (sym i) (ap lives_in (with_at ps (record p { regs = regs }) p e) ∙ sym (ap lives_in e))
    | inr d ↦ ap lives_in (with_not ps (record p { regs = regs }) n d)
  ]
