-- Who lent a space to whom, in the machine as in the flat state.
use Rattle.std.proofs.Common.{◌≡◌, ◌≢◌, ℕ, ◌||◌, Bool, true, false, cond, List, [], ◌∷◌, map, Some, refl, sym, ap, ap₂, ◌∙◌, subst}
use Rattle.flat_state.specs.Flat.{Holding, Holds, Process, FlatState}
use Rattle.flat_state.specs.Change.{lends_to, is_borrower}
use Rattle.flat_state.specs.Numbers.{IsAbsent, AllDistinct, IsNumbered}
use Rattle.flat_state.specs.Lenders.{IsLender}
use Rattle.page_model.specs.Pages.{numbered}
use Rattle.kernel_model.specs.Kernel.{Kernel, Proc, life_of}
use Rattle.kernel_model.specs.Coupled.{Outline, outline_of, outline_kept, SameTables}
use Rattle.kernel_model.specs.Unit.{lends_life, lender_among, has_lender}
use Rattle.page_laws.proofs.Lists.Local.{none_some}
use Rattle.std.proofs.lemmas.Option.{same_Some}
use Rattle.kernel_laws.proofs.Flat.Lists.{pid_of, found_is}
use Rattle.kernel_laws.proofs.Flat.Numbered.{absent_none}
use Rattle.page_laws.proofs.Lists.Pages.{numbered_hit, numbered_miss}
use Rattle.vm_facts.proofs.Tests.{eq_self}

lends_is : (pid : ℕ) (h : Holding) → lends_life pid (life_of h) ≡ lends_to pid h
lends_is pid (Holds s) = refl
lends_is pid _ = refl

-- Whether.

abbrev has_in : List Outline → ℕ → Bool
has_in [] pid = false
has_in (o ∷ os) pid = lends_life pid o.life || has_in os pid

has_kept : (ks : List Proc) (pid : ℕ) → has_lender ks pid ≡ has_in (map outline_kept ks) pid
has_kept [] pid = refl
has_kept (p ∷ ks) pid = ap (λ (b : Bool). lends_life pid p.life || b) (has_kept ks pid)

has_flat : (ps : List Process) (pid : ℕ) → has_in (map outline_of ps) pid ≡ is_borrower ps pid
has_flat [] pid = refl
has_flat (p ∷ ps) pid = ap₂ (λ (b c : Bool). b || c) (lends_is pid p.holding) (has_flat ps pid)

pub borrows_is : (k : Kernel) (flat : FlatState) (pid : ℕ) → SameTables k flat → has_lender k.processes pid ≡ is_borrower flat.processes pid
borrows_is k flat pid t = has_kept k.processes pid ∙ ap (λ (os : List Outline). has_in os pid) t.processes ∙ has_flat flat.processes pid

-- Which.

abbrev lender_in : List Outline → ℕ → ℕ
lender_in [] pid = 0
lender_in (o ∷ os) pid = cond (lends_life pid o.life) o.pid (lender_in os pid)

lender_kept : (ks : List Proc) (pid : ℕ) → lender_among ks pid ≡ lender_in (map outline_kept ks) pid
lender_kept [] pid = refl
lender_kept (p ∷ ks) pid = ap (cond (lends_life pid p.life) p.pid) (lender_kept ks pid)

lender_flat : (ps : List Process) (pid : ℕ) (m : Process) → AllDistinct (map pid_of ps) → numbered pid_of m.pid ps ≡ Some m → lends_to pid m.holding ≡ true
    → ((x : Process) → numbered pid_of x.pid ps ≡ Some x → lends_to pid x.holding ≡ true → x.pid ≡ m.pid) → lender_in (map outline_of ps) pid ≡ m.pid
lender_flat [] pid m d e t only = none_some m e
lender_flat (p ∷ ps) pid m d e t only = ap (λ (b : Bool). cond b p.pid (lender_in (map outline_of ps) pid)) (lends_is pid p.holding) ∙ go (lender_flat ps pid m d.1) (lends_to pid p.holding) refl
  where
    go : (numbered pid_of m.pid ps ≡ Some m → lends_to pid m.holding ≡ true → ((x : Process) → numbered pid_of x.pid ps ≡ Some x → lends_to pid x.holding ≡ true → x.pid ≡ m.pid)
        → lender_in (map outline_of ps) pid ≡ m.pid)
        → (b : Bool) → lends_to pid p.holding ≡ b → cond b p.pid (lender_in (map outline_of ps) pid) ≡ m.pid
    go later true y = only p (numbered_hit pid_of p.pid p ps refl) y
    go later false y = later (sym (numbered_miss pid_of m.pid p ps other) ∙ e) t
        (λ x f l. only x (numbered_miss pid_of x.pid p ps (λ i. none_some x (sym (absent_none pid_of x.pid ps (subst (λ (n : ℕ). IsAbsent n (map pid_of ps)) i d.0)) ∙ f)) ∙ f) l)
      where
        other : p.pid ≢ m.pid
        other i = let same : p ≡ m = same_Some p m (sym (numbered_hit pid_of m.pid p ps i) ∙ e) in let z : false ≡ true = sym y ∙ ap (λ (r : Process). lends_to pid r.holding) same ∙ t in cc

pub lender_is : (k : Kernel) (flat : FlatState) (pid sid : ℕ) (m : Process) → SameTables k flat → IsNumbered flat → IsLender flat pid sid m
    → lender_among k.processes pid ≡ m.pid
lender_is k flat pid sid m t n is =
    lender_kept k.processes pid ∙ ap (λ (os : List Outline). lender_in os pid) t.processes
    ∙ lender_flat flat.processes pid m n.pids (sym (found_is flat.processes m.pid) ∙ is.found) (ap (lends_to pid) is.holding ∙ eq_self pid) (λ x e l. is.only x (found_is flat.processes x.pid ∙ e) l)
