-- The children of a process that ends leave it one after another, by rising pid.
use Rattle.std.proofs.Common.{◌≡◌, ℕ, ◌<◌, ◌≤◌, ◌==◌, Bool, List, Option, Some, refl, sym, ap, ◌∙◌, subst}
use Rattle.vm_facts.proofs.Tests.{eq_self}
use Rattle.proc_table.specs.declared.process.Proc.{Proc as Record}
use Rattle.proc_table.specs.declared.process.Life.{Life as RecordLife}
use Rattle.proc_table.specs.declared.process.Life.TheVariants as lives
use Rattle.proc_table.specs.Records.{find, Changes, IsProcTable}
use Rattle.kernel_tables.specs.declared.tables.Tables.{Tables}
use Rattle.kernel_tables.specs.Families.{left_life, left_by, left_in}

-- a child that has not ended
pub left_orphan : (old new : List Record) (child parent : ℕ) (p : Record) → find child old ≡ Some p → p.pid ≡ child → p.parent ≡ parent
    → ((x : ℕ) → p.state ≡ lives.Zombie x → ⊥)
    → Changes old new p.pid (Some (record p { parent = 0 })) → Changes old new child (left_in parent (find child old))
left_orphan old new child parent p f i e alive c =
    let left : left_in parent (find child old) ≡ Some (record p { parent = 0 }) =
    ap (left_in parent) f ∙ ap (λ (b : Bool). left_by b p) (ap (λ (n : ℕ). n == parent) e ∙ eq_self parent) ∙ by p.state refl in
    subst (λ (o : Option Record). Changes old new child o) (sym left) (subst (λ (n : ℕ). Changes old new n (Some (record p { parent = 0 }))) i c)
  where
    by : (l : RecordLife) → p.state ≡ l → left_life p l ≡ Some (record p { parent = 0 })
    by lives.New k = refl
    by (lives.Holds sid) k = refl
    by (lives.Lends sid child) k = refl
    by (lives.Zombie status) k = absurd (alive status k)

-- those up to a pid have left
pub record Leaving (t u : Tables) (pid last : ℕ) : Type 0 where
  pub left : (n : ℕ) → n ≤ last → find n u.processes ≡ left_in pid (find n t.processes)
  pub others : (n : ℕ) → last < n → find n u.processes ≡ find n t.processes
  pub sound : IsProcTable u.processes
  pub rest : u ≡ record t { processes = u.processes }
