-- A process of the kernel has its record in the table.
use Rattle.std.proofs.Common.{◌≡◌, ◌≢◌, inl, inr, ℕ, List, [], ◌∷◌, Option, Some, None, refl, sym, ap, ◌∙◌, arith}
use Rattle.std.specs.Prelude.{filter_map, ◌-◌}
use Rattle.std.specs.List.{range_with_len}
use Rattle.std.proofs.lemmas.Bool.{cases_eq}
use Rattle.std.proofs.lemmas.Bool.Decides.{nat_tests}
use Rattle.proc_table.specs.declared.process.Proc.{Proc as Record}
use Rattle.proc_table.specs.declared.process.Life.{Life as RecordLife}
use Rattle.proc_table.specs.declared.process.Life.TheVariants as lives
use Rattle.proc_table.specs.Records.{find}
use Rattle.page_model.specs.Pages.{numbered}
use Rattle.kernel_model.specs.Kernel.{HoldsSpace, Proc}
use Rattle.kernel_model.specs.ChangeStep.{life_of_proc}
use Rattle.kernel_tables.specs.Machine.{life_shown, proc_shown, proc_of_record, processes_of}
use Rattle.kernel_tables.specs.Lives.{space_by, space_of_record}
use Rattle.kernel_tables.proofs.Records.{keeps_none, keeps_some, found_pid, some_is}

abbrev pub pid_of : Proc → ℕ
pid_of p = p.pid

pub hit : (n : ℕ) (p : Proc) (ps : List Proc) → p.pid ≡ n → numbered pid_of n (p ∷ ps) ≡ Some p
hit n p ps e = grind (arith, nat_tests)

pub miss : (n : ℕ) (p : Proc) (ps : List Proc) → p.pid ≢ n → numbered pid_of n (p ∷ ps) ≡ numbered pid_of n ps
miss n p ps e = grind (arith, nat_tests)

-- the record of a process that the kernel has
pub record HasRecord (ps : List Record) (pid : ℕ) (q : Proc) : Type 0 where
  pub found : Record
  pub there : find pid ps ≡ Some found
  pub shows : proc_shown found ≡ q

record_over : (ns : List ℕ) (ps : List Record) (pid : ℕ) (q : Proc) → numbered pid_of pid (filter_map (λ n. proc_of_record (find n ps)) ns) ≡ Some q
    → HasRecord ps pid q
record_over [] ps pid q e = absurd cc
record_over (n ∷ ns) ps pid q e = go (find n ps) refl (λ k. record_over ns ps pid q k)
  where
    go : (o : Option Record) → find n ps ≡ o → (numbered pid_of pid (filter_map (λ n. proc_of_record (find n ps)) ns) ≡ Some q → HasRecord ps pid q) → HasRecord ps pid q
    go None f more = more (sym (ap (numbered pid_of pid) (keeps_none (λ m. proc_of_record (find m ps)) n ns (ap proc_of_record f))) ∙ e)
    go (Some x) f more =
        let here : numbered pid_of pid (proc_shown x ∷ filter_map (λ m. proc_of_record (find m ps)) ns) ≡ Some q =
        sym (ap (numbered pid_of pid) (keeps_some (λ m. proc_of_record (find m ps)) n ns (proc_shown x) (ap proc_of_record f))) ∙ e in
        elim (cases_eq x.pid pid) [
          | inl i ↦ record {
            found = x;
            there = ap (λ (m : ℕ). find m ps) (sym i ∙ found_pid n ps x f) ∙ f;
            shows = some_is (proc_shown x) q (sym (hit pid (proc_shown x) (filter_map (λ m. proc_of_record (find m ps)) ns) i) ∙ here);
          }
          | inr d ↦ more (sym (miss pid (proc_shown x) (filter_map (λ m. proc_of_record (find m ps)) ns) d) ∙ here)
        ]

pub record_of : (ps : List Record) (next pid : ℕ) (q : Proc) → numbered pid_of pid (processes_of ps next) ≡ Some q → HasRecord ps pid q
record_of ps next pid q e = record_over (range_with_len 1 (next - 1)) ps pid q e

life_space : (l : RecordLife) (sid : ℕ) → life_shown l ≡ HoldsSpace sid → space_by l ≡ Some sid
life_space (lives.Holds n) sid e = let same : n ≡ sid = cc in ap (λ (m : ℕ). Some m) same
life_space _ sid e = absurd cc

-- a process that holds a space has it in its record
pub holds_space : (ps : List Record) (next pid sid : ℕ) → life_of_proc (numbered pid_of pid (processes_of ps next)) ≡ HoldsSpace sid
    → space_of_record (find pid ps) ≡ Some sid
holds_space ps next pid sid e = go (numbered pid_of pid (processes_of ps next)) refl e
  where
    go : (o : Option Proc) → numbered pid_of pid (processes_of ps next) ≡ o → life_of_proc o ≡ HoldsSpace sid → space_of_record (find pid ps) ≡ Some sid
    go None f k = absurd cc
    go (Some q) f k =
        let r : HasRecord ps pid q = record_of ps next pid q f in
        ap space_of_record r.there ∙ life_space r.found.state sid (ap (λ (p : Proc). p.life) r.shows ∙ k)
