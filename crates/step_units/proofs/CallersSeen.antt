-- That a process may make a call, by its record.
use Rattle.std.proofs.Common.{◌≡◌, inl, inr, ℕ, ◌-◌, false, List, [], ◌∷◌, Option, Some, None, refl, sym, ap, ◌∙◌}
use Rattle.std.specs.Prelude.{filter_map}
use Rattle.std.specs.List.{range_with_len}
use Rattle.std.proofs.lemmas.Bool.{cases_eq}
use Rattle.std.proofs.lemmas.Option.{same_Some}
use Rattle.proc_table.specs.declared.process.Proc.{Proc as Record}
use Rattle.proc_table.specs.declared.process.Life.{Life as RecordLife}
use Rattle.proc_table.specs.declared.process.Life.TheVariants as lives
use Rattle.proc_table.specs.Records.{find}
use Rattle.page_model.specs.Placement.{Residence}
use Rattle.page_model.specs.Swapper as swapper
use Rattle.page_laws.proofs.Lists.Local.{none_some}
use Rattle.kernel_model.specs.ChangeStep.{life_of_proc}
use Rattle.machine_state.specs.Going.{CanGoOn}
use Rattle.machine_state.specs.Machine.{Standing, life_shown, processes_of, proc_of_record, residence_by, residence_shown, residents_of}
use Rattle.machine_state.specs.Alike.{AreRecords}
use Rattle.machine_state.proofs.Records.{keeps_none, keeps_some}
use Rattle.machine_state.proofs.MovedRecords.{found_residence}
use Rattle.proc_calls.proofs.Touching.{record_shown}
use Rattle.proc_calls.specs.Callers.{IsCaller}
use Rattle.kernel_model.specs.Kernel.{HoldsSpace}
use Rattle.machine_state.specs.Calls.{life_in}
use Rattle.machine_state.proofs.ByNumber.{residence_miss, residence_hit}

-- A process whose record isn't out is in.

residence_out : (p : Record) (life : RecordLife) (r : Residence) → residence_by p life ≡ Some r → r.out ≡ p.out
residence_out p lives.New r e = ap (λ (x : Residence). x.out) (sym (same_Some (let x : Residence = record { pid = p.pid; out = p.out; since = p.since } in x) r e))
residence_out p (lives.Holds sid) r e = ap (λ (x : Residence). x.out) (sym (same_Some (let x : Residence = record { pid = p.pid; out = p.out; since = p.since } in x) r e))
residence_out p (lives.Lends sid child) r e = ap (λ (x : Residence). x.out) (sym (same_Some (let x : Residence = record { pid = p.pid; out = p.out; since = p.since } in x) r e))
residence_out p (lives.Zombie status) r e = none_some r e

is_in : (ns : List ℕ) (ps : List Record) (pid : ℕ) (p : Record) → find pid ps ≡ Some p → p.out ≡ false
    → (swapper.residence_of (filter_map (λ n. residence_shown (find n ps)) ns) pid).out ≡ false
is_in [] ps pid p f o = refl
is_in (n ∷ ns) ps pid p f o = go (residence_shown (find n ps)) refl (is_in ns ps pid p f o)
  where
    rs : List Residence
    rs = filter_map (λ k. residence_shown (find k ps)) ns

    own : (r : Residence) → residence_shown (find n ps) ≡ Some r → r.pid ≡ pid → r.out ≡ false
    own r e h = residence_out p p.state r (sym (ap residence_shown (ap (λ (k : ℕ). find k ps) (sym (found_residence n ps r e) ∙ h) ∙ f)) ∙ e) ∙ o

    go : (x : Option Residence) → residence_shown (find n ps) ≡ x → (swapper.residence_of rs pid).out ≡ false
        → (swapper.residence_of (filter_map (λ k. residence_shown (find k ps)) (n ∷ ns)) pid).out ≡ false
    go None e more = ap (λ (l : List Residence). (swapper.residence_of l pid).out) (keeps_none (λ k. residence_shown (find k ps)) n ns e) ∙ more
    go (Some r) e more = ap (λ (l : List Residence). (swapper.residence_of l pid).out) (keeps_some (λ k. residence_shown (find k ps)) n ns r e) ∙ elim (cases_eq r.pid pid) [
      | inl h ↦ ap (λ (y : Residence). y.out) (residence_hit pid r rs h) ∙ own r e h
      | inr d ↦ ap (λ (y : Residence). y.out) (residence_miss pid r rs d) ∙ more
    ]

pub is_caller : (m : Standing) (ps : List Record) (p : Record) (pid sid : ℕ) → CanGoOn m → m.kernel.place.due ≡ []
    → m.kernel.processes ≡ processes_of ps m.kernel.next_pid → m.kernel.place.residents ≡ residents_of ps m.kernel.next_pid → AreRecords ps m.kernel.next_pid
    → find pid ps ≡ Some p → p.state ≡ lives.Holds sid → p.out ≡ false → IsCaller m pid
is_caller m ps p pid sid ready clear procs residents records f s o = record {
  ready = ready;
  clear = clear;
  lends = record {
    sid = sid;
    holds = holds;
    there = ready.running.holders.spaces pid sid holds;
    resident = ap (λ (l : List Residence). (swapper.residence_of l pid).out) residents ∙ is_in (range_with_len 1 (m.kernel.next_pid - 1)) ps pid p f o;
  };
}
  where
    holds : life_in m.kernel pid ≡ HoldsSpace sid
    holds = ap life_of_proc (record_shown m.kernel ps pid procs records ∙ ap proc_of_record f) ∙ ap life_shown s
