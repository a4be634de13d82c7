-- The lines of the processes by their records, from a pid on.
use Rattle.std.proofs.Common.{◌≡◌, ℕ, ◌+◌, ◌-◌, ◌<◌, Bool, List, [], ◌∷◌, ◌++◌, Option, Some, None, IsSome, refl, sym, ap, ap₂, ◌∙◌, arith}
use Rattle.std.specs.Prelude.{filter_map, codes}
use Rattle.std.specs.List.{flat_map, range_with_len}
use Rattle.proc_table.specs.declared.process.Proc.{Proc as Record}
use Rattle.proc_table.specs.declared.process.Life.{Life as RecordLife}
use Rattle.proc_table.specs.declared.process.Life.TheVariants as lives
use Rattle.proc_table.specs.Records.{find, Lowest}
use Rattle.page_model.specs.Placement.{Placement, Residence}
use Rattle.page_model.specs.Swapper.{is_out}
use Rattle.page_model.specs.Swapper as swapper
use Rattle.kernel_model.specs.Kernel.{Proc}
use Rattle.machine_state.specs.Alike.{AreRecords}
use Rattle.machine_state.specs.Machine.{life_shown, proc_shown, proc_of_record, processes_of, residence_by, residence_shown, residents_of}
use Rattle.machine_state.proofs.Records.{keeps_none, keeps_some, found_pid}
use Rattle.machine_state.proofs.ByNumber.{over, over_some, next_follows, none_follows, residence_over}
use Rattle.owner_lines.specs.Owners.{life_text, registers_in, registers_text, process_lines}
use Rattle.owner_lines.specs.Recorded.{record_lines, record_if}
use Rattle.run_text.specs.Text.{parts}

-- Whether a process is out, by its record.

module _ (p : Placement) (ps : List Record) (next : ℕ) (residents : p.residents ≡ residents_of ps next) (known : AreRecords ps next) where
  out_by : (n : ℕ) (x : Record) → find n ps ≡ Some x → (l : RecordLife) → x.state ≡ l
      → residence_by x l ≡ Some (let r : Residence = record { pid = x.pid; out = x.out; since = x.since } in r) → is_out p x.pid ≡ x.out
  out_by n x e l s has =
      let b = known.known n x e in
      let r : Residence = record { pid = x.pid; out = x.out; since = x.since } in
      ap (λ (k : ℕ). is_out p k) (found_pid n ps x e)
      ∙ ap (λ (rs : List Residence). (swapper.residence_of rs n).out) residents
      ∙ ap (λ (y : Residence). y.out) (residence_over ps n r 1 (next - 1) b.0 (let l = b.1 in omega arith) (ap residence_shown e ∙ ap (residence_by x) s ∙ has))

  abbrev said_by : (out : Bool) → Record → RecordLife → List ℕ
  said_by out x l = codes "process" ++ parts (x.pid ∷ []) ++ life_text out x.asleep (life_shown l) ++ codes "\n"

  lines_by : (n : ℕ) (x : Record) → find n ps ≡ Some x → (l : RecordLife) → x.state ≡ l
      → said_by (is_out p x.pid) x l ++ registers_text (is_out p x.pid) x.pid x.regs (life_shown l) ≡ said_by x.out x l ++ registers_text x.out x.pid x.regs (life_shown l)
  lines_by n x e lives.New s = refl
  lines_by n x e (lives.Holds sid) s =
      ap (λ (out : Bool). said_by out x (lives.Holds sid) ++ registers_in out x.pid x.regs) (out_by n x e (lives.Holds sid) s refl)
  lines_by n x e (lives.Lends sid child) s =
      ap (λ (out : Bool). said_by out x (lives.Lends sid child) ++ registers_in out x.pid x.regs) (out_by n x e (lives.Lends sid child) s refl)
  lines_by n x e (lives.Zombie status) s = refl

  line_by : (n : ℕ) (x : Record) → find n ps ≡ Some x → process_lines p (proc_shown x) ≡ record_lines x
  line_by n x e = lines_by n x e x.state refl

  lines_over : (ns : List ℕ) → flat_map (process_lines p) (filter_map (λ n. proc_of_record (find n ps)) ns) ≡ flat_map record_lines (filter_map (λ n. find n ps) ns)
  lines_over [] = refl
  lines_over (n ∷ ns) = go (find n ps) refl (lines_over ns)
    where
      go : (o : Option Record) → find n ps ≡ o → flat_map (process_lines p) (filter_map (λ n. proc_of_record (find n ps)) ns) ≡ flat_map record_lines (filter_map (λ n. find n ps) ns)
          → flat_map (process_lines p) (filter_map (λ n. proc_of_record (find n ps)) (n ∷ ns)) ≡ flat_map record_lines (filter_map (λ n. find n ps) (n ∷ ns))
      go None e more =
          ap (λ (qs : List Proc). flat_map (process_lines p) qs) (keeps_none (λ n. proc_of_record (find n ps)) n ns (ap proc_of_record e))
          ∙ more
          ∙ sym (ap (flat_map record_lines) (keeps_none (λ n. find n ps) n ns e))
      go (Some x) e more =
          ap (λ (qs : List Proc). flat_map (process_lines p) qs) (keeps_some (λ n. proc_of_record (find n ps)) n ns (proc_shown x) (ap proc_of_record e))
          ∙ ap₂ ◌++◌ (line_by n x e) more
          ∙ sym (ap (flat_map record_lines) (keeps_some (λ n. find n ps) n ns x e))

-- The records from a pid on.

abbrev pub records_over : List Record → ℕ → ℕ → List Record
records_over ps v next = over (λ n. find n ps) v next

-- the lines of all are those of the records
pub lines_of_all : (p : Placement) (ps : List Record) (next : ℕ) (qs : List Proc) → p.residents ≡ residents_of ps next → AreRecords ps next
    → qs ≡ processes_of ps next
    → flat_map (process_lines p) qs ≡ flat_map record_lines (records_over ps 1 next)
lines_of_all p ps next qs residents known e =
    ap (λ (qs : List Proc). flat_map (process_lines p) qs) e ∙ lines_over p ps next residents known (range_with_len 1 (next - 1))

-- the next pid is that of a record
next_there : (ps : List Record) (last pid : ℕ) → Lowest (λ q. (last < q) × IsSome (find q ps)) (Some pid) → find pid ps ≡ None → ⊥
next_there ps last pid low e = go (find pid ps) e low.0.1
  where
    go : (o : Option Record) → o ≡ None → IsSome o → ⊥
    go None h s = cc
    go (Some x) h s = cc

-- a step from a pid to the next one skips no record
records_next : (ps : List Record) (next last pid : ℕ) (x : Record) → AreRecords ps next
    → Lowest (λ q. (last < q) × IsSome (find q ps)) (Some pid) → find pid ps ≡ Some x
    → records_over ps (last + 1) next ≡ x ∷ records_over ps (pid + 1) next
records_next ps next last pid x h low e =
    next_follows (λ (o : Option Record). o) ps next last pid refl h low ∙ over_some (λ n. find n ps) pid next x (let k = h.known pid x e in k.1) e

-- so its line is the next
pub lines_next : (ps : List Record) (next last pid : ℕ) → AreRecords ps next → Lowest (λ q. (last < q) × IsSome (find q ps)) (Some pid)
    → flat_map record_lines (records_over ps (last + 1) next) ≡ record_if (find pid ps) ++ flat_map record_lines (records_over ps (pid + 1) next)
lines_next ps next last pid h low = go (find pid ps) refl
  where
    go : (o : Option Record) → find pid ps ≡ o → flat_map record_lines (records_over ps (last + 1) next) ≡ record_if (find pid ps) ++ flat_map record_lines (records_over ps (pid + 1) next)
    go None e = absurd (next_there ps last pid low e)
    go (Some x) e =
        ap (flat_map record_lines) (records_next ps next last pid x h low e)
        ∙ sym (ap (λ (o : Option Record). record_if o ++ flat_map record_lines (records_over ps (pid + 1) next)) e)

pub records_last : (ps : List Record) (next last : ℕ) → Lowest (λ q. (last < q) × IsSome (find q ps)) None → records_over ps (last + 1) next ≡ []
records_last ps next last low = none_follows (λ (o : Option Record). o) ps next last refl low
