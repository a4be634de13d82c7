-- The record of a process, and the process of the flat state.
use Rattle.std.proofs.Common.{◌≡◌, ℕ, ◌-◌, List, Option, Some, None, refl, sym, ap, ◌∙◌, arith}
use Rattle.std.proofs.lemmas.Option.{same_Some}
use Rattle.proc_table.specs.declared.process.Proc.{Proc as Record}
use Rattle.proc_table.specs.declared.process.Life.TheVariants as lives
use Rattle.flat_state.specs.Flat.{Process, FlatState, process_of}
use Rattle.flat_state.specs.Change.{is_borrower}
use Rattle.page_model.specs.Pages.{numbered}
use Rattle.page_model.specs.Placement.{Residence}
use Rattle.page_model.specs.Swapper.{residence_of, is_out}
use Rattle.kernel_model.specs.Kernel.{Kernel, Proc, life_of}
use Rattle.kernel_model.specs.Coupled.{Outline, outline_kept, outline_of, SameTables}
use Rattle.kernel_model.specs.Unit.{proc_of}
use Rattle.kernel_laws.proofs.Flat.Lists.{found_is}
use Rattle.kernel_laws.proofs.Flat.Numbered.{image_by}
use Rattle.kernel_laws.proofs.Kept.Borrowed.{borrows_is}
use Rattle.kernel_laws.proofs.Machine.Tables.{kept_pid, outlines_at}
use Rattle.machine_state.specs.Machine.{life_shown, proc_shown, proc_of_record, residence_by, residence_shown as shown_residence}
use Rattle.machine_state.proofs.ByNumber.{residence_over}
use Rattle.machine_state.proofs.Listed.{process_is}
use Rattle.move_judge.specs.Records.{IsRecord}

-- the flat state has the process of a record, with the same life, awake or asleep
pub record IsFlat (F : FlatState) (pid : ℕ) (p : Record) : Type 0 where
  pub process : Process
  pub here : process_of F pid ≡ Some process
  pub life : life_shown p.state ≡ life_of process.holding
  pub asleep : p.asleep ≡ process.asleep

-- the kernel's process of a record, if there is one
pub record_shown : (k : Kernel) (pid : ℕ) (o : Option Record) → IsRecord k pid o → proc_of k pid ≡ proc_of_record o
record_shown k pid o r = ap (numbered kept_pid pid) r.processes ∙ process_is r.table k.next_pid pid r.records ∙ ap proc_of_record r.found

-- its registers are those of the record
pub shown_regs : (k : Kernel) (pid : ℕ) (r : Record) (p : Proc) → IsRecord k pid (Some r) → proc_of k pid ≡ Some p → r.regs ≡ p.regs
shown_regs k pid r p known e =
    ap (λ (q : Proc). q.regs) (same_Some (proc_shown r) p (sym (record_shown k pid (Some r) known) ∙ e))

module _ (k : Kernel) (F : FlatState) (t : SameTables k F) (pid : ℕ) where
  outlines : (o : Option Record) → IsRecord k pid o → image_by outline_kept (proc_of_record o) ≡ image_by outline_of (process_of F pid)
  outlines o r =
      ap (image_by outline_kept) (sym (record_shown k pid o r)) ∙ outlines_at k.processes F.processes t.processes pid ∙ ap (image_by outline_of) (sym (found_is F.processes pid))

  pub none_there : IsRecord k pid None → process_of F pid ≡ None
  none_there r = go (process_of F pid) (outlines None r)
    where
      go : (o : Option Process) → image_by outline_kept (proc_of_record None) ≡ image_by outline_of o → o ≡ None
      go None e = refl
      go (Some q) e = absurd cc

  pub some_there : (p : Record) → IsRecord k pid (Some p) → IsFlat F pid p
  some_there p r = go (process_of F pid) refl (outlines (Some p) r)
    where
      go : (o : Option Process) → process_of F pid ≡ o → image_by outline_kept (proc_of_record (Some p)) ≡ image_by outline_of o → IsFlat F pid p
      go None i e = absurd cc
      go (Some q) i e =
          let same : outline_kept (proc_shown p) ≡ outline_of q = same_Some (outline_kept (proc_shown p)) (outline_of q) e in
          record { process = q; here = i; life = ap (λ (o : Outline). o.life) same; asleep = ap (λ (o : Outline). o.asleep) same }

  pub record_borrowed : (p : Record) → IsRecord k pid (Some p) → p.borrowed ≡ is_borrower F.processes pid
  record_borrowed p r = r.marked pid p r.found ∙ borrows_is k F pid t

-- a process that holds a space is out where its record says so
pub record_out : (k : Kernel) (pid sid : ℕ) (p : Record) → IsRecord k pid (Some p) → p.state ≡ lives.Holds sid → p.out ≡ is_out k.place pid
record_out k pid sid p r s =
    let b = r.records.known pid p r.found in
    let mine : Residence = record { pid = p.pid; out = p.out; since = p.since } in
    sym (
    ap (λ (rs : List Residence). (residence_of rs pid).out) r.residents
    ∙ ap (λ (y : Residence). y.out)
    (residence_over r.table pid mine 1 (k.next_pid - 1) b.0 (omega (arith, b.0, b.1)) (ap shown_residence r.found ∙ ap (residence_by p) s)))
