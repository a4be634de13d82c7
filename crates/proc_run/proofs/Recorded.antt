-- Whether a process runs, by its record.
use Rattle.std.proofs.Common.{◌≡◌, ℕ, Bool, true, false, ◌&&◌, not, List, Option, Some, None, refl, sym, ap, ◌∙◌}
use Rattle.proc_table.specs.declared.process.Proc.{Proc as Record}
use Rattle.proc_table.specs.declared.process.Life.{Life as RecordLife}
use Rattle.proc_table.specs.declared.process.Life.TheVariants as lives
use Rattle.proc_table.specs.Records.{find}
use Rattle.page_model.specs.Swapper.{is_out}
use Rattle.kernel_model.specs.Kernel.{Kernel, Proc}
use Rattle.kernel_model.specs.Unit.{proc_of}
use Rattle.machine_state.specs.Alike.{AreRecords}
use Rattle.machine_state.specs.Machine.{proc_shown, life_shown, proc_of_record as shown_of, processes_of, residents_of}
use Rattle.machine_state.proofs.Listed.{process_is}
use Rattle.machine_state.proofs.Records.{found_pid}
use Rattle.step_units.proofs.Numbers.{placed}
use Rattle.step_units.specs.Callers.{regs_by, regs_of}
use Rattle.proc_run.specs.Choosing.{is_space_holder, can_run, steps_by, may_run}

module _ (k : Kernel) (ps : List Record) (pid : ℕ) (procs : k.processes ≡ processes_of ps k.next_pid) (residents : k.place.residents ≡ residents_of ps k.next_pid)
    (known : AreRecords ps k.next_pid) where
  -- the process is the one of the record
  process : proc_of k pid ≡ shown_of (find pid ps)
  process = ap (λ (qs : List Proc). Rattle.page_model.specs.Pages.numbered (λ (p : Proc). p.pid) pid qs) procs ∙ process_is ps k.next_pid pid known

  pub no_record : find pid ps ≡ None → may_run k pid ≡ false
  no_record e = ap (λ (o : Option Proc). steps_by o && not (is_out k.place pid)) (process ∙ ap shown_of e)

  pub record_regs : (p : Record) → find pid ps ≡ Some p → p.regs ≡ regs_of k pid
  record_regs p e = sym (ap regs_by (process ∙ ap shown_of e))

  -- where it holds a space, it is out where its record says so
  held_out : (p : Record) (l : RecordLife) → find pid ps ≡ Some p → p.state ≡ l → is_space_holder (life_shown l) ≡ true → p.out ≡ is_out k.place pid
  held_out p lives.New e s h = absurd cc
  held_out p (lives.Holds sid) e s h =
      let b = known.known pid p e in
      (placed k.place ps k.next_pid pid p sid residents b.0 b.1 e s).0 ∙ ap (is_out k.place) (found_pid pid ps p e)
  held_out p (lives.Lends sid child) e s h = absurd cc
  held_out p (lives.Zombie status) e s h = absurd cc

  pub record_runs : (p : Record) → find pid ps ≡ Some p → may_run k pid ≡ (can_run (proc_shown p) && not p.out)
  record_runs p e = ap (λ (o : Option Proc). steps_by o && not (is_out k.place pid)) (process ∙ ap shown_of e) ∙ go (is_space_holder (life_shown p.state)) refl
    where
      go : (b : Bool) → is_space_holder (life_shown p.state) ≡ b → (can_run (proc_shown p) && not (is_out k.place pid)) ≡ (can_run (proc_shown p) && not p.out)
      go true h = ap (λ (o : Bool). can_run (proc_shown p) && not o) (sym (held_out p p.state e refl h))
      go false h = ap (λ (b : Bool). (b && not p.asleep) && not (is_out k.place pid)) h ∙ sym (ap (λ (b : Bool). (b && not p.asleep) && not p.out) h)
