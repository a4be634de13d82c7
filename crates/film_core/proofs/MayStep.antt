-- Whether a process may step, by its record.
use Rattle.std.proofs.Common.{◌≡◌, ℕ, false, List, Some, None, ap, ◌∙◌}
use Rattle.proc_table.specs.declared.process.Proc.{Proc as Record}
use Rattle.proc_table.specs.Records.{find}
use Rattle.page_model.specs.Pages.{numbered}
use Rattle.kernel_model.specs.Kernel.{Kernel, Proc}
use Rattle.kernel_model.specs.Unit.{proc_of}
use Rattle.machine_state.specs.Alike.{AreRecords}
use Rattle.machine_state.specs.Machine.{proc_shown, proc_of_record as shown_of, processes_of}
use Rattle.machine_state.proofs.Listed.{process_is}
use Rattle.vm_core.specs.Choosing.{can_run, steps_by}

module _ (k : Kernel) (ps : List Record) (pid : ℕ) (procs : k.processes ≡ processes_of ps k.next_pid) (known : AreRecords ps k.next_pid) where
  recorded : proc_of k pid ≡ shown_of (find pid ps)
  recorded = ap (λ (qs : List Proc). numbered (λ (p : Proc). p.pid) pid qs) procs ∙ process_is ps k.next_pid pid known

  pub steps_none : find pid ps ≡ None → steps_by (proc_of k pid) ≡ false
  steps_none e = ap steps_by (recorded ∙ ap shown_of e)

  pub steps_some : (p : Record) → find pid ps ≡ Some p → steps_by (proc_of k pid) ≡ can_run (proc_shown p)
  steps_some p e = ap steps_by (recorded ∙ ap shown_of e)
