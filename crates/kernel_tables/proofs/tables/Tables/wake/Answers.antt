use Rattle.std.proofs.Common.{◌≡◌, ◌∙◌, ℕ, Some, sym, ap, subst}
use Rattle.std.specs.Option.{option_copied}
use Rattle.proc_table.specs.declared.process.Proc.{Proc as Record}
use Rattle.proc_table.specs.Records.{find}
use Rattle.kernel_model.specs.ChangeStep.{woken_procs}
use Rattle.kernel_tables.specs.Changing.{HasProcesses, processes_in, residents_in}
use Rattle.kernel_tables.proofs.Records.{found_pid}
use Rattle.kernel_tables.proofs.Lineage.{some_own, found_own, has_woken, none_woken}
use Rattle.kernel_tables.proofs.tables.Tables.wake.Goals as goal

pub set_process-requires : goal.set_process-requires
set_process-requires c = some_own c.args.pid c.args.self.now.processes c.in-Some.process.now (sym c.get.ensures.value ∙ ap (λ o. option_copied o) c.in-Some.is)

pub returns-in-Some : goal.returns-in-Some
returns-in-Some c =
    let was : Record = c.in-Some.process.now in
    let f : find c.args.pid c.args.self.now.processes ≡ Some was = sym c.get.ensures.value ∙ ap (λ o. option_copied o) c.in-Some.is in
    subst (λ (n : ℕ). HasProcesses c.args.self.now c.set_process.new.self c.args.self.now.next_pid (woken_procs (processes_in c.args.self.now) n) (residents_in c.args.self.now))
    (found_pid c.args.pid c.args.self.now.processes was f)
    (has_woken c.args.self.now c.set_process.new.self was c.requires (found_own c.args.pid c.args.self.now.processes was f) c.set_process.ensures.record c.set_process.ensures.sound
    c.set_process.ensures.rest)

pub returns-in_default : goal.returns-in_default
returns-in_default c = none_woken c.args.self.now c.args.pid c.requires (sym c.get.ensures.value ∙ ap (λ o. option_copied o) c.in_default.is)
