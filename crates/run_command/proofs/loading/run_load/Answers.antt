use Rattle.std.proofs.Common.{◌≡◌, List, ◌≤◌, length, Err, map, Some, Global, refl, sym, subst}
use Rattle.vm_facts.specs.declared.entry.Entry.{Entry}
use Rattle.io_edge.specs.FileHolding.{named_file}
use Rattle.machine_state.specs.Machine.{Standing}
use Rattle.vm_core.specs.FirstProcesses.{StartsFrom}
use Rattle.vm_core.specs.RunEnds.{IsAskedOf}
use Rattle.command_edge.specs.declared.fault.Fault.TheVariants.{JournalFull}
use Rattle.run_command.specs.Loads.{load_first, WritesCounts}
use Rattle.run_command.proofs.Early.{left_together, load_early}
use Rattle.run_command.proofs.Loadings.{load_ran, load_unmade}
use Rattle.run_command.proofs.loading.run_load.Goals as goal

pub returns-in_default-clause-runs : goal.returns-in_default-clause-runs
returns-in_default-clause-runs g c = λ told opens pages notes.
    load_unmade _ _ c.args.number _ c.write_counts.result refl
    (record { files = record { open_same = refl; page_same = refl }; reads = record { zero = refl; one = refl }; writes = record { zero = refl; one = refl } }) c.write_counts.ensures.writes

pub returns-clause-runs : goal.returns-clause-runs
returns-clause-runs g c = λ told opens pages notes.
    let ran = c.run_paired-ending in
    let journal = ran.new.core.machine.kernel.journal in
    load_ran _ _ c.args.number _ c.write_counts-status.result journal ran.result ran.ensures.kind ran.ensures.files_read.page_faults
    (record { open_same = refl; page_same = refl }) ran.ensures.reads ran.ensures.writes
    ran.ensures.none_made
    (λ pid is. left_together g.D.SwapDev g.E.SwapDev c.args.zero.now ran.new.zero c.args.one.now ran.new.one (ran.ensures.zero_left pid is) (ran.ensures.one_left pid is))
    (subst (λ (m : Standing). ran.result ≡ Err JournalFull → length journal ≡ m.params.journal) c.in-Ok.ensures.machine ran.ensures.full)
    (subst (λ (m : Standing). length journal ≤ m.params.journal) c.in-Ok.ensures.machine ran.ensures.within)
    (λ A starts. ran.ensures.no_space A (subst (λ (m : Standing). StartsFrom A m load_first) (sym c.in-Ok.ensures.machine) starts))
    (λ A image is before.
    ran.ensures.ends A image (subst (λ (m : Standing). IsAskedOf A m load_first c.args.lines.now (Some (map (named_file {A = Global} {B = Global}) c.args.files.now.files.items)) image)
    (sym c.in-Ok.ensures.machine) is) before)
    (subst
    (λ (j : List Entry). WritesCounts c.args.number j ran.result (g.S.Sink.written c.args.sink.now) (g.S.Sink.written c.write_counts-status.new.sink) (g.S.Sink.faults c.args.sink.now)
    (g.S.Sink.faults c.write_counts-status.new.sink) c.write_counts-status.result)
    c.journal.ensures c.write_counts-status.ensures.writes)

pub returns-clause-zero_left : goal.returns-clause-zero_left
returns-clause-zero_left g c =
    let ran = c.run_paired-ending in
    let wrote = c.write_counts-status in
    load_early _ _ _ _ wrote.result ran.result ran.ensures.kind c.args.number _ _ wrote.ensures.writes ran.ensures.zero_left

pub returns-clause-one_left : goal.returns-clause-one_left
returns-clause-one_left g c =
    let ran = c.run_paired-ending in
    let wrote = c.write_counts-status in
    load_early _ _ _ _ wrote.result ran.result ran.ensures.kind c.args.number _ _ wrote.ensures.writes ran.ensures.one_left
