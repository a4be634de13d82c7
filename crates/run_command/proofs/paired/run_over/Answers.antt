use Rattle.std.proofs.Common.{Result, Err, length, sym, ap, ◌∙◌, subst}
use Rattle.vm_facts.specs.declared.stop.Stop.{Stop}
use Rattle.io_edge.specs.WithFiles.{with_files}
use Rattle.machine_state.specs.Outside.{stop_of, CountsReadFaults, CountsWriteFaults}
use Rattle.vm_core.specs.declared.schedule.Unfinished.{Unfinished}
use Rattle.vm_core.specs.declared.schedule.Unfinished.TheVariants as ends
use Rattle.vm_core.specs.RunEnds.{stopped_as, RunEnds}
use Rattle.run_command.specs.Seen.{DeviceFaults}
use Rattle.run_command.specs.Paired.{image_together}
use Rattle.run_command.proofs.Pairs.{stopped_ends, full_at, none_failed, reads_fail, writes_fail}
use Rattle.run_command.proofs.paired.run_over.Goals as goal

pub returns-in-Ok-clause-reads : goal.returns-in-Ok-clause-reads
returns-in-Ok-clause-reads g c =
    let old = c.args.pair.now in
    let new = c.run_schedule.new.swap in
    let f : DeviceFaults = record {
      zero_before = g.D.SwapDev.read_faults old.zero.now;
      zero_after = g.D.SwapDev.read_faults new.zero.now;
      one_before = g.E.SwapDev.read_faults old.one.now;
      one_after = g.E.SwapDev.read_faults new.one.now;
    } in
    none_failed f old.reads.count new.reads.count old.reads.last new.reads.last c.run_schedule.ensures.outside.swap.leads.4 c.requires.no_reads c.in-Ok.ensures.outside.swap.read_faults

pub returns-in-Ok-clause-writes : goal.returns-in-Ok-clause-writes
returns-in-Ok-clause-writes g c =
    let old = c.args.pair.now in
    let new = c.run_schedule.new.swap in
    let f : DeviceFaults = record {
      zero_before = g.D.SwapDev.write_faults old.zero.now;
      zero_after = g.D.SwapDev.write_faults new.zero.now;
      one_before = g.E.SwapDev.write_faults old.one.now;
      one_after = g.E.SwapDev.write_faults new.one.now;
    } in
    none_failed f old.writes.count new.writes.count old.writes.last new.writes.last c.run_schedule.ensures.outside.swap.leads.5 c.requires.no_writes c.in-Ok.ensures.outside.swap.write_faults

pub returns-in-Err-NoSpace-clause-ends : goal.returns-in-Err-NoSpace-clause-ends
returns-in-Err-NoSpace-clause-ends g c A image is told =
    let new = c.run_schedule.new.swap in
    let after = with_files (g.F.Files.notes c.run_schedule.new.files)
    (image_together (g.D.SwapDev.blocks new.zero.now) (g.E.SwapDev.blocks new.one.now) (g.D.SwapDev.image new.zero.now) (g.E.SwapDev.image new.one.now)) in
    subst (λ (u : Unfinished). RunEnds A c.run_schedule.new.core.machine.kernel.journal image (Err u) after) c.in-Err-NoSpace.field-0-is (c.in-Err-NoSpace.ensures.ends A image is told)

pub returns-in-Err-Stopped-clause-ends : goal.returns-in-Err-Stopped-clause-ends
returns-in-Err-Stopped-clause-ends g c A image is told =
    let new = c.run_schedule.new.swap in
    let after = with_files (g.F.Files.notes c.run_schedule.new.files)
    (image_together (g.D.SwapDev.blocks new.zero.now) (g.E.SwapDev.blocks new.one.now) (g.D.SwapDev.image new.zero.now) (g.E.SwapDev.image new.one.now)) in
    stopped_ends A c.run_schedule.new.core.machine.kernel.journal image after c.in-Err-Stopped.stop c.fault_of.result c.fault_of.ensures.unfinished
    (subst (λ (u : Unfinished). RunEnds A c.run_schedule.new.core.machine.kernel.journal image (Err u) after) c.in-Err-Stopped.field-0-is (c.in-Err-Stopped.ensures.ends A image is told))

pub returns-in-Err-Stopped-clause-reads : goal.returns-in-Err-Stopped-clause-reads
returns-in-Err-Stopped-clause-reads g c =
    let old = c.args.pair.now in
    let new = c.run_schedule.new.swap in
    let f : DeviceFaults = record {
      zero_before = g.D.SwapDev.read_faults old.zero.now;
      zero_after = g.D.SwapDev.read_faults new.zero.now;
      one_before = g.E.SwapDev.read_faults old.one.now;
      one_after = g.E.SwapDev.read_faults new.one.now;
    } in
    reads_fail f old.reads.count new.reads.count old.reads.last new.reads.last c.run_schedule.ensures.outside.swap.leads.4 c.requires.no_reads c.requires.no_read new.reads.device
    c.in-Err-Stopped.stop c.fault_of.result
    (subst (λ (u : Unfinished). CountsReadFaults (stop_of (stopped_as (Err u))) old.reads.count new.reads.count) c.in-Err-Stopped.field-0-is c.in-Err-Stopped.ensures.outside.swap.read_faults)
    c.fault_of.ensures.unfinished c.fault_of.ensures.kind
    (λ device e. sym c.failed_read.ensures.device ∙ c.fault_of.ensures.read_device device e)

pub returns-in-Err-Stopped-clause-writes : goal.returns-in-Err-Stopped-clause-writes
returns-in-Err-Stopped-clause-writes g c =
    let old = c.args.pair.now in
    let new = c.run_schedule.new.swap in
    let f : DeviceFaults = record {
      zero_before = g.D.SwapDev.write_faults old.zero.now;
      zero_after = g.D.SwapDev.write_faults new.zero.now;
      one_before = g.E.SwapDev.write_faults old.one.now;
      one_after = g.E.SwapDev.write_faults new.one.now;
    } in
    writes_fail f old.writes.count new.writes.count old.writes.last new.writes.last c.run_schedule.ensures.outside.swap.leads.5 c.requires.no_writes c.requires.no_write new.writes.device
    c.in-Err-Stopped.stop c.fault_of.result
    (subst (λ (u : Unfinished). CountsWriteFaults (stop_of (stopped_as (Err u))) old.writes.count new.writes.count) c.in-Err-Stopped.field-0-is c.in-Err-Stopped.ensures.outside.swap.write_faults)
    c.fault_of.ensures.unfinished c.fault_of.ensures.kind
    (λ device e. sym c.failed_write.ensures.device ∙ c.fault_of.ensures.write_device device e)

pub returns-in-Err-Stopped-clause-full : goal.returns-in-Err-Stopped-clause-full
returns-in-Err-Stopped-clause-full g c is =
    let within = c.run_schedule.ensures.within in
    full_at c.in-Err-Stopped.stop c.fault_of.result c.args.core.now.machine.params.journal (length c.run_schedule.new.core.machine.kernel.journal) c.fault_of.ensures.unfinished within
    (λ e. c.in-Err-Stopped.ensures.bound (ap (λ (u : Unfinished). let r : Result (Unit {0}) Unfinished = Err u in r) (c.in-Err-Stopped.field-0-is ∙ ap (λ (stop : Stop). ends.Stopped stop) e))) cc

-- What each device keeps, in whichever way the run ends.

pub returns-in-Ok-clause-devices : goal.returns-in-Ok-clause-devices
returns-in-Ok-clause-devices g c =
    let old = c.args.pair.now in
    let new = c.run_schedule.new.swap in
    let leads = c.run_schedule.ensures.outside.swap.leads in
    record {
      zero = record { leads = leads.2; blocks = g.met.D.SwapDev.blocks_stay old.zero.now new.zero.now leads.2 };
      one = record { leads = leads.3; blocks = g.met.E.SwapDev.blocks_stay old.one.now new.one.now leads.3 };
      zero_beyond = leads.6;
      one_beyond = leads.7;
    }

pub returns-in-Err-NoSpace-clause-devices : goal.returns-in-Err-NoSpace-clause-devices
returns-in-Err-NoSpace-clause-devices g c =
    let old = c.args.pair.now in
    let new = c.run_schedule.new.swap in
    let leads = c.run_schedule.ensures.outside.swap.leads in
    record {
      zero = record { leads = leads.2; blocks = g.met.D.SwapDev.blocks_stay old.zero.now new.zero.now leads.2 };
      one = record { leads = leads.3; blocks = g.met.E.SwapDev.blocks_stay old.one.now new.one.now leads.3 };
      zero_beyond = leads.6;
      one_beyond = leads.7;
    }

pub returns-in-Err-Stopped-clause-devices : goal.returns-in-Err-Stopped-clause-devices
returns-in-Err-Stopped-clause-devices g c =
    let old = c.args.pair.now in
    let new = c.run_schedule.new.swap in
    let leads = c.run_schedule.ensures.outside.swap.leads in
    record {
      zero = record { leads = leads.2; blocks = g.met.D.SwapDev.blocks_stay old.zero.now new.zero.now leads.2 };
      one = record { leads = leads.3; blocks = g.met.E.SwapDev.blocks_stay old.one.now new.one.now leads.3 };
      zero_beyond = leads.6;
      one_beyond = leads.7;
    }
