use Rattle.std.proofs.Common.{◌*◌, Some, take, refl}
use Rattle.vm_facts.specs.SwapImages.{unnoted}
use Rattle.io_edge.specs.Zeros.{with_zeros}
use Rattle.vmrun_callers.proofs.First.{if_ok, first_is}
use Rattle.vmrun_callers.proofs.readme_run.first_run.Goals as goal

pub returns : goal.returns
returns c = record {
  run = if_ok c.vmrun_in_memory.result _ _
      (λ done does. first_is _ _
      (Some (unnoted (with_zeros (512 * done.zero.blocks) done.zero.written.items)))
      (Some (unnoted (with_zeros (512 * done.one.blocks) done.one.written.items)))
      (Some (take done.output.len done.output.room.items)) done.output.faults done.status refl c.requires.files does)
      c.vmrun_in_memory.ensures.does;
}
