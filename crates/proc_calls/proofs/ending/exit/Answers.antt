use Rattle.std.proofs.Common.{sym}
use Rattle.machine_state.specs.UserMemory.{kernel_answers}
use Rattle.fault_fill.specs.Growth.{space_of_pid}
use Rattle.proc_calls.proofs.Exits.{only_exits}
use Rattle.proc_calls.proofs.ending.exit.Goals as goal

pub status_of-requires : goal.status_of-requires
status_of-requires g c =
    only_exits (kernel_answers c.args.m.now.kernel (space_of_pid c.args.m.now.kernel c.args.pid)) c.args.regs.now c.in-Ok.reply (sym c.in-Ok.ensures.value)
