use Rattle.std.proofs.Common.{sym, ap, ◌∙◌}
use Rattle.std.specs.Option.{option_copied}
use Rattle.swapper.proofs.Holders.{none_held, state_held, held_there}
use Rattle.swapper.proofs.putting_out.held_by.Goals as goal

pub unreachable-requires : goal.unreachable-requires
unreachable-requires c =
    none_held c.args.m.now.kernel c.processes.result.now c.args.m.now.kernel.next_pid c.args.pid c.processes.ensures.processes c.requires
    (sym c.get.ensures.value ∙ ap option_copied c.in_default.is)

pub unreachable-requires-in_default-state : goal.unreachable-requires-in_default-state
unreachable-requires-in_default-state c =
    let x = state_held c.args.m.now.kernel c.processes.result.now c.args.m.now.kernel.next_pid c.args.pid c.in-Some.process.now c.processes.ensures.processes c.requires
    (sym c.get.ensures.value ∙ ap option_copied c.in-Some.is) in
    c.in_default-state.not-Holds x.0 x.2

pub returns : goal.returns
returns c =
    held_there c.args.m.now.kernel c.processes.result.now c.args.m.now.kernel.next_pid c.args.pid c.in-Holds.sid c.in-Some.process.now c.processes.ensures.processes c.requires
    (sym c.get.ensures.value ∙ ap option_copied c.in-Some.is) c.in-Holds.is
