use Rattle.swapper.proofs.Turning.{may_turn}
use Rattle.swapper.proofs.choosing.turn.Goals as goal

pub carry_out-requires-clause-may : goal.carry_out-requires-clause-may
carry_out-requires-clause-may g c =
    may_turn c.args.m.now.kernel c.choose-chosen.result c.requires.asks.ready.running.numbered.pids_differ
    c.requires.asks.ready.running.holders.spaces c.choose-chosen.ensures
