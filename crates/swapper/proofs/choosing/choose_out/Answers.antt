use Rattle.std.proofs.Common.{Option, sym, ap}
use Rattle.page_model.specs.Swapper.{Out, Nothing, puts_out}
use Rattle.machine_state.specs.Machine.{processes_of}
use Rattle.swapper.specs.declared.candidates.Seen.{Seen}
use Rattle.swapper.specs.Runners.{runner_of, runners_in}
use Rattle.swapper.proofs.Turning.{out_sleeper, out_large}
use Rattle.swapper.proofs.choosing.choose_out.Goals as goal

pub returns-in-Some : goal.returns-in-Some
returns-in-Some c =
    let p = c.args.m.now.kernel.place in
    out_sleeper p (runners_in (processes_of c.args.processes.now c.args.next)) c.longest.result c.in-Some.seen (c.longest.ensures p c.requires.residents) c.in-Some.is

pub returns-in-Some-longest_of_largest : goal.returns-in-Some-longest_of_largest
returns-in-Some-longest_of_largest c =
    let p = c.args.m.now.kernel.place in
    out_large p (runners_in (processes_of c.args.processes.now c.args.next)) c.longest.result c.longest_of_largest.result (Out c.in-Some-longest_of_largest.seen.pid)
    (c.longest.ensures p c.requires.residents) c.in_default.is c.longest_of_largest.ensures (ap (λ (o : Option Seen). puts_out (runner_of o)) (sym c.in-Some-longest_of_largest.is))

pub returns-in-None : goal.returns-in-None
returns-in-None c =
    let p = c.args.m.now.kernel.place in
    out_large p (runners_in (processes_of c.args.processes.now c.args.next)) c.longest.result c.longest_of_largest.result Nothing
    (c.longest.ensures p c.requires.residents) c.in_default.is c.longest_of_largest.ensures (ap (λ (o : Option Seen). puts_out (runner_of o)) (sym c.in-None.is))
