use Rattle.std.proofs.Common.{refl}
use Rattle.vm_facts.specs.declared.entry.Entry.TheVariants.{Out}
use Rattle.proc_calls.proofs.Callers.{can_keep, calls_behind}
use Rattle.proc_calls.proofs.writing.send.Goals as goal

pub flat-requires-clause-can : goal.flat-requires-clause-can
flat-requires-clause-can c = can_keep c.args.m.now c.args.pid (Out c.args.pid c.args.bytes) c.requires.calls refl

pub returns-clause-calls : goal.returns-clause-calls
returns-clause-calls c =
    calls_behind c.flat.result c.args.m.now c.args.pid c.process.result.regs (Out c.args.pid c.args.bytes) c.flat.new.self c.flat.ensures.step c.flat.ensures.goes_on
    c.requires.calls
