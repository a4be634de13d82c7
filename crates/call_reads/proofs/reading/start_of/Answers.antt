use Rattle.std.proofs.Common.{◌≡◌, Some, Ok, sym, ◌∙◌}
use Rattle.call_reads.proofs.Names.{starts_is}
use Rattle.call_reads.proofs.reading.start_of.Goals as goal

pub returns-in_ok-top-in-Ok-Some-clause-value : goal.returns-in_ok-top-in-Ok-Some-clause-value
returns-in_ok-top-in-Ok-Some-clause-value g c = λ known is.
    let e : c.in_ok-refused.field-0 ≡ Ok (Some c.in-Ok-Some.arguments) = cc in
    starts_is (g.M.Memory.answers c.args.memory.now) c.args.argv c.args.image c.args.entry known c.in-Ok-Some.arguments c.start_regs.result
    c.in_ok-top-in-Ok-Some.top (sym e ∙ c.in_ok-refused.ensures) c.start_regs.ensures c.in_ok-top-in-Ok-Some.ensures.page is
