use Rattle.std.proofs.Common.{Bool, sym, ap, ◌∙◌}
use Rattle.std.specs.Prelude.{Ok}
use Rattle.flat_state.specs.declared.change.Change.TheVariants.{Fork}
use Rattle.flat_model.specs.declared.calls.SystemCall.TheVariants as calls
use Rattle.proc_calls.proofs.Makes.{asked_found, asked_fits, stops_refused}
use Rattle.proc_calls.proofs.Forks.{fork_asks, may_fork, fork_refused, fork_entered}
use Rattle.proc_calls.proofs.making.enter_fork.Goals as goal

pub returns-then-not-branch-clause-answer : goal.returns-then-not-branch-clause-answer
returns-then-not-branch-clause-answer c =
    let child = c.next_numbers-child.result.0 in
    let no = ap (λ (b : Bool). Ok b) c.if-not-branch.true in
    let asks =
    fork_asks c.args.m.now c.args.pid child c.args.parent c.fork_wants-wants.result c.fork_wants-wants.ensures c.requires.held c.next_numbers-child.ensures.process c.requires.calls.ready in
    fork_refused c.fail-then-not-branch.result c.args.m.now c.ask.new.self c.fail-then-not-branch.new.m c.args.pid child c.args.regs.now
    (c.in_ok-ask.ensures.refused no) (c.in_ok-ask.ensures.keeps no) c.next_numbers-child.ensures.process
    (sym c.is_below_limit.ensures ∙ c.if-not-is_below_limit.false)
    (asked_fits c.args.m.now c.args.pid (Fork child) c.fork_wants-wants.result c.in_ok-ask.field-0 asks c.in_ok-ask.ensures.answer ∙ c.if-not-branch.true)
    c.fail-then-not-branch.ensures.replied

pub returns-then-not-branch-clause-stop : goal.returns-then-not-branch-clause-stop
returns-then-not-branch-clause-stop c =
    let child = c.next_numbers-child.result.0 in
    let no = ap (λ (b : Bool). Ok b) c.if-not-branch.true in
    let asks =
    fork_asks c.args.m.now c.args.pid child c.args.parent c.fork_wants-wants.result c.fork_wants-wants.ensures c.requires.held c.next_numbers-child.ensures.process c.requires.calls.ready in
    stops_refused c.fail-then-not-branch.result c.args.m.now c.ask.new.self c.fail-then-not-branch.new.m c.args.pid child (λ n. Fork n)
    (c.in_ok-ask.ensures.refused no) c.next_numbers-child.ensures.process (sym c.is_below_limit.ensures ∙ c.if-not-is_below_limit.false)
    (asked_fits c.args.m.now c.args.pid (Fork child) c.fork_wants-wants.result c.in_ok-ask.field-0 asks c.in_ok-ask.ensures.answer ∙ c.if-not-branch.true)
    (c.in_ok-ask.ensures.goes_on no).whole c.fail-then-not-branch.ensures.stops

pub reply-requires-clause-can : goal.reply-requires-clause-can
reply-requires-clause-can c =
    let found = c.in_ok-ask.ensures.found (ap (λ (b : Bool). Ok b) c.if-not-branch.false) in
    let child = c.next_numbers-child.result.0 in
    let asks =
    fork_asks c.args.m.now c.args.pid child c.args.parent c.fork_wants-wants.result c.fork_wants-wants.ensures c.requires.held c.next_numbers-child.ensures.process c.requires.calls.ready in
    may_fork c.args.m.now c.ask.new.self c.args.pid child calls.Fork c.replied_both-after.result found.0 found.2 c.next_numbers-child.ensures.process
    (sym c.is_below_limit.ensures ∙ c.if-not-is_below_limit.false) c.requires.calls
    (asked_found c.args.m.now c.args.pid (Fork child) c.fork_wants-wants.result found.0 asks found.1)

pub returns-clause-answer : goal.returns-clause-answer
returns-clause-answer c =
    let found = c.in_ok-ask.ensures.found (ap (λ (b : Bool). Ok b) c.if-not-branch.false) in
    let child = c.next_numbers-child.result.0 in
    let asks =
    fork_asks c.args.m.now c.args.pid child c.args.parent c.fork_wants-wants.result c.fork_wants-wants.ensures c.requires.held c.next_numbers-child.ensures.process c.requires.calls.ready in
    fork_entered c.reply.result c.args.m.now c.ask.new.self c.reply.new.m c.args.pid child c.args.regs.now c.replied_both-after.result found.0 c.requires.calls found.2
    c.replied_both-after.ensures c.next_numbers-child.ensures.process (sym c.is_below_limit.ensures ∙ c.if-not-is_below_limit.false)
    (asked_found c.args.m.now c.args.pid (Fork child) c.fork_wants-wants.result found.0 asks found.1) c.reply.ensures.answered
