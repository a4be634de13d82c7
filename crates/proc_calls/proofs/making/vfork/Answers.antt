use Rattle.std.proofs.Common.{Bool, [], ◌∷◌, sym, ap, ◌∙◌}
use Rattle.std.specs.Prelude.{Ok}
use Rattle.flat_state.specs.declared.change.Change.TheVariants.{Lend}
use Rattle.flat_model.specs.declared.calls.SystemCall.TheVariants.{Vfork}
use Rattle.flat_model.specs.Step.{call_entry}
use Rattle.proc_calls.proofs.Makes.{vfork_asks, asked_found, asked_fits, behind_found, refused_ok, stops_refused, has_child, lent_ok, may_apply}
use Rattle.proc_calls.proofs.making.vfork.Goals as goal

pub returns-then-not-branch-clause-vforked : goal.returns-then-not-branch-clause-vforked
returns-then-not-branch-clause-vforked c =
    let child = c.next_numbers-child.result.0 in
    let no = ap (λ (b : Bool). Ok b) c.if-not-branch.true in
    let asks =
    vfork_asks c.args.m.now c.args.pid child c.u_want.result c.u_want.ensures c.next_numbers-child.ensures.process c.requires.calls.ready in
    refused_ok c.fail-then-not-branch.result c.args.m.now c.ask.new.self c.fail-then-not-branch.new.m c.args.pid child c.args.regs.now
    (c.in_ok-ask.ensures.refused no) (c.in_ok-ask.ensures.keeps no) c.next_numbers-child.ensures.process
    (sym c.is_below_limit.ensures ∙ c.if-not-is_below_limit.false)
    (asked_fits c.args.m.now c.args.pid (Lend child) (c.u_want.result ∷ []) c.in_ok-ask.field-0 asks c.in_ok-ask.ensures.answer ∙ c.if-not-branch.true)
    c.fail-then-not-branch.ensures.replied

pub returns-then-not-branch-clause-stop : goal.returns-then-not-branch-clause-stop
returns-then-not-branch-clause-stop c =
    let child = c.next_numbers-child.result.0 in
    let no = ap (λ (b : Bool). Ok b) c.if-not-branch.true in
    let asks =
    vfork_asks c.args.m.now c.args.pid child c.u_want.result c.u_want.ensures c.next_numbers-child.ensures.process c.requires.calls.ready in
    stops_refused c.fail-then-not-branch.result c.args.m.now c.ask.new.self c.fail-then-not-branch.new.m c.args.pid child (λ n. Lend n)
    (c.in_ok-ask.ensures.refused no) c.next_numbers-child.ensures.process (sym c.is_below_limit.ensures ∙ c.if-not-is_below_limit.false)
    (asked_fits c.args.m.now c.args.pid (Lend child) (c.u_want.result ∷ []) c.in_ok-ask.field-0 asks c.in_ok-ask.ensures.answer ∙ c.if-not-branch.true)
    (c.in_ok-ask.ensures.goes_on no).whole c.fail-then-not-branch.ensures.stops

pub reply-requires-clause-can : goal.reply-requires-clause-can
reply-requires-clause-can c =
    let found = c.in_ok-ask.ensures.found (ap (λ (b : Bool). Ok b) c.if-not-branch.false) in
    let child = c.next_numbers-child.result.0 in
    let asks =
    vfork_asks c.args.m.now c.args.pid child c.u_want.result c.u_want.ensures c.next_numbers-child.ensures.process c.requires.calls.ready in
    may_apply c.args.m.now c.ask.new.self c.args.pid child Vfork c.replied_both-after.result found.0 found.2 c.next_numbers-child.ensures.process
    (sym c.is_below_limit.ensures ∙ c.if-not-is_below_limit.false) c.requires.calls
    (asked_found c.args.m.now c.args.pid (Lend child) (c.u_want.result ∷ []) found.0 asks found.1)

pub lend-requires-clause-holds : goal.lend-requires-clause-holds
lend-requires-clause-holds c =
    let found = c.in_ok-ask.ensures.found (ap (λ (b : Bool). Ok b) c.if-not-branch.false) in
    (behind_found c.args.m.now c.ask.new.self c.reply.new.m c.args.pid c.replied_both-after.result (call_entry c.args.pid Vfork c.replied_both-after.result)
    found.0 found.2 c.requires.calls c.next_numbers-child.result.0 c.next_numbers-child.ensures.process c.in_ok-reply.ensures.answered.step).0

pub lend-requires-clause-there : goal.lend-requires-clause-there
lend-requires-clause-there c =
    let found = c.in_ok-ask.ensures.found (ap (λ (b : Bool). Ok b) c.if-not-branch.false) in
    (behind_found c.args.m.now c.ask.new.self c.reply.new.m c.args.pid c.replied_both-after.result (call_entry c.args.pid Vfork c.replied_both-after.result)
    found.0 found.2 c.requires.calls c.next_numbers-child.result.0 c.next_numbers-child.ensures.process c.in_ok-reply.ensures.answered.step).1

pub lend-requires-clause-fresh : goal.lend-requires-clause-fresh
lend-requires-clause-fresh c =
    let found = c.in_ok-ask.ensures.found (ap (λ (b : Bool). Ok b) c.if-not-branch.false) in
    (behind_found c.args.m.now c.ask.new.self c.reply.new.m c.args.pid c.replied_both-after.result (call_entry c.args.pid Vfork c.replied_both-after.result)
    found.0 found.2 c.requires.calls c.next_numbers-child.result.0 c.next_numbers-child.ensures.process c.in_ok-reply.ensures.answered.step).2

pub returns-clause-vforked : goal.returns-clause-vforked
returns-clause-vforked c =
    let found = c.in_ok-ask.ensures.found (ap (λ (b : Bool). Ok b) c.if-not-branch.false) in
    let child = c.next_numbers-child.result.0 in
    let asks =
    vfork_asks c.args.m.now c.args.pid child c.u_want.result c.u_want.ensures c.next_numbers-child.ensures.process c.requires.calls.ready in
    lent_ok c.args.m.now c.reply.new.m c.lend.new.m c.args.pid child c.args.regs.now
    c.next_numbers-child.ensures.process (sym c.is_below_limit.ensures ∙ c.if-not-is_below_limit.false)
    (has_child c.args.m.now c.ask.new.self c.reply.new.m c.args.pid child Vfork c.args.regs.now c.replied_both-after.result (Lend child) found.0 found.2 c.replied_both-after.ensures
    (asked_found c.args.m.now c.args.pid (Lend child) (c.u_want.result ∷ []) found.0 asks found.1) c.in_ok-reply.ensures.answered)
    c.lend.ensures.step c.lend.ensures.lent
