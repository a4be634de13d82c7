use Rattle.std.proofs.Common.{◌≡◌, List, Some, rules, sym, ap, ◌∙◌}
use Rattle.flat_state.specs.Flat.{Process, FlatState}
use Rattle.user_vax.specs.Instruction.{writes_of, registers_after}
use Rattle.flat_state.specs.Space.{puts}
use Rattle.flat_state.specs.Change.{apply_writes}
use Rattle.flat_model.specs.Calls.{call_of, refused_reply}
use Rattle.flat_model.specs.Step.{written_process}
use Rattle.flat_process.specs.Holdings.{space_in}
use Rattle.flat_machine.proofs.Stepping.{by_call, reply_same}
use Rattle.flat_machine.proofs.machine.Machine.deed.Goals as goal

pub returns-in_ok-reply-in-Some-clause-value : goal.returns-in_ok-reply-in-Some-clause-value
returns-in_ok-reply-in-Some-clause-value c = λ F p s r behind.
    let process : c.at-process.result.now ≡ written_process p s (writes_of r) = c.at-process.ensures ∙ behind.process in
    let space = c.space.ensures ∙ ap (λ (q : Process). space_in q.holding) process in
    let state : List Process → FlatState = λ qs. record { processes = qs; next_pid = c.self.inside.next_pid; next_sid = c.self.inside.next_sid } in
    let listed : state c.as_slice-list.result.now ≡ c.args.self.now = ap state c.as_slice-list.ensures.value ∙ c.self.view_is in
    let found : call_of c.in-Call.number ≡ Some c.in-Some.call = search rules in
    by_call c.args.programs.now F p s c.args.refused r c.in-Call.number c.in-Some.call c.replied_deed.result c.refused_reply.result
    (sym behind.answer ∙ c.in-Call.is)
    found
    (c.refused_reply.ensures.value
    ∙ ap (refused_reply c.args.refused)
    (c.in_ok-reply-in-Some.ensures.value c.self.inside.next_sid
    ∙ reply_same c.args.programs.now c.in-Some.call
    (state c.as_slice-list.result.now) (apply_writes F p.pid (writes_of r))
    c.at-process.result.now (written_process p s (writes_of r)) c.space.result.now (puts s (writes_of r)) c.args.regs (registers_after p.regs r)
    (listed ∙ behind.state) process space behind.registers))
    (λ effect e. c.replied_deed.ensures.value c.args.programs.now F p effect
    (c.refused_reply.ensures.sound c.args.programs.now c.in_ok-reply-in-Some.ensures.sound)
    (sym (ap (λ (q : Process). q.regs) process))
    (sym (behind.registers ∙ ap (registers_after p.regs) e)))

pub returns-in_ok-reply-in-Some-clause-sound : goal.returns-in_ok-reply-in-Some-clause-sound
returns-in_ok-reply-in-Some-clause-sound c = c.replied_deed.ensures.sound c.args.programs.now (c.refused_reply.ensures.sound c.args.programs.now c.in_ok-reply-in-Some.ensures.sound)
