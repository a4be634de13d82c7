use Rattle.std.proofs.Common.{◌≡◌, refl, sym, ap, ◌∙◌, subst}
use Rattle.std.specs.Prelude.{IfOk}
use Rattle.vm_facts.specs.declared.regs.Regs.{Regs}
use Rattle.vm_facts.specs.declared.entry.Entry.TheVariants.{Sleeps}
use Rattle.flat_state.specs.declared.change.Change.TheVariants.{Reap, Sleep}
use Rattle.flat_model.specs.declared.calls.Reply.{Reply}
use Rattle.flat_model.specs.declared.calls.SystemCall.TheVariants.{Wait}
use Rattle.flat_model.specs.Step.{call_entry}
use Rattle.proc_calls.specs.declared.children.Children.{Children}
use Rattle.proc_calls.specs.declared.children.Children.TheVariants as children
use Rattle.proc_calls.specs.declared.replying.Called.TheVariants as calls
use Rattle.proc_calls.specs.Answered.{Entered, Answered, Replied}
use Rattle.proc_calls.specs.Callers.{regs_by}
use Rattle.proc_calls.specs.Waiting.{wait_answer, reply_by}
use Rattle.proc_calls.proofs.Callers.{can_reap, can_sleep, both_ok}
use Rattle.proc_calls.proofs.Waits.{wait_is, zombie_ended}
use Rattle.proc_calls.proofs.children.wait.Goals as goal

pub reply-requires-clause-can : goal.reply-requires-clause-can
reply-requires-clause-can c =
    can_reap c.args.m.now c.args.pid c.in-Zombie.child (call_entry c.args.pid Wait c.replied_both-after.result) c.requires.calls
    (refl, tt)
    (zombie_ended c.args.m.now.kernel c.processes.result.now c.args.pid c.in-Zombie.child c.in-Zombie.status c.children_of.result c.processes.ensures.processes
    (c.processes.ensures.records c.requires.calls.ready.running.runs) c.children_of.ensures c.in-Zombie.is)

pub flat-requires-clause-can : goal.flat-requires-clause-can
flat-requires-clause-can c = can_sleep c.args.m.now c.args.pid (Sleeps c.args.pid) c.requires.calls refl

pub returns-in-None-clause-replied : goal.returns-in-None-clause-replied
returns-in-None-clause-replied c =
    let is : wait_answer c.args.m.now.kernel c.args.pid c.args.regs.now ≡ reply_by children.None c.args.regs.now =
    wait_is c.args.m.now.kernel c.processes.result.now c.args.pid c.children_of.result c.args.regs.now c.processes.ensures.processes
    (c.processes.ensures.records c.requires.calls.ready.running.runs) c.children_of.ensures
    ∙ ap (λ (x : Children). reply_by x c.args.regs.now) c.in-None.is in
    subst (λ (r : Reply). IfOk c.fail.result (Replied c.args.m.now c.fail.new.m c.args.pid Wait c.args.regs.now r)) (sym is) c.fail.ensures.replied

pub returns-in-Zombie-clause-replied : goal.returns-in-Zombie-clause-replied
returns-in-Zombie-clause-replied c =
    let is : wait_answer c.args.m.now.kernel c.args.pid c.args.regs.now ≡ reply_by (children.Zombie c.in-Zombie.child c.in-Zombie.status) c.args.regs.now =
    wait_is c.args.m.now.kernel c.processes.result.now c.args.pid c.children_of.result c.args.regs.now c.processes.ensures.processes
    (c.processes.ensures.records c.requires.calls.ready.running.runs) c.children_of.ensures
    ∙ ap (λ (x : Children). reply_by x c.args.regs.now) c.in-Zombie.is in
    subst (λ (r : Reply). IfOk c.reply.result (Replied c.args.m.now c.reply.new.m c.args.pid Wait c.args.regs.now r)) (sym is)
    (subst (λ (x : Regs). IfOk c.reply.result (λ called. (called ≡ calls.Ready) × Answered c.args.m.now c.reply.new.m c.args.pid Wait x (Reap c.in-Zombie.child)))
    c.replied_both-after.ensures
    (both_ok c.reply.result (λ called. called ≡ calls.Ready)
    (Answered c.args.m.now c.reply.new.m c.args.pid Wait c.replied_both-after.result (Reap c.in-Zombie.child)) c.reply.ensures.ready c.reply.ensures.answered))

pub returns-in_ok-flat-in-Living-clause-replied : goal.returns-in_ok-flat-in-Living-clause-replied
returns-in_ok-flat-in-Living-clause-replied c =
    let is : wait_answer c.args.m.now.kernel c.args.pid c.args.regs.now ≡ reply_by children.Living c.args.regs.now =
    wait_is c.args.m.now.kernel c.processes.result.now c.args.pid c.children_of.result c.args.regs.now c.processes.ensures.processes
    (c.processes.ensures.records c.requires.calls.ready.running.runs) c.children_of.ensures
    ∙ ap (λ (x : Children). reply_by x c.args.regs.now) c.in-Living.is in
    let made : Entered c.args.m.now c.flat.new.self c.args.pid c.process.result.regs (Sleeps c.args.pid) Sleep = record {
      step = c.in_ok-flat-in-Living.ensures.step;
      rest = c.in_ok-flat-in-Living.ensures.rest;
      keeps = c.in_ok-flat-in-Living.ensures.keeps;
    } in
    subst (λ (r : Reply). Replied c.args.m.now c.flat.new.self c.args.pid Wait c.args.regs.now r calls.Asleep) (sym is)
    (refl, subst (λ (x : Regs). Entered c.args.m.now c.flat.new.self c.args.pid x (Sleeps c.args.pid) Sleep) (sym (ap regs_by c.process.ensures)) made)
