use Rattle.std.proofs.Common.{◌≡◌, ℕ, List, map, sym, ap, ◌∙◌, subst}
use Rattle.std.specs.Prelude.{IfOk}
use Rattle.user_vax.specs.Program.{run}
use Rattle.flat_model.specs.Calls.{execve_reply}
use Rattle.machine_state.specs.Machine.{Standing, image_shown}
use Rattle.machine_state.specs.Sourced.{ImageNamed}
use Rattle.machine_state.specs.UserMemory.{kernel_answers}
use Rattle.kernel_model.specs.ChangeStep.{space_of_life}
use Rattle.kernel_model.specs.Kernel.{Life}
use Rattle.fault_fill.specs.Growth.{space_of_pid}
use Rattle.call_reads.specs.Reading.{IsAmong}
use Rattle.call_reads.proofs.Images.{shown_by, all_fit, few_shown}
use Rattle.call_reads.proofs.Replies.{all_start}
use Rattle.proc_calls.specs.Starting.{IsImageOf}
use Rattle.proc_calls.proofs.Execs.{is_image}
use Rattle.proc_calls.proofs.executing.read_call.Goals as goal

pub execve_reply-requires-clause-few : goal.execve_reply-requires-clause-few
execve_reply-requires-clause-few c = few_shown c.args.m.now c.memory-memory.result.machine.now c.images.result.now c.memory-memory.ensures.now c.images.ensures c.requires.ready

pub execve_reply-requires-clause-entries : goal.execve_reply-requires-clause-entries
execve_reply-requires-clause-entries c = all_fit c.args.m.now c.memory-memory.result.machine.now c.images.result.now c.memory-memory.ensures.now c.images.ensures c.requires.ready

pub returns-clause-value : goal.returns-clause-value
returns-clause-value c = λ known named.
    let asks = λ (m : Standing) (sid : ℕ). IfOk c.execve_reply.result (λ asked. asked ≡ run (kernel_answers m.kernel sid) (execve_reply known c.args.regs.now)) in
    let held : c.memory-memory.result.layout.sid ≡ space_of_pid c.args.m.now.kernel c.args.pid = sym (ap space_of_life c.memory-memory.ensures.space) in
    subst (λ (sid : ℕ). asks c.args.m.now sid) held
    (subst (λ (m : Standing). asks m c.memory-memory.result.layout.sid) c.memory-memory.ensures.now
    (c.execve_reply.ensures.value known (shown_by known c.args.m.now c.memory-memory.result.machine.now c.images.result.now c.memory-memory.ensures.now c.images.ensures named)))

pub returns-clause-starts : goal.returns-clause-starts
returns-clause-starts c =
    let same : map image_shown c.images.result.now ≡ c.args.m.now.images = c.images.ensures ∙ ap (λ (s : Standing). s.images) c.memory-memory.ensures.now in
    all_start (IsAmong c.images.result.now) (IsImageOf c.args.m.now) (is_image c.images.result.now c.args.m.now same) c.execve_reply.result c.execve_reply.ensures.starts
