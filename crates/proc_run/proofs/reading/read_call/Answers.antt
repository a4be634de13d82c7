use Rattle.std.proofs.Common.{◌≡◌, ℕ, List, sym, ap, subst}
use Rattle.std.specs.Prelude.{IfOk}
use Rattle.user_vax.specs.Program.{run}
use Rattle.flat_model.specs.Calls.{reply_of, refusal_of}
use Rattle.machine_state.specs.Going.{CanGoOn}
use Rattle.machine_state.specs.Machine.{Standing}
use Rattle.machine_state.specs.Sourced.{ImageNamed}
use Rattle.kernel_model.specs.ChangeStep.{space_of_life}
use Rattle.step_units.specs.Growth.{space_of_pid}
use Rattle.step_units.specs.Reading.{AreNamed}
use Rattle.proc_run.specs.Shown.{shown_in}
use Rattle.proc_run.proofs.reading.read_call.Goals as goal

pub read_shown-requires : goal.read_shown-requires
read_shown-requires c = subst CanGoOn (sym c.memory.ensures.now) c.requires.ready

pub returns-clause-value : goal.returns-clause-value
returns-clause-value c = λ known F p s named.
    let asks = λ (m : Standing) (sid : ℕ). IfOk c.read_shown.result
    (λ asked. asked ≡ refusal_of (run (shown_in m.kernel sid c.args.pages.now) (reply_of known F p s c.args.call c.args.regs.now))) in
    let held : c.memory.result.layout.sid ≡ space_of_pid c.args.m.now.kernel c.args.pid = sym (ap space_of_life c.memory.ensures.space) in
    subst (λ (sid : ℕ). asks c.args.m.now sid) held
    (subst (λ (m : Standing). asks m c.memory.result.layout.sid) c.memory.ensures.now
    (c.read_shown.ensures known F p s (subst (λ (ns : List ImageNamed). AreNamed known ns) (sym (ap (λ (m : Standing). m.images) c.memory.ensures.now)) named)))
