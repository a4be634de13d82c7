use Rattle.std.proofs.Common.{◌≡◌, get_or, set, refl, sym, ap, ◌∙◌}
use Rattle.flat_state.specs.Flat.{Process, FlatState}
use Rattle.user_vax.specs.Instruction.{answer_of, registers_after, writes_of}
use Rattle.flat_model.specs.Instruction.{instruction_in}
use Rattle.flat_model.specs.Step.{written_process}
use Rattle.flat_machine.specs.Machine.{process_at}
use Rattle.flat_process.specs.Holdings.{space_in, no_process}
use Rattle.flat_machine.proofs.Lists.{same_got, with_at}
use Rattle.flat_machine.proofs.Stepping.{behind_at}
use Rattle.flat_machine.proofs.machine.Machine.run.Goals as goal

pub returns-clause-behind : goal.returns-clause-behind
returns-clause-behind c =
    let F : FlatState = c.args.self.now in
    let written : Process → Process = λ q. written_process q (space_in q.holding) (writes_of (instruction_in (space_in q.holding) q.regs)) in
    let got : c.index_mut.result.now ≡ process_at F c.args.place =
    c.index_mut.ensures.value
    ∙ ap (λ (H : FlatState). get_or H.processes c.args.place c.index_mut.result.now) c.self.view_is
    ∙ same_got F.processes c.args.place c.index_mut.result.now no_process c.requires.within in
    behind_at F _ c.args.place c.run.result.0 c.run.result.1 c.requires
    (ap (λ (H : FlatState). record H { processes = set H.processes c.args.place c.run.new.self }) c.self.view_is
    ∙ ap (λ (q : Process). record F { processes = set F.processes c.args.place q }) (c.run.ensures.after ∙ ap written got)
    ∙ sym (with_at F c.args.place (written (process_at F c.args.place)) c.requires refl))
    (c.run.ensures.answer ∙ ap (λ (q : Process). answer_of (instruction_in (space_in q.holding) q.regs)) got)
    (c.run.ensures.registers ∙ ap (λ (q : Process). registers_after q.regs (instruction_in (space_in q.holding) q.regs)) got)
