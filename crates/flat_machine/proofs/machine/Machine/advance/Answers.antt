use Rattle.std.proofs.Common.{sym, ap, ◌∙◌}
use Rattle.flat_state.specs.Space.{Space}
use Rattle.flat_state.specs.Flat.{Process, FlatState}
use Rattle.flat_model.specs.Instruction.{instruction_in}
use Rattle.flat_model.specs.Step.{Step}
use Rattle.flat_machine.specs.Machine.{process_at, space_at}
use Rattle.flat_state.specs.declared.change.Change.TheVariants.{Keep}
use Rattle.flat_machine.specs.declared.deed.Did.TheVariants.{Ran}
use Rattle.flat_machine.specs.declared.deed.Deed.{Deed}
use Rattle.flat_machine.proofs.Lists.{with_same}
use Rattle.flat_machine.proofs.Changing.{applied_at}
use Rattle.flat_machine.proofs.Stepping.{step_made, step_left, done_made}
use Rattle.flat_machine.proofs.machine.Machine.advance.Goals as goal

pub returns-clause-after : goal.returns-clause-after
returns-clause-after c = λ A same.
    let F : FlatState = c.args.self.now in
    let p : Process = process_at F c.args.place in
    let s : Space = space_at F c.args.place in
    c.in_ok-change.ensures
    ∙ step_left c.args.programs.now F c.run-stepped.new.self p s (instruction_in s p.regs) c.args.place c.run-stepped.result.0 c.run-stepped.result.1 c.in_ok-deed.deed c.run-stepped.ensures.behind
    ∙ ap (λ (step : Step). step.after)
    (step_made A c.args.programs.now F c.args.place c.args.refused c.in_ok-deed.deed c.requires.at same
    (c.in_ok-deed.ensures.value F p s (instruction_in s p.regs) c.run-stepped.ensures.behind))

pub returns-clause-entries : goal.returns-clause-entries
returns-clause-entries c = λ A same.
    let F : FlatState = c.args.self.now in
    let p : Process = process_at F c.args.place in
    let s : Space = space_at F c.args.place in
    ap (λ (step : Step). step.entries)
    (step_made A c.args.programs.now F c.args.place c.args.refused c.in_ok-deed.deed c.requires.at same
    (c.in_ok-deed.ensures.value F p s (instruction_in s p.regs) c.run-stepped.ensures.behind))

pub returns-in-Done-clause-after : goal.returns-in-Done-clause-after
returns-in-Done-clause-after c = λ A same.
    let F : FlatState = c.args.self.now in
    let p : Process = process_at F c.args.place in
    let s : Space = space_at F c.args.place in
    let deed : Deed = record { did = Ran; regs = c.run-stepped.result.1; change = Keep } in
    sym (applied_at c.args.programs.now c.run-stepped.new.self c.keep.new.self c.args.place c.run-stepped.result.1 Keep c.run-stepped.ensures.at tt c.keep.ensures.after
    ∙ with_same c.keep.new.self c.args.place c.keep.ensures.at)
    ∙ step_left c.args.programs.now F c.run-stepped.new.self p s (instruction_in s p.regs) c.args.place c.run-stepped.result.0 c.run-stepped.result.1 deed c.run-stepped.ensures.behind
    ∙ ap (λ (step : Step). step.after)
    (step_made A c.args.programs.now F c.args.place c.args.refused deed c.requires.at same
    (done_made c.args.programs.now F c.run-stepped.new.self p s c.args.refused (instruction_in s p.regs)
    c.args.place c.run-stepped.result.0 c.run-stepped.result.1 c.in-Done.is c.run-stepped.ensures.behind))

pub returns-in-Done-clause-entries : goal.returns-in-Done-clause-entries
returns-in-Done-clause-entries c = λ A same.
    let F : FlatState = c.args.self.now in
    let p : Process = process_at F c.args.place in
    let s : Space = space_at F c.args.place in
    let deed : Deed = record { did = Ran; regs = c.run-stepped.result.1; change = Keep } in
    ap (λ (step : Step). step.entries)
    (step_made A c.args.programs.now F c.args.place c.args.refused deed c.requires.at same
    (done_made c.args.programs.now F c.run-stepped.new.self p s c.args.refused (instruction_in s p.regs)
    c.args.place c.run-stepped.result.0 c.run-stepped.result.1 c.in-Done.is c.run-stepped.ensures.behind))
