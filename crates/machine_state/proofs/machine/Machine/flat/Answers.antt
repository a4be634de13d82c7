use Rattle.std.proofs.Common.{◌≡◌, List, [], ◌∷◌, ◌++◌, length, refl, ap, ◌∙◌, arith}
use Rattle.vm_facts.specs.declared.entry.Entry.{Entry}
use Rattle.kernel_model.specs.ChangeStep.{change_step}
use Rattle.kernel_model.specs.Kernel.{Kernel}
use Rattle.table_steps.specs.Applying.{facts_named}
use Rattle.table_steps.specs.Machine.{Standing, kernel_by, images_of}
use Rattle.machine_state.proofs.Standings.{no_room, stands_now, runs_by, runs_within}
use Rattle.table_steps.proofs.Stills.{pushed}
use Rattle.machine_state.proofs.FlatSteps.{ready_of, made_of, flat_record, flat_may, Made, made_by}
use Rattle.machine_state.proofs.Wholes.{changes_whole}
use Rattle.machine_state.proofs.Stepping.{goes_on}
use Rattle.machine_state.proofs.machine.Machine.flat.Goals as goal

pub set_regs-requires : goal.set_regs-requires
set_regs-requires c =
    let r = ready_of c.self.inside c.args.self.now c.args.pid c.args.e c.args.change c.self.invariant c.self.view_is c.requires.running.runs c.requires.can c.stands.ensures in
    flat_record c.self.inside.tables c.self.inside.journal.items c.self.inside.stopped c.args.pid c.args.change r.can.ready

pub apply-applied-requires : goal.apply-applied-requires
apply-applied-requires c =
    let r = ready_of c.self.inside c.args.self.now c.args.pid c.args.e c.args.change c.self.invariant c.self.view_is c.requires.running.runs c.requires.can c.stands.ensures in
    flat_may c.self.inside.tables c.set_regs.new.self c.self.inside.journal.items c.self.inside.stopped c.args.pid c.args.regs.now c.args.e c.args.change r c.set_regs.ensures

made : (c : goal.After-push_reserved)
    → Made c.self.inside.tables (record c.apply-applied.new.tables { found = 0 }) c.push_reserved.new.self.items c.or_break_off.new.stopped
    (change_step (facts_named (images_of c.self.inside.tables)) (kernel_by c.self.inside.tables c.self.inside.journal.items c.self.inside.stopped) c.args.pid
    c.args.regs.now c.args.e c.args.change)
made c =
    let same : length c.make_room.new.journal.items ≡ length c.self.inside.journal.items = ap length c.make_room.ensures.same in
    let journal : c.push_reserved.new.self.items ≡ c.self.inside.journal.items ++ c.args.e ∷ [] =
    c.push_reserved.ensures.items ∙ ap (λ (j : List Entry). j ++ c.args.e ∷ []) c.make_room.ensures.same in
    made_by c.self.inside.tables c.set_regs.new.self c.apply-applied.new.tables c.self.inside.journal.items _ c.self.inside.stopped _ c.args.pid c.args.regs.now c.args.e c.args.change _
    (ready_of c.self.inside c.args.self.now c.args.pid c.args.e c.args.change c.self.invariant c.self.view_is c.requires.running.runs c.requires.can c.stands.ensures)
    c.set_regs.ensures (made_of c.apply-applied.result _ c.in_ok-or_break_off.ensures.made c.apply-applied.ensures.applied) (omega (arith, same, c.len.ensures)) journal
    c.in_ok-or_break_off.ensures.same (pushed _ _ _ _ _ refl journal c.in_ok-make_room.ensures.ok.0).within

pub invariant_of-self-2 : goal.invariant_of-self-2
invariant_of-self-2 c =
    runs_within _ (c.in_ok-or_break_off.ensures.same ∙ runs_by c.self.inside c.args.self.now c.self.view_is c.requires.running.runs) (λ _.
    let z = made c in
    let now = stands_now c.self.inside c.args.self.now c.self.invariant c.self.view_is c.requires.running.runs in
    record { stands = z.stands; holders = z.holders now.holders; none_lost = now.none_lost; room = no_room _ _ _ c.make_room.ensures.room })

pub returns-clause-step : goal.returns-clause-step
returns-clause-step c =
    let z = made c in
    z.is ∙ ap (λ (s : Standing). change_step (facts_named s.images) s.kernel c.args.pid c.args.regs.now c.args.e c.args.change) c.self.view_is

pub returns-clause-keeps : goal.returns-clause-keeps
returns-clause-keeps c =
    let k : Kernel = kernel_by (record c.apply-applied.new.tables { found = 0 }) c.push_reserved.new.self.items c.or_break_off.new.stopped in
    changes_whole c.args.self.now (record c.args.self.now { kernel = k }) c.args.pid c.args.regs.now c.args.e c.args.change (returns-clause-step c)

pub returns-clause-goes_on : goal.returns-clause-goes_on
returns-clause-goes_on c =
    let z = made c in
    goes_on _ (invariant_of-self-2 c) (c.in_ok-or_break_off.ensures.same ∙ runs_by c.self.inside c.args.self.now c.self.view_is c.requires.running.runs) z.whole
