use Rattle.std.proofs.Common.{ℕ, Option, None, IsSome, refl, sym, ap, ◌∙◌, subst}
use Rattle.vm_facts.specs.declared.entry.Entry.TheVariants as entries
use Rattle.proc_table.specs.declared.process.Proc.{Proc as Record}
use Rattle.kernel_model.specs.Kernel.{Kernel}
use Rattle.kernel_model.specs.ChangeStep.{ran_by}
use Rattle.table_steps.specs.Conditions.{ChangesFlat}
use Rattle.flat_state.specs.declared.change.Change.TheVariants.{Keep}
use Rattle.table_steps.specs.Joined.{instructions_in}
use Rattle.table_steps.specs.UserMemory.{CanLend}
use Rattle.table_steps.specs.Machine.{Standing, kernel_by}
use Rattle.table_steps.proofs.Joins.{runs_kind, last_is, joined_within}
use Rattle.machine_state.proofs.Standings.{running, stands_now, room_of}
use Rattle.machine_state.proofs.Stepping.{Stepped, stepped}
use Rattle.machine_state.proofs.Instructions.{has_record, ran_changes, regs_steps}
use Rattle.machine_state.proofs.machine.Machine.ran.Goals as goal

pub set_regs-requires : goal.set_regs-requires
set_regs-requires c =
    let can : CanLend (kernel_by c.self.inside.tables c.self.inside.journal.items c.self.inside.stopped) c.args.pid =
    subst (λ (s : Standing). CanLend s.kernel c.args.pid) (sym c.self.view_is) c.requires.can in
    let r = has_record c.self.inside.tables c.self.inside.journal.items c.self.inside.stopped c.args.pid can in
    subst (λ (o : Option Record). IsSome o) (sym r.1) refl

pub add_instruction-requires-clause-fits : goal.add_instruction-requires-clause-fits
add_instruction-requires-clause-fits c count h =
    let l = last_is (instructions_in c.args.pid) (λ (n : ℕ). entries.Ran c.args.pid n) (runs_kind c.args.pid) c.self.inside.journal.items count h in
    c.requires.fits count l.0 (sym (ap (λ (s : Standing). s.kernel.journal) c.self.view_is) ∙ l.1)

pub add_instruction-requires-clause-room : goal.add_instruction-requires-clause-room
add_instruction-requires-clause-room c h =
    let now = stands_now c.self.inside c.args.self.now c.self.invariant c.self.view_is c.requires.ready.running.runs in
    (room_of c.self.inside c.args.pid now (ap (λ (s : Standing). s.room) c.self.view_is ∙ c.requires.room) h).1

step : (c : goal.After-add_instruction)
    → Stepped c.self.inside (record c.self.inside { tables = c.set_regs.new.self; journal = c.add_instruction.new.journal; room = None }) c.args.self.now
    (ran_by (kernel_by c.self.inside.tables c.self.inside.journal.items c.self.inside.stopped) c.args.pid c.args.regs.now (entries.Ran c.args.pid 1))
step c =
    let now = stands_now c.self.inside c.args.self.now c.self.invariant c.self.view_is c.requires.ready.running.runs in
    stepped c.self.inside _ c.args.self.now _ c.self.invariant c.self.view_is c.requires.ready
    (regs_steps c.self.inside _ c.args.pid c.args.regs.now 1 c.set_regs.ensures now (running c.self.inside c.args.self.now c.self.invariant c.self.view_is c.requires.ready) c.add_instruction.ensures
    (joined_within (instructions_in c.args.pid) (λ (n : ℕ). entries.Ran c.args.pid n) (runs_kind c.args.pid) c.self.inside.journal.items c.add_instruction.new.journal.items
    c.self.inside.tables.params.journal c.add_instruction.ensures now.stands.within
    (λ h. (room_of c.self.inside c.args.pid now (ap (λ (s : Standing). s.room) c.self.view_is ∙ c.requires.room) h).0)) refl refl refl)

pub invariant_of-self : goal.invariant_of-self
invariant_of-self c = (step c).inside

pub returns : goal.returns
returns c =
    let z = step c in
    let is = z.is ∙ ap (λ (s : Standing). ran_by s.kernel c.args.pid c.args.regs.now (entries.Ran c.args.pid 1)) c.self.view_is in
    record {
      step = is;
      rest = z.rest;
      keeps = subst (λ (k : Kernel). ChangesFlat c.args.self.now.kernel k c.args.pid c.args.regs.now Keep) (sym is) (ran_changes c.args.self.now.kernel c.args.pid c.args.regs.now c.requires.can);
      goes_on = z.goes_on;
    }
