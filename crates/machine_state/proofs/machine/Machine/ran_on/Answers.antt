use Rattle.std.proofs.Common.{◌≡◌, ℕ, List, Option, None, IsSome, is_some, true, refl, sym, ap, ◌∙◌, subst}
use Rattle.vm_facts.specs.declared.entry.Entry.{Entry}
use Rattle.vm_facts.specs.declared.entry.Entry.TheVariants as entries
use Rattle.proc_table.specs.declared.process.Proc.{Proc as Record}
use Rattle.kernel_model.specs.ChangeStep.{ran_by}
use Rattle.table_steps.specs.Joined.{instructions_in, last_says}
use Rattle.table_steps.specs.UserMemory.{CanLend}
use Rattle.table_steps.specs.Machine.{Standing, kernel_by}
use Rattle.table_steps.proofs.Further.{some_last, more_within}
use Rattle.table_steps.proofs.Joins.{runs_kind, last_is}
use Rattle.machine_state.proofs.Standings.{running, stands_now}
use Rattle.machine_state.proofs.Stepping.{Stepped, stepped}
use Rattle.machine_state.proofs.Instructions.{has_record, regs_steps}
use Rattle.machine_state.proofs.machine.Machine.ran_on.Goals as goal

pub set_regs-requires : goal.set_regs-requires
set_regs-requires c =
    let can : CanLend (kernel_by c.self.inside.tables c.self.inside.journal.items c.self.inside.stopped) c.args.pid =
    subst (λ (s : Standing). CanLend s.kernel c.args.pid) (sym c.self.view_is) c.requires.can in
    let r = has_record c.self.inside.tables c.self.inside.journal.items c.self.inside.stopped c.args.pid can in
    subst (λ (o : Option Record). IsSome o) (sym r.1) refl

pub add_instructions-requires-clause-counts : goal.add_instructions-requires-clause-counts
add_instructions-requires-clause-counts c =
    subst (λ (es : List Entry). IsSome (last_says (instructions_in c.args.pid) es)) (sym (ap (λ (s : Standing). s.kernel.journal) c.self.view_is)) c.requires.counts

pub add_instructions-requires-clause-fits : goal.add_instructions-requires-clause-fits
add_instructions-requires-clause-fits c count h =
    let l = last_is (instructions_in c.args.pid) (λ (n : ℕ). entries.Ran c.args.pid n) (runs_kind c.args.pid) c.self.inside.journal.items count h in
    c.requires.fits count l.0 (sym (ap (λ (s : Standing). s.kernel.journal) c.self.view_is) ∙ l.1)

step : (c : goal.After-add_instructions)
    → Stepped c.self.inside (record c.self.inside { tables = c.set_regs.new.self; journal = c.add_instructions.new.journal; room = None }) c.args.self.now
    (ran_by (kernel_by c.self.inside.tables c.self.inside.journal.items c.self.inside.stopped) c.args.pid c.args.regs.now (entries.Ran c.args.pid c.args.more))
step c =
    let now = stands_now c.self.inside c.args.self.now c.self.invariant c.self.view_is c.requires.ready.running.runs in
    let counts : is_some (last_says (instructions_in c.args.pid) c.self.inside.journal.items) ≡ true =
    ap (λ (s : Standing). is_some (last_says (instructions_in c.args.pid) s.kernel.journal)) c.self.view_is ∙ c.requires.counts in
    let last = some_last (last_says (instructions_in c.args.pid) c.self.inside.journal.items) counts in
    stepped c.self.inside _ c.args.self.now _ c.self.invariant c.self.view_is c.requires.ready
    (regs_steps c.self.inside _ c.args.pid c.args.regs.now c.args.more c.set_regs.ensures now (running c.self.inside c.args.self.now c.self.invariant c.self.view_is c.requires.ready)
    c.add_instructions.ensures
    (more_within c.self.inside.journal.items c.add_instructions.new.journal.items c.args.pid last.0 c.args.more c.self.inside.tables.params.journal last.1 c.add_instructions.ensures
    now.stands.within) refl refl refl)

pub invariant_of-self : goal.invariant_of-self
invariant_of-self c = (step c).inside

pub returns : goal.returns
returns c =
    let z = step c in
    record {
      step = z.is ∙ ap (λ (s : Standing). ran_by s.kernel c.args.pid c.args.regs.now (entries.Ran c.args.pid c.args.more)) c.self.view_is;
      rest = z.rest;
      goes_on = z.goes_on;
    }
