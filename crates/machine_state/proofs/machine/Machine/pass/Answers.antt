use Rattle.std.proofs.Common.{◌≡◌, true, refl, sym, subst}
use Rattle.kernel_model.specs.Sound.{lives}
use Rattle.table_steps.specs.Tables.{Tables}
use Rattle.table_steps.specs.Applying.{MayPass}
use Rattle.table_steps.specs.Calls.{life_in}
use Rattle.table_steps.specs.Machine.{Standing, kernel_by}
use Rattle.machine_state.specs.Fields.{HasRoom}
use Rattle.machine_state.proofs.HoldingSteps.{pass_keeps}
use Rattle.machine_state.proofs.Passes.{pass_kernel, pass_stands}
use Rattle.machine_state.proofs.Standings.{stands_now, runs_by, runs_within, holders_by}
use Rattle.machine_state.proofs.Stepping.{is_running}
use Rattle.machine_state.proofs.machine.Machine.pass.Goals as goal

pub invariant_of-self : goal.invariant_of-self
invariant_of-self c =
    runs_within _ (runs_by c.self.inside c.args.self.now c.self.view_is c.requires.running.runs) (λ _.
    let m = c.self.inside in
    let t : Tables = m.tables in
    let u : Tables = c.pass.new.self in
    let now = stands_now m c.args.self.now c.self.invariant c.self.view_is c.requires.running.runs in
    let may = subst (λ (s : Standing). MayPass (life_in s.kernel c.args.from) (life_in s.kernel c.args.to) c.args.from) (sym c.self.view_is) c.requires.may in
    record {
      stands = pass_stands t u c.args.from c.args.to c.pass.ensures m.journal.items m.stopped may
          (subst (λ (s : Standing). lives s.kernel.processes c.args.to ≡ true) (sym c.self.view_is) c.requires.there) now.stands;
      holders = holders_by t u m.journal.items m.journal.items m.stopped m.stopped _ (pass_kernel t u c.args.from c.args.to c.pass.ensures m.journal.items m.stopped)
          (pass_keeps (kernel_by t m.journal.items m.stopped) c.args.from c.args.to may) now.holders;
      none_lost = now.none_lost;
      room = subst (λ (x : Tables). HasRoom m.room m.journal x.params.journal) (sym c.pass.ensures.rest) now.room;
    })

pub returns-clause-running : goal.returns-clause-running
returns-clause-running c = is_running _ _ (invariant_of-self c) refl (runs_by c.self.inside c.args.self.now c.self.view_is c.requires.running.runs)
