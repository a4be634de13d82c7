use Rattle.std.proofs.Common.{◌≡◌, List, refl, sym, ap, subst}
use Rattle.flat_state.specs.AoutImageImage.{Image}
use Rattle.machine_state.specs.Machine.{Standing}
use Rattle.machine_state.specs.New.{fresh_kernel}
use Rattle.machine_state.specs.Applying.{facts_named}
use Rattle.machine_state.proofs.FirstBegins.{shown_facts}
use Rattle.vm_core.proofs.run.Core.new.Goals as goal

pub returns-clause-fresh : goal.returns-clause-fresh
returns-clause-fresh c =
    let is = c.in_ok-new.ensures.fresh in
    record {
      machine = record {
        ready = c.in_ok-new.ensures.goes_on;
        kernel = subst (λ (m : Standing). m.kernel ≡ fresh_kernel (facts_named m.images) m.params.frames) (sym is)
            (ap (λ (facts : List Image). fresh_kernel facts c.args.params.frames) (sym (shown_facts c.args.images.items)));
        before = ap (λ (m : Standing). m.before) is;
        room = ap (λ (m : Standing). m.room) is;
      };
      counted = refl;
    }
