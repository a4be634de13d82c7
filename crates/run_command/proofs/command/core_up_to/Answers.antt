use Rattle.std.proofs.Common.{◌≡◌, map, sym, ◌∙◌, subst}
use Rattle.machine_state.specs.Machine.{image_shown}
use Rattle.machine_state.specs.New.{AreSound}
use Rattle.machine_state.specs.Named.{Named}
use Rattle.vm_core.specs.Cores.{Underway}
use Rattle.run_command.specs.Naming.{shown_as}
use Rattle.run_command.specs.Machines.{machine_up_to}
use Rattle.run_command.proofs.Openings.{shown_facts}
use Rattle.run_command.proofs.Runs.{fresh_machine, if_ok}
use Rattle.run_command.proofs.command.core_up_to.Goals as goal

pub new-requires-clause-sound : goal.new-requires-clause-sound
new-requires-clause-sound c = subst AreSound (shown_facts c.args.images.now ∙ sym c.in-Ok.ensures.facts) c.requires.sound

pub returns-clause-machine : goal.returns-clause-machine
returns-clause-machine c =
    if_ok c.new.result _ (λ (core : Underway). core.machine ≡ machine_up_to c.args.entries c.args.numbers (map shown_as c.args.images.now))
    (λ core is. is ∙ fresh_machine c.args.entries c.args.numbers (map (λ (image : Named). image.facts) c.in-Ok.named.items)
    (map image_shown c.in-Ok.named.items) c.args.images.now c.in-Ok.ensures.facts c.in-Ok.ensures.shown)
    c.new.ensures.machine
