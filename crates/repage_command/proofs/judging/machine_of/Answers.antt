use Rattle.std.proofs.Common.{◌≡◌, map, refl, sym, ap, ◌∙◌, subst}
use Rattle.machine_state.specs.Applying.{facts_named}
use Rattle.machine_state.specs.Machine.{Standing, image_shown}
use Rattle.machine_state.specs.New.{fresh_kernel, AreSound}
use Rattle.machine_state.specs.Named.{Named}
use Rattle.question_command.proofs.Openings.{shown_facts}
use Rattle.question_command.proofs.RunCommandRuns.{fresh_machine}
use Rattle.repage_command.proofs.judging.machine_of.Goals as goal

pub new-requires-clause-sound : goal.new-requires-clause-sound
new-requires-clause-sound c = subst AreSound (shown_facts c.args.images.now ∙ sym c.in-Ok.ensures.facts) c.requires.sound

pub returns-clause-machine : goal.returns-clause-machine
returns-clause-machine c =
    c.in_ok-m.ensures.fresh
    ∙ fresh_machine 0 c.args.numbers (map (λ (image : Named). image.facts) c.in-Ok.named.items) (map image_shown c.in-Ok.named.items) c.args.images.now c.in-Ok.ensures.facts c.in-Ok.ensures.shown

pub returns-clause-new : goal.returns-clause-new
returns-clause-new c =
    let is = returns-clause-machine c in
    record {
      ready = c.in_ok-m.ensures.goes_on;
      kernel = subst (λ (m : Standing). m.kernel ≡ fresh_kernel (facts_named m.images) m.params.frames) (sym is) refl;
      before = ap (λ (m : Standing). m.before) is;
      room = ap (λ (m : Standing). m.room) is;
    }
