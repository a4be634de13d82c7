use Rattle.std.proofs.Common.{◌≡◌, get_or, set, refl, sym, ap, ◌∙◌, subst}
use Rattle.flat_state.specs.Flat.{Process, FlatState}
use Rattle.flat_process.specs.Holdings.{no_process}
use Rattle.flat_process.specs.Running.{GoesFor, StopsAfter}
use Rattle.flat_process.proofs.Going.{all_still}
use Rattle.flat_machine.specs.Machine.{process_at}
use Rattle.flat_machine.proofs.Lists.{same_got, with_at}
use Rattle.flat_machine.proofs.machine.Machine.run_at.Goals as goal

pub returns-clause-all : goal.returns-clause-all
returns-clause-all c = λ e.
    let F : FlatState = c.args.self.now in
    let got : c.index_mut.result.now ≡ process_at F c.args.place =
    c.index_mut.ensures.value
    ∙ ap (λ (H : FlatState). get_or H.processes c.args.place c.index_mut.result.now) c.self.view_is
    ∙ same_got F.processes c.args.place c.index_mut.result.now no_process c.requires.within in
    let goes : GoesFor (process_at F c.args.place) c.args.most c.run_on.new.self =
    subst (λ (p : Process). GoesFor p c.args.most c.run_on.new.self) got (c.run_on.ensures.all e) in (
      c.run_on.new.self,
      goes,
      ap (λ (H : FlatState). record H { processes = set H.processes c.args.place c.run_on.new.self }) c.self.view_is
          ∙ sym (with_at F c.args.place c.run_on.new.self c.requires (all_still (process_at F c.args.place) c.run_on.new.self c.args.most goes).pid),
    )

pub returns-clause-stops : goal.returns-clause-stops
returns-clause-stops c = λ less.
    let F : FlatState = c.args.self.now in
    let got : c.index_mut.result.now ≡ process_at F c.args.place =
    c.index_mut.ensures.value
    ∙ ap (λ (H : FlatState). get_or H.processes c.args.place c.index_mut.result.now) c.self.view_is
    ∙ same_got F.processes c.args.place c.index_mut.result.now no_process c.requires.within in
    subst (λ (p : Process). StopsAfter p c.run_on.result) got (c.run_on.ensures.stops less)
