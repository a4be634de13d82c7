use Rattle.std.proofs.Common.{◌≡◌, Option, true, sym, ap, ◌∙◌, subst}
use Rattle.flat_model.specs.Run.{flat_entry, first_if}
use Rattle.vm_facts.specs.declared.entry.Entry.{Entry}
use Rattle.vm_facts.specs.declared.entry.Entry.TheVariants.{Ran}
use Rattle.flat_state.specs.Flat.{process_of}
use Rattle.replay_check.specs.declared.expecting.Expected.{Expected}
use Rattle.flat_machine.specs.Machine.{entries_of}
use Rattle.replay_check.specs.Judging.{IsVerdict}
use Rattle.replay_check.specs.Expecting.{comes_or, missing, is_one}
use Rattle.replay_check.proofs.Misfits.{next_expected, one_verdict}
use Rattle.replay_check.proofs.replaying.Judge.next_of.Goals as goal

pub returns-clause-expected : goal.returns-clause-expected
returns-clause-expected c = λ A point same taken at.
    let told : c.comes_or.result ≡ comes_or c.args.refused c.args.pid (first_if true (entries_of c.args.pid c.in_ok-did.did)) (missing c.args.pid (process_of c.args.self.now.machine c.args.pid)) =
    c.comes_or.ensures ∙ ap (λ (o : Option Entry). comes_or c.args.refused c.args.pid o c.missing-absent.result) c.first_entry.ensures
    ∙ ap (comes_or c.args.refused c.args.pid (first_if true (entries_of c.args.pid c.in_ok-did.did))) c.missing-absent.ensures in
    told ∙ next_expected A point c.args.self.now.machine c.args.self.now.last c.args.pid c.args.refused c.in_ok-did.did taken at (c.in_ok-did.ensures.entries A same)

pub returns-clause-verdict : goal.returns-clause-verdict
returns-clause-verdict c = λ A point same taken other at.
    let told : c.comes_or.result ≡ comes_or c.args.refused c.args.pid (first_if true (entries_of c.args.pid c.in_ok-did.did)) (missing c.args.pid (process_of c.args.self.now.machine c.args.pid)) =
    c.comes_or.ensures ∙ ap (λ (o : Option Entry). comes_or c.args.refused c.args.pid o c.missing-absent.result) c.first_entry.ensures
    ∙ ap (comes_or c.args.refused c.args.pid (first_if true (entries_of c.args.pid c.in_ok-did.did))) c.missing-absent.ensures in
    subst (λ (x : Expected). IsVerdict A (is_one x) c.step.new.self.machine c.step.new.self.last (flat_entry A point (Ran c.args.pid 1))) (sym told)
    (one_verdict A point c.args.self.now.machine c.step.new.self.machine c.args.self.now.last c.step.new.self.last c.args.pid c.args.refused c.in_ok-did.did taken other c.step.ensures.last at
    (c.in_ok-did.ensures.entries A same) (c.in_ok-did.ensures.after A same))
