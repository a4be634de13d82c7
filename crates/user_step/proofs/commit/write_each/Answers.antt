use Rattle.std.proofs.Common.{◌≡◌, ◌∙◌, List, ℕ, Ok, sym, subst}
use Rattle.vm_facts.specs.Answers.{Answers, writes_down}
use Rattle.user_vax.specs.Program.{run}
use Rattle.user_vax.specs.Instruction.{MayAll, write_tests}
use Rattle.user_vax.proofs.Tested.{tested_may}
use Rattle.user_step.proofs.Writing.{may_along}
use Rattle.user_step.proofs.commit.write_each.Goals as goal

pub put_each-requires : goal.put_each-requires
put_each-requires g c =
    let old : Answers = g.M.Memory.answers c.args.memory.now in
    let top : ℕ = c.args.pushes.now.top in
    let tested : run old (write_tests (writes_down top c.frame.result.now)) ≡ Ok tt = sym c.in_ok-test_down.ensures in
    let same : c.frame.result.now ≡ c.frame-2.result.now = c.frame.ensures ∙ sym c.frame-2.ensures in
    may_along old (g.M.Memory.answers c.put_one.new.memory) (writes_down top c.frame-2.result.now) (sym c.put_one.ensures.tests)
    (subst (λ (frame : List ℕ). MayAll old (writes_down top frame)) same (tested_may old (writes_down top c.frame.result.now) tested))
