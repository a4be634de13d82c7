use Rattle.std.proofs.Common.{◌≤◌, length, refl, sym, ◌∙◌, subst, arith}
use Rattle.std.proofs.lemmas.Bool.Decides.{nat_tests}
use Rattle.proc_run.proofs.RunsTouching.{AreSoFar, none_so_far, more_so_far, all_so_far, few_so_far, found_so_far}
use Rattle.proc_run.proofs.touching.touched_before.Goals as goal

pub loop-alloc-init : goal.loop-alloc-init
loop-alloc-init c = record {
  same = refl;
  so_far = λ A s now r.
      subst (AreSoFar A s now c.args.m.now c.args.pid c.args.regs.now r) (sym c.none-touched.ensures) (none_so_far A s now c.args.m.now c.args.pid c.args.regs.now r);
}

pub loop-alloc-preserved : goal.loop-alloc-preserved
loop-alloc-preserved c = record {
  same = c.next_valid.ensures.same ∙ c.loop-alloc.invariant.same;
  so_far = λ A s now r.
      subst (AreSoFar A s now c.args.m.now c.args.pid c.args.regs.now r) (sym c.push.ensures)
      (more_so_far A s now c.args.m.now c.args.pid c.args.regs.now r c.loop-alloc.touched c.in-Some.page (c.loop-alloc.invariant.so_far A s now r)
      (sym c.in-Some.is
      ∙ found_so_far A s now c.args.m.now c.args.pid c.args.regs.now r c.loop-alloc.m c.loop-alloc.touched c.as_slice.result.now c.in_ok-page.field-0 c.loop-alloc.invariant.same
      c.as_slice.ensures.value
      (λ F y z named. c.in_ok-page.ensures.value A.images F y z named)));
}

pub returns-in-None-clause-before : goal.returns-in-None-clause-before
returns-in-None-clause-before c = λ A s now r.
    all_so_far A s now c.args.m.now c.args.pid c.args.regs.now r c.loop-alloc.touched (c.loop-alloc.invariant.so_far A s now r)
    (sym c.in-None.is
    ∙ found_so_far A s now c.args.m.now c.args.pid c.args.regs.now r c.loop-alloc.m c.loop-alloc.touched c.as_slice.result.now c.in_ok-page.field-0 c.loop-alloc.invariant.same c.as_slice.ensures.value
    (λ F y z named. c.in_ok-page.ensures.value A.images F y z named))

pub returns-clause-before : goal.returns-clause-before
returns-clause-before c = λ A s now r.
    let few : length c.loop-alloc.touched ≤ 28 = few_so_far A s now c.args.m.now c.args.pid c.args.regs.now r c.loop-alloc.touched (c.loop-alloc.invariant.so_far A s now r) in
    absurd (let f : ⊥ = grind (arith, nat_tests) in f)
