use Rattle.std.proofs.Common.{◌≤◌, length, refl, sym, ◌∙◌, subst, arith}
use Rattle.std.proofs.lemmas.Bool.Decides.{nat_tests}
use Rattle.proc_run.proofs.RunsTouching.{AreSoFar, none_so_far, more_so_far, all_so_far, wanted_so_far, few_so_far, sought_so_far, kept_so_far}
use Rattle.proc_run.proofs.seeking.touched_and_wanted.Goals as goal

pub loop-alloc-init : goal.loop-alloc-init
loop-alloc-init c = record {
  same = refl;
  so_far = λ A s now r.
      subst (AreSoFar A s now c.args.m.now c.args.pid c.args.regs.now r) (sym c.none-touched.ensures) (none_so_far A s now c.args.m.now c.args.pid c.args.regs.now r);
}

pub loop-alloc-preserved : goal.loop-alloc-preserved
loop-alloc-preserved c = record {
  same = c.page_beyond.ensures.same ∙ c.loop-alloc.invariant.same;
  so_far = λ A s now r.
      let m = c.args.m.now in
      let beyond = sought_so_far A s now m c.args.pid c.args.regs.now r c.loop-alloc.m c.loop-alloc.touched c.as_slice.result.now c.in_ok-beyond.beyond c.loop-alloc.invariant.same
      c.as_slice.ensures.value (λ F y z named. c.in_ok-beyond.ensures.value A.images F y z named) in
      subst (AreSoFar A s now m c.args.pid c.args.regs.now r) (sym c.push.ensures)
      (more_so_far A s now m c.args.pid c.args.regs.now r c.loop-alloc.touched c.in-Some.page (c.loop-alloc.invariant.so_far A s now r)
      (sym c.in-Some.is
      ∙ kept_so_far A s now m c.args.pid c.args.regs.now r c.page_beyond.new.m c.loop-alloc.touched c.in_ok-beyond.beyond c.valid_only.result
      (c.page_beyond.ensures.same ∙ c.loop-alloc.invariant.same) beyond c.valid_only.ensures));
}

pub returns-in-None-clause-before : goal.returns-in-None-clause-before
returns-in-None-clause-before c = λ A s now r.
    let m = c.args.m.now in
    let beyond = sought_so_far A s now m c.args.pid c.args.regs.now r c.loop-alloc.m c.loop-alloc.touched c.as_slice.result.now c.in_ok-beyond.beyond c.loop-alloc.invariant.same
    c.as_slice.ensures.value (λ F y z named. c.in_ok-beyond.ensures.value A.images F y z named) in
    all_so_far A s now m c.args.pid c.args.regs.now r c.loop-alloc.touched (c.loop-alloc.invariant.so_far A s now r)
    (sym c.in-None.is
    ∙ kept_so_far A s now m c.args.pid c.args.regs.now r c.page_beyond.new.m c.loop-alloc.touched c.in_ok-beyond.beyond c.valid_only.result
    (c.page_beyond.ensures.same ∙ c.loop-alloc.invariant.same) beyond c.valid_only.ensures)

pub returns-in-None-clause-first : goal.returns-in-None-clause-first
returns-in-None-clause-first c = λ A s now r.
    let m = c.args.m.now in
    let beyond = sought_so_far A s now m c.args.pid c.args.regs.now r c.loop-alloc.m c.loop-alloc.touched c.as_slice.result.now c.in_ok-beyond.beyond c.loop-alloc.invariant.same
    c.as_slice.ensures.value (λ F y z named. c.in_ok-beyond.ensures.value A.images F y z named) in
    beyond
    ∙ wanted_so_far A s now m c.args.pid c.args.regs.now r c.loop-alloc.touched (c.loop-alloc.invariant.so_far A s now r)
    (sym c.in-None.is
    ∙ kept_so_far A s now m c.args.pid c.args.regs.now r c.page_beyond.new.m c.loop-alloc.touched c.in_ok-beyond.beyond c.valid_only.result
    (c.page_beyond.ensures.same ∙ c.loop-alloc.invariant.same) beyond c.valid_only.ensures)

pub returns-clause-before : goal.returns-clause-before
returns-clause-before c = λ A s now r.
    let few : length c.loop-alloc.touched ≤ 28 = few_so_far A s now c.args.m.now c.args.pid c.args.regs.now r c.loop-alloc.touched (c.loop-alloc.invariant.so_far A s now r) in
    absurd (let f : ⊥ = grind (arith, nat_tests) in f)

pub returns-clause-first : goal.returns-clause-first
returns-clause-first c = λ A s now r.
    let few : length c.loop-alloc.touched ≤ 28 = few_so_far A s now c.args.m.now c.args.pid c.args.regs.now r c.loop-alloc.touched (c.loop-alloc.invariant.so_far A s now r) in
    absurd (let f : ⊥ = grind (arith, nat_tests) in f)
