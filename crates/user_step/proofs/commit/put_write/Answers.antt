use Rattle.std.proofs.Common.{◌∙◌, refl, ap}
use Rattle.vm_facts.specs.Answers.{Answers}
use Rattle.vax_execute.specs.Outcomes.{bytes_of}
use Rattle.user_step.proofs.commit.put_write.Goals as goal
use Rattle.user_step.proofs.StaysFixed.{tests_same}

pub returns-else-not-put_number-clause-tests : goal.returns-else-not-put_number-clause-tests
returns-else-not-put_number-clause-tests g c =
    ap (λ (memory : Answers). memory.may_write) (g.met.M.Memory.wrote_answers _ _ _ (c.if-not-put_number.ensures.done refl))
    ∙ tests_same (g.M.Memory.answers c.args.memory.now) (bytes_of c.args.write)
