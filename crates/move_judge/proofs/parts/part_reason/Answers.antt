use Rattle.std.proofs.Common.{sym, ◌∙◌, subst}
use Rattle.kernel_model.specs.declared.part.HandPart.TheVariants.{Writes}
use Rattle.kernel_model.specs.HandParts.{PartComes}
use Rattle.paged_model.proofs.PartReasons.{part_comes}
use Rattle.move_judge.proofs.parts.part_reason.Goals as goal

pub returns-in-Writes-clause-can : goal.returns-in-Writes-clause-can
returns-in-Writes-clause-can c = λ e.
    let p = c.args.m.now.kernel.place in
    subst (PartComes p) (sym c.in-Writes.is) (part_comes p (Writes c.in-Writes.lo c.in-Writes.n) (sym c.write_reason.ensures ∙ e))
