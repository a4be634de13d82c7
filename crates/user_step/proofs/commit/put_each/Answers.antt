use Rattle.std.proofs.Common.{ℕ, List, get_or, take, inr, refl, sym, subst}
use Rattle.vm_facts.specs.Answers.{Answers, longword_below}
use Rattle.user_vax.specs.Effects.{bytes_at}
use Rattle.user_vax.specs.Instruction.{MayAll}
use Rattle.vax_execute.specs.Outcomes.{lowest}
use Rattle.user_step.specs.Tried.{IsReady}
use Rattle.user_step.proofs.Writing.{may_along}
use Rattle.user_step.proofs.Downwards.{may_at}
use Rattle.user_step.proofs.commit.put_each.Goals as goal

pub put_write-requires : goal.put_write-requires
put_write-requires g c =
    let old : Answers = g.M.Memory.answers c.args.memory.now in
    let l = c.loop-longword in
    let now : Answers = g.M.Memory.answers l.memory in
    let longwords : List ℕ = c.args.longwords.now in
    let value : ℕ = get_or longwords l.longword-index 0 in
    let may : MayAll old (bytes_at 4 (longword_below (lowest c.args.address (take l.longword-index longwords))) value) =
    may_at old c.args.address longwords l.longword-index c.requires c.loop-longword-test.true in
    let ready : IsReady now (record { address = longword_below l.place; value = value; size = 4 }) = record {
      size = inr (inr refl);
      may = may_along old now (bytes_at 4 (longword_below l.place) value) (sym l.invariant.tests)
          (subst (λ (a : ℕ). MayAll old (bytes_at 4 (longword_below a) value)) (sym l.invariant.place) may);
    } in
    subst (IsReady now) (sym c.longword_below-write.ensures) ready
