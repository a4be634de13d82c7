use Rattle.std.proofs.Common.{◌∙◌, ℕ, ◌-◌, ◌+◌, ◌<◌, ◌++◌, List, get_or, arith, sym, ap}
use Rattle.user_vax.specs.Frames.{push_all, saved, bit}
use Rattle.vax_execute.specs.Outcomes.{pushing}
use Rattle.vax_execute.proofs.Saving.{saved_more, cond_append}
use Rattle.vax_execute.proofs.calling.save.Goals as goal

pub loop-done-preserved : goal.loop-done-preserved
loop-done-preserved c =
    let below : c.loop-done.done < 12 = omega arith in
    let rest : List ℕ = saved (12 - (c.loop-done.done + 1)) c.args.registers.now c.args.mask in
    record {
      pushed = λ values.
          c.push_if.ensures.pushed (rest ++ values)
          ∙ ap (λ (l : List ℕ). push_all (pushing c.loop-done.regs c.loop-done.pushes) l)
          (sym (cond_append (bit c.args.mask (11 - c.loop-done.done)) (get_or c.args.registers.now (11 - c.loop-done.done) 0) rest values)
          ∙ ap (λ (l : List ℕ). l ++ values) (sym (saved_more c.loop-done.done c.args.registers.now c.args.mask below)))
          ∙ c.loop-done.invariant.pushed values;
      place = c.push_if.ensures.place;
      few = omega arith;
    }
