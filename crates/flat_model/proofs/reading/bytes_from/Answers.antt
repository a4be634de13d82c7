use Rattle.std.proofs.Common.{◌≡◌, ℕ, ◌+◌, ◌++◌, ◌∷◌, [], List, Ok, sym, ap, ◌∙◌, subst, arith}
use Rattle.std.proofs.lemmas.Grind.{common_steps}
use Rattle.flat_model.proofs.Gathering.{Gathers, gathers_more, gathers_refused, gathers_all}
use Rattle.flat_model.proofs.reading.bytes_from.Goals as goal

pub returns-in-Err : goal.returns-in-Err
returns-in-Err g c =
    sym (gathers_refused (g.M.Memory.answers c.args.memory.now) c.args.count c.args.address c.loop-index.index c.loop-index.bytes.items c.in-Err.refused c.loop-index.invariant
    c.loop-index-test.true (sym c.in-Err.ensures))

pub loop-index-preserved : goal.loop-index-preserved
loop-index-preserved g c =
    let pushed : c.push.new.self.items ≡ c.loop-index.bytes.items ++ c.in-Ok.byte ∷ [] = grind (arith, common_steps) in
    subst (Gathers (g.M.Memory.answers c.args.memory.now) c.args.count c.args.address (c.loop-index.index + 1)) (sym pushed)
    (gathers_more (g.M.Memory.answers c.args.memory.now) c.args.count c.args.address c.loop-index.index c.loop-index.bytes.items c.in-Ok.byte c.loop-index.invariant
    c.loop-index-test.true (sym c.in-Ok.ensures))

pub returns : goal.returns
returns g c =
    ap (λ (x : List ℕ). Ok x) c.from_vec.ensures
    ∙ sym (gathers_all (g.M.Memory.answers c.args.memory.now) c.args.count c.args.address c.loop-index.index c.loop-index.bytes.items c.loop-index.invariant (omega arith))
