use Rattle.std.proofs.Common.{◌≡◌, ℕ, ◌+◌, ◌++◌, ◌∷◌, [], List, Some, Ok, sym, ap, ◌∙◌, subst, arith}
use Rattle.std.proofs.lemmas.Grind.{common_steps}
use Rattle.flat_model.specs.Calls.{string_limit}
use Rattle.flat_model.proofs.Gathering.{Spells, spells_more, spells_end, spells_refused, spells_none}
use Rattle.flat_model.proofs.reading.string_from.Goals as goal

pub returns-in-Err-clause-value : goal.returns-in-Err-clause-value
returns-in-Err-clause-value g c =
    sym (spells_refused (g.M.Memory.answers c.args.memory.now) string_limit c.args.address c.loop-index.index c.loop-index.bytes.items c.in-Err.refused c.loop-index.invariant.0
    c.loop-index-test.true (sym c.in-Err.ensures))

pub returns-in-Ok-eq0-clause-value : goal.returns-in-Ok-eq0-clause-value
returns-in-Ok-eq0-clause-value g c =
    ap (λ (x : List ℕ). Ok (Some x)) c.from_vec.ensures
    ∙ sym (spells_end (g.M.Memory.answers c.args.memory.now) string_limit c.args.address c.loop-index.index c.loop-index.bytes.items c.loop-index.invariant.0 c.loop-index-test.true
    (sym c.in-Ok-eq0.ensures ∙ ap (λ (x : ℕ). Ok x) c.in-Ok-eq0.field-0-test))

pub loop-index-preserved : goal.loop-index-preserved
loop-index-preserved g c =
    let pushed : c.push.new.self.items ≡ c.loop-index.bytes.items ++ c.in-Ok.byte ∷ [] = grind (arith, common_steps) in (
      subst (Spells (g.M.Memory.answers c.args.memory.now) string_limit c.args.address (c.loop-index.index + 1)) (sym pushed)
          (spells_more (g.M.Memory.answers c.args.memory.now) string_limit c.args.address c.loop-index.index c.loop-index.bytes.items c.in-Ok.byte c.loop-index.invariant.0 c.loop-index-test.true
          (sym c.in-Ok.ensures) c.in-Ok.byte-test.1),
      grind (arith, common_steps),
    )

pub returns-clause-value : goal.returns-clause-value
returns-clause-value g c =
    sym (spells_none (g.M.Memory.answers c.args.memory.now) string_limit c.args.address c.loop-index.index c.loop-index.bytes.items c.loop-index.invariant.0 (omega arith))
