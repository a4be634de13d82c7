use Rattle.std.proofs.Common.{◌≡◌, ℕ, ◌+◌, ◌++◌, ◌∷◌, [], List, length, Option, Ok, sym, ap, ◌∙◌, subst, arith}
use Rattle.std.proofs.lemmas.List.{length-append}
use Rattle.flat_model.specs.Calls.{argument_limit}
use Rattle.flat_model.proofs.Listing.{Lists, lists_refused, lists_end, lists_string_refused, lists_long, lists_more, last_refused, last_end, last_long}
use Rattle.flat_model.proofs.reading.arguments_from.Goals as goal

pub returns-in-Err : goal.returns-in-Err
returns-in-Err g c =
    sym (lists_refused (g.M.Memory.answers c.args.memory.now) argument_limit c.args.address c.loop-index.index c.loop-index.arguments c.in-Err.refused c.loop-index.invariant.0
    c.loop-index-test.true (sym c.in-Err.ensures))

pub returns-in-Ok-eq0 : goal.returns-in-Ok-eq0
returns-in-Ok-eq0 g c =
    sym (lists_end (g.M.Memory.answers c.args.memory.now) argument_limit c.args.address c.loop-index.index c.loop-index.arguments c.loop-index.invariant.0 c.loop-index-test.true
    (sym c.in-Ok-eq0.ensures ∙ ap (λ (x : ℕ). Ok x) c.in-Ok-eq0.field-0-test))

pub returns-in-Err-2 : goal.returns-in-Err-2
returns-in-Err-2 g c =
    sym (lists_string_refused (g.M.Memory.answers c.args.memory.now) argument_limit c.args.address c.loop-index.index c.loop-index.arguments c.in-Ok.pointer c.in-Err-2.refused
    c.loop-index.invariant.0 c.loop-index-test.true
    (sym c.in-Ok.ensures) c.in-Ok.pointer-test.1 (sym c.in_ok-refused-in-Ok.ensures.value ∙ c.in-Err-2.is))

pub returns-in-Ok-None : goal.returns-in-Ok-None
returns-in-Ok-None g c =
    sym (lists_long (g.M.Memory.answers c.args.memory.now) argument_limit c.args.address c.loop-index.index c.loop-index.arguments c.in-Ok.pointer c.loop-index.invariant.0 c.loop-index-test.true
    (sym c.in-Ok.ensures) c.in-Ok.pointer-test.1 (sym c.in_ok-refused-in-Ok.ensures.value ∙ c.in-Ok-None.is ∙ ap (λ (x : Option (List ℕ)). Ok x) c.in-Ok-None.field-0-is))

pub loop-index-preserved : goal.loop-index-preserved
loop-index-preserved g c =
    let pushed : c.push.new.self ≡ c.loop-index.arguments ++ c.in-Ok-Some.argument ∷ [] = c.in_ok-push-in-Ok-Some.ensures in (
      subst (Lists (g.M.Memory.answers c.args.memory.now) argument_limit c.args.address (c.loop-index.index + 1)) (sym pushed)
          (lists_more (g.M.Memory.answers c.args.memory.now) argument_limit c.args.address c.loop-index.index c.loop-index.arguments c.in-Ok.pointer c.in-Ok-Some.argument
          c.loop-index.invariant.0 c.loop-index-test.true
          (sym c.in-Ok.ensures) c.in-Ok.pointer-test.1 (sym c.in_ok-refused-in-Ok.ensures.value ∙ c.in-Ok-Some.is ∙ ap (λ (x : Option (List ℕ)). Ok x) c.in-Ok-Some.field-0-is)),
      ap length pushed ∙ length-append c.loop-index.arguments (c.in-Ok-Some.argument ∷ []) ∙ ap (λ (n : ℕ). n + 1) c.loop-index.invariant.1,
    )

pub returns-in-Err-read_long : goal.returns-in-Err-read_long
returns-in-Err-read_long g c =
    sym (last_refused (g.M.Memory.answers c.args.memory.now) argument_limit c.args.address c.loop-index.index c.loop-index.arguments c.in-Err-read_long.refused c.loop-index.invariant.0 (omega arith)
    (sym c.in-Err-read_long.ensures))

pub returns-in-Ok-eq0-read_long : goal.returns-in-Ok-eq0-read_long
returns-in-Ok-eq0-read_long g c =
    sym (last_end (g.M.Memory.answers c.args.memory.now) argument_limit c.args.address c.loop-index.index c.loop-index.arguments c.loop-index.invariant.0 (omega arith)
    (sym c.in-Ok-eq0-read_long.ensures ∙ ap (λ (x : ℕ). Ok x) c.in-Ok-eq0-read_long.field-0-test))

pub returns-in-Ok-read_long : goal.returns-in-Ok-read_long
returns-in-Ok-read_long g c =
    sym (last_long (g.M.Memory.answers c.args.memory.now) argument_limit c.args.address c.loop-index.index c.loop-index.arguments c.in-Ok-read_long.field-0 c.loop-index.invariant.0 (omega arith)
    (sym c.in-Ok-read_long.ensures) c.in-Ok-read_long.field-0-test.1)
