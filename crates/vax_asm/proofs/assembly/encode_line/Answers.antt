use Rattle.std.proofs.Common.{◌∙◌, ◌≤◌, sym, subst, List, [], ℕ, arith}
use Rattle.asm_grammar.proofs.Naming.{code_of, long_is_none, no_sentence_is_none, no_bytes_is_none}
use Rattle.asm_grammar.specs.Encoding.{IsCodeOf}
use Rattle.vax_asm.proofs.assembly.encode_line.Goals as goal

pub returns-then-not-is_short : goal.returns-then-not-is_short
returns-then-not-is_short c = long_is_none c.args.line.now [] c.args.at (sym c.is_short.ensures ∙ c.if-not-is_short.true)

pub returns-in_default : goal.returns-in_default
returns-in_default c =
    no_sentence_is_none c.args.line.now [] c.args.at (sym c.is_short.ensures ∙ c.if-not-is_short.false) (sym c.sentence_of.ensures ∙ c.in_default.is)

pub returns-in-Some-lone_bytes : goal.returns-in-Some-lone_bytes
returns-in-Some-lone_bytes c =
    let few : c.into_parts-length.result.1 ≤ 24 = omega (arith, c.into_parts-length.ensures.length, c.in-Some-lone_bytes.ensures.few) in (
      subst (λ (l : List ℕ). IsCodeOf c.args.line.now [] c.args.at l) (sym c.into_parts-length.ensures.code)
          (code_of c.args.line.now [] c.args.at c.in-Some.sentence c.in-Some-lone_bytes.code (sym c.is_short.ensures ∙ c.if-not-is_short.false) (sym c.sentence_of.ensures ∙ c.in-Some.is)
          (sym c.lone_bytes.ensures.value ∙ c.in-Some-lone_bytes.is)),
      few,
    )

pub returns-in-None : goal.returns-in-None
returns-in-None c =
    no_bytes_is_none c.args.line.now [] c.args.at c.in-Some.sentence (sym c.is_short.ensures ∙ c.if-not-is_short.false) (sym c.sentence_of.ensures ∙ c.in-Some.is)
    (sym c.lone_bytes.ensures.value ∙ c.in-None.is)
