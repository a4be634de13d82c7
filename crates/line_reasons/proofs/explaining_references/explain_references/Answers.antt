use Rattle.std.proofs.Common.{◌∙◌, ℕ, List, Option, Some, None, Ok, Vec, Global, sym, ap}
use Rattle.std.specs.Option.{option_map}
use Rattle.reference_answers.specs.declared.references.References.{References}
use Rattle.line_reasons.specs.ReferenceReasons.{Why, why_at}
use Rattle.line_reasons.specs.ReferenceExplaining.{why_line, references_explained}
use Rattle.line_reasons.proofs.Explained.{told_by}
use Rattle.line_reasons.proofs.explaining_references.explain_references.Goals as goal

pub returns-in-Ok-Are-clause-explains : goal.returns-in-Ok-Are-clause-explains
returns-in-Ok-Are-clause-explains g c =
    told_by c.args.name.now c.in-Some.bytes.items c.as_slice.result.now (g.F.Files.holds c.args.files.now) c.in-Ok-Are.field-0 None
    (λ list told. c.in_ok-bytes.ensures.answers list told ∙ ap (λ (o : Option (Vec ℕ Global)). Ok (option_map (λ (bytes : Vec ℕ Global). bytes.items) o)) c.in-Some.is)
    c.as_slice.ensures.value c.in-Ok-Are.ensures (sym (ap (λ (r : References). references_explained c.args.name.now c.as_slice.result.now r) c.in-Ok-Are.field-0-is))

pub returns-in-Ok-BadLine-clause-explains : goal.returns-in-Ok-BadLine-clause-explains
returns-in-Ok-BadLine-clause-explains g c =
    told_by c.args.name.now c.in-Some.bytes.items c.as_slice.result.now (g.F.Files.holds c.args.files.now) c.in-Ok-BadLine.field-0 (Some c.in_ok-text-in-Ok-BadLine.text.items)
    (λ list told. c.in_ok-bytes.ensures.answers list told ∙ ap (λ (o : Option (Vec ℕ Global)). Ok (option_map (λ (bytes : Vec ℕ Global). bytes.items) o)) c.in-Some.is)
    c.as_slice.ensures.value c.in-Ok-BadLine.ensures
    (ap (λ (t : List ℕ). Some t)
    (c.in_ok-text-in-Ok-BadLine.ensures
    ∙ ap (λ (w : Why). why_line c.args.name.now c.in-Ok-BadLine.number w)
    (c.bad_line.ensures ∙ ap (λ (b : List ℕ). why_at c.in-Ok-BadLine.number b) (c.as_slice-in-Ok-BadLine.ensures.value ∙ sym c.as_slice.ensures.value)))
    ∙ sym (ap (λ (r : References). references_explained c.args.name.now c.as_slice.result.now r) c.in-Ok-BadLine.field-0-is))
