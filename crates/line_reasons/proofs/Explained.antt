-- What is told of a file that was read.
use Rattle.std.proofs.Common.{◌≡◌, ◌∙◌, ℕ, List, Option, Some, Ok, ap, subst}
use Rattle.io_edge.specs.FileHolding.{NamedFile}
use Rattle.reference_answers.specs.Grammar.{IsReadReferences}
use Rattle.reference_answers.specs.declared.references.References.{References}
use Rattle.reference_answers.specs.Command.{references_told}
use Rattle.line_reasons.specs.ReferenceExplaining.{references_explained, ExplainsReferences, Read}

pub told_by : (name bytes slice : List ℕ) (holds : Option (List NamedFile)) (reads : References) (text : Option (List ℕ))
    → ((files : List NamedFile) → holds ≡ Some files → references_told name files ≡ Ok (Some bytes)) → slice ≡ bytes → IsReadReferences slice reads
    → text ≡ references_explained name slice reads → ExplainsReferences name holds text
told_by name bytes slice holds reads text told same is explained =
    Read bytes told reads (subst (λ (b : List ℕ). IsReadReferences b reads) same is) (explained ∙ ap (λ (b : List ℕ). references_explained name b reads) same)
