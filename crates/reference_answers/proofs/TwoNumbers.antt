-- Numbers in a row that aren't two.
use Rattle.std.proofs.Common.{◌≡◌, ◌≢◌, ℕ, ◌<◌, ◌^◌, List, [], ◌∷◌, length, sym, ap, ◌∙◌}
use Rattle.run_text.specs.Text.{parts}
use Rattle.run_text.specs.Transcript.{AllBelow}
use Rattle.run_text.proofs.Words.{parts_once}

pub no_pair : (text ns : List ℕ) → text ≡ parts ns → AllBelow 4294967296 ns → (length ns ≡ 2 → ⊥) → (a b : ℕ) → a < 2 ^ 32 → b < 2 ^ 32
    → text ≢ parts (a ∷ b ∷ [])
no_pair text ns cut below many a b p q is = many (ap length (parts_once ns (a ∷ b ∷ []) below (p, (q, tt)) (sym cut ∙ is)))
