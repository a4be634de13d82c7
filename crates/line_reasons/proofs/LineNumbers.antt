-- A text whose first lines are left behind.
use Rattle.std.proofs.Common.{◌≡◌, ◌∙◌, ℕ, ◌+◌, ◌-◌, List, [], ◌∷◌, get_or, take, drop, refl, sym, ap, arith}
use Rattle.std.proofs.lemmas.List.{drop-drop, get_or-drop}
use Rattle.run_text.specs.Lines.{lines_in}
use Rattle.run_text.specs.Pieces.{line_len}
use Rattle.run_text.proofs.LineEnds.{lines_step}

-- one line fewer
one_fewer : (rest : List ℕ) → lines_in (drop (line_len rest) rest) ≡ drop 1 (lines_in rest)
unfolding lines_in
one_fewer [] = refl
one_fewer (b ∷ bs) = sym (ap (λ (ls : List (List ℕ)). drop 1 ls) (lines_step (b ∷ bs) (omega arith)))

-- the first line
pub first_is : (rest : List ℕ) → take (line_len rest) rest ≡ get_or (lines_in rest) 0 []
unfolding lines_in
first_is [] = refl
first_is (b ∷ bs) = sym (ap (λ (ls : List (List ℕ)). get_or ls 0 []) (lines_step (b ∷ bs) (omega arith)))

pub line_left : (bytes rest more : List ℕ) (past : ℕ) → more ≡ drop (line_len rest) rest → lines_in rest ≡ drop past (lines_in bytes)
    → lines_in more ≡ drop (past + 1) (lines_in bytes)
line_left bytes rest more past is before =
    ap (λ (text : List ℕ). lines_in text) is ∙ one_fewer rest ∙ ap (λ (ls : List (List ℕ)). drop 1 ls) before ∙ drop-drop 1 past (lines_in bytes)

pub line_found : (bytes rest first : List ℕ) (past number : ℕ) → past ≡ number - 1 → first ≡ take (line_len rest) rest
    → lines_in rest ≡ drop past (lines_in bytes)
    → first ≡ get_or (lines_in bytes) (number - 1) []
line_found bytes rest first past number same is before =
    let at : past + 0 ≡ number - 1 = omega arith in
    is
    ∙ first_is rest
    ∙ ap (λ (ls : List (List ℕ)). get_or ls 0 []) before
    ∙ get_or-drop past (lines_in bytes) 0 []
    ∙ ap (λ (k : ℕ). get_or (lines_in bytes) k []) at
