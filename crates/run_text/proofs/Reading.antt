-- A text that is read line by line.
use Rattle.std.proofs.Common.{◌≡◌, ℕ, suc, ◌+◌, ◌<◌, ◌≤◌, List, [], ◌∷◌, ◌++◌, length, take, drop, refl, sym, ◌∙◌, ap, subst, append_assoc, arith, length-append}
use Rattle.std.proofs.lemmas.List.{append-nil}
use Rattle.run_text.specs.Lines.{lines_in, AreLines, IsFirstBad}
use Rattle.run_text.specs.Pieces.{line_len}
use Rattle.run_text.proofs.LineEnds.{lines_step}

-- the items so far are those of the lines before what is left; the next line has this number
pub record ReadSoFar {E : Type 0} (IsLine : E → List ℕ → Type 0) (items : List E) (whole rest : List ℕ) (line : ℕ) : Type 0 where
  pub before : List (List ℕ)
  pub good : AreLines IsLine items before
  pub split : lines_in whole ≡ before ++ lines_in rest
  pub number : line ≡ length items + 1

pub read_start : {E : Type 0} (IsLine : E → List ℕ → Type 0) (whole : List ℕ) → ReadSoFar IsLine [] whole whole 1
read_start IsLine whole = record { before = []; good = tt; split = refl; number = refl }

-- as many lines as items
lines_count : {E : Type 0} (IsLine : E → List ℕ → Type 0) (items : List E) (ls : List (List ℕ)) → AreLines IsLine items ls → length ls ≡ length items
lines_count IsLine [] [] h = refl
lines_count IsLine [] (l ∷ ls) h = absurd h
lines_count IsLine (e ∷ es) [] h = absurd h
lines_count IsLine (e ∷ es) (l ∷ ls) h = ap (λ (n : ℕ). suc n) (lines_count IsLine es ls h.1)

lines_push : {E : Type 0} (IsLine : E → List ℕ → Type 0) (items : List E) (ls : List (List ℕ)) (e : E) (l : List ℕ) → AreLines IsLine items ls
    → IsLine e l → AreLines IsLine (items ++ e ∷ []) (ls ++ l ∷ [])
lines_push IsLine [] [] e l h k = (k, tt)
lines_push IsLine [] (m ∷ ls) e l h k = absurd h
lines_push IsLine (d ∷ es) [] e l h k = absurd h
lines_push IsLine (d ∷ es) (m ∷ ls) e l h k = (h.0, lines_push IsLine es ls e l h.1 k)

-- one more line is read
pub read_step : {E : Type 0} (IsLine : E → List ℕ → Type 0) (items : List E) (whole rest : List ℕ) (line : ℕ) (e : E) → 0 < length rest
    → IsLine e (take (line_len rest) rest) → ReadSoFar IsLine items whole rest line
    → ReadSoFar IsLine (items ++ e ∷ []) whole (drop (line_len rest) rest) (line + 1)
read_step {E} IsLine items whole rest line e some is so_far = record {
  before = so_far.before ++ take (line_len rest) rest ∷ [];
  good = lines_push IsLine items so_far.before e (take (line_len rest) rest) so_far.good is;
  split =
      so_far.split ∙ ap (λ (ls : List (List ℕ)). so_far.before ++ ls) (lines_step rest some) ∙ sym (append_assoc so_far.before (take (line_len rest) rest ∷ []) (lines_in (drop (line_len rest) rest)));
  number = omega (arith, length-append items (e ∷ []), so_far.number);
}

-- the next line is bad
pub read_bad : {E : Type 0} (IsLine : E → List ℕ → Type 0) (items : List E) (whole rest : List ℕ) (line most : ℕ) → 0 < length rest
    → (line ≤ most → (e : E) → IsLine e (take (line_len rest) rest) → ⊥) → line ≤ most + 1 → ReadSoFar IsLine items whole rest line
    → IsFirstBad IsLine most line (lines_in whole)
read_bad IsLine items whole rest line most some none within so_far = record {
  items = items;
  before = so_far.before;
  bad = take (line_len rest) rest;
  after = lines_in (drop (line_len rest) rest);
  split = so_far.split ∙ ap (λ (ls : List (List ℕ)). so_far.before ++ ls) (lines_step rest some);
  number = so_far.number ∙ ap (λ (n : ℕ). n + 1) (sym (lines_count IsLine items so_far.before so_far.good));
  good = so_far.good;
  none = none;
  within = within;
}

-- no line is left
pub read_end : {E : Type 0} (IsLine : E → List ℕ → Type 0) (items : List E) (whole rest : List ℕ) (line : ℕ) → length rest ≡ 0
    → ReadSoFar IsLine items whole rest line → AreLines IsLine items (lines_in whole)
unfolding lines_in
read_end IsLine items whole [] line none so_far = subst (λ (ls : List (List ℕ)). AreLines IsLine items ls) (sym (so_far.split ∙ append-nil so_far.before)) so_far.good
read_end IsLine items whole (b ∷ bs) line none so_far = absurd (omega arith)

-- the same of a line and what stands after it, and of items that were pushed
pub read_push : {E : Type 0} (IsLine : E → List ℕ → Type 0) (items items' : List E) (whole rest first more : List ℕ) (line : ℕ) (e : E)
    → 0 < length rest → first ≡ take (line_len rest) rest → more ≡ drop (line_len rest) rest → items' ≡ items ++ e ∷ [] → IsLine e first
    → ReadSoFar IsLine items whole rest line → ReadSoFar IsLine items' whole more (line + 1)
read_push {E} IsLine items items' whole rest first more line e some cut left pushed is so_far =
    subst (λ (es : List E). ReadSoFar IsLine es whole more (line + 1)) (sym pushed)
    (subst (λ (xs : List ℕ). ReadSoFar IsLine (items ++ e ∷ []) whole xs (line + 1)) (sym left)
    (read_step IsLine items whole rest line e some (subst (λ (xs : List ℕ). IsLine e xs) cut is) so_far))

pub read_none : {E : Type 0} (IsLine : E → List ℕ → Type 0) (items : List E) (whole rest first : List ℕ) (line most : ℕ) → 0 < length rest
    → first ≡ take (line_len rest) rest → ((e : E) → IsLine e first → ⊥) → line ≤ most + 1 → ReadSoFar IsLine items whole rest line
    → IsFirstBad IsLine most line (lines_in whole)
read_none {E} IsLine items whole rest first line most some cut none within so_far =
    read_bad IsLine items whole rest line most some (λ _. subst (λ (xs : List ℕ). (e : E) → IsLine e xs → ⊥) cut none) within so_far
