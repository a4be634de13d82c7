-- A file that is read line by line.
use Rattle.std.proofs.Common.{◌≡◌, ℕ, suc, ◌+◌, ◌<◌, ◌≤◌, List, [], ◌∷◌, ◌++◌, length, take, drop, Option, Some, None, refl, sym, ap, ◌∙◌, arith}
use Rattle.std.specs.Prelude.{option_to_list}
use Rattle.vm_facts.specs.declared.page.Page.{Page}
use Rattle.run_text.specs.Lines.{lines_in, AreLines}
use Rattle.run_text.specs.Pieces.{line_len}
use Rattle.run_text.proofs.LineEnds.{lines_step}
use Rattle.run_text.proofs.Reading.{ReadSoFar, read_start, read_push, read_end}
use Rattle.reference_answers.specs.Grammar.{IsReferenceLine, references_on, most_references, ReadsReferences, HasBadReference}
use Rattle.reference_answers.specs.Adding.{AddsLine, RefusesLine}

-- so far these references were read; as many lines were, and no more of them than bytes
pub record HasRead (refs : List Page) (whole rest : List ℕ) (line : ℕ) : Type 0 where
  pub lines : List (Option Page)
  pub so_far : ReadSoFar IsReferenceLine lines whole rest (line + 1)
  pub are : refs ≡ references_on lines
  pub few : length refs ≤ most_references
  pub within : line + length rest ≤ length whole

references-append : (xs : List (Option Page)) (read : Option Page) → references_on (xs ++ read ∷ []) ≡ references_on xs ++ option_to_list read
unfolding references_on
references-append [] None = refl
references-append [] (Some page) = refl
references-append (None ∷ xs) read = references-append xs read
references-append (Some page ∷ xs) read = ap (λ (ps : List Page). page ∷ ps) (references-append xs read)

pub has_start : (refs : List Page) (whole : List ℕ) → refs ≡ [] → HasRead refs whole whole 0
unfolding references_on
has_start refs whole none = record {
  lines = [];
  so_far = read_start IsReferenceLine whole;
  are = none;
  few = let e = ap length none in omega arith;
  within = omega arith;
}

pub has_more : (old new : List Page) (whole rest first more : List ℕ) (line : ℕ) → 0 < length rest
    → first ≡ take (line_len rest) rest → more ≡ drop (line_len rest) rest
    → length more < length rest → AddsLine old new first → HasRead old whole rest line → HasRead new whole more (line + 1)
has_more old new whole rest first more line some cut left shorter adds so_far = record {
  lines = so_far.lines ++ adds.read ∷ [];
  so_far = read_push IsReferenceLine so_far.lines (so_far.lines ++ adds.read ∷ []) whole rest first more (line + 1) adds.read some cut left refl adds.is so_far.so_far;
  are = adds.added ∙ ap (λ (ps : List Page). ps ++ option_to_list adds.read) so_far.are ∙ sym (references-append so_far.lines adds.read);
  few = adds.few;
  within = let w = so_far.within in omega arith;
}

lines_count : (items : List (Option Page)) (ls : List (List ℕ)) → AreLines IsReferenceLine items ls → length ls ≡ length items
lines_count [] [] h = refl
lines_count [] (l ∷ ls) h = absurd h
lines_count (e ∷ es) [] h = absurd h
lines_count (e ∷ es) (l ∷ ls) h = ap suc (lines_count es ls h.1)

pub has_bad : (refs : List Page) (whole rest first : List ℕ) (line : ℕ) → 0 < length rest → first ≡ take (line_len rest) rest → RefusesLine refs first
    → HasRead refs whole rest line → HasBadReference whole (line + 1)
has_bad refs whole rest first line some cut refuses so_far =
    let before = so_far.so_far in
    let same = ap length so_far.are in
    record {
      lines = so_far.lines;
      before = before.before;
      bad = first;
      after = lines_in (drop (line_len rest) rest);
      split = before.split ∙ ap (λ (ls : List (List ℕ)). before.before ++ ls) (lines_step rest some ∙ ap (λ (l : List ℕ). l ∷ lines_in (drop (line_len rest) rest)) (sym cut));
      number = before.number ∙ ap (λ (n : ℕ). n + 1) (sym (lines_count so_far.lines before.before before.good));
      good = before.good;
      few = let f = so_far.few in omega arith;
      none = λ read is. (let r = refuses read is in (r.0, sym same ∙ r.1));
    }

pub has_all : (refs : List Page) (whole rest : List ℕ) (line : ℕ) → length rest ≡ 0 → HasRead refs whole rest line → ReadsReferences whole refs
has_all refs whole rest line none so_far = record {
  lines = so_far.lines;
  good = read_end IsReferenceLine so_far.lines whole rest (line + 1) none so_far.so_far;
  are = so_far.are;
  few = so_far.few;
}
