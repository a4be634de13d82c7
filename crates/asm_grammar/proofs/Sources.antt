-- The lines of a source say what is read of them.
use Rattle.std.proofs.Common.{◌≡◌, ◌≢◌, ◌↔◌, ℕ, Bool, true, false, not, List, [], ◌∷◌, ◌++◌, map, Option, Some, None, refl, sym, ◌∙◌, ap, subst, append_assoc}
use Rattle.std.specs.Prelude.{◌==◌, if◌then◌else◌, codes}
use Rattle.asm_grammar.specs.Lines.{line_of, put_before, lines_in, item_of, items_in}
use Rattle.asm_grammar.specs.declared.syntax.SourceLine.{SourceLine}
use Rattle.asm_grammar.proofs.Spelled.{both}
use Rattle.asm_grammar.specs.Grammar.{IsLine, SaysLine, InGrammar, Outside, is_unbroken, SaysLines, NoLine, Line, Unended}
use Rattle.asm_grammar.proofs.FrontSplits.{eq_of}
use Rattle.asm_grammar.proofs.LineTexts.{line_read, line_says}
use Rattle.asm_grammar.proofs.Items.{goes_on}

-- ---- a line

says_by : (text : List ℕ) (item : Option SourceLine) → line_of text ≡ item → SaysLine text item
says_by text (Some line) e = InGrammar (line_says text line e)
says_by text None e = Outside (λ line is. let some : line_of text ≡ Some line = line_read text line is in absurd (cc))

none_by : (text : List ℕ) (item : Option SourceLine) → line_of text ≡ item → ((line : SourceLine) → ¬ IsLine text line) → item ≡ None
none_by text (Some line) e outside = absurd (outside line (line_says text line e))
none_by text None e outside = refl

says_read : (text : List ℕ) (item : Option SourceLine) → SaysLine text item → line_of text ≡ item
says_read text item (InGrammar {line = line} is) = line_read text line is
says_read text item (Outside outside) = none_by text (line_of text) refl outside

-- ---- the lines of a source

lines_ended : (text more : List ℕ) → is_unbroken text ≡ true → lines_in (text ++ 10 ∷ more) ≡ Some text ∷ lines_in more
unfolding lines_in
lines_ended [] more h = refl
lines_ended (byte ∷ text) more h =
    let tests = both (not (byte == 10)) (is_unbroken text) h in
    rw (goes_on byte tests.0) (ap (put_before byte) (lines_ended text more tests.1))

lines_open : (byte : ℕ) (text : List ℕ) → is_unbroken (byte ∷ text) ≡ true → lines_in (byte ∷ text) ≡ None ∷ []
unfolding lines_in
lines_open byte [] h = rw (goes_on byte (both (not (byte == 10)) true h).0) refl
lines_open byte (next ∷ text) h =
    let tests = both (not (byte == 10)) (is_unbroken (next ∷ text)) h in
    rw (goes_on byte tests.0) (ap (put_before byte) (lines_open next text tests.1))

-- the texts of the lines
data Splits : List ℕ → List (Option (List ℕ)) → Type 0 where
  nothing : Splits [] []
  line : {text rest : List ℕ} {lines : List (Option (List ℕ))} → is_unbroken text ≡ true → Splits rest lines
      → Splits (text ++ 10 ∷ rest) (Some text ∷ lines)
  unended : {byte : ℕ} {text : List ℕ} → is_unbroken (byte ∷ text) ≡ true → Splits (byte ∷ text) (None ∷ [])

put : (byte : ℕ) (text : List ℕ) (lines : List (Option (List ℕ))) → (byte == 10) ≡ false → Splits text lines → Splits (byte ∷ text) (put_before byte lines)
put byte text lines h nothing = unended (rw h refl)
put byte text lines h (line unbroken more) = line (rw h unbroken) more
put byte text lines h (unended unbroken) = unended (rw h unbroken)

splits_by : (byte : ℕ) (text : List ℕ) (feed : Bool) → (byte == 10) ≡ feed → Splits text (lines_in text)
    → Splits (byte ∷ text) (if feed then Some [] ∷ lines_in text else put_before byte (lines_in text))
splits_by byte text true is more =
    subst (λ (b : ℕ). Splits (b ∷ text) (Some [] ∷ lines_in text)) (sym (eq_of byte 10 is)) (line {text = []} refl more)
splits_by byte text false is more = put byte text (lines_in text) is more

splits : (source : List ℕ) → Splits source (lines_in source)
unfolding lines_in
splits [] = nothing
splits (byte ∷ text) = splits_by byte text (byte == 10) refl (splits text)

lines_say : (source : List ℕ) (lines : List (Option (List ℕ))) → Splits source lines → SaysLines source (map item_of lines)
lines_say source lines nothing = NoLine
lines_say source lines (line {text} {rest} {lines = more} unbroken others) =
    subst (λ (l : List ℕ). SaysLines l (line_of text ∷ map item_of more)) (append_assoc text (codes "\n") rest)
    (Line unbroken (says_by text (line_of text) refl) (lines_say rest more others))
lines_say source lines (unended unbroken) = Unended (λ e. absurd (cc)) unbroken

source_says : (source : List ℕ) (items : List (Option SourceLine)) → items_in source ≡ items → SaysLines source items
unfolding items_in
source_says source items e = subst (λ (l : List (Option SourceLine)). SaysLines source l) e (lines_say source (lines_in source) (splits source))

unended_read : (text : List ℕ) → text ≢ [] → is_unbroken text ≡ true → items_in text ≡ None ∷ []
unfolding items_in
unended_read [] some unbroken = absurd (some refl)
unended_read (byte ∷ text) some unbroken = ap (map item_of) (lines_open byte text unbroken)

source_read : (source : List ℕ) (items : List (Option SourceLine)) → SaysLines source items → items_in source ≡ items
unfolding items_in lines_in
source_read source items NoLine = refl
source_read source items (Line {text} {rest} {item} {items = more} unbroken says others) =
    ap items_in (append_assoc text (codes "\n") rest) ∙ ap (map item_of) (lines_ended text rest unbroken)
    ∙ ap (λ (o : Option SourceLine). o ∷ items_in rest) (says_read text item says)
    ∙ ap (λ (l : List (Option SourceLine)). item ∷ l) (source_read rest more others)
source_read source items (Unended some unbroken) = unended_read source some unbroken

pub source_law : (source : List ℕ) (items : List (Option SourceLine)) → (items_in source ≡ items) ↔ SaysLines source items
source_law source items = (source_says source items, source_read source items)
