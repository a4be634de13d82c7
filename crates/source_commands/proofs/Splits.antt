-- Texts that are split at a byte, and lines that are counted.
use Rattle.std.proofs.Common.{◌≡◌, ◌≤◌, ◌<◌, ◌∙◌, ℕ, ◌+◌, ◌-◌, Bool, true, false, List, [], ◌∷◌, length, take, drop, Option, Some, None, refl, sym, ap, arith}
use Rattle.std.specs.Prelude.{◌==◌, cond, nat_lt, nat_le, position, unwrap_or}
use Rattle.std.specs.List.{position_or_len}
use Rattle.std.proofs.lemmas.Bool.Decides.{nat_tests}
use Rattle.std.proofs.lemmas.List.{take_all, drop_all}
use Rattle.asm_grammar.specs.Lines.{lines_in}
use Rattle.source_commands.specs.Mistakes.{up_to, past, text_of_line}

found_by : (n at : ℕ) (t : Bool) → cond t (Some n) None ≡ Some at → n ≡ at
found_by n at true e = cc
found_by n at false e = absurd cc

missed_by : (n : ℕ) (t : Bool) → cond t (Some n) None ≡ None → t ≡ false
missed_by n true e = absurd cc
missed_by n false e = refl

found : (byte : ℕ) (text : List ℕ) (at : ℕ) → position (λ x. x == byte) text ≡ Some at → position_or_len (λ x. x == byte) text ≡ at
found byte text at e = found_by (position_or_len (λ x. x == byte) text) at (nat_lt (position_or_len (λ x. x == byte) text) (length text)) e

missed : (byte : ℕ) (text : List ℕ) → position (λ x. x == byte) text ≡ None → length text ≤ position_or_len (λ x. x == byte) text
missed byte text e =
    let none : nat_lt (position_or_len (λ x. x == byte) text) (length text) ≡ false =
    missed_by (position_or_len (λ x. x == byte) text) (nat_lt (position_or_len (λ x. x == byte) text) (length text)) e in
    grind (arith, nat_tests)

pub before_found : (byte : ℕ) (text : List ℕ) (at : ℕ) → position (λ x. x == byte) text ≡ Some at → take at text ≡ up_to byte text
before_found byte text at e = ap (λ (n : ℕ). take n text) (sym (found byte text at e))

pub after_found : (byte : ℕ) (text : List ℕ) (at : ℕ) → position (λ x. x == byte) text ≡ Some at → drop (at + 1) text ≡ past byte text
after_found byte text at e = ap (λ (n : ℕ). drop (n + 1) text) (sym (found byte text at e))

pub before_missed : (byte : ℕ) (text : List ℕ) → position (λ x. x == byte) text ≡ None → text ≡ up_to byte text
before_missed byte text e = sym (take_all _ text (missed byte text e))

pub after_missed : (byte : ℕ) (text : List ℕ) → position (λ x. x == byte) text ≡ None → [] ≡ past byte text
after_missed byte text e = (let far : length text ≤ position_or_len (λ x. x == byte) text = missed byte text e in sym (drop_all _ text (omega arith)))

pub line_reached : (n : ℕ) (line : Option (List ℕ)) (lines all : List (Option (List ℕ))) → all ≡ line ∷ lines → n ≤ 1 → text_of_line n all ≡ unwrap_or line []
unfolding text_of_line
line_reached n line lines all e few =
    let one : nat_le n 1 ≡ true = grind (arith, nat_tests) in
    ap (λ (x : List (Option (List ℕ))). text_of_line n x) e ∙ ap (λ (t : Bool). cond t (unwrap_or line []) (text_of_line (n - 1) lines)) one

pub line_further : (n : ℕ) (line : Option (List ℕ)) (lines all : List (Option (List ℕ))) → all ≡ line ∷ lines → 1 < n
    → text_of_line n all ≡ text_of_line (n - 1) lines
unfolding text_of_line
line_further n line lines all e more =
    let one : nat_le n 1 ≡ false = grind (arith, nat_tests) in
    ap (λ (x : List (Option (List ℕ))). text_of_line n x) e ∙ ap (λ (t : Bool). cond t (unwrap_or line []) (text_of_line (n - 1) lines)) one

pub no_line : (n : ℕ) (source : List ℕ) → length source ≡ 0 → [] ≡ text_of_line n (lines_in source)
unfolding text_of_line lines_in
no_line n [] e = refl
no_line n (byte ∷ bytes) e = absurd cc
