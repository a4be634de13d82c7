-- Each mnemonic is a word, and names its row.
use Rattle.std.proofs.Common.{◌≡◌, ℕ, Bool, true, false, List, [], ◌∷◌, Option, Some, None, refl, sym, ◌∙◌, ap, subst, arith}
use Rattle.std.specs.Prelude.{find, ◌==◌, ◌&&◌, cond}
use Rattle.std.specs.List.{list_all}
use Rattle.std.specs.Cmp.Lexicographic.{same_text}
use Rattle.std.proofs.lemmas.Bool.Decides.{nat_tests}
use Rattle.vax_code.specs.declared.table.Row.{Row}
use Rattle.vax_code.specs.Table.{all_rows, row_for}
use Rattle.asm_grammar.specs.Values.{is_word_byte}
use Rattle.asm_grammar.specs.Mnemonics.{mnemonic, row_named, same_text as has_text}
use Rattle.asm_grammar.proofs.Spelled.{both, some_same}
use Rattle.asm_grammar.proofs.Rows.{named_is_listed}

-- each byte of a mnemonic is a byte of a word, and the mnemonic names its row
abbrev names_op : Option Row → ℕ → Bool
names_op None op = false
names_op (Some row) op = row.op == op

abbrev is_named : Row → Bool
is_named row = list_all is_word_byte (mnemonic row.name) && names_op (row_named (mnemonic row.name)) row.op

all_named : list_all is_named all_rows ≡ true
unfolding all_rows row_named
all_named = refl

found_passes : (wanted good : Row → Bool) (rows : List Row) (row : Row) → list_all good rows ≡ true → find wanted rows ≡ Some row → good row ≡ true
found_passes wanted good [] row all h = absurd (cc)
found_passes wanted good (first ∷ rows) row all h =
    let parts = both (good first) (list_all good rows) all in
    (elim (wanted first) as (λ (w : Bool). cond w (Some first) (find wanted rows) ≡ Some row → good row ≡ true) [
      | true ↦ λ e. let same : first ≡ row = cc in subst (λ (z : Row). good z ≡ true) same parts.0
      | false ↦ λ e. found_passes wanted good rows row parts.1 e
    ]) h

named_of : (row : Row) → row_for row.op ≡ Some row → is_named row ≡ true
unfolding row_for
named_of row listed = found_passes (λ r. r.op == row.op) is_named all_rows row all_named listed

row_is : (o : Option Row) (row : Row) → o ≡ row_named (mnemonic row.name) → names_op o row.op ≡ true → row_for row.op ≡ Some row → o ≡ Some row
row_is None row e h listed = absurd (cc)
row_is (Some found) row e h listed =
    let ops : found.op ≡ row.op = grind (arith, nat_tests) in
    sym (named_is_listed (mnemonic row.name) found (sym e)) ∙ ap row_for ops ∙ listed

pub mnemonic_read : (row : Row) → row_for row.op ≡ Some row → row_named (mnemonic row.name) ≡ Some row
mnemonic_read row listed =
    let tests = both (list_all is_word_byte (mnemonic row.name)) (names_op (row_named (mnemonic row.name)) row.op) (named_of row listed) in
    row_is (row_named (mnemonic row.name)) row refl tests.1 listed

pub mnemonic_word : (row : Row) → row_for row.op ≡ Some row → list_all is_word_byte (mnemonic row.name) ≡ true
mnemonic_word row listed = (both (list_all is_word_byte (mnemonic row.name)) (names_op (row_named (mnemonic row.name)) row.op) (named_of row listed)).0

found_by : {A : Type 0} (p : A → Bool) (x y : A) (xs : List A) (t : Bool) → p x ≡ t → (find p xs ≡ Some y → p y ≡ true)
    → cond t (Some x) (find p xs) ≡ Some y → p y ≡ true
found_by p x y xs true is more e = subst (λ z. p z ≡ true) (some_same x y e) is
found_by p x y xs false is more e = more e

found_is : {A : Type 0} (p : A → Bool) (xs : List A) (y : A) → find p xs ≡ Some y → p y ≡ true
found_is p [] y e = absurd (cc)
found_is p (x ∷ xs) y e = found_by p x y xs (p x) refl (found_is p xs y) e

pub mnemonic_is : (word : List ℕ) (row : Row) → row_named word ≡ Some row → mnemonic row.name ≡ word
unfolding row_named
mnemonic_is word row e = same_text (mnemonic row.name) word (sym (found_is (λ r. has_text (mnemonic r.name) word) all_rows row e))
