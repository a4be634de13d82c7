-- The rows of the instruction table that mnemonics name.
use Rattle.std.proofs.Common.{◌≡◌, ℕ, ◌<◌, Bool, true, false, List, [], ◌∷◌, Some, refl, ap, subst, arith, IsTrue}
use Rattle.std.specs.Prelude.{find, nat_lt, ◌==◌, ◌&&◌, cond}
use Rattle.std.proofs.lemmas.Bool.Decides.{nat_tests}
use Rattle.vax_code.specs.declared.table.Row.{Row}
use Rattle.vax_code.specs.Table.{all_rows, row_for, is_rising}
use Rattle.vax_code.proofs.Rule.{rows_rise}
use Rattle.asm_grammar.specs.Mnemonics.{mnemonic, same_text, row_named}

both : (a b : Bool) → IsTrue (a && b) → IsTrue a × IsTrue b
both true b e = (refl, e)
both false b e = absurd (cc)

less : (a b : ℕ) → IsTrue (nat_lt a b) → a < b
less a b h = grind (arith, nat_tests)

above_by : (rows : List Row) (p : Row → Bool) (r next row : Row) (t : Bool) → r.op < next.op → (find p rows ≡ Some row → next.op < row.op)
    → cond t (Some next) (find p rows) ≡ Some row → r.op < row.op
above_by rows p r next row true first more e = (let same : next ≡ row = cc in subst (λ (x : Row). r.op < x.op) same first)
above_by rows p r next row false first more e = (let after : next.op < row.op = more e in omega arith)

above : (p : Row → Bool) (r : Row) (rows : List Row) (row : Row) → IsTrue (is_rising (r ∷ rows)) → find p rows ≡ Some row → r.op < row.op
above p r [] row rise e = absurd (cc)
above p r (next ∷ rows) row rise e =
    let parts = both (nat_lt r.op next.op) (is_rising (next ∷ rows)) rise in
    above_by rows p r next row (p next) (less r.op next.op parts.0) (above p next rows row parts.1) e

tail : (r : Row) (rows : List Row) → IsTrue (is_rising (r ∷ rows)) → IsTrue (is_rising rows)
tail r [] rise = refl
tail r (next ∷ rows) rise = (both (nat_lt r.op next.op) (is_rising (next ∷ rows)) rise).1

same_op : (r : Row) (rows : List Row) (row : Row) → r ≡ row → find (λ x. x.op == row.op) (r ∷ rows) ≡ Some row
same_op r rows row e = (let here : (r.op == row.op) ≡ true = (let ops : r.op ≡ row.op = ap (λ (x : Row). x.op) e in grind (arith, nat_tests)) in rw here (ap (λ (x : Row). Some x) e))

other_op : (r : Row) (rows : List Row) (row : Row) → r.op < row.op → find (λ x. x.op == row.op) rows ≡ Some row
    → find (λ x. x.op == row.op) (r ∷ rows) ≡ Some row
other_op r rows row less e = (let here : (r.op == row.op) ≡ false = grind (arith, nat_tests) in rw here e)

by_step : (rows : List Row) (p : Row → Bool) (r row : Row) (t : Bool) → (find p rows ≡ Some row → r.op < row.op)
    → (find p rows ≡ Some row → find (λ x. x.op == row.op) rows ≡ Some row) → cond t (Some r) (find p rows) ≡ Some row
    → find (λ x. x.op == row.op) (r ∷ rows) ≡ Some row
by_step rows p r row true over more e = same_op r rows row (cc)
by_step rows p r row false over more e = other_op r rows row (over e) (more e)

by_op : (p : Row → Bool) (rows : List Row) (row : Row) → IsTrue (is_rising rows) → find p rows ≡ Some row → find (λ x. x.op == row.op) rows ≡ Some row
by_op p [] row rise e = absurd (cc)
by_op p (r ∷ rows) row rise e = by_step rows p r row (p r) (above p r rows row rise) (by_op p rows row (tail r rows rise)) e

pub named_is_listed : (word : List ℕ) (row : Row) → row_named word ≡ Some row → row_for row.op ≡ Some row
unfolding row_named row_for
named_is_listed word row e = by_op (λ row. same_text (mnemonic row.name) word) all_rows row rows_rise e
