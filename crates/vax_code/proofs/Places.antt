-- The places of the rows, checked once over all opcodes.
use Rattle.std.proofs.Common.{◌≡◌, ◌∙◌, ℕ, ◌<◌, List, get_or, ◌+◌, arith, refl, ap, sym}
use Rattle.std.specs.Prelude.{◌==◌, map}
use Rattle.std.specs.List.{position_or_len, slice_get, range_with_len}
use Rattle.std.proofs.lemmas.List.Folds.{find_at}
use Rattle.std.proofs.lemmas.List.FromFn.{get_or-map-range_with_len}
use Rattle.vax_code.specs.declared.table.Row.{Row}
use Rattle.vax_code.specs.declared.table.TheConstants.{PLACES}
use Rattle.vax_code.specs.Table.{all_rows, row_for}

place_of : ℕ → ℕ
place_of op = position_or_len (λ (row : Row). row.op == op) all_rows

all_placed : map place_of (range_with_len 0 256) ≡ PLACES
unfolding place_of all_rows
all_placed = refl

pub row_at_place : (op : ℕ) → op < 256 → slice_get all_rows (get_or PLACES op 0) ≡ row_for op
unfolding row_for place_of
row_at_place op below =
    let none : 0 + op ≡ op = omega arith in
    ap (slice_get all_rows) (ap (λ (l : List ℕ). get_or l op 0) (sym all_placed) ∙ get_or-map-range_with_len place_of 0 256 op op 0 below none)
    ∙ sym (find_at (λ (row : Row). row.op == op) all_rows)
